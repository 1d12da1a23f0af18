-- What is read fits in the room that there is; and with more room than before, what does not fit is what was refused with 7.
-- Assumes nothing.
use Prim.Native.Nat.{ℕ, zero, suc}
use mathlib.Core.Path.{◌≡◌, refl, sym, ap, ◌∙◌}
use mathlib.Core.Bool.{Bool, cond}
use mathlib.Core.List.{List}
use native.Mathlib.Omega.{arith}
use borrow.Author.Tests.{eqb-true, eqb-false}
use lib.Dec.{eqb, ltb}
use lib.ListN.{length}
use Rattle.std.specs.Prelude.{Ok, Err}
use Rattle.rules.specs.declared.Entry.{Entry}
use Rattle.rules.specs.declared.Lexed.{Lexed}
use Rattle.rules.specs.declared.Lexed.TheVariants.{Found, End, Refused}
use Rattle.rules.specs.declared.Item.{Item}
use Rattle.rules.specs.declared.Statement.{Statement}
use Rattle.rules.specs.declared.Operand.{Operand}
use Rattle.rules.specs.declared.Attribute.{Attribute}
use Rattle.rules.specs.Tokens.{token_at}
use Rattle.rules.specs.Utf8.{checked, Checked}
use Rattle.rules.specs.World.{Table, Tables, World, Res, P, ◌>>=◌, give, asks, scoped, claim_item, claim_statement, claim_operand, claim_attribute, repeated, many}
use Rattle.rules.specs.Reading as R
use Rattle.rules.specs.Answers.{Lent, start, Outcome, accepted, refusal, outcome, read_checked, reading, answer_of}
use Rattle.laws.proofs.Cases.{by_cases}
use Rattle.reading.proofs.Ends.{Ends, goes, stops, seq, arms, either, claim_item-ends, claim_statement-ends, claim_operand-ends, claim_attribute-ends}
use Rattle.reading.proofs.Rules.{Room, empty, Closed, items_good}
use Rattle.reading.proofs.Progress.{capacities, refusal-number}
use Rattle.reading.proofs.Capacity.{Below, Fits, NotSeven, room, same_unless_seven, seven_over}

-- a rule that claims no row past the room d
pub record Bounded (d : Room) {A : Type 0} (p : P A) : Type 0 where
  pub by : (w : World) → capacities w.tables ≡ d → Fits d w.tables → Ends (λ a v. (capacities v.tables ≡ d) × Fits d v.tables) (λ n t. Unit {0}) (p w)

module _ {d : Room} where
  then-bounded : {A B : Type 0} (p : P A) (f : A → P B) → Bounded d p → ((a : A) → Bounded d (f a)) → Bounded d (p >>= f)
  then-bounded p f x y = record { by = λ w r h. seq f (x.by w r h) (λ a v k. (y a).by v k.0 k.1) }

  cond_bounded : {A : Type 0} (t : Bool) (p q : P A) → Bounded d p → Bounded d q → Bounded d (cond t p q)
  cond_bounded t p q x y = record { by = λ w r h. either t p q w (x.by w r h) (y.by w r h) }

  give_bounded : {A : Type 0} (a : A) → Bounded d (give a)
  give_bounded a = record { by = λ w r h. goes a w (r, h) }

  seen_bounded : (l : Lexed) → Bounded d (R.seen l)
  unfolding R.seen
  seen_bounded (Found t) = record { by = λ w r h. goes _ _ (r, h) }
  seen_bounded End = record { by = λ w r h. goes _ w (r, h) }
  seen_bounded (Refused p) = record { by = λ w r h. stops _ _ tt }

  look_bounded : Bounded d R.lookahead
  unfolding R.lookahead
  look_bounded = record { by = λ w r h. arms (eqb w.stand.ahead.kind 0) ((seen_bounded (token_at w.text w.stand.at)).by w r h) (goes _ w (r, h)) }

  take_bounded : Bounded d R.token
  unfolding R.token
  take_bounded = then-bounded R.lookahead _ look_bounded (λ t. cond_bounded (eqb t.kind 0) _ _ (record { by = λ w r h. stops _ _ tt }) (record { by = λ w r h. goes t _ (r, h) }))

  repeated_bounded : {peek : P Bool} {rule : P (Unit {0})} → Bounded d peek → Bounded d rule → (n : ℕ) → Bounded d (repeated n peek rule)
  unfolding repeated
  repeated_bounded x y zero = record { by = λ w r h. stops _ _ tt }
  repeated_bounded x y (suc n) = then-bounded _ _ x (λ more. cond_bounded more _ _ (then-bounded _ _ y (λ u. repeated_bounded x y n)) (give_bounded tt))

  many_bounded : (of : Tables → Table) {peek : P Bool} {rule : P (Unit {0})} → Bounded d peek → Bounded d rule → Bounded d (many of peek rule)
  unfolding many
  many_bounded of x y = record { by = λ w r h. (repeated_bounded x y (suc (of w.tables).cap)).by w r h }

  item_bounded : (r : Item) → Bounded d (claim_item r)
  item_bounded r = record { by = λ w s h. let e = ap (λ (x : Room). x.items) s in claim_item-ends r w (λ free. (s, record { items = omega arith; statements = h.statements; operands = h.operands; attributes = h.attributes })) (λ full. tt) }

  statement_bounded : (r : Statement) → Bounded d (claim_statement r)
  statement_bounded r = record { by = λ w s h. let e = ap (λ (x : Room). x.statements) s in claim_statement-ends r w (λ free. (s, record { items = h.items; statements = omega arith; operands = h.operands; attributes = h.attributes })) (λ full. tt) }

  operand_bounded : (r : Operand) → Bounded d (claim_operand r)
  operand_bounded r = record { by = λ w s h. let e = ap (λ (x : Room). x.operands) s in claim_operand-ends r w (λ free. (s, record { items = h.items; statements = h.statements; operands = omega arith; attributes = h.attributes })) (λ full. tt) }

  attribute_bounded : (r : Attribute) → Bounded d (claim_attribute r)
  attribute_bounded r = record { by = λ w s h. let e = ap (λ (x : Room). x.attributes) s in claim_attribute-ends r w (λ free. (s, record { items = h.items; statements = h.statements; operands = h.operands; attributes = omega arith })) (λ full. tt) }

bounding : (d : Room) → Closed (λ j k A p. Bounded d p)
unfolding asks
bounding d =
    record {
      given = λ j a. give_bounded a;
      asked = λ j f h. record { by = λ w r k. goes (f w) w (r, k) };
      scoping = λ j n. record { by = λ w r h. goes tt (scoped n w) (r, h) };
      halted = λ j k n t h. record { by = λ w r z. stops n t tt };
      then = λ j k l p f x y. then-bounded p f x y;
      choose = λ j k t p q x y. cond_bounded t p q x y;
      less = λ j k p x. x;
      lose = λ j k p x. x;
      look = λ j. look_bounded;
      take = λ j. take_bounded;
      item = λ j r. item_bounded r;
      statement = λ j r. statement_bounded r;
      operand = λ j r. operand_bounded r;
      attribute = λ j r. attribute_bounded r;
      again = λ x y f g j. many_bounded _ (f j) (g j);
    }

-- Every list of items claims rows within the room that there is.
pub items-fit : (e : Entry) (text : List ℕ) (l : Lent) → Ends (λ a v. (capacities v.tables ≡ room l) × Fits (room l) v.tables) (λ n t. Unit {0}) (R.items e (start text l))
unfolding start
items-fit e text l = (items_good (bounding (room l)) e empty).by (start text l) refl (record { items = omega arith; statements = omega arith; operands = omega arith; attributes = omega arith })

outcome_fits : {d : Room} {m : Res (Unit {0})} {t : Tables} → Ends (λ a v. (capacities v.tables ≡ d) × Fits d v.tables) (λ n s. Unit {0}) m → outcome m ≡ accepted t → Fits d t
unfolding outcome
outcome_fits {d} {t = t} (goes a w h) k = let e : w.tables ≡ t = cc in rw e at h.1
outcome_fits (stops n s h) k = absurd (let z : ◌≡◌ {A = ℕ} 0 1 = cc in let y : ⊥ = omega arith in y)

checked-fits : (c : Checked) (e : Entry) (text : List ℕ) (l : Lent) (t : Tables) → read_checked c e text l ≡ accepted t → Fits (room l) t
unfolding read_checked
checked-fits (Ok u) e text l t h = outcome_fits (items-fit e text l) h
checked-fits (Err p) e text l t h = absurd (let z : ◌≡◌ {A = ℕ} 0 1 = cc in let y : ⊥ = omega arith in y)

-- What is accepted fits in the tables lent.
pub accepted-fits : (e : Entry) (text : List ℕ) (l : Lent) (t : Tables) → reading e text l ≡ accepted t → Fits (room l) t
unfolding reading
accepted-fits e text l t =
    by_cases (ltb 65536 (length text))
    (λ long. rw long (λ h. absurd (let z : ◌≡◌ {A = ℕ} 0 1 = cc in let y : ⊥ = omega arith in y)))
    (λ short. rw short (checked-fits (checked text) e text l t))

same_counts : {d : Room} {t t' : Tables} → answer_of (accepted t) ≡ answer_of (accepted t') → Fits d t → Fits d t'
unfolding answer_of
same_counts {t = t} {t' = t'} h x =
    let i : t.items.count ≡ t'.items.count = cc in
    let s : t.statements.count ≡ t'.statements.count = cc in
    let o : t.operands.count ≡ t'.operands.count = cc in
    let a : t.attributes.count ≡ t'.attributes.count = cc in
    record { items = omega (arith, x.items); statements = omega (arith, x.statements); operands = omega (arith, x.operands); attributes = omega (arith, x.attributes) }

-- Of a text that is accepted with more room, the answer is 7 just where its rows do not fit.
module _ (e : Entry) (text : List ℕ) (l l' : Lent) (b : Below (room l) (room l')) (t : Tables) (h : reading e text l' ≡ accepted t) where
  pub fits_unless_seven : NotSeven (reading e text l) → Fits (room l) t
  unfolding answer_of
  fits_unless_seven n = by (reading e text l) refl (rw h at (same_unless_seven e text l l' b n).answers)
    where
      by : (o : Outcome) → reading e text l ≡ o → answer_of (reading e text l) ≡ answer_of (accepted t) → Fits (room l) t
      by (accepted t₁) k a = same_counts (rw k at a) (accepted-fits e text l t₁ k)
      by (refusal m p) k a = absurd (let a₁ = rw k at a in let z : ◌≡◌ {A = ℕ} 0 1 = cc in let y : ⊥ = omega arith in y)

  pub seven_unless_fits : (Fits (room l) t → ⊥) → (p : ℕ) × (reading e text l ≡ refusal 7 p)
  seven_unless_fits over = by (reading e text l) refl
    where
      by : (o : Outcome) → reading e text l ≡ o → (p : ℕ) × (reading e text l ≡ refusal 7 p)
      by (accepted t₁) k = absurd (over (fits_unless_seven (λ p z. let y : ◌≡◌ {A = ℕ} 0 1 = cc in omega arith)))
      by (refusal m p) k =
          by_cases (eqb m 7)
          (λ seven. (p, k ∙ ap (λ n. refusal n p) (eqb-true m 7 seven)))
          (λ other. absurd (over (fits_unless_seven (λ q z. eqb-false m 7 other (refusal-number (sym k ∙ z))))))

  pub over_if_seven : (p : ℕ) → reading e text l ≡ refusal 7 p → Fits (room l) t → ⊥
  over_if_seven p k = seven_over e text l l' b p t k h
