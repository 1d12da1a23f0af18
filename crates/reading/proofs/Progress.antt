-- Reading moves on: every taken token moves the reader, and every claimed row has a taken token of its own. So a text never claims more rows than it has bytes.
-- Operands apart, an item has two tokens of its own, a statement or an attribute three. So fewer rows of those do for any text.
-- Assumes nothing.
use Prim.Native.Nat.{ℕ, zero, suc, ◌+◌, ◌*◌, ◌≤◌, ◌<◌}
use mathlib.Core.Path.{◌≡◌, refl, ap, subst, ◌∙◌}
use mathlib.Core.Bool.{Bool, true, false, cond, true≢false}
use mathlib.Core.List.{List}
use native.Mathlib.Omega.{arith}
use borrow.Author.Tests.{ne_eqb, eqb-true, ltb-false}
use lib.Dec.{eqb, ltb}
use lib.ListN.{length}
use Rattle.std.specs.Prelude.{Ok, Err}
use Rattle.rules.specs.declared.Entry.{Entry}
use Rattle.rules.specs.declared.Spot.{Spot}
use Rattle.rules.specs.declared.Lexed.{Lexed}
use Rattle.rules.specs.declared.Lexed.TheVariants.{Found, End, Refused}
use Rattle.rules.specs.declared.Item.{Item}
use Rattle.rules.specs.declared.Statement.{Statement}
use Rattle.rules.specs.declared.Operand.{Operand}
use Rattle.rules.specs.declared.Attribute.{Attribute}
use Rattle.rules.specs.Faults as fault
use Rattle.rules.specs.Rows.{item_length, statement_length, operand_length, attribute_length}
use Rattle.rules.specs.Tokens.{token_at}
use Rattle.rules.specs.Utf8.{checked, Checked}
use Rattle.rules.specs.World.{Table, Tables, World, Res, go, stop, P, asks, having, standing, scoped, claim_item, claim_statement, claim_operand, claim_attribute, repeated, many}
use Rattle.rules.specs.Reading as R
use Rattle.rules.specs.Answers.{Lent, start, fault_number, accepted, refusal, outcome, read_checked, reading}
use Rattle.laws.proofs.Cases.{by_cases}
use Rattle.laws.proofs.Tokens.{found_within, found-kind}
use Rattle.reading.proofs.Ends.{Ends, goes, stops, seq, either, weaker, gone, stopped, claim_item-ends, claim_statement-ends, claim_operand-ends, claim_attribute-ends}
use Rattle.reading.proofs.Rules.{Room, Purse, empty, earned, kept, Closed, items_good}

-- a token, looked at and not taken, that ends where the reader stands
pub record Lies (t : Spot) (at : ℕ) : Type 0 where
  pub some : t.first < t.past
  pub ends : t.past ≡ at
  pub kind : (1 ≤ t.kind) × (t.kind ≤ 10)

-- the reader stands in the text, and a token ahead ends there
pub record Sound (w : World) : Type 0 where
  pub cursor : w.stand.at ≤ length w.text
  pub ahead : eqb w.stand.ahead.kind 0 ≡ false → Lies w.stand.ahead w.stand.at

-- where the next token that is not taken can start
abbrev pub stand_at : World → ℕ
stand_at w = cond (eqb w.stand.ahead.kind 0) w.stand.at w.stand.ahead.first

-- how many rows are claimed in all
abbrev pub rows : Tables → ℕ
rows t = t.items.count + t.statements.count + t.operands.count + t.attributes.count

-- how many tokens the claimed rows have of their own, those of operands apart
abbrev pub tokens : Tables → ℕ
tokens t = 2 * t.items.count + 3 * t.statements.count + 3 * t.attributes.count

-- the reader stands in the text
pub stand-within : (w : World) → Sound w → stand_at w ≤ length w.text
stand-within w s =
    by_cases (eqb w.stand.ahead.kind 0)
    (λ e. rw e s.cursor)
    (λ e. let l = s.ahead e in let c = s.cursor in rw e (omega arith))

-- what a look leaves as it was: the text and the tables, and that a token taken moves the reader on
pub record Looked (w : World) (t : Spot) (v : World) : Type 0 where
  pub sound : Sound v
  pub text : v.text ≡ w.text
  pub tables : v.tables ≡ w.tables
  pub ahead : v.stand.ahead ≡ t
  pub stand : stand_at w ≤ stand_at v

seen_looks : (w : World) → Sound w → eqb w.stand.ahead.kind 0 ≡ true → (l : Lexed) → token_at w.text w.stand.at ≡ l → Ends (Looked w) (λ n t. n ≡ fault.lexer) (R.seen l w)
unfolding R.seen
seen_looks w s h (Found t) e =
    let in-text = found_within w.text w.stand.at e in
    let of_kind_lem = found-kind w.text w.stand.at e in
    let some : eqb t.kind 0 ≡ false = ne_eqb _ _ (λ (z : t.kind ≡ 0). omega arith) in
    goes _ (standing (record { at = t.past; ahead = R.spot_of t; last = R.spot_of t }) w)
    (record {
      sound = record { cursor = in-text.1.1; ahead = λ k. record { some = in-text.1.0; ends = refl; kind = of_kind_lem } };
      text = refl;
      tables = refl;
      ahead = refl;
      stand = rw (h, some) in-text.0;
    })
seen_looks w s h End e = goes _ w (record { sound = s; text = refl; tables = refl; ahead = refl; stand = omega arith })
seen_looks w s h (Refused p) e = stops _ _ refl

pub lookahead_looks : (w : World) → Sound w → Ends (Looked w) (λ n t. n ≡ fault.lexer) (R.lookahead w)
unfolding R.lookahead
lookahead_looks w s =
    by_cases (eqb w.stand.ahead.kind 0)
    (λ e. rw e (seen_looks w s e (token_at w.text w.stand.at) refl))
    (λ e. rw e (goes _ w (record { sound = s; text = refl; tables = refl; ahead = refl; stand = omega arith })))

-- a token taken moves the reader on
pub record Took (w v : World) : Type 0 where
  pub sound : Sound v
  pub text : v.text ≡ w.text
  pub tables : v.tables ≡ w.tables
  pub stand : stand_at w < stand_at v

taken_moves : (w : World) (t : Spot) (v : World) → Looked w t v → eqb t.kind 0 ≡ false → Ends (λ a u. Took w u) (λ n p. n ≡ fault.no_row → ⊥) (R.taken t v)
taken_moves w t v k some =
    let there : eqb v.stand.ahead.kind 0 ≡ false = ap (λ (u : Spot). eqb u.kind 0) k.ahead ∙ some in
    let l = k.sound.ahead there in
    let first : stand_at v ≡ v.stand.ahead.first = rw there in
    let on = k.stand in
    goes t (standing (record { at = v.stand.at; ahead = R.nothing; last = t }) v)
    (record {
      sound = record { cursor = k.sound.cursor; ahead = λ z. absurd (true≢false z) };
      text = k.text;
      tables = k.tables;
      stand = omega (arith, l.some, l.ends);
    })

pub token_moves : (w : World) → Sound w → Ends (λ t v. Took w v) (λ n t. n ≡ fault.no_row → ⊥) (R.token w)
unfolding R.token
token_moves w s =
    seq _ (stopping (lookahead_looks w s)) (λ t v k.
    by_cases (eqb t.kind 0)
    (λ e. rw e (stops fault.end _ (omega arith)))
    (λ e. rw e (taken_moves w t v k e)))
  where
    stopping : {m : Res Spot} → Ends (Looked w) (λ n t. n ≡ fault.lexer) m → Ends (Looked w) (λ n t. n ≡ fault.no_row → ⊥) m
    stopping (goes t v h) = goes t v h
    stopping (stops n t h) = stops n t (omega arith)

-- how many rows tables have room for
abbrev pub capacities : Tables → Room
capacities t = record { items = t.items.cap; statements = t.statements.cap; operands = t.operands.cap; attributes = t.attributes.cap }

-- room for an operand for each byte of a text, for an item for two, for a statement and an attribute for three
abbrev pub Ample : List ℕ → Room → Type 0
Ample text c = (length text ≤ 2 * c.items) × (length text ≤ 3 * c.statements) × (length text ≤ c.operands) × (length text ≤ 3 * c.attributes)

-- a world in which tokens have been taken for all the rows claimed and for the purse j
pub record Spare (text : List ℕ) (c : Room) (j : Purse) (w : World) : Type 0 where
  pub sound : Sound w
  pub same : w.text ≡ text
  pub room : capacities w.tables ≡ c
  pub spare : rows w.tables + j.rows ≤ stand_at w
  pub own : tokens w.tables + j.tokens ≤ stand_at w

-- where a table has no row left, there is not so much room
abbrev pub Short : List ℕ → Room → ℕ → Spot → Type 0
Short text c n t = n ≡ fault.no_row → Ample text c → ⊥

pub record Moves (text : List ℕ) (c : Room) (j k : Purse) {A : Type 0} (p : P A) : Type 0 where
  pub by : (w : World) → Spare text c j w → Ends (λ a v. Spare text c k v) (Short text c) (p w)

module _ {text : List ℕ} {c : Room} where
  -- all that was claimed is in the text
  spare_within : {j : Purse} {w : World} → Spare text c j w → rows w.tables + j.rows ≤ length text
  spare_within {w = w} s = omega (arith, s.spare, stand-within w s.sound, ap length s.same)

  own_within : {j : Purse} {w : World} → Spare text c j w → tokens w.tables + j.tokens ≤ length text
  own_within {w = w} s = omega (arith, s.own, stand-within w s.sound, ap length s.same)

  -- the reader moved on, and empty was claimed
  spared : {j k : Purse} {w v : World} → Spare text c j w → Sound v → v.text ≡ w.text → v.tables ≡ w.tables → stand_at w + k.rows ≤ stand_at v + j.rows → stand_at w + k.tokens ≤ stand_at v + j.tokens → Spare text c k v
  spared s sound same tables_same on own_on =
      let r = ap rows tables_same in
      let t = ap tokens tables_same in
      record { sound = sound; same = same ∙ s.same; room = ap capacities tables_same ∙ s.room; spare = omega (arith, s.spare); own = omega (arith, s.own) }

  look_moves : (j : Purse) → Moves text c j j R.lookahead
  look_moves j = record { by = λ w s. step w s (lookahead_looks w s.sound) }
    where
      step : (w : World) → Spare text c j w → {m : Res Spot} → Ends (Looked w) (λ n t. n ≡ fault.lexer) m → Ends (λ a v. Spare text c j v) (Short text c) m
      step w s (goes t v k) = goes t v (spared s k.sound k.text k.tables (omega (arith, k.stand)) (omega (arith, k.stand)))
      step w s (stops n t h) = stops n t (λ e a. omega arith)

  take_moves : (j : Purse) → Moves text c j (earned j) R.token
  unfolding earned
  take_moves j = record { by = λ w s. step w s (token_moves w s.sound) }
    where
      step : (w : World) → Spare text c j w → {m : Res Spot} → Ends (λ t v. Took w v) (λ n t. n ≡ fault.no_row → ⊥) m → Ends (λ a v. Spare text c (earned j) v) (Short text c) m
      step w s (goes t v k) = goes t v (spared s k.sound k.text k.tables (omega (arith, k.stand)) (omega (arith, k.stand)))
      step w s (stops n t h) = stops n t (λ e a. h e)

  -- a claim is paid for
  claimed : {j k : Purse} {w : World} {v : Tables} → Spare text c j w → capacities v ≡ capacities w.tables → rows v + k.rows ≤ rows w.tables + j.rows → tokens v + k.tokens ≤ tokens w.tables + j.tokens → Spare text c k (having v w)
  claimed s room more own-more =
      record {
        sound = record { cursor = s.sound.cursor; ahead = s.sound.ahead };
        same = s.same;
        room = room ∙ s.room;
        spare = omega (arith, s.spare);
        own = omega (arith, s.own);
      }

  item_moves : (j : Purse) (r : Item) → Moves text c (earned (kept j)) j (claim_item r)
  unfolding earned kept
  item_moves j r = record { by = λ w s. claim_item-ends r w (λ h. claimed s refl (omega arith) (omega arith)) (λ h e a. omega (arith, own_within s, ap (λ (x : Room). x.items) s.room)) }

  statement_moves : (j : Purse) (r : Statement) → Moves text c (earned (kept (kept j))) j (claim_statement r)
  unfolding earned kept
  statement_moves j r = record { by = λ w s. claim_statement-ends r w (λ h. claimed s refl (omega arith) (omega arith)) (λ h e a. omega (arith, own_within s, ap (λ (x : Room). x.statements) s.room)) }

  operand_moves : (j : Purse) (r : Operand) → Moves text c (earned j) (kept j) (claim_operand r)
  unfolding earned kept
  operand_moves j r = record { by = λ w s. claim_operand-ends r w (λ h. claimed s refl (omega arith) (omega arith)) (λ h e a. omega (arith, spare_within s, ap (λ (x : Room). x.operands) s.room)) }

  attribute_moves : (j : Purse) (r : Attribute) → Moves text c (earned (kept (kept j))) j (claim_attribute r)
  unfolding earned kept
  attribute_moves j r = record { by = λ w s. claim_attribute-ends r w (λ h. claimed s refl (omega arith) (omega arith)) (λ h e a. omega (arith, own_within s, ap (λ (x : Room). x.attributes) s.room)) }

  -- what is not paid out may be forgotten
  fewer_moves : {j k l : Purse} {A : Type 0} {p : P A} → l.rows ≤ k.rows → l.tokens ≤ k.tokens → Moves text c j k p → Moves text c j l p
  fewer_moves few own-few x = record { by = λ w s. weaker (λ a v z. record { sound = z.sound; same = z.same; room = z.room; spare = omega (arith, z.spare); own = omega (arith, z.own) }) (x.by w s) }

  repeated_moves : {peek : P Bool} {rule : P (Unit {0})} (j : Purse) → Moves text c j j peek → Moves text c j j rule → (n : ℕ) → Moves text c j j (repeated n peek rule)
  unfolding repeated
  repeated_moves j x y zero = record { by = λ w s. stops fault.fuel _ (λ e a. omega arith) }
  repeated_moves j x y (suc n) =
      record {
        by =
            λ w s.
            seq _ (x.by w s) (λ more v s₁.
            either more _ _ v (seq _ (y.by v s₁) (λ u v' s₂. (repeated_moves j x y n).by v' s₂)) (goes tt v s₁));
      }

  many_moves : (of : Tables → Table) {peek : P Bool} {rule : P (Unit {0})} (j : Purse) → Moves text c j j peek → Moves text c j j rule → Moves text c j j (many of peek rule)
  unfolding many
  many_moves of j x y = record { by = λ w s. (repeated_moves j x y (suc (of w.tables).cap)).by w s }

moving : (text : List ℕ) (c : Room) → Closed (λ j k A p. Moves text c j k p)
unfolding asks earned kept
moving text c =
    record {
      given = λ j a. record { by = λ w s. goes a w s };
      asked = λ j f h. record { by = λ w s. goes (f w) w s };
      scoping = λ j n. record { by = λ w s. goes tt (scoped n w) (record { sound = record { cursor = s.sound.cursor; ahead = s.sound.ahead }; same = s.same; room = s.room; spare = s.spare; own = s.own }) };
      halted = λ j k n t h. record { by = λ w s. stops n t (λ e a. omega arith) };
      then = λ j k l p f x y. record { by = λ w s. seq f (x.by w s) (λ a v s₁. (y a).by v s₁) };
      choose = λ j k t p q x y. record { by = λ w s. either t p q w (x.by w s) (y.by w s) };
      less = λ j k p x. fewer_moves (omega arith) (omega arith) x;
      lose = λ j k p x. fewer_moves (omega arith) (omega arith) x;
      look = look_moves;
      take = take_moves;
      item = item_moves;
      statement = statement_moves;
      operand = operand_moves;
      attribute = attribute_moves;
      again = λ x y f g j. many_moves _ j (f j) (g j);
    }

-- Every list of items moves on.
pub items_move : (e : Entry) (text : List ℕ) (c : Room) (j : Purse) → Moves text c j j (R.items e)
items_move e text c j = items_good (moving text c) e j

start_spare : (text : List ℕ) (l : Lent) → Spare text (capacities (start text l).tables) empty (start text l)
unfolding start
start_spare text l = record { sound = record { cursor = omega arith; ahead = λ h. absurd (true≢false h) }; same = refl; room = refl; spare = omega arith; own = omega arith }

module _ (e : Entry) (text : List ℕ) (l : Lent) where
  ends : Ends (λ a v. Spare text (capacities (start text l).tables) empty v) (Short text (capacities (start text l).tables)) (R.items e (start text l))
  ends = (items_move e text (capacities (start text l).tables) empty).by (start text l) (start_spare text l)

  -- A text claims no more rows, of all four tables together, than it has bytes.
  pub rows-within : (u : Unit {0}) (w : World) → R.items e (start text l) ≡ go u w → rows w.tables ≤ length text
  rows-within u w h = let s : Spare text (capacities (start text l).tables) empty w = gone (rw h at ends) in omega (arith, spare_within s)

  pub counts-within : (u : Unit {0}) (w : World) → R.items e (start text l) ≡ go u w → (w.tables.items.count ≤ length text) × (w.tables.statements.count ≤ length text) × (w.tables.operands.count ≤ length text) × (w.tables.attributes.count ≤ length text)
  counts-within u w h = let r = rows-within u w h in (omega arith, omega arith, omega arith, omega arith)

  -- Where there is room enough, no claim is refused.
  pub never_full : Ample text (capacities (start text l).tables) → (t : Spot) → R.items e (start text l) ≡ stop fault.no_row t → ⊥
  never_full a t h = let s : Short text (capacities (start text l).tables) fault.no_row t = stopped (rw h at ends) in s refl a

-- Outcomes

outcome-tables : {F : ℕ → Spot → Type 0} (Q : Tables → Type 0) (m : Res (Unit {0})) (t : Tables) → Ends (λ a v. Q v.tables) F m → outcome m ≡ accepted t → Q t
unfolding outcome
outcome-tables Q (go u w) t h e = let same : w.tables ≡ t = cc in subst Q same (gone h)
outcome-tables Q (stop f s) t h e = absurd (let z : ◌≡◌ {A = ℕ} 0 1 = cc in omega arith)

-- all rows together, and the tokens that they have of their own, are no more than the bytes of a text
abbrev pub Within : List ℕ → Tables → Type 0
Within text t = (rows t ≤ length text) × (tokens t ≤ length text)

checked-rows : (c : Checked) (e : Entry) (text : List ℕ) (l : Lent) (t : Tables) → read_checked c e text l ≡ accepted t → Within text t
unfolding read_checked
checked-rows (Ok u) e text l t h = outcome-tables (Within text) _ t (weaker (λ a v s. let z = spare_within s in let y = own_within s in (omega arith, omega arith)) (ends e text l)) h
checked-rows (Err q) e text l t h = absurd (let z : ◌≡◌ {A = ℕ} 0 1 = cc in omega arith)

-- What is accepted has no more rows, in all four tables together, than the text has bytes; twice its items and three times its statements and attributes are no more.
pub accepted_bounds : (e : Entry) (text : List ℕ) (l : Lent) (t : Tables) → reading e text l ≡ accepted t → Within text t
unfolding reading
accepted_bounds e text l t =
    by_cases (ltb 65536 (length text))
    (λ long. rw long (λ h. absurd (let z : ◌≡◌ {A = ℕ} 0 1 = cc in omega arith)))
    (λ short. rw short (checked-rows (checked text) e text l t))

pub accepted-within : (e : Entry) (text : List ℕ) (l : Lent) (t : Tables) → reading e text l ≡ accepted t → rows t ≤ length text
accepted-within e text l t h = (accepted_bounds e text l t h).0

arm : {A : Type 0} (t : Bool) {x y : ℕ} → (t ≡ true → x ≡ 7 → A) → (y ≡ 7 → A) → cond t x y ≡ 7 → A
arm true h k e = h refl e
arm false h k e = k e

-- 7 is the number of a claim that is refused, and of empty else
pub seven : (f : ℕ) → fault_number f ≡ 7 → f ≡ fault.no_row
unfolding fault_number
seven f =
    arm (eqb f 1) (λ t z. omega arith)
    (arm (eqb f 2) (λ t z. omega arith)
    (arm (eqb f 3) (λ t z. omega arith)
    (arm (eqb f 4) (λ t z. omega arith)
    (arm (eqb f 5) (λ t z. omega arith)
    (arm (eqb f 6) (λ t z. omega arith)
    (arm (eqb f 7) (λ t z. omega arith)
    (arm (eqb f 8) (λ t z. eqb-true f 8 t) (λ z. omega arith))))))))

pub refusal-number : {n p m q : ℕ} → refusal n p ≡ refusal m q → n ≡ m
refusal-number h = cc

outcome_seven : (m : Res (Unit {0})) (p : ℕ) → ((t : Spot) → m ≡ stop fault.no_row t → ⊥) → outcome m ≡ refusal 7 p → ⊥
unfolding outcome
outcome_seven (go u w) p h e = let z : ◌≡◌ {A = ℕ} 0 1 = cc in omega arith
outcome_seven (stop f t) p h e = h t (ap (λ n. stop n t) (seven f (refusal-number e)))

checked_seven : (c : Checked) (e : Entry) (text : List ℕ) (l : Lent) (p : ℕ) → Ample text (capacities (start text l).tables) → read_checked c e text l ≡ refusal 7 p → ⊥
unfolding read_checked
checked_seven (Ok u) e text l p a h = outcome_seven _ p (never_full e text l a) h
checked_seven (Err q) e text l p a h = omega (arith, refusal-number h)

-- Tables of a row of items for two bytes of a text that is not too long, of statements and attributes for three, and of operands for one, are never too small.
pub enough_rows : (e : Entry) (text : List ℕ) (l : Lent) → (length text ≤ 65536 → Ample text (capacities (start text l).tables)) → (p : ℕ) → reading e text l ≡ refusal 7 p → ⊥
unfolding reading
enough_rows e text l a p =
    by_cases (ltb 65536 (length text))
    (λ long. rw long (λ h. omega (arith, refusal-number h)))
    (λ short. rw short (checked_seven (checked text) e text l p (a (ltb-false 65536 (length text) short))))

-- A table lent with a row for each byte of the text is never too small.
pub never_seven : (e : Entry) (text : List ℕ) (l : Lent) → item_length * length text ≤ l.items → statement_length * length text ≤ l.statements → operand_length * length text ≤ l.operands → attribute_length * length text ≤ l.attributes → (p : ℕ) → reading e text l ≡ refusal 7 p → ⊥
unfolding start
never_seven e text l i s o a = enough_rows e text l (λ short. (omega arith, omega arith, omega arith, omega arith))
