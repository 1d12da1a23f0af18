-- What capacities change: more room changes an answer only where there was too little of it.
-- Assumes nothing.
use Prim.Native.Nat.{ℕ, zero, suc, ◌≤◌, max}
use mathlib.Core.Path.{◌≡◌, refl, sym, ap, subst, ◌∙◌}
use mathlib.Core.Bool.{Bool, true, false, cond}
use mathlib.Core.List.{List}
use native.Mathlib.Omega.{arith}
use borrow.Author.Tests.{lt-ltb, ltb-true, ltb-false}
use lib.Dec.{eqb, ltb}
use lib.ListN.{length}
use Rattle.std.specs.Prelude.{Ok, Err}
use Rattle.rules.specs.declared.Entry.{Entry}
use Rattle.rules.specs.declared.Spot.{Spot}
use Rattle.rules.specs.declared.Lexed.{Lexed}
use Rattle.rules.specs.declared.Lexed.TheVariants.{Found, End, Refused}
use Rattle.rules.specs.declared.Item.{Item}
use Rattle.rules.specs.declared.Statement.{Statement}
use Rattle.rules.specs.declared.Operand.{Operand}
use Rattle.rules.specs.declared.Attribute.{Attribute}
use Rattle.rules.specs.Faults as fault
use Rattle.rules.specs.Rows.{item_length, statement_length, operand_length, attribute_length, capacity}
use Rattle.rules.specs.Tokens.{token_at}
use Rattle.rules.specs.Utf8.{checked, Checked}
use Rattle.rules.specs.World.{Table, Tables, World, Res, go, stop, P, bind, ◌>>=◌, give, asks, standing, scoped, claim_item, claim_statement, claim_operand, claim_attribute, repeated, many}
use Rattle.rules.specs.Reading as R
use Rattle.rules.specs.Answers.{Lent, start, fault_number, Outcome, accepted, refusal, outcome, read_checked, reading, answer_of, rows_of}
use Rattle.laws.proofs.Cases.{by_cases}
use Rattle.reading.proofs.Ends.{Ends, goes, stops, seq, arms, either, weaker, gone, with_item, with_statement, with_operand, with_attribute, claim_item-ends, claim_statement-ends, claim_operand-ends, claim_attribute-ends}
use Rattle.reading.proofs.Claims.{Keeps, Claims}
use Rattle.reading.proofs.Many.{many_turn}
use Rattle.reading.proofs.Rules.{Room, roomed, Blind, empty, Closed, items_good}
use Rattle.reading.proofs.Fuel.{never_fuel}
use Rattle.reading.proofs.Progress.{capacities}

-- no table of the one has more room than in the other
pub record Below (d c : Room) : Type 0 where
  pub items : d.items ≤ c.items
  pub statements : d.statements ≤ c.statements
  pub operands : d.operands ≤ c.operands
  pub attributes : d.attributes ≤ c.attributes

-- as many rows as there is room for, or fewer
pub record Fits (d : Room) (t : Tables) : Type 0 where
  pub items : t.items.count ≤ d.items
  pub statements : t.statements.count ≤ d.statements
  pub operands : t.operands.count ≤ d.operands
  pub attributes : t.attributes.count ≤ d.attributes

-- a table has the same room and no fewer rows
pub record Grown (a b : Table) : Type 0 where
  pub cap : b.cap ≡ a.cap
  pub count : a.count ≤ b.count

pub record GrownAll (a b : Tables) : Type 0 where
  pub items : Grown a.items b.items
  pub statements : Grown a.statements b.statements
  pub operands : Grown a.operands b.operands
  pub attributes : Grown a.attributes b.attributes

grown_none : (a : Tables) → GrownAll a a
grown_none a =
    record {
      items = record { cap = refl; count = omega arith };
      statements = record { cap = refl; count = omega arith };
      operands = record { cap = refl; count = omega arith };
      attributes = record { cap = refl; count = omega arith };
    }

grown_twice : {a b c : Tables} → GrownAll a b → GrownAll b c → GrownAll a c
grown_twice x y =
    record {
      items = record { cap = omega arith; count = omega arith };
      statements = record { cap = omega arith; count = omega arith };
      operands = record { cap = omega arith; count = omega arith };
      attributes = record { cap = omega arith; count = omega arith };
    }

fits-before : {d : Room} {a b : Tables} → GrownAll a b → Fits d b → Fits d a
fits-before x y = record { items = omega arith; statements = omega arith; operands = omega arith; attributes = omega arith }

-- How a rule ends in a world with the room d, and how in the same world with the room c: the same, unless the first has no row left where the second goes on past what fits in d.
pub data Alike (c d : Room) {A : Type 0} : Res A → Res A → Type 0 where
  both_go : (a : A) (w : World) → capacities w.tables ≡ d → Alike c d (go a w) (go a (roomed c w))
  both_stop : (n : ℕ) (t : Spot) → Alike c d (stop n t) (stop n t)
  one_full : (t : Spot) (m : Res A) → Ends (λ a v. Fits d v.tables → ⊥) (λ n s. Unit {0}) m → Alike c d (stop fault.no_row t) m
  no_fuel : (t : Spot) (m : Res A) → Alike c d (stop fault.fuel t) m

-- a rule that keeps the room of every table, and all rows
pub record Grows {A : Type 0} (p : P A) : Type 0 where
  pub by : (w : World) → Ends (λ a v. GrownAll w.tables v.tables) (λ n t. Unit {0}) (p w)

then_grows : {A B : Type 0} {p : P A} {f : A → P B} → Grows p → ((a : A) → Grows (f a)) → Grows (p >>= f)
then_grows {f = f} x y = record { by = λ w. seq f (x.by w) (λ a v g. weaker (λ b u k. grown_twice g k) ((y a).by v)) }

cond_grows : {A : Type 0} (t : Bool) {p q : P A} → Grows p → Grows q → Grows (cond t p q)
cond_grows t {p} {q} x y = record { by = λ w. either t p q w (x.by w) (y.by w) }

give_grows : {A : Type 0} (a : A) → Grows (give a)
give_grows a = record { by = λ w. goes a w (grown_none _) }

repeated_grows : {peek : P Bool} {rule : P (Unit {0})} → Grows peek → Grows rule → (n : ℕ) → Grows (repeated n peek rule)
unfolding repeated
repeated_grows x y zero = record { by = λ w. stops _ _ tt }
repeated_grows x y (suc n) = then_grows x (λ more. cond_grows more (then_grows y (λ u. repeated_grows x y n)) (give_grows tt))

many_grows : (of : Tables → Table) {peek : P Bool} {rule : P (Unit {0})} → Grows peek → Grows rule → Grows (many of peek rule)
unfolding many
many_grows of x y = record { by = λ w. (repeated_grows x y (suc (of w.tables).cap)).by w }

-- a rule that ends alike in the world w of room d and in the same world with the room c
pub record Steady (c d : Room) {A : Type 0} (p : P A) : Type 0 where
  pub alike : (w : World) → capacities w.tables ≡ d → Alike c d (p w) (p (roomed c w))
  pub grows : Grows p

-- a row claimed where there is room
abbrev claimed : Bool → World → Spot → Res (Unit {0})
claimed free v t = cond free (go tt v) (stop fault.no_row t)

module _ {c d : Room} where
  bind_alike : {A B : Type 0} {m m' : Res A} (f f' : A → P B) → Alike c d m m' → ((a : A) (w : World) → capacities w.tables ≡ d → Alike c d (f a w) (f' a (roomed c w))) → ((a : A) → Grows (f' a)) → Alike c d (bind m f) (bind m' f')
  bind_alike f f' (both_go a w r) y g = y a w r
  bind_alike f f' (both_stop n t) y g = both_stop n t
  bind_alike f f' (one_full t m h) y g = one_full t (bind m f') (seq f' h (λ a v over. weaker (λ b u k fit. over (fits-before k fit)) ((g a).by v)))
  bind_alike f f' (no_fuel t m) y g = no_fuel t (bind m f')

  then-steady : {A B : Type 0} (p : P A) (f : A → P B) → Steady c d p → ((a : A) → Steady c d (f a)) → Steady c d (p >>= f)
  then-steady p f x y = record { alike = λ w r. bind_alike f f (x.alike w r) (λ a v k. (y a).alike v k) (λ a. (y a).grows); grows = then_grows x.grows (λ a. (y a).grows) }

  cond_steady : {A : Type 0} (t : Bool) (p q : P A) → Steady c d p → Steady c d q → Steady c d (cond t p q)
  cond_steady true p q x y = x
  cond_steady false p q x y = y

  asks_steady : {A : Type 0} (f : World → A) → Blind f → Steady c d (asks f)
  unfolding asks
  asks_steady f h =
      record {
        alike = λ w r. subst (λ x. Alike c d (go (f w) w) (go x (roomed c w))) (sym (h c w)) (both_go (f w) w r);
        grows = record { by = λ w. goes (f w) w (grown_none _) };
      }

  seen_steady : (l : Lexed) → Steady c d (R.seen l)
  unfolding R.seen
  seen_steady (Found t) = record { alike = λ w r. both_go _ _ r; grows = record { by = λ w. goes _ _ (grown_none _) } }
  seen_steady End = record { alike = λ w r. both_go _ w r; grows = record { by = λ w. goes _ w (grown_none _) } }
  seen_steady (Refused p) = record { alike = λ w r. both_stop _ _; grows = record { by = λ w. stops _ _ tt } }

  arms_alike : {A : Type 0} (t : Bool) {x x' y y' : Res A} → Alike c d x x' → Alike c d y y' → Alike c d (cond t x y) (cond t x' y')
  arms_alike true h k = h
  arms_alike false h k = k

  cond_alike : {A : Type 0} (t : Bool) (p q p' q' : P A) (w v : World) → Alike c d (p w) (p' v) → Alike c d (q w) (q' v) → Alike c d (cond t p q w) (cond t p' q' v)
  cond_alike true p q p' q' w v h k = h
  cond_alike false p q p' q' w v h k = k

  look_steady : Steady c d R.lookahead
  unfolding R.lookahead
  look_steady =
      record {
        alike = λ w r. arms_alike (eqb w.stand.ahead.kind 0) ((seen_steady (token_at w.text w.stand.at)).alike w r) (both_go w.stand.ahead w r);
        grows = record { by = λ w. arms (eqb w.stand.ahead.kind 0) ((seen_steady (token_at w.text w.stand.at)).grows.by w) (goes _ w (grown_none _)) };
      }

  take_steady : Steady c d R.token
  unfolding R.token
  take_steady =
      then-steady R.lookahead _ look_steady (λ t.
      cond_steady (eqb t.kind 0) _ _
      (record { alike = λ w r. both_stop fault.end (R.last_byte w.text); grows = record { by = λ w. stops fault.end (R.last_byte w.text) tt } })
      (record { alike = λ w r. both_go t (standing (record { at = w.stand.at; ahead = R.nothing; last = t }) w) r; grows = record { by = λ w. goes t _ (grown_none _) } }))

  -- n rows of k are claimed in the one, and of more in the other
  claim_alike : (n k k' : ℕ) (v : World) (t : Spot) → k ≤ k' → capacities v.tables ≡ d → (k ≤ n → Fits d v.tables → ⊥) → Alike c d (claimed (ltb n k) v t) (claimed (ltb n k') (roomed c v) t)
  claim_alike n k k' v t h r over =
      by_cases (ltb n k)
      (λ e. rw (e, lt-ltb n k' (let z = ltb-true n k e in omega arith)) (both_go tt v r))
      (λ e.
      rw e
      (one_full t _
      (arms (ltb n k')
      (goes tt (roomed c v) (λ fit. over (ltb-false n k e) (record { items = fit.items; statements = fit.statements; operands = fit.operands; attributes = fit.attributes })))
      (stops fault.no_row t tt))))

  repeated_alike : {of : Tables → Table} {peek : P Bool} {rule : P (Unit {0})} → Keeps of peek → Claims of rule → Steady c d peek → Steady c d rule → (n : ℕ) (w : World) → capacities w.tables ≡ d → Alike c d (repeated n peek rule w) (many of peek rule (roomed c w))
  unfolding repeated
  repeated_alike x y f g zero w r = no_fuel w.stand.last _
  repeated_alike {of} {peek} {rule} x y f g (suc n) w r =
      rw (many_turn x y (roomed c w))
      (bind_alike _ _ (f.alike w r)
      (λ more v k. cond_alike more _ _ _ _ v (roomed c v) (bind_alike _ _ (g.alike v k) (λ u v' l. repeated_alike x y f g n v' l) (λ u. many_grows of f.grows g.grows)) (both_go tt v k))
      (λ more. cond_grows more (then_grows g.grows (λ u. many_grows of f.grows g.grows)) (give_grows tt)))

  many_steady : {of : Tables → Table} {peek : P Bool} {rule : P (Unit {0})} → Keeps of peek → Claims of rule → Steady c d peek → Steady c d rule → Steady c d (many of peek rule)
  unfolding many
  many_steady {of} x y f g = record { alike = λ w r. repeated_alike x y f g (suc (of w.tables).cap) w r; grows = many_grows of f.grows g.grows }

  item_steady : Below d c → (r : Item) → Steady c d (claim_item r)
  unfolding claim_item
  item_steady b r =
      record {
        alike =
            λ w s.
            let e = ap (λ (x : Room). x.items) s in
            claim_alike w.tables.items.count w.tables.items.cap c.items (with_item r w) w.stand.last (omega (arith, b.items)) s (λ full fit. omega (arith, fit.items));
        grows = record { by = λ w. claim_item-ends r w (λ h. record { items = record { cap = refl; count = omega arith }; statements = record { cap = refl; count = omega arith }; operands = record { cap = refl; count = omega arith }; attributes = record { cap = refl; count = omega arith } }) (λ h. tt) };
      }

  statement_steady : Below d c → (r : Statement) → Steady c d (claim_statement r)
  unfolding claim_statement
  statement_steady b r =
      record {
        alike =
            λ w s.
            let e = ap (λ (x : Room). x.statements) s in
            claim_alike w.tables.statements.count w.tables.statements.cap c.statements (with_statement r w) w.stand.last (omega (arith, b.statements)) s (λ full fit. omega (arith, fit.statements));
        grows = record { by = λ w. claim_statement-ends r w (λ h. record { items = record { cap = refl; count = omega arith }; statements = record { cap = refl; count = omega arith }; operands = record { cap = refl; count = omega arith }; attributes = record { cap = refl; count = omega arith } }) (λ h. tt) };
      }

  operand_steady : Below d c → (r : Operand) → Steady c d (claim_operand r)
  unfolding claim_operand
  operand_steady b r =
      record {
        alike =
            λ w s.
            let e = ap (λ (x : Room). x.operands) s in
            claim_alike w.tables.operands.count w.tables.operands.cap c.operands (with_operand r w) w.stand.last (omega (arith, b.operands)) s (λ full fit. omega (arith, fit.operands));
        grows = record { by = λ w. claim_operand-ends r w (λ h. record { items = record { cap = refl; count = omega arith }; statements = record { cap = refl; count = omega arith }; operands = record { cap = refl; count = omega arith }; attributes = record { cap = refl; count = omega arith } }) (λ h. tt) };
      }

  attribute_steady : Below d c → (r : Attribute) → Steady c d (claim_attribute r)
  unfolding claim_attribute
  attribute_steady b r =
      record {
        alike =
            λ w s.
            let e = ap (λ (x : Room). x.attributes) s in
            claim_alike w.tables.attributes.count w.tables.attributes.cap c.attributes (with_attribute r w) w.stand.last (omega (arith, b.attributes)) s (λ full fit. omega (arith, fit.attributes));
        grows = record { by = λ w. claim_attribute-ends r w (λ h. record { items = record { cap = refl; count = omega arith }; statements = record { cap = refl; count = omega arith }; operands = record { cap = refl; count = omega arith }; attributes = record { cap = refl; count = omega arith } }) (λ h. tt) };
      }

steadying : {c d : Room} → Below d c → Closed (λ j k A p. Steady c d p)
steadying b =
    record {
      given = λ j a. record { alike = λ w r. both_go a w r; grows = give_grows a };
      asked = λ j f h. asks_steady f h;
      scoping = λ j n. record { alike = λ w r. both_go tt (scoped n w) r; grows = record { by = λ w. goes tt (scoped n w) (grown_none _) } };
      halted = λ j k n t h. record { alike = λ w r. both_stop n t; grows = record { by = λ w. stops n t tt } };
      then = λ j k l p f x y. then-steady p f x y;
      choose = λ j k t p q x y. cond_steady t p q x y;
      less = λ j k p x. x;
      lose = λ j k p x. x;
      look = λ j. look_steady;
      take = λ j. take_steady;
      item = λ j r. item_steady b r;
      statement = λ j r. statement_steady b r;
      operand = λ j r. operand_steady b r;
      attribute = λ j r. attribute_steady b r;
      again = λ x y f g j. many_steady x y (f j) (g j);
    }

-- Every list of items ends alike with more room.
pub items_steady : {c d : Room} → Below d c → (e : Entry) → Steady c d (R.items e)
items_steady b e = items_good (steadying b) e empty

-- how many rows lent tables have room for
abbrev pub room : Lent → Room
room l = record { items = capacity item_length l.items; statements = capacity statement_length l.statements; operands = capacity operand_length l.operands; attributes = capacity attribute_length l.attributes }

alike_goes : {c d : Room} {A : Type 0} {a : A} {w : World} {m : Res A} → Alike c d (go a w) m → m ≡ go a (roomed c w)
alike_goes (both_go a w r) = refl

alike_stops : {c d : Room} {A : Type 0} {n : ℕ} {t : Spot} {m : Res A} → Alike c d (stop n t) m → (n ≡ fault.no_row → ⊥) → (n ≡ fault.fuel → ⊥) → m ≡ stop n t
alike_stops (both_stop n t) h k = refl
alike_stops (one_full t m x) h k = absurd (h refl)
alike_stops (no_fuel t m) h k = absurd (k refl)

alike_full : {c d : Room} {A : Type 0} {n : ℕ} {t : Spot} {a : A} {w : World} → Alike c d (stop n t) (go a w) → (n ≡ fault.fuel → ⊥) → Fits d w.tables → ⊥
alike_full (one_full t m x) k fit = gone x fit
alike_full (no_fuel t m) k fit = k refl

-- what can be seen of two outcomes is the same: numbers and places, counts and words
pub record Same (o o' : Outcome) : Type 0 where
  pub answers : answer_of o ≡ answer_of o'
  pub items : rows_of (λ t. t.items) o ≡ rows_of (λ t. t.items) o'
  pub statements : rows_of (λ t. t.statements) o ≡ rows_of (λ t. t.statements) o'
  pub operands : rows_of (λ t. t.operands) o ≡ rows_of (λ t. t.operands) o'
  pub attributes : rows_of (λ t. t.attributes) o ≡ rows_of (λ t. t.attributes) o'

same : (o : Outcome) → Same o o
same o = record { answers = refl; items = refl; statements = refl; operands = refl; attributes = refl }

pub same_back : {o o' : Outcome} → Same o o' → Same o' o
same_back x = record { answers = sym x.answers; items = sym x.items; statements = sym x.statements; operands = sym x.operands; attributes = sym x.attributes }

pub same_on : {o o' o'' : Outcome} → Same o o' → Same o' o'' → Same o o''
same_on x y =
    record {
      answers = x.answers ∙ y.answers;
      items = x.items ∙ y.items;
      statements = x.statements ∙ y.statements;
      operands = x.operands ∙ y.operands;
      attributes = x.attributes ∙ y.attributes;
    }

-- an outcome that is not the refusal 7
abbrev pub NotSeven : Outcome → Type 0
NotSeven o = (p : ℕ) → o ≡ refusal 7 p → ⊥

outcome_same : {c d : Room} {m m' : Res (Unit {0})} → Alike c d m m' → ((t : Spot) → m ≡ stop fault.fuel t → ⊥) → NotSeven (outcome m) → Same (outcome m) (outcome m')
unfolding outcome answer_of rows_of fault_number
outcome_same (both_go a w r) f n = record { answers = refl; items = refl; statements = refl; operands = refl; attributes = refl }
outcome_same (both_stop k t) f n = same _
outcome_same (one_full t m x) f n = absurd (n t.first refl)
outcome_same (no_fuel t m) f n = absurd (f t refl)

ends_over : {d : Room} {t : Tables} {m : Res (Unit {0})} → Ends (λ a v. Fits d v.tables → ⊥) (λ n s. Unit {0}) m → outcome m ≡ accepted t → Fits d t → ⊥
unfolding outcome
ends_over {t = t} (goes a w over) h fit = let e : w.tables ≡ t = cc in over (rw e fit)
ends_over (stops n s x) h fit = let z : ◌≡◌ {A = ℕ} 0 1 = cc in omega arith

outcome_over : {c d : Room} {m m' : Res (Unit {0})} {t : Tables} {p : ℕ} → Alike c d m m' → ((s : Spot) → m ≡ stop fault.fuel s → ⊥) → outcome m ≡ refusal 7 p → outcome m' ≡ accepted t → Fits d t → ⊥
unfolding outcome
outcome_over (both_go a w r) f h k fit = let z : ◌≡◌ {A = ℕ} 0 1 = cc in omega arith
outcome_over (both_stop n s) f h k fit = let z : ◌≡◌ {A = ℕ} 0 1 = cc in omega arith
outcome_over (one_full s m x) f h k fit = ends_over x k fit
outcome_over (no_fuel s m) f h k fit = f s refl

module _ (e : Entry) (text : List ℕ) (l l' : Lent) (b : Below (room l) (room l')) where
  start_alike : Alike (room l') (room l) (R.items e (start text l)) (R.items e (start text l'))
  unfolding start
  start_alike = (items_steady b e).alike (start text l) refl

  -- What is read with less room is read with more.
  pub goes_alike : (u : Unit {0}) (w : World) → R.items e (start text l) ≡ go u w → R.items e (start text l') ≡ go u (roomed (room l') w)
  goes_alike u w h = alike_goes (rw h at start_alike)

  -- What is refused for another reason than room is refused alike.
  pub stops_alike : (n : ℕ) (t : Spot) → (n ≡ fault.no_row → ⊥) → R.items e (start text l) ≡ stop n t → R.items e (start text l') ≡ stop n t
  stops_alike n t k h = alike_stops (rw h at start_alike) k (λ z. never_fuel e text l t (h ∙ ap (λ i. stop i t) z))

  -- What is refused for want of room, and read with more, has more rows than there was room for.
  pub full_over : (t : Spot) (u : Unit {0}) (w : World) → R.items e (start text l) ≡ stop fault.no_row t → R.items e (start text l') ≡ go u w → Fits (room l) w.tables → ⊥
  full_over t u w h k fit = alike_full (rw (h, k) at start_alike) (λ z. omega arith) fit

  checked_same : (c : Checked) → NotSeven (read_checked c e text l) → Same (read_checked c e text l) (read_checked c e text l')
  unfolding read_checked
  checked_same (Ok u) n = outcome_same start_alike (never_fuel e text l) n
  checked_same (Err p) n = same _

  -- More room changes an answer only where the answer was 7.
  pub same_unless_seven : NotSeven (reading e text l) → Same (reading e text l) (reading e text l')
  unfolding reading
  same_unless_seven =
      by_cases (ltb 65536 (length text))
      (λ long. rw long (λ n. same _))
      (λ short. rw short (checked_same (checked text)))

  checked_over : (c : Checked) (p : ℕ) (t : Tables) → read_checked c e text l ≡ refusal 7 p → read_checked c e text l' ≡ accepted t → Fits (room l) t → ⊥
  unfolding read_checked
  checked_over (Ok u) p t h k fit = outcome_over start_alike (never_fuel e text l) h k fit
  checked_over (Err q) p t h k fit = let z : ◌≡◌ {A = ℕ} 0 1 = cc in omega arith

  -- Where the answer is 7, and is not with more room, the text has more rows than there was room for.
  pub seven_over : (p : ℕ) (t : Tables) → reading e text l ≡ refusal 7 p → reading e text l' ≡ accepted t → Fits (room l) t → ⊥
  unfolding reading
  seven_over p t =
      by_cases (ltb 65536 (length text))
      (λ long. rw long (λ h k fit. let z : ◌≡◌ {A = ℕ} 0 1 = cc in omega arith))
      (λ short. rw short (checked_over (checked text) p t))

  -- So what is read with more room is read with less, if its rows fit.
  pub same_if_fits : (t : Tables) → reading e text l' ≡ accepted t → Fits (room l) t → Same (reading e text l) (reading e text l')
  same_if_fits t k fit = same_unless_seven (λ p h. seven_over p t h k fit)

-- tables lent with no fewer words have no less room
pub longer : (l l' : Lent) → l.items ≤ l'.items → l.statements ≤ l'.statements → l.operands ≤ l'.operands → l.attributes ≤ l'.attributes → Below (room l) (room l')
longer l l' i s o a = record { items = omega arith; statements = omega arith; operands = omega arith; attributes = omega arith }

-- as many words as either has
abbrev both : Lent → Lent → Lent
both l l' = record { items = max l.items l'.items; statements = max l.statements l'.statements; operands = max l.operands l'.operands; attributes = max l.attributes l'.attributes }

-- Whatever tables are lent, all answers but 7 are the same.
pub same_whatever_lent : (e : Entry) (text : List ℕ) (l l' : Lent) → NotSeven (reading e text l) → NotSeven (reading e text l') → Same (reading e text l) (reading e text l')
same_whatever_lent e text l l' n n' =
    same_on
    (same_unless_seven e text l (both l l') (longer l (both l l') (omega arith) (omega arith) (omega arith) (omega arith)) n)
    (same_back (same_unless_seven e text l' (both l l') (longer l' (both l l') (omega arith) (omega arith) (omega arith) (omega arith)) n'))
