-- How a rule ends: it goes on with a value in a world of which Q holds, or stops with a fault of which F holds.
-- Assumes nothing.
use Prim.Native.Nat.{ℕ, ◌≤◌, ◌<◌}
use mathlib.Core.Path.{◌≡◌, refl}
use mathlib.Core.Bool.{Bool, true, false, cond}
use borrow.Author.Tests.{ltb-true, ltb-false}
use lib.Dec.{ltb}
use Rattle.rules.specs.declared.Spot.{Spot}
use Rattle.rules.specs.declared.Item.{Item}
use Rattle.rules.specs.declared.Statement.{Statement}
use Rattle.rules.specs.declared.Operand.{Operand}
use Rattle.rules.specs.declared.Attribute.{Attribute}
use Rattle.rules.specs.Rows.{item_words, statement_words, operand_words, attribute_words}
use Rattle.rules.specs.Faults as fault
use Rattle.rules.specs.World.{Table, World, Res, go, stop, P, bind, having, with, claim, claim_item, claim_statement, claim_operand, claim_attribute}
use Rattle.laws.proofs.Cases.{by_cases}

pub data Ends {A : Type 0} (Q : A → World → Type 0) (F : ℕ → Spot → Type 0) : Res A → Type 0 where
  goes : (a : A) (w : World) → Q a w → Ends Q F (go a w)
  stops : (n : ℕ) (t : Spot) → F n t → Ends Q F (stop n t)

module _ {F : ℕ → Spot → Type 0} where
  -- one rule after another
  pub seq : {A B : Type 0} {Q : A → World → Type 0} {R : B → World → Type 0} {m : Res A} (f : A → P B) → Ends Q F m → ((a : A) (w : World) → Q a w → Ends R F (f a w)) → Ends R F (bind m f)
  seq f (goes a w q) k = k a w q
  seq f (stops n t h) k = stops n t h

  -- the two arms of a test
  pub arms : {A : Type 0} {Q : A → World → Type 0} (t : Bool) {x y : Res A} → Ends Q F x → Ends Q F y → Ends Q F (cond t x y)
  arms true h k = h
  arms false h k = k

  pub either : {A : Type 0} {Q : A → World → Type 0} (t : Bool) (p q : P A) (w : World) → Ends Q F (p w) → Ends Q F (q w) → Ends Q F (cond t p q w)
  either true p q w x y = x
  either false p q w x y = y

  -- what follows from Q
  pub weaker : {A : Type 0} {Q R : A → World → Type 0} {m : Res A} → ((a : A) (w : World) → Q a w → R a w) → Ends Q F m → Ends R F m
  weaker k (goes a w q) = goes a w (k a w q)
  weaker k (stops n t h) = stops n t h

-- what an end says of a result that is known
pub gone : {A : Type 0} {Q : A → World → Type 0} {F : ℕ → Spot → Type 0} {a : A} {w : World} → Ends Q F (go a w) → Q a w
gone (goes a w q) = q

pub stopped : {A : Type 0} {Q : A → World → Type 0} {F : ℕ → Spot → Type 0} {n : ℕ} {t : Spot} → Ends Q F (stop n t) → F n t
stopped (stops n t h) = h

-- one end told in two ways: where it goes on, and where it stops
pub told : {A : Type 0} {Q R : A → World → Type 0} {F G : ℕ → Spot → Type 0} {m : Res A} → Ends Q F m → Ends R G m → Ends Q G m
told (goes a w q) y = goes a w q
told (stops n t h) y = stops n t (stopped y)

-- two ways on that are the same wherever the first goes on
pub same_after : {A B : Type 0} {Q : A → World → Type 0} {F : ℕ → Spot → Type 0} {m : Res A} (f g : A → P B) → Ends Q F m → ((a : A) (w : World) → Q a w → f a w ≡ g a w) → bind m f ≡ bind m g
same_after f g (goes a w q) k = k a w q
same_after f g (stops n t h) k = refl

-- a claim goes on where there is a row left, and stops where there is none
claim-ends : {Q : Unit {0} → World → Type 0} {F : ℕ → Spot → Type 0} (t : Table) (v w : World) → (t.count < t.cap → Q tt v) → (t.cap ≤ t.count → F fault.no_row w.stand.last) → Ends Q F (claim t v w)
claim-ends t v w h k =
    by_cases (ltb t.count t.cap)
    (λ e. rw e (goes tt v (h (ltb-true _ _ e))))
    (λ e. rw e (stops fault.no_row _ (k (ltb-false _ _ e))))

-- the world with a row more
abbrev pub with_item : Item → World → World
with_item r w = having (record { items = with w.tables.items (item_words r); statements = w.tables.statements; operands = w.tables.operands; attributes = w.tables.attributes }) w

abbrev pub with_statement : Statement → World → World
with_statement r w = having (record { items = w.tables.items; statements = with w.tables.statements (statement_words r); operands = w.tables.operands; attributes = w.tables.attributes }) w

abbrev pub with_operand : Operand → World → World
with_operand r w = having (record { items = w.tables.items; statements = w.tables.statements; operands = with w.tables.operands (operand_words r); attributes = w.tables.attributes }) w

abbrev pub with_attribute : Attribute → World → World
with_attribute r w = having (record { items = w.tables.items; statements = w.tables.statements; operands = w.tables.operands; attributes = with w.tables.attributes (attribute_words r) }) w

module _ {Q : Unit {0} → World → Type 0} {F : ℕ → Spot → Type 0} where
  pub claim_item-ends : (r : Item) (w : World) → (w.tables.items.count < w.tables.items.cap → Q tt (with_item r w)) → (w.tables.items.cap ≤ w.tables.items.count → F fault.no_row w.stand.last) → Ends Q F (claim_item r w)
  unfolding claim_item
  claim_item-ends r w h k = claim-ends w.tables.items (with_item r w) w h k

  pub claim_statement-ends : (r : Statement) (w : World) → (w.tables.statements.count < w.tables.statements.cap → Q tt (with_statement r w)) → (w.tables.statements.cap ≤ w.tables.statements.count → F fault.no_row w.stand.last) → Ends Q F (claim_statement r w)
  unfolding claim_statement
  claim_statement-ends r w h k = claim-ends w.tables.statements (with_statement r w) w h k

  pub claim_operand-ends : (r : Operand) (w : World) → (w.tables.operands.count < w.tables.operands.cap → Q tt (with_operand r w)) → (w.tables.operands.cap ≤ w.tables.operands.count → F fault.no_row w.stand.last) → Ends Q F (claim_operand r w)
  unfolding claim_operand
  claim_operand-ends r w h k = claim-ends w.tables.operands (with_operand r w) w h k

  pub claim_attribute-ends : (r : Attribute) (w : World) → (w.tables.attributes.count < w.tables.attributes.cap → Q tt (with_attribute r w)) → (w.tables.attributes.cap ≤ w.tables.attributes.count → F fault.no_row w.stand.last) → Ends Q F (claim_attribute r w)
  unfolding claim_attribute
  claim_attribute-ends r w h k = claim-ends w.tables.attributes (with_attribute r w) w h k
