-- The reader moves on, rule by rule.
-- Assumes nothing.
use mathlib.Core.Bool.{Bool, true, false, cond}
use mathlib.Core.List.{List, [], ◌∷◌}
use Prim.Native.Nat.{ℕ, zero, suc}
use lib.Dec.{eqb, ltb}
use lib.ListN.{length}
use Rattle.rules.specs.Bytes.{bytes, count, same, bit}
use Rattle.rules.specs.Integers.{Read, number, refused, fits, integer, type_width}
use Rattle.rules.specs.Instructions.{instruction_of, arity_of}
use Rattle.rules.specs.Tokens as T
use Rattle.rules.specs.Syntax.{Name, Statement}
use Rattle.rules.specs.Listing.{has}
use Rattle.rules.specs.Grammar.{side_of}
use Rattle.bynames.proofs.WellFormed.{is_block, block_size}
use Rattle.bynames.proofs.Reader as R
use Rattle.bynames.proofs.Reader.{Res, go, stop, P, fuel_of, Entry, replacements, left_hand_sides, right_hand_sides, item_of}
use Rattle.bynames.proofs.AcceptedParts.{Ok}
use Rattle.bynames.proofs.Moves.{Within, Keeps, Takes, takes-keeps, keeps_then, takes_then, then-takes, keeps_if, takes_if, give-keeps, refuse-keeps, look_keeps, demand_takes, expect-takes, expect-keeps}

-- ---- the rules
keyword_takes : (k : List ℕ) → Takes (R.keyword k)
unfolding R.keyword
keyword_takes k = takes_then (expect-takes T.ident) (λ l. keeps_if (same l k) (give-keeps tt) refuse-keeps)

read_keeps : (r : Read) → Keeps (R.read r)
read_keeps (number c) = give-keeps c
read_keeps refused = refuse-keeps

int-takes : Takes R.int
unfolding R.int
int-takes = takes_then (expect-takes T.int) (λ l. read_keeps (integer l))

field-takes : (width : ℕ) → Takes (R.field width)
unfolding R.field
field-takes width = takes_then (expect-takes T.int) (λ l. read_keeps (fits width (integer l)))

-- a test of the scope takes nothing
scope-keeps : {A : Type 0} (b : Bool) (x y : Res A) (n : ℕ) → Ok (Within n) x → Ok (Within n) y → Ok (Within n) (cond b x y)
scope-keeps true x y n h k = h
scope-keeps false x y n h k = k

known-keeps : (m : Name) → Keeps (R.known m)
known-keeps m = record { by = λ n w s h. scope-keeps (has m w.scope) (go tt w) stop n (s, h) tt }

fresh_keeps : (m : Name) → Keeps (R.fresh m)
fresh_keeps m = record { by = λ n w s h. scope-keeps (has m w.scope) stop (go tt w) n tt (s, h) }

blocked_keeps : (m : Name) → Keeps (R.blocked m)
blocked_keeps m =
    record { by = λ n w s h. scope-keeps (has m w.scope) _ stop n (scope-keeps (is_block (side_of m w.scope)) (go (block_size (side_of m w.scope)) w) stop n (s, h) tt) tt }

enter_keeps : (a : Statement) → Keeps (R.enter a)
enter_keeps a = record { by = λ n w s h. (s, h) }

width_keeps : (r : Read) → Keeps (R.width r)
width_keeps (number c) = give-keeps _
width_keeps refused = refuse-keeps

typing-keeps : Keeps R.typing
unfolding R.typing
typing-keeps =
    keeps_then look_keeps
    (λ t.
    keeps_if (eqb t.kind T.colon) (keeps_then (expect-keeps T.colon) (λ u. keeps_then (expect-keeps T.ident) (λ l. width_keeps (type_width l))))
    (give-keeps _))

operand-takes : Takes R.operand
unfolding R.operand
operand-takes =
    then-takes look_keeps
    (λ t.
    takes_if (eqb t.kind T.val_name)
    (takes_then (expect-takes T.val_name) (λ l. keeps_then (known-keeps l) (λ u. give-keeps _)))
    (takes_then int-takes (λ c. keeps_then typing-keeps (λ y. give-keeps _))))

operand-keeps : Keeps R.operand
operand-keeps = takes-keeps operand-takes

further-keeps : (k : ℕ) → Keeps (R.further k)
unfolding R.further
further-keeps zero = give-keeps []
further-keeps (suc k) =
    keeps_then (expect-keeps T.comma) (λ u. keeps_then operand-keeps (λ o. keeps_then (further-keeps k) (λ l. give-keeps _)))

operands_keep : (k : ℕ) → Keeps (R.operands k)
unfolding R.operands
operands_keep zero = give-keeps []
operands_keep (suc k) = keeps_then operand-keeps (λ o. keeps_then (further-keeps k) (λ l. give-keeps _))

closed-keeps : {A : Type 0} (a : A) → Keeps (R.closed a)
closed-keeps a = keeps_then (expect-keeps T.close_paren) (λ u. give-keeps a)

equals-keeps : {A : Type 0} (p : P A) → Keeps p → Keeps (R.after_equals p)
equals-keeps p k = keeps_then (expect-keeps T.equals) (λ u. k)

counted-keeps : Keeps R.counted
unfolding R.counted
counted-keeps = keeps_then (takes-keeps (field-takes 8)) (λ n. closed-keeps _)

bounds-keep : Keeps R.bounds
unfolding R.bounds
bounds-keep =
    keeps_then (expect-keeps T.open_bracket)
    (λ u.
    keeps_then (takes-keeps int-takes)
    (λ a.
    keeps_then (expect-keeps T.comma)
    (λ u. keeps_then (takes-keeps int-takes) (λ b. keeps_then (expect-keeps T.close_paren) (λ u. closed-keeps _)))))

named-keeps : (l : List ℕ) → Keeps (R.attribute_of l)
unfolding R.attribute_of
named-keeps l =
    keeps_if (same l (bytes "powerOfTwo")) (closed-keeps _)
    (keeps_if (same l (bytes "negative")) (closed-keeps _)
    (keeps_if (same l (bytes "nonNegative")) (closed-keeps _)
    (keeps_if (same l (bytes "nonZero")) (closed-keeps _)
    (keeps_if (same l (bytes "hasExternalUses")) (closed-keeps _)
    (keeps_if (same l (bytes "signBits")) (equals-keeps R.counted counted-keeps) (keeps_if (same l (bytes "range")) (equals-keeps R.bounds bounds-keep) refuse-keeps))))))

pub attribute-takes : Takes R.attribute
unfolding R.attribute
attribute-takes =
    takes_then (expect-takes T.open_paren)
    (λ u.
    keeps_then (takes-keeps demand_takes)
    (λ t. keeps_if (eqb t.kind T.known_bits) (closed-keeps _) (keeps_if (eqb t.kind T.ident) (named-keeps t.letters) refuse-keeps)))

demanded_keeps : Keeps R.demanded_pattern
unfolding R.demanded_pattern
demanded_keeps = keeps_then (expect-keeps T.int) (λ l. keeps_if (eqb (count bit l) (length l)) (closed-keeps _) refuse-keeps)

pub root_attribute_takes : Takes R.root_attribute
unfolding R.root_attribute
root_attribute_takes =
    takes_then (expect-takes T.open_paren)
    (λ u.
    keeps_then (expect-keeps T.ident)
    (λ l. keeps_if (same l (bytes "harvestedFromUse")) (closed-keeps _) (keeps_if (same l (bytes "demandedBits")) (equals-keeps R.demanded_pattern demanded_keeps) refuse-keeps)))

pub attributes_keep : {A : Type 0} (one : P A) → Takes one → (fuel : ℕ) → Keeps (R.attributes one fuel)
unfolding R.attributes
attributes_keep one k zero = refuse-keeps
attributes_keep one k (suc fuel) =
    keeps_then look_keeps
    (λ t. keeps_if (eqb t.kind T.open_paren) (keeps_then (takes-keeps k) (λ a. keeps_then (attributes_keep one k fuel) (λ l. give-keeps _))) (give-keeps _))

-- with the fuel that a state asks for
pub here-keeps : {A : Type 0} (p : ℕ → P A) → ((fuel : ℕ) → Keeps (p fuel)) → Keeps (λ w. p (fuel_of w) w)
here-keeps p k = record { by = λ n w s h. (k (fuel_of w)).by n w s h }

side-takes : Takes R.right_side
unfolding R.right_side
side-takes =
    takes_then (expect-takes T.ident)
    (λ l.
    keeps_if (same l (bytes "var")) (give-keeps _)
    (keeps_if (same l (bytes "block")) (keeps_then (takes-keeps (field-takes 32)) (λ k. give-keeps _))
    (keeps_if (same l (bytes "phi")) (keeps_then (expect-keeps T.val_name) (λ b. keeps_then (blocked_keeps b) (λ n. keeps_then (further-keeps n) (λ o. give-keeps _))))
    (keeps_if (same l (bytes "reservedinst")) (give-keeps _)
    (keeps_if (same l (bytes "reservedconst")) (give-keeps _)
    (keeps_if (ltb (instruction_of l) 59) (keeps_then (operands_keep (arity_of (instruction_of l))) (λ o. give-keeps _)) refuse-keeps))))))

pub assigned_takes : Takes R.assigned
unfolding R.assigned
assigned_takes =
    takes_then (expect-takes T.val_name)
    (λ n.
    keeps_then (fresh_keeps n)
    (λ u.
    keeps_then typing-keeps
    (λ y.
    keeps_then (expect-keeps T.equals)
    (λ u. keeps_then (takes-keeps side-takes) (λ q. keeps_then (here-keeps (R.attributes R.attribute) (attributes_keep R.attribute attribute-takes)) (λ l. enter_keeps _))))))

pub condition-takes : Takes R.condition
unfolding R.condition
condition-takes = takes_then (keyword_takes (bytes "pc")) (λ u. keeps_then operand-keeps (λ x. keeps_then operand-keeps (λ y. enter_keeps _)))

pub block-condition-takes : Takes R.block_condition
unfolding R.block_condition
block-condition-takes =
    takes_then (keyword_takes (bytes "blockpc"))
    (λ u.
    keeps_then (expect-keeps T.val_name)
    (λ b. keeps_then (blocked_keeps b) (λ n. keeps_then (takes-keeps (field-takes 32)) (λ k. keeps_then operand-keeps (λ x. keeps_then operand-keeps (λ y. enter_keeps _))))))

-- one statement, and then others
more_keeps : (p : P Statement) (more : P (List Statement)) → Takes p → Keeps more → Keeps (R.◌>>=◌ p (λ a. R.◌>>=◌ more (λ l. R.give (a ∷ l))))
more_keeps p more k l = keeps_then (takes-keeps k) (λ a. keeps_then l (λ t. give-keeps _))

pub statements_keep : (fuel : ℕ) → Keeps (R.statements fuel)
unfolding R.statements
statements_keep zero = refuse-keeps
statements_keep (suc fuel) =
    keeps_then look_keeps
    (λ t.
    keeps_if (eqb t.kind T.val_name) (more_keeps R.assigned (R.statements fuel) assigned_takes (statements_keep fuel))
    (keeps_if (R.is (bytes "pc") t) (more_keeps R.condition (R.statements fuel) condition-takes (statements_keep fuel))
    (keeps_if (R.is (bytes "blockpc") t) (more_keeps R.block_condition (R.statements fuel) block-condition-takes (statements_keep fuel)) (give-keeps _))))

statements-here : Keeps R.statements_here
statements-here = here-keeps R.statements statements_keep

roots-here : Keeps (R.attributes_here R.root_attribute)
roots-here = here-keeps (R.attributes R.root_attribute) (attributes_keep R.root_attribute root_attribute_takes)

inferred_keeps : Keeps R.inferred
unfolding R.inferred
inferred_keeps = keeps_then (expect-keeps T.val_name) (λ n. keeps_then (known-keeps n) (λ u. keeps_then roots-here (λ l. give-keeps _)))

candidate-keeps : (t : List Statement) → Keeps (R.candidate t)
unfolding R.candidate
candidate-keeps t = keeps_then operand-keeps (λ x. keeps_then operand-keeps (λ y. keeps_then roots-here (λ l. give-keeps _)))

pair_keeps : (t : List Statement) → Keeps (R.pair t)
unfolding R.pair
pair_keeps t =
    keeps_then inferred_keeps
    (λ i. keeps_then statements-here (λ u. keeps_then (takes-keeps (keyword_takes (bytes "result"))) (λ z. keeps_then operand-keeps (λ o. give-keeps _))))

replacement-takes : Takes R.replacement
unfolding R.replacement
replacement-takes =
    then-takes statements-here
    (λ t. takes_then (expect-takes T.ident) (λ l. keeps_if (same l (bytes "infer")) (pair_keeps t) (keeps_if (same l (bytes "cand")) (candidate-keeps t) refuse-keeps)))

left-takes : Takes R.left_hand_side
unfolding R.left_hand_side
left-takes = then-takes statements-here (λ t. takes_then (keyword_takes (bytes "infer")) (λ u. keeps_then inferred_keeps (λ i. give-keeps _)))

right_takes : Takes R.right_hand_side
unfolding R.right_hand_side
right_takes = then-takes statements-here (λ t. takes_then (keyword_takes (bytes "result")) (λ u. keeps_then operand-keeps (λ o. give-keeps _)))

pub item_takes : (e : Entry) → Takes (item_of e)
item_takes replacements = replacement-takes
item_takes left_hand_sides = left-takes
item_takes right_hand_sides = right_takes
