-- How long each part of a sentence prints: no part needs more than two bytes for each byte of its tokens, and each statement is listed once at most.
-- Assumes nothing.
use mathlib.Core.Path.{◌≡◌, refl, ap}
use mathlib.Core.Logic.{inl, inr}
use mathlib.Core.List.{List, [], ◌∷◌, ◌++◌}
use Prim.Native.Nat.{ℕ, ◌+◌, ◌*◌, ◌≤◌}
use native.Mathlib.Omega.{arith}
use lib.ListN.{length, length-append}
use Rattle.rules.specs.declared.Entry.{Entry}
use Rattle.rules.specs.Bytes.{bytes}
use Rattle.rules.specs.Integers.{decimal}
use Rattle.rules.specs.Instructions.{instruction_name}
use Rattle.rules.specs.Syntax as syntax
use Rattle.rules.specs.Syntax.{Name}
use Rattle.rules.specs.Printing as print
use Rattle.rules.specs.Meaning.{Mem}
use Rattle.rules.specs.Listing.{listed_before, listed_between}
use Rattle.proof_tails.proofs.Tails.{line-tail}
use Rattle.bynames.proofs.Listed.{Lists}
use Rattle.bynames.proofs.Costs.{costs, listed_cost}
use Rattle.rules.specs.Grammar.{Token, equals, close_paren, Scope, Typing, no_type, a_type, Operand, a_value, a_constant, Further, no_further, one_further, Operands, no_operands, some_operands, AttributeInner, a_known_bits, power_of_two, is_negative, non_negative, non_zero, has_external_uses, sign_bits, in_range, RootAttributeInner, demanded_bits, harvested_from_use, Attributes, no_attributes, one_attribute, RightSide, a_var, a_block, a_phi, a_reservedinst, a_reservedconst, an_instruction, Statement, an_assignment, a_pc, a_blockpc, Statements, no_statements, one_statement, Infer, an_infer, Result, a_result, Cand, a_cand, Item, a_pair, a_candidate, a_left_hand_side, a_right_hand_side, Items, no_items, one_item}
use Rattle.grammar.proofs.Shortest.{integer-short, field-short, width_short}
use Rattle.grammar.proofs.Weights.{at_least_lem, weights, weights_append}

-- ---- operands
typing-long : {t : List Token} {y : syntax.Typing} → Typing t y → (r : List ℕ) → length (print.typing y r) ≤ weights t + length r
typing-long no_type r = omega arith
typing-long (a_type {w} {n} e) r = omega (arith, length-append (decimal n) r, width_short w n e, (at_least_lem 1 (length w)).1)

module _ {s : Scope} where
  operand-long : {t : List Token} {o : syntax.Operand} → Operand s t o → (r : List ℕ) → length (print.operand o r) ≤ weights t + length r
  operand-long (a_value {n} e) r = omega (arith, length-append n r, (at_least_lem 2 (length n)).1)
  operand-long (a_constant {w} {c} {y = y} e d) r = omega (arith, length-append (decimal c) (print.typing y r), integer-short w c e, typing-long d r, (at_least_lem 1 (length w)).1)

  operand_some : {t : List Token} {o : syntax.Operand} → Operand s t o → 1 ≤ weights t
  operand_some (a_value {n} e) = omega (arith, (at_least_lem 2 (length n)).0)
  operand_some (a_constant {w} e d) = omega (arith, (at_least_lem 1 (length w)).0)

  further-long : {t : List Token} {l : List syntax.Operand} → Further s t l → (r : List ℕ) → length (print.further l r) ≤ 2 * weights t + length r
  further-long no_further r = omega arith
  further-long (one_further {t} {u} {l = l} d f) r = omega (arith, operand-long d (print.further l r), further-long f r, weights_append t u)

  operands-long : {t : List Token} {l : List syntax.Operand} → Operands s t l → (r : List ℕ) → length (print.operands l r) ≤ 2 * weights t + 1 + length r
  operands-long no_operands r = omega arith
  operands-long (some_operands {t} {u} {l = l} d f) r = omega (arith, operand-long d (print.further l r), further-long f r, weights_append t u)

-- ---- attributes
attribute-long : {t : List Token} {a : syntax.Attribute} → AttributeInner t a → (r : List ℕ) → length (print.attribute a r) ≤ weights t + length r
attribute-long (a_known_bits {p}) r = omega (arith, length-append p r)
attribute-long power_of_two r = omega (arith, (at_least_lem 1 10).1)
attribute-long is_negative r = omega (arith, (at_least_lem 1 8).1)
attribute-long non_negative r = omega (arith, (at_least_lem 1 11).1)
attribute-long non_zero r = omega (arith, (at_least_lem 1 7).1)
attribute-long has_external_uses r = omega (arith, (at_least_lem 1 15).1)
attribute-long (sign_bits {w} {n} e) r = omega (arith, (at_least_lem 1 8).1, length-append (decimal n) r, field-short 8 w n e, (at_least_lem 1 (length w)).1)
attribute-long (in_range {v} {w} {a} {b} d e) r =
    omega (
      arith,
      (at_least_lem 1 5).1,
      length-append (decimal a) (bytes "," ++ (decimal b ++ (bytes ")" ++ r))),
      length-append (decimal b) (bytes ")" ++ r),
      integer-short v a d,
      integer-short w b e,
      (at_least_lem 1 (length v)).1,
      (at_least_lem 1 (length w)).1,
    )

root_attribute_long : {t : List Token} {a : syntax.RootAttribute} → RootAttributeInner t a → (r : List ℕ) → length (print.root_attribute a r) ≤ weights t + length r
root_attribute_long (demanded_bits {w} e) r = omega (arith, (at_least_lem 1 12).1, length-append w r, (at_least_lem 1 (length w)).1)
root_attribute_long harvested_from_use r = omega (arith, (at_least_lem 1 16).1)

-- a sort of attributes, and how one prints
record Sort {A : Type 0} (Inner : List Token → A → Type 0) (one : A → List ℕ → List ℕ) : Type 0 where
  long : {t : List Token} {a : A} → Inner t a → (r : List ℕ) → length (one a r) ≤ weights t + length r

own : Sort AttributeInner print.attribute
own = record { long = attribute-long }

root : Sort RootAttributeInner print.root_attribute
root = record { long = root_attribute_long }

attributes-long : {A : Type 0} {Inner : List Token → A → Type 0} {one : A → List ℕ → List ℕ} → Sort Inner one → {t : List Token} {l : List A} → Attributes Inner t l → (r : List ℕ)
    → length (print.attributes one l r) ≤ 2 * weights t + length r
attributes-long sort no_attributes r = omega arith
attributes-long {one = one} sort (one_attribute {t} {u} {l = l} d f) r =
    omega (arith, sort.long d (bytes ")" ++ print.attributes one l r), attributes-long sort f r, weights_append t (close_paren ∷ u))

-- ---- statements
side-long : {s : Scope} {t : List Token} {q : syntax.RightSide} → RightSide s t q → (r : List ℕ) → length (print.side q r) ≤ 2 * weights t + length r
side-long a_var r = omega (arith, (at_least_lem 1 3).1)
side-long (a_block {w} {k} e) r = omega (arith, (at_least_lem 1 5).1, length-append (decimal k) r, field-short 32 w k e, (at_least_lem 1 (length w)).1)
side-long (a_phi {b} {l = l} e f) r = omega (arith, (at_least_lem 1 3).1, length-append b (print.further l r), further-long f r, (at_least_lem 2 (length b)).1)
side-long a_reservedinst r = omega (arith, (at_least_lem 1 12).1)
side-long a_reservedconst r = omega (arith, (at_least_lem 1 13).1)
side-long (an_instruction {i} {l = l} e a d) r =
    omega (arith, (at_least_lem 1 (length (instruction_name i))).0, (at_least_lem 1 (length (instruction_name i))).1, length-append (instruction_name i) (print.operands l r), operands-long d r)

statement-long : {s : Scope} {t : List Token} {x : syntax.Statement} → Statement s t x → (r : List ℕ) → length (print.line x r) ≤ 2 * weights t + length r
statement-long (an_assignment {n} {t} {u} {v} {y} {r = q} {l = l} e a b c) r =
    let z : List ℕ = print.attributes print.attribute l (print.feed r) in
    omega (
      arith,
      (at_least_lem 2 (length n)).0,
      (at_least_lem 2 (length n)).1,
      length-append n (print.typing y (bytes " = " ++ print.side q z)),
      typing-long a (bytes " = " ++ print.side q z),
      side-long b z,
      attributes-long own c (print.feed r),
      weights_append t (equals ∷ (u ++ v)),
      weights_append u v,
    )
statement-long (a_pc {t} {u} {x} {y} d e) r =
    omega (arith, (at_least_lem 1 2).1, operand-long d (bytes " " ++ print.operand y (print.feed r)), operand-long e (print.feed r), operand_some d, operand_some e, weights_append t u)
statement-long (a_blockpc {b} {k = k} {w} {t} {u} {x} {y} f g d e) r =
    let z : List ℕ = print.operand x (bytes " " ++ print.operand y (print.feed r)) in
    omega (
      arith,
      (at_least_lem 1 7).1,
      (at_least_lem 2 (length b)).1,
      (at_least_lem 1 (length w)).1,
      length-append b (bytes " " ++ (decimal k ++ z)),
      length-append (decimal k) z,
      field-short 32 w k g,
      operand-long d (bytes " " ++ print.operand y (print.feed r)),
      operand-long e (print.feed r),
      weights_append t u,
    )

-- ---- lines: each prints by itself
cost : syntax.Statement → ℕ
cost x = length (print.line x [])

lines_cost : (l : List syntax.Statement) (r : List ℕ) → length (print.lines l r) ≡ costs cost l + length r
unfolding cost
lines_cost [] r = omega arith
lines_cost (x ∷ l) r = omega (arith, ap length (line-tail x (print.lines l r)), length-append (print.line x []) (print.lines l r), lines_cost l r)

statements_cost : {s : Scope} {t : List Token} {l : List syntax.Statement} → Statements s t l → costs cost l ≤ 2 * weights t
unfolding cost
statements_cost no_statements = omega arith
statements_cost (one_statement {t = t} {u} d r) = omega (arith, statement-long d [], statements_cost r, weights_append t u)

-- ---- items
infer-long : {s : Scope} {t : List Token} {n : Name} {l : List syntax.RootAttribute} → Infer s t n l → (r : List ℕ) → length (print.infer_line n l r) ≤ 2 * weights t + length r
infer-long (an_infer {n} {l = l} e a) r = omega (arith, (at_least_lem 1 5).1, (at_least_lem 2 (length n)).1, length-append n (print.attributes print.root_attribute l (print.feed r)), attributes-long root a (print.feed r))

result-long : {s : Scope} {t : List Token} {o : syntax.Operand} → Result s t o → (r : List ℕ) → length (print.result_line o r) ≤ 2 * weights t + length r
result-long (a_result d) r = omega (arith, (at_least_lem 1 6).1, operand-long d (print.feed r))

cand-long : {s : Scope} {t : List Token} {c : syntax.Closing} → Cand s t c → (r : List ℕ) → (length (print.first_closing c r) ≤ 2 * weights t + length r) × (print.second_closing c r ≡ r)
cand-long (a_cand {t} {u} {v} {x} {y} {l} d e a) r =
    let z : List ℕ = print.attributes print.root_attribute l (print.feed r) in
    (omega (arith, (at_least_lem 1 4).1, operand-long d (bytes " " ++ print.operand y z), operand-long e z, attributes-long root a (print.feed r), weights_append t (u ++ v), weights_append u v), refl)

-- what an item prints, by its parts
item_length_lem : (x : syntax.Item) → Lists x → (f g m : ℕ) (r : List ℕ) → ((z : List ℕ) → length (print.first_closing x.closing z) ≤ f + length z) → length (print.second_closing x.closing r) ≤ g + length r
    → costs cost x.before + costs cost x.between ≤ m → length (print.printed x r) ≤ m + f + g + length r
unfolding print.printed
item_length_lem x lists f g m r first second all =
    let y : List ℕ = print.second_closing x.closing r in
    let z : List ℕ = print.lines (listed_between x) y in
    omega (arith, lines_cost (listed_before x) (print.first_closing x.closing z), first z, lines_cost (listed_between x) y, listed_cost cost x lists)

item_long : {e : Entry} {t : List Token} {x : syntax.Item} → Item e t x → Lists x → (r : List ℕ) → length (print.printed x r) ≤ 2 * weights t + length r
item_long (a_pair {t} {u} {v} {w} {b} {d} {n} {l} {o} p i q k) lists r =
    omega (
      arith,
      item_length_lem (record { before = b; between = d; closing = syntax.infer_result n l o }) lists (2 * weights u) (2 * weights w) (2 * weights t + 2 * weights v) r (infer-long i) (result-long k r) (omega (arith, statements_cost p, statements_cost q)),
      weights_append t (u ++ (v ++ w)),
      weights_append u (v ++ w),
      weights_append v w,
    )
item_long (a_candidate {t} {u} {b} {c} p k) lists r =
    omega (
      arith,
      item_length_lem (record { before = b; between = []; closing = c }) lists (2 * weights u) 0 (2 * weights t) r (λ z. (cand-long k z).0) (rw (cand-long k r).1 (omega arith)) (omega (arith, statements_cost p)),
      weights_append t u,
    )
item_long (a_left_hand_side {t} {u} {b} {n} {l} p i) lists r =
    omega (
      arith,
      item_length_lem (record { before = b; between = []; closing = syntax.infer n l }) lists (2 * weights u) 0 (2 * weights t) r (infer-long i) (omega arith) (omega (arith, statements_cost p)),
      weights_append t u,
    )
item_long (a_right_hand_side {t} {u} {b} {o} p k) lists r =
    omega (
      arith,
      item_length_lem (record { before = b; between = []; closing = syntax.result o }) lists (2 * weights u) 0 (2 * weights t) r (result-long k) (omega arith) (omega (arith, statements_cost p)),
      weights_append t u,
    )

pub items-long : {e : Entry} {t : List Token} {xs : List syntax.Item} → Items e t xs → ((x : syntax.Item) → Mem x xs → Lists x) → length (print.printed_all xs) ≤ 2 * weights t
items-long no_items f = omega arith
items-long (one_item {t} {u} {x} {l} d r) f = omega (arith, item_long d (f x (inl refl)) (print.printed_all l), items-long r (λ z h. f z (inr h)), weights_append t u)
