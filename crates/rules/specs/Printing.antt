-- Section 8 of docs/RULES.md. Printing. Each definition says what stands before a text r.
-- Assumes nothing.
use Rattle.std.specs.Prelude.{ℕ, List, [], ◌∷◌, ◌++◌}
use Rattle.rules.specs.Bytes.{bytes}
use Rattle.rules.specs.Integers.{decimal}
use Rattle.rules.specs.Instructions.{instruction_name}
use Rattle.rules.specs.Syntax.{Name, Typing, untyped, typed, Operand, value, constant, RightSide, var, block, phi, reservedinst, reservedconst, instruction, Attribute, known_bits, power_of_two, negative, non_negative, non_zero, has_external_uses, sign_bits, range, RootAttribute, demanded_bits, harvested_from_use, Statement, assignment, pc, blockpc, Closing, infer_result, cand, infer, result, Item}
use Rattle.rules.specs.Listing.{listed_before, listed_between}

abbrev pub name : Name → List ℕ → List ℕ
name n r = n ++ r

abbrev pub number : ℕ → List ℕ → List ℕ
number n r = decimal n ++ r

abbrev pub feed : List ℕ → List ℕ
feed r = 10 ∷ r

abbrev pub typing : Typing → List ℕ → List ℕ
typing untyped r = r
typing (typed w) r = bytes ":i" ++ number w r

abbrev pub operand : Operand → List ℕ → List ℕ
operand (value n) r = name n r
operand (constant c t) r = number c (typing t r)

-- operands, each after a comma; and operands with commas between
abbrev pub further : List Operand → List ℕ → List ℕ
further [] r = r
further (o ∷ l) r = bytes ", " ++ operand o (further l r)

abbrev pub operands : List Operand → List ℕ → List ℕ
operands [] r = r
operands (o ∷ l) r = bytes " " ++ operand o (further l r)

abbrev pub side : RightSide → List ℕ → List ℕ
side var r = bytes "var" ++ r
side (block k) r = bytes "block " ++ number k r
side (phi b l) r = bytes "phi " ++ name b (further l r)
side reservedinst r = bytes "reservedinst" ++ r
side reservedconst r = bytes "reservedconst" ++ r
side (instruction k l) r = instruction_name k ++ operands l r

-- what stands between an attribute's parentheses
abbrev pub attribute : Attribute → List ℕ → List ℕ
attribute (known_bits p) r = bytes "knownBits=" ++ (p ++ r)
attribute power_of_two r = bytes "powerOfTwo" ++ r
attribute negative r = bytes "negative" ++ r
attribute non_negative r = bytes "nonNegative" ++ r
attribute non_zero r = bytes "nonZero" ++ r
attribute has_external_uses r = bytes "hasExternalUses" ++ r
attribute (sign_bits n) r = bytes "signBits=" ++ number n r
attribute (range a b) r = bytes "range=[" ++ number a (bytes "," ++ number b (bytes ")" ++ r))

abbrev pub root_attribute : RootAttribute → List ℕ → List ℕ
root_attribute (demanded_bits p) r = bytes "demandedBits=" ++ (p ++ r)
root_attribute harvested_from_use r = bytes "harvestedFromUse" ++ r

-- attributes of either sort, each in parentheses after a space
abbrev pub attributes : {A : Type 0} → (A → List ℕ → List ℕ) → List A → List ℕ → List ℕ
attributes one [] r = r
attributes one (a ∷ l) r = bytes " (" ++ one a (bytes ")" ++ attributes one l r)

-- a statement's line; conditions are never listed, and stand here as the crate prints them
abbrev pub line : Statement → List ℕ → List ℕ
line (assignment a) r = name a.name (typing a.typing (bytes " = " ++ side a.side (attributes attribute a.attributes (feed r))))
line (pc x y) r = bytes "pc " ++ operand x (bytes " " ++ operand y (feed r))
line (blockpc b k x y) r = bytes "blockpc " ++ name b (bytes " " ++ number k (operand x (bytes " " ++ operand y (feed r))))

abbrev pub lines : List Statement → List ℕ → List ℕ
lines [] r = r
lines (s ∷ l) r = line s (lines l r)

abbrev pub infer_line : Name → List RootAttribute → List ℕ → List ℕ
infer_line n l r = bytes "infer " ++ name n (attributes root_attribute l (feed r))

abbrev pub result_line : Operand → List ℕ → List ℕ
result_line o r = bytes "result " ++ operand o (feed r)

abbrev pub cand_line : Operand → Operand → List RootAttribute → List ℕ → List ℕ
cand_line x y l r = bytes "cand " ++ operand x (bytes " " ++ operand y (attributes root_attribute l (feed r)))

-- the first closing line, and the second, if there is one
abbrev pub first_closing : Closing → List ℕ → List ℕ
first_closing (infer_result n l o) r = infer_line n l r
first_closing (cand x y l) r = cand_line x y l r
first_closing (infer n l) r = infer_line n l r
first_closing (result o) r = result_line o r

abbrev pub second_closing : Closing → List ℕ → List ℕ
second_closing (infer_result n l o) r = result_line o r
second_closing (cand x y l) r = r
second_closing (infer n l) r = r
second_closing (result o) r = r

-- an item of statements t before its first closing line and u between infer and result
abbrev pub laid : List Statement → List Statement → Closing → List ℕ → List ℕ
laid t u c r = lines t (first_closing c (lines u (second_closing c r)))

unfoldable pub printed : Item → List ℕ → List ℕ
printed x r = laid (listed_before x) (listed_between x) x.closing r

-- a list prints as its items' prints one after another
abbrev pub printed_all : List Item → List ℕ
printed_all [] = []
printed_all (x ∷ xs) = printed x (printed_all xs)
