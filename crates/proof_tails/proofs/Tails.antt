-- What a print puts before a tail is the same alone, followed by the tail: each piece, each right side and each line.
-- Assumes nothing.
use mathlib.Core.Path.{◌≡◌, refl, sym, ap, ◌∙◌}
use mathlib.Core.List.{List, [], ◌∷◌, ◌++◌, append_assoc}
use Prim.Native.Nat.{ℕ}
use Rattle.rules.specs.Bytes.{bytes}
use Rattle.rules.specs.Integers.{decimal}
use Rattle.rules.specs.Instructions.{instruction_name}
use Rattle.rules.specs.Syntax.{Name, Typing, untyped, typed, Operand, value, constant, RightSide, var, block, phi, reservedinst, reservedconst, instruction, Attribute, known_bits, power_of_two, negative, non_negative, non_zero, has_external_uses, sign_bits, range, RootAttribute, demanded_bits, harvested_from_use, Statement, assignment, pc, blockpc, Closing, infer_result, cand, infer, result}
use Rattle.rules.specs.Printing.{feed, typing, operand, further, operands, side, attribute, root_attribute, attributes, line, lines, infer_line, result_line, cand_line, first_closing, second_closing}

-- ---- pieces
-- a whole is a piece followed by the rest
pub record Tailed (whole piece rest : List ℕ) : Type 0 where
  pub is : whole ≡ piece ++ rest

pub said : {whole piece rest : List ℕ} → whole ≡ piece ++ rest → Tailed whole piece rest
said e = record { is = e }

-- at the rest, behind a list, and behind a piece
pub end : {r : List ℕ} → Tailed r [] r
end = record { is = refl }

pub behind : (a : List ℕ) {b c r : List ℕ} → Tailed b c r → Tailed (a ++ b) (a ++ c) r
behind a {b} {c} {r} t = said (ap (λ (l : List ℕ). a ++ l) t.is ∙ sym (append_assoc a c r))

pub through : (f : List ℕ → List ℕ) → ((r : List ℕ) → f r ≡ f [] ++ r) → {b c r : List ℕ} → Tailed b c r → Tailed (f b) (f c) r
through f tail {b} {c} {r} t = said (tail b ∙ (behind (f []) t).is ∙ ap (λ (l : List ℕ). l ++ r) (sym (tail c)))

pub typing-tail : (t : Typing) (r : List ℕ) → typing t r ≡ typing t [] ++ r
typing-tail untyped r = refl
typing-tail (typed w) r = (behind (bytes ":i") (behind (decimal w) end)).is

pub operand-tail : (o : Operand) (r : List ℕ) → operand o r ≡ operand o [] ++ r
operand-tail (value n) r = (behind n end).is
operand-tail (constant c t) r = (behind (decimal c) (through (typing t) (typing-tail t) end)).is

pub further_tail : (l : List Operand) (r : List ℕ) → further l r ≡ further l [] ++ r
further_tail [] r = refl
further_tail (o ∷ l) r = (behind (bytes ", ") (through (operand o) (operand-tail o) (said (further_tail l r)))).is

pub operands-tail : (l : List Operand) (r : List ℕ) → operands l r ≡ operands l [] ++ r
operands-tail [] r = refl
operands-tail (o ∷ l) r = (behind (bytes " ") (through (operand o) (operand-tail o) (said (further_tail l r)))).is

pub attribute-tail : (a : Attribute) (r : List ℕ) → attribute a r ≡ attribute a [] ++ r
attribute-tail (known_bits p) r = (behind (bytes "knownBits=") (behind p end)).is
attribute-tail power_of_two r = refl
attribute-tail negative r = refl
attribute-tail non_negative r = refl
attribute-tail non_zero r = refl
attribute-tail has_external_uses r = refl
attribute-tail (sign_bits n) r = (behind (bytes "signBits=") (behind (decimal n) end)).is
attribute-tail (range a b) r = (behind (bytes "range=[") (behind (decimal a) (behind (bytes ",") (behind (decimal b) (behind (bytes ")") end))))).is

pub root_attribute_tail : (a : RootAttribute) (r : List ℕ) → root_attribute a r ≡ root_attribute a [] ++ r
root_attribute_tail (demanded_bits p) r = (behind (bytes "demandedBits=") (behind p end)).is
root_attribute_tail harvested_from_use r = refl

-- attributes of either sort
module _ {A : Type 0} (one : A → List ℕ → List ℕ) (tail : (a : A) (r : List ℕ) → one a r ≡ one a [] ++ r) where
  pub attributes-tail : (l : List A) (r : List ℕ) → attributes one l r ≡ attributes one l [] ++ r
  attributes-tail [] r = refl
  attributes-tail (a ∷ l) r = (behind (bytes " (") (through (one a) (tail a) (behind (bytes ")") (said (attributes-tail l r))))).is

-- two operands with a space between
pub pair_tail : (x y : Operand) (r : List ℕ) → operand x (bytes " " ++ operand y r) ≡ operand x (bytes " " ++ operand y []) ++ r
pair_tail x y r = (through (operand x) (operand-tail x) (behind (bytes " ") (through (operand y) (operand-tail y) end))).is

-- ---- right sides and lines
pub side-tail : (s : RightSide) (r : List ℕ) → side s r ≡ side s [] ++ r
side-tail var r = refl
side-tail (block k) r = (behind (bytes "block ") (behind (decimal k) end)).is
side-tail (phi b l) r = (behind (bytes "phi ") (behind b (said (further_tail l r)))).is
side-tail reservedinst r = refl
side-tail reservedconst r = refl
side-tail (instruction k l) r = (behind (instruction_name k) (said (operands-tail l r))).is

pub line-tail : (s : Statement) (r : List ℕ) → line s r ≡ line s [] ++ r
line-tail (assignment a) r =
    (behind a.name
    (through (typing a.typing) (typing-tail a.typing)
    (behind (bytes " = ")
    (through (side a.side) (side-tail a.side)
    (through (attributes attribute a.attributes) (attributes-tail attribute attribute-tail a.attributes)
    (behind (feed []) end)))))).is
line-tail (pc x y) r = (behind (bytes "pc ") (through (λ t. operand x (bytes " " ++ operand y t)) (pair_tail x y) (behind (feed []) end))).is
line-tail (blockpc b k x y) r =
    (behind (bytes "blockpc ")
    (behind b
    (behind (bytes " ")
    (behind (decimal k)
    (through (λ t. operand x (bytes " " ++ operand y t)) (pair_tail x y) (behind (feed []) end)))))).is

pub lines-tail : (l : List Statement) (r : List ℕ) → lines l r ≡ lines l [] ++ r
lines-tail [] r = refl
lines-tail (s ∷ l) r = (through (line s) (line-tail s) (said (lines-tail l r))).is

-- closing lines
pub infer-tail : (n : Name) (l : List RootAttribute) (r : List ℕ) → infer_line n l r ≡ infer_line n l [] ++ r
infer-tail n l r =
    (behind (bytes "infer ")
    (behind n
    (through (attributes root_attribute l) (attributes-tail root_attribute root_attribute_tail l) (behind (feed []) end)))).is

pub result-tail : (o : Operand) (r : List ℕ) → result_line o r ≡ result_line o [] ++ r
result-tail o r = (behind (bytes "result ") (through (operand o) (operand-tail o) (behind (feed []) end))).is

pub cand-tail : (x y : Operand) (l : List RootAttribute) (r : List ℕ) → cand_line x y l r ≡ cand_line x y l [] ++ r
cand-tail x y l r =
    (behind (bytes "cand ")
    (through (λ t. operand x (bytes " " ++ operand y t)) (pair_tail x y)
    (through (attributes root_attribute l) (attributes-tail root_attribute root_attribute_tail l) (behind (feed []) end)))).is

pub first-closing-tail : (c : Closing) (r : List ℕ) → first_closing c r ≡ first_closing c [] ++ r
first-closing-tail (infer_result n l o) r = infer-tail n l r
first-closing-tail (cand x y l) r = cand-tail x y l r
first-closing-tail (infer n l) r = infer-tail n l r
first-closing-tail (result o) r = result-tail o r

pub second-closing-tail : (c : Closing) (r : List ℕ) → second_closing c r ≡ second_closing c [] ++ r
second-closing-tail (infer_result n l o) r = result-tail o r
second-closing-tail (cand x y l) r = refl
second-closing-tail (infer n l) r = refl
second-closing-tail (result o) r = refl
