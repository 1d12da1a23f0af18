-- Lines of a print are lines: each is the same bytes whatever stands behind it, and has one line feed, its last byte.
-- Assumes nothing.
use Prim.Native.Nat.{ℕ, zero, suc, ◌≤◌, ◌<◌, ◌^◌}
use mathlib.Core.Path.{◌≡◌, refl, sym, ap, ◌∙◌, subst}
use mathlib.Core.Bool.{Bool, true, ◌&&◌}
use mathlib.Core.List.{List, [], ◌∷◌, ◌++◌, append_assoc}
use native.Mathlib.Nat.{le_of_suc-le-suc, not-suc-le-zero}
use native.Mathlib.Omega.{arith}
use borrow.Author.Tests.{leb-true, eqb-true, ne_eqb}
use lib.Dec.{eqb, leb}
use lib.ListN.{length, get_or}
use Rattle.rules.specs.Bytes.{bytes, inside, digit, letter, name_byte, pattern_byte, line_byte, bit}
use Rattle.rules.specs.Integers.{decimal}
use Rattle.rules.specs.Instructions.{Instruction, instructions, instruction_name, ◌takes◌}
use Rattle.rules.specs.Tokens.{int_start}
use Rattle.rules.specs.Syntax.{Name, Typing, untyped, typed, Operand, value, constant, RightSide, var, block, phi, reservedinst, reservedconst, instruction, Attribute, known_bits, power_of_two, negative, non_negative, non_zero, has_external_uses, sign_bits, range, RootAttribute, demanded_bits, harvested_from_use, Assignment, assignment, Closing, infer_result, cand, infer, result}
use Rattle.rules.specs.Printing.{name, number, feed, typing, operand, further, operands, side, attribute, root_attribute, attributes, line, infer_line, result_line, cand_line, first_closing}
use Rattle.rules.specs.Meaning.{All, Each}
use Rattle.promises.specs.Lines.{unfed}
use Rattle.laws.proofs.Tests.{and_left, and_right}
use Rattle.bynames.proofs.WellFormed.{IsName, IsPattern, TypingOk, OperandOk, SideOk, AttributeOk, RootAttributeOk, AssignmentOk, ClosingOk}
use Rattle.bynames.proofs.Tokens.{or_cases}
use Rattle.bynames.proofs.Decimals.{decimal-printed}
use Rattle.bynames.proofs.Ascii.{small}

-- a part of a line: what it puts before any text is the same bytes, none a line feed
pub record Part (f : List ℕ → List ℕ) : Type 0 where
  pub spelt : List ℕ
  pub plain : unfed spelt ≡ true
  pub puts : (r : List ℕ) → f r ≡ spelt ++ r

-- a line: such bytes, and a line feed behind them
pub record Line (f : List ℕ → List ℕ) : Type 0 where
  pub spelt : List ℕ
  pub plain : unfed spelt ≡ true
  pub puts : (r : List ℕ) → f r ≡ spelt ++ feed r

-- A line is what it puts before nothing, and stands so before any text.
pub line-stands : {f : List ℕ → List ℕ} → Line f → (r : List ℕ) → f r ≡ f [] ++ r
line-stands {f} l r = l.puts r ∙ sym (ap (λ (s : List ℕ). s ++ r) (l.puts []) ∙ append_assoc l.spelt (feed []) r)

-- ---- bytes
unfed-append : (a b : List ℕ) → unfed a ≡ true → unfed b ≡ true → unfed (a ++ b) ≡ true
unfed-append [] b h k = k
unfed-append (x ∷ a) b h k = rw (and_left (line_byte x) (unfed a) h) (unfed-append a b (and_right (line_byte x) (unfed a) h) k)

-- a byte above 10 is no line feed
high_line : (b : ℕ) → 11 ≤ b → line_byte b ≡ true
unfolding line_byte
high_line b h = rw (ne_eqb b 10 (λ (q : b ≡ 10). omega arith)) refl

each-unfed : (p : ℕ → Bool) → ((b : ℕ) → p b ≡ true → 11 ≤ b) → (w : List ℕ) → Each p w → unfed w ≡ true
each-unfed p f [] a = refl
each-unfed p f (b ∷ w) a = rw (high_line b (f b a.0)) (each-unfed p f w a.1)

inside_high : (lo hi b : ℕ) → 11 ≤ lo → inside lo hi b ≡ true → 11 ≤ b
unfolding inside
inside_high lo hi b h e = omega (arith, leb-true lo b (and_left (leb lo b) (leb b hi) e))

is_high : (c b : ℕ) → 11 ≤ c → eqb b c ≡ true → 11 ≤ b
is_high c b h e = omega (arith, eqb-true b c e)

digit_high : (b : ℕ) → digit b ≡ true → 11 ≤ b
unfolding digit
digit_high b e = inside_high 48 57 b (omega arith) e

letter_high : (b : ℕ) → letter b ≡ true → 11 ≤ b
unfolding letter
letter_high b e = or_cases (inside 65 90 b) (inside 97 122 b) e (inside_high 65 90 b (omega arith)) (inside_high 97 122 b (omega arith))

name_high : (b : ℕ) → name_byte b ≡ true → 11 ≤ b
unfolding name_byte
name_high b e =
    or_cases (letter b) _ e (letter_high b)
    (λ e. or_cases (digit b) _ e (digit_high b) (λ e. or_cases (eqb b 95) (eqb b 46) e (is_high 95 b (omega arith)) (is_high 46 b (omega arith))))

pattern_high : (b : ℕ) → pattern_byte b ≡ true → 11 ≤ b
unfolding pattern_byte
pattern_high b e = or_cases (eqb b 48) _ e (is_high 48 b (omega arith)) (λ e. or_cases (eqb b 49) (eqb b 120) e (is_high 49 b (omega arith)) (is_high 120 b (omega arith)))

bit_high : (b : ℕ) → bit b ≡ true → 11 ≤ b
bit_high b e = or_cases (eqb b 48) (eqb b 49) e (is_high 48 b (omega arith)) (is_high 49 b (omega arith))

start_high : (b : ℕ) → int_start b ≡ true → 11 ≤ b
unfolding int_start
start_high b e = or_cases (eqb b 45) (digit b) e (is_high 45 b (omega arith)) (digit_high b)

-- ---- parts
nothing : Part (λ r. r)
nothing = record { spelt = []; plain = refl; puts = λ r. refl }

fixed : (w : List ℕ) → unfed w ≡ true → Part (λ r. w ++ r)
fixed w h = record { spelt = w; plain = h; puts = λ r. refl }

-- one part before another, and before a line feed
before : {f g : List ℕ → List ℕ} → Part f → Part g → Part (λ r. f (g r))
before {f} {g} x y =
    record {
      spelt = x.spelt ++ y.spelt;
      plain = unfed-append x.spelt y.spelt x.plain y.plain;
      puts = λ r. x.puts (g r) ∙ ap (λ (s : List ℕ). x.spelt ++ s) (y.puts r) ∙ sym (append_assoc x.spelt y.spelt r);
    }

fed : {f : List ℕ → List ℕ} → Part f → Line (λ r. f (feed r))
fed x = record { spelt = x.spelt; plain = x.plain; puts = λ r. x.puts (feed r) }

pattern-part : (p : ℕ → Bool) → ((b : ℕ) → p b ≡ true → 11 ≤ b) → (l : List ℕ) → IsPattern p l → Part (λ r. l ++ r)
pattern-part p f l h = fixed l (subst (λ (z : List ℕ). unfed z ≡ true) (sym h.spelt) (each-unfed p f (h.first ∷ h.rest) h.each))

name-part : (n : Name) → IsName n → Part (name n)
unfolding line_byte
name-part n h = fixed n (subst (λ (z : List ℕ). unfed z ≡ true) (sym h.spelt) (each-unfed name_byte name_high (h.first ∷ h.rest) h.each))

number-part : (c : ℕ) → c < 2 ^ 128 → Part (number c)
number-part c h =
    let p = (decimal-printed c h).token in
    fixed (decimal c) (subst (λ (z : List ℕ). unfed z ≡ true) (sym p.spelt) (rw (high_line p.first (start_high p.first p.starts)) (each-unfed digit digit_high p.rest p.each)))

typing-part : (y : Typing) → TypingOk y → Part (typing y)
unfolding line_byte
typing-part untyped o = nothing
typing-part (typed w) o = before (fixed (bytes ":i") refl) (number-part w (small 16 w refl o.1))

operand-part : (o : Operand) → OperandOk o → Part (operand o)
operand-part (value n) h = name-part n h
operand-part (constant c y) h = before (number-part c h.0) (typing-part y h.1)

further-part : (l : List Operand) → All OperandOk l → Part (further l)
unfolding line_byte
further-part [] h = nothing
further-part (o ∷ l) h = before (fixed (bytes ", ") refl) (before (operand-part o h.0) (further-part l h.1))

operands-part : (l : List Operand) → All OperandOk l → Part (operands l)
unfolding line_byte
operands-part [] h = nothing
operands-part (o ∷ l) h = before (fixed (bytes " ") refl) (before (operand-part o h.0) (further-part l h.1))

-- the instructions' names
abbrev all_unfed : List Instruction → Bool
all_unfed [] = true
all_unfed (i ∷ l) = unfed i.name && all_unfed l

all_unfed_lem : (l : List Instruction) (d : Instruction) (k : ℕ) → all_unfed l ≡ true → k < length l → unfed (get_or l k d).name ≡ true
all_unfed_lem [] d k e h = absurd (not-suc-le-zero h)
all_unfed_lem (i ∷ l) d zero e h = and_left (unfed i.name) (all_unfed l) e
all_unfed_lem (i ∷ l) d (suc k) e h = all_unfed_lem l d k (and_right (unfed i.name) (all_unfed l) e) (le_of_suc-le-suc h)

instruction-part : (i : ℕ) → i < 59 → Part (λ r. instruction_name i ++ r)
unfolding instruction_name line_byte
instruction-part i h = fixed (instruction_name i) (all_unfed_lem instructions ("" takes 0) i refl h)

side-part : (q : RightSide) → SideOk q → Part (side q)
unfolding line_byte
side-part var o = fixed (bytes "var") refl
side-part (block n) o = before (fixed (bytes "block ") refl) (number-part n (small 32 n refl o))
side-part (phi b l) o = before (fixed (bytes "phi ") refl) (before (name-part b o.0) (further-part l o.1))
side-part reservedinst o = fixed (bytes "reservedinst") refl
side-part reservedconst o = fixed (bytes "reservedconst") refl
side-part (instruction i l) o = before (instruction-part i o.0) (operands-part l o.2)

attribute-part : (a : Attribute) → AttributeOk a → Part (attribute a)
unfolding line_byte
attribute-part (known_bits p) o = before (fixed (bytes "knownBits=") refl) (pattern-part pattern_byte pattern_high p o)
attribute-part power_of_two o = fixed (bytes "powerOfTwo") refl
attribute-part negative o = fixed (bytes "negative") refl
attribute-part non_negative o = fixed (bytes "nonNegative") refl
attribute-part non_zero o = fixed (bytes "nonZero") refl
attribute-part has_external_uses o = fixed (bytes "hasExternalUses") refl
attribute-part (sign_bits n) o = before (fixed (bytes "signBits=") refl) (number-part n (small 8 n refl o))
attribute-part (range a b) o =
    before (fixed (bytes "range=[") refl) (before (number-part a o.0) (before (fixed (bytes ",") refl) (before (number-part b o.1) (fixed (bytes ")") refl))))

root_attribute_part : (a : RootAttribute) → RootAttributeOk a → Part (root_attribute a)
unfolding line_byte
root_attribute_part (demanded_bits p) o = before (fixed (bytes "demandedBits=") refl) (pattern-part bit bit_high p o)
root_attribute_part harvested_from_use o = fixed (bytes "harvestedFromUse") refl

attributes-part : {A : Type 0} (one : A → List ℕ → List ℕ) (Ok : A → Type 0) → ((a : A) → Ok a → Part (one a)) → (l : List A) → All Ok l → Part (attributes one l)
unfolding line_byte
attributes-part one Ok f [] h = nothing
attributes-part one Ok f (a ∷ l) h = before (fixed (bytes " (") refl) (before (f a h.0) (before (fixed (bytes ")") refl) (attributes-part one Ok f l h.1)))

roots-part : (l : List RootAttribute) → All RootAttributeOk l → Part (attributes root_attribute l)
roots-part = attributes-part root_attribute RootAttributeOk root_attribute_part

-- ---- lines
pub assignment-line : (a : Assignment) → AssignmentOk a → Line (line (assignment a))
unfolding line_byte
assignment-line a o =
    fed
    (before (name-part a.name o.name)
    (before (typing-part a.typing o.typing)
    (before (fixed (bytes " = ") refl)
    (before (side-part a.side o.side) (attributes-part attribute AttributeOk attribute-part a.attributes o.attributes)))))

infer-line : (n : Name) (l : List RootAttribute) → IsName n → All RootAttributeOk l → Line (infer_line n l)
unfolding line_byte
infer-line n l h k = fed (before (fixed (bytes "infer ") refl) (before (name-part n h) (roots-part l k)))

pub result-line : (o : Operand) → OperandOk o → Line (result_line o)
unfolding line_byte
result-line o h = fed (before (fixed (bytes "result ") refl) (operand-part o h))

cand-line : (x y : Operand) (l : List RootAttribute) → OperandOk x → OperandOk y → All RootAttributeOk l → Line (cand_line x y l)
unfolding line_byte
cand-line x y l h k m = fed (before (fixed (bytes "cand ") refl) (before (operand-part x h) (before (fixed (bytes " ") refl) (before (operand-part y k) (roots-part l m)))))

pub first-line : (c : Closing) → ClosingOk c → Line (first_closing c)
first-line (infer_result n l o) h = infer-line n l h.0 h.1
first-line (cand x y l) h = cand-line x y l h.0 h.1 h.2
first-line (infer n l) h = infer-line n l h.0 h.1
first-line (result o) h = result-line o h
