-- A print has ASCII bytes alone, so it is well-formed UTF-8.
-- Assumes nothing.
use mathlib.Core.Path.{◌≡◌, refl, sym, ap, subst}
use mathlib.Core.Bool.{Bool, true, ◌&&◌}
use mathlib.Core.List.{List, [], ◌∷◌, ◌++◌}
use Prim.Native.Nat.{ℕ, zero, suc, ◌≤◌, ◌<◌, ◌^◌}
use native.Mathlib.Nat.{le_trans, le_of_suc-le-suc, not-suc-le-zero}
use native.Mathlib.Omega.{arith}
use lib.Dec.{eqb, leb, leb-zero}
use lib.ListN.{length, get_or}
use borrow.Author.Tests.{leb-true, le-leb, eqb-true, eq-eqb}
use Rattle.rules.specs.Bytes.{bytes, inside, digit, letter, name_byte, pattern_byte, far, bit}
use Rattle.rules.specs.Utf8.{seq_len, checked}
use Rattle.std.specs.Prelude.{Ok}
use Rattle.rules.specs.Integers.{decimal}
use Rattle.rules.specs.Instructions.{Instruction, instructions, instruction_name, ◌takes◌}
use Rattle.rules.specs.Tokens.{int_start}
use Rattle.rules.specs.Syntax.{Name, Typing, untyped, typed, Operand, value, constant, RightSide, var, block, phi, reservedinst, reservedconst, instruction, Attribute, known_bits, power_of_two, negative, non_negative, non_zero, has_external_uses, sign_bits, range, RootAttribute, demanded_bits, harvested_from_use, Statement, assignment, pc, blockpc, Closing, infer_result, cand, infer, result, Item, onto}
use Rattle.rules.specs.Listing.{listed_before, listed_between}
use Rattle.rules.specs.Printing.{name, number, feed, typing, operand, further, operands, side, attribute, root_attribute, attributes, lines, first_closing, second_closing, printed, printed_all}
use Rattle.rules.specs.Meaning.{All, Each}
use Rattle.laws.proofs.Tests.{and_left, and_right}
use Rattle.bynames.proofs.WellFormed.{IsName, IsPattern, TypingOk, OperandOk, SideOk, AttributeOk, RootAttributeOk, AssignmentOk, ClosingOk, Wf}
use Rattle.bynames.proofs.Tokens.{or_cases}
use Rattle.bynames.proofs.Decimals.{decimal-printed}
use Rattle.bynames.proofs.Canon.{canon_wf}
use Rattle.bynames.proofs.Reader.{Entry}
use Rattle.bynames.proofs.BackLines.{Plain, wf_below}
use Rattle.bynames.proofs.BackLists.{Readable, plain_before, plain_between_lem}

abbrev pub ascii : List ℕ → Bool
ascii [] = true
ascii (b ∷ l) = leb b 127 && ascii l

-- ---- ASCII is well-formed UTF-8
one_long : (b : ℕ) (s : List ℕ) → leb b 127 ≡ true → seq_len (b ∷ s) ≡ 1
unfolding seq_len inside
one_long b s h = rw (leb-zero, h)

all_long : (s : List ℕ) → ascii s ≡ true → far seq_len 0 s ≡ length s
all_long [] h = refl
all_long (b ∷ s) h = rw (one_long b s (and_left (leb b 127) (ascii s) h)) (ap suc (all_long s (and_right (leb b 127) (ascii s) h)))

pub ascii-checked : (s : List ℕ) → ascii s ≡ true → checked s ≡ Ok tt
ascii-checked s h = rw (all_long s h, eq-eqb (length s) (length s) refl)

-- ---- bytes
ascii-before : (w r : List ℕ) → ascii w ≡ true → ascii r ≡ true → ascii (w ++ r) ≡ true
ascii-before [] r h k = k
ascii-before (b ∷ w) r h k = rw (and_left (leb b 127) (ascii w) h) (ascii-before w r (and_right (leb b 127) (ascii w) h) k)

each-ascii : (p : ℕ → Bool) → ((b : ℕ) → p b ≡ true → b ≤ 127) → (w : List ℕ) → Each p w → ascii w ≡ true
each-ascii p f [] a = refl
each-ascii p f (b ∷ w) a = rw (le-leb b 127 (f b a.0)) (each-ascii p f w a.1)

inside-low : (lo hi b : ℕ) → hi ≤ 127 → inside lo hi b ≡ true → b ≤ 127
unfolding inside
inside-low lo hi b h e = omega (arith, leb-true b hi (and_right (leb lo b) (leb b hi) e))

is_low : (c b : ℕ) → c ≤ 127 → eqb b c ≡ true → b ≤ 127
is_low c b h e = omega (arith, eqb-true b c e)

digit_low : (b : ℕ) → digit b ≡ true → b ≤ 127
unfolding digit
digit_low b e = inside-low 48 57 b (omega arith) e

letter-low : (b : ℕ) → letter b ≡ true → b ≤ 127
unfolding letter
letter-low b e = or_cases (inside 65 90 b) (inside 97 122 b) e (inside-low 65 90 b (omega arith)) (inside-low 97 122 b (omega arith))

name-low : (b : ℕ) → name_byte b ≡ true → b ≤ 127
unfolding name_byte
name-low b e =
    or_cases (letter b) _ e (letter-low b)
    (λ e. or_cases (digit b) _ e (digit_low b) (λ e. or_cases (eqb b 95) (eqb b 46) e (is_low 95 b (omega arith)) (is_low 46 b (omega arith))))

pattern-low : (b : ℕ) → pattern_byte b ≡ true → b ≤ 127
unfolding pattern_byte
pattern-low b e = or_cases (eqb b 48) _ e (is_low 48 b (omega arith)) (λ e. or_cases (eqb b 49) (eqb b 120) e (is_low 49 b (omega arith)) (is_low 120 b (omega arith)))

bit-low : (b : ℕ) → bit b ≡ true → b ≤ 127
bit-low b e = or_cases (eqb b 48) (eqb b 49) e (is_low 48 b (omega arith)) (is_low 49 b (omega arith))

start-low : (b : ℕ) → int_start b ≡ true → b ≤ 127
unfolding int_start
start-low b e = or_cases (eqb b 45) (digit b) e (is_low 45 b (omega arith)) (digit_low b)

-- ---- parts, before an ASCII text
abbrev Keeps : (List ℕ → List ℕ) → Type 0
Keeps f = (r : List ℕ) → ascii r ≡ true → ascii (f r) ≡ true

pattern-keeps : (p : ℕ → Bool) → ((b : ℕ) → p b ≡ true → b ≤ 127) → (l : List ℕ) → IsPattern p l → Keeps (λ r. l ++ r)
pattern-keeps p f l h r k = ascii-before l r (subst (λ (z : List ℕ). ascii z ≡ true) (sym h.spelt) (each-ascii p f (h.first ∷ h.rest) h.each)) k

name-keeps : (n : Name) → IsName n → Keeps (name n)
name-keeps n h r k = ascii-before n r (subst (λ (z : List ℕ). ascii z ≡ true) (sym h.spelt) (each-ascii name_byte name-low (h.first ∷ h.rest) h.each)) k

number-keeps : (c : ℕ) → c < 2 ^ 128 → Keeps (number c)
number-keeps c h r k =
    let p = (decimal-printed c h).token in
    ascii-before (decimal c) r
    (subst (λ (z : List ℕ). ascii z ≡ true) (sym p.spelt) (rw (le-leb p.first 127 (start-low p.first p.starts)) (each-ascii digit digit_low p.rest p.each))) k

pub small : (width c : ℕ) → leb (2 ^ width) (2 ^ 128) ≡ true → c < 2 ^ width → c < 2 ^ 128
small width c e h = le_trans h (leb-true (2 ^ width) (2 ^ 128) e)

typing-keeps : (y : Typing) → TypingOk y → Keeps (typing y)
typing-keeps untyped o r k = k
typing-keeps (typed w) o r k = number-keeps w (small 16 w refl o.1) r k

operand-keeps : (o : Operand) → OperandOk o → Keeps (operand o)
operand-keeps (value n) h r k = name-keeps n h r k
operand-keeps (constant c y) h r k = number-keeps c h.0 (typing y r) (typing-keeps y h.1 r k)

further-keeps : (l : List Operand) → All OperandOk l → Keeps (further l)
further-keeps [] h r k = k
further-keeps (o ∷ l) h r k = operand-keeps o h.0 (further l r) (further-keeps l h.1 r k)

operands_keep : (l : List Operand) → All OperandOk l → Keeps (operands l)
operands_keep [] h r k = k
operands_keep (o ∷ l) h r k = operand-keeps o h.0 (further l r) (further-keeps l h.1 r k)

-- the instructions' names
abbrev all_ascii : List Instruction → Bool
all_ascii [] = true
all_ascii (i ∷ l) = ascii i.name && all_ascii l

all_ascii_lem : (l : List Instruction) (d : Instruction) (k : ℕ) → all_ascii l ≡ true → k < length l → ascii (get_or l k d).name ≡ true
all_ascii_lem [] d k e h = absurd (not-suc-le-zero h)
all_ascii_lem (i ∷ l) d zero e h = and_left (ascii i.name) (all_ascii l) e
all_ascii_lem (i ∷ l) d (suc k) e h = all_ascii_lem l d k (and_right (ascii i.name) (all_ascii l) e) (le_of_suc-le-suc h)

instruction-keeps : (i : ℕ) → i < 59 → Keeps (λ r. instruction_name i ++ r)
unfolding instruction_name
instruction-keeps i h r k = ascii-before (instruction_name i) r (all_ascii_lem instructions ("" takes 0) i refl h) k

side-keeps : (q : RightSide) → SideOk q → Keeps (side q)
side-keeps var o r k = k
side-keeps (block n) o r k = number-keeps n (small 32 n refl o) r k
side-keeps (phi b l) o r k = name-keeps b o.0 (further l r) (further-keeps l o.1 r k)
side-keeps reservedinst o r k = k
side-keeps reservedconst o r k = k
side-keeps (instruction i l) o r k = instruction-keeps i o.0 (operands l r) (operands_keep l o.2 r k)

attribute-keeps : (a : Attribute) → AttributeOk a → Keeps (attribute a)
attribute-keeps (known_bits p) o r k = pattern-keeps pattern_byte pattern-low p o r k
attribute-keeps power_of_two o r k = k
attribute-keeps negative o r k = k
attribute-keeps non_negative o r k = k
attribute-keeps non_zero o r k = k
attribute-keeps has_external_uses o r k = k
attribute-keeps (sign_bits n) o r k = number-keeps n (small 8 n refl o) r k
attribute-keeps (range a b) o r k = number-keeps a o.0 (bytes "," ++ number b (bytes ")" ++ r)) (number-keeps b o.1 (bytes ")" ++ r) k)

root_attribute_keeps : (a : RootAttribute) → RootAttributeOk a → Keeps (root_attribute a)
root_attribute_keeps (demanded_bits p) o r k = pattern-keeps bit bit-low p o r k
root_attribute_keeps harvested_from_use o r k = k

attributes_keep : {A : Type 0} (one : A → List ℕ → List ℕ) (Fine : A → Type 0) → ((a : A) → Fine a → Keeps (one a)) → (l : List A) → All Fine l → Keeps (attributes one l)
attributes_keep one Fine f [] h r k = k
attributes_keep one Fine f (a ∷ l) h r k = f a h.0 (bytes ")" ++ attributes one l r) (attributes_keep one Fine f l h.1 r k)

-- ---- lines and items
lines_keep : (l t : List Statement) → All Plain l → Wf (onto l t) → Keeps (lines l)
lines_keep [] t p w r k = k
lines_keep (assignment a ∷ l) t p w r k =
    let o : AssignmentOk a = (wf_below l (assignment a ∷ t) w).0.ok in
    let rest : List ℕ = attributes attribute a.attributes (feed (lines l r)) in
    name-keeps a.name o.name (typing a.typing (bytes " = " ++ side a.side rest))
    (typing-keeps a.typing o.typing (bytes " = " ++ side a.side rest)
    (side-keeps a.side o.side rest (attributes_keep attribute AttributeOk attribute-keeps a.attributes o.attributes (feed (lines l r)) (lines_keep l (assignment a ∷ t) p.1 w r k))))
lines_keep (pc x y ∷ l) t p w r k = absurd p.0
lines_keep (blockpc b n x y ∷ l) t p w r k = absurd p.0

roots_keep : (l : List RootAttribute) → All RootAttributeOk l → Keeps (attributes root_attribute l)
roots_keep = attributes_keep root_attribute RootAttributeOk root_attribute_keeps

first-keeps : (c : Closing) → ClosingOk c → Keeps (first_closing c)
first-keeps (infer_result n l o) h r k = name-keeps n h.0 (attributes root_attribute l (feed r)) (roots_keep l h.1 (feed r) k)
first-keeps (cand x y l) h r k =
    let rest : List ℕ = attributes root_attribute l (feed r) in
    operand-keeps x h.0 (bytes " " ++ operand y rest) (operand-keeps y h.1 rest (roots_keep l h.2 (feed r) k))
first-keeps (infer n l) h r k = name-keeps n h.0 (attributes root_attribute l (feed r)) (roots_keep l h.1 (feed r) k)
first-keeps (result o) h r k = operand-keeps o h (feed r) k

second-keeps : (c : Closing) → ClosingOk c → Keeps (second_closing c)
second-keeps (infer_result n l o) h r k = operand-keeps o h.2 (feed r) k
second-keeps (cand x y l) h r k = k
second-keeps (infer n l) h r k = k
second-keeps (result o) h r k = k

pub printed-ascii : (e : Entry) (xs : List Item) → All (Readable e) xs → ascii (printed_all xs) ≡ true
unfolding printed
printed-ascii e [] v = refl
printed-ascii e (x ∷ xs) v =
    let w = (canon_wf x v.0.wf).wf in
    let rest : List ℕ = second_closing x.closing (printed_all xs) in
    lines_keep (listed_before x) [] (plain_before x v.0.wf) (wf_below (listed_between x) (onto (listed_before x) []) w) (first_closing x.closing (lines (listed_between x) rest))
    (first-keeps x.closing v.0.wf.ok (lines (listed_between x) rest)
    (lines_keep (listed_between x) (onto (listed_before x) []) (plain_between_lem x v.0.wf) w rest (second-keeps x.closing v.0.wf.ok (printed_all xs) (printed-ascii e xs v.1))))

pub printed-checked : (e : Entry) (xs : List Item) → All (Readable e) xs → checked (printed_all xs) ≡ Ok tt
printed-checked e xs v = ascii-checked (printed_all xs) (printed-ascii e xs v)
