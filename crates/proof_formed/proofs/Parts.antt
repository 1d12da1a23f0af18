-- What the parts of well-formed tables say: names, patterns, types, numbers, operands and attributes as the theory by names asks for them.
-- Assumes nothing.
use Prim.Native.Nat.{ℕ, zero, suc, ◌+◌, ◌-◌, ◌*◌, ◌^◌, ◌≤◌, ◌<◌}
use mathlib.Core.Path.{◌≡◌, refl, sym, ap, ◌∙◌}
use mathlib.Core.Bool.{Bool, true, cond, false≢true, ◌&&◌}
use mathlib.Core.List.{List, [], ◌∷◌}
use native.Mathlib.Nat.{mul-le-mul_right}
use native.Mathlib.Omega.{arith}
use lib.Dec.{eqb, leb}
use lib.ListN.{length, get_or}
use borrow.Author.Tests.{eqb-true, eqb-false, leb-true, ltb-true}
use Rattle.rules.specs.declared.Span.{Span}
use Rattle.rules.specs.declared.Words.{Words}
use Rattle.rules.specs.declared.Operand.{Operand}
use Rattle.rules.specs.declared.Attribute.{Attribute}
use Rattle.rules.specs.Bytes.{inside, name_byte, pattern_byte, bit, count}
use Rattle.rules.specs.Keywords as keyword
use Rattle.rules.specs.Rows.{bits_of, letters_of, name_at, operand_at, attribute_at, value_code, constant_code, known_bits_code, sign_bits_code, range_code, demanded_bits_code}
use Rattle.rules.specs.Reading.{attribute_code}
use Rattle.rules.specs.Syntax as syntax
use Rattle.rules.specs.View.{each, along, typing_of, operand_of, as_operand, attribute_of, as_attribute, root_attribute_of, as_root_attribute}
use Rattle.rules.specs.WellFormed.{only, word_fits, is_name, is_pattern, name_in, pattern_in, width_fits, refers_to, value_ok, constant_ok, operand_ok, operands_ok, at_most, greatest, pattern_ok, numbers_ok, attribute_ok, attributes_ok, no_span}
use Rattle.rules.specs.Meaning.{All, Each}
use Rattle.laws.proofs.Same.{by_cond}
use Rattle.laws.proofs.Tests.{and_left, and_right, cond-true, cond-false}
use Rattle.byrows.proofs.Views.{assigning}
use Rattle.byrows.proofs.Spans.{every-along}
use Rattle.byrows.proofs.FormedRows.{Refers, refers_to_lem}
use Rattle.bynames.proofs.WellFormed.{IsName, IsPattern, TypingOk, OperandOk, AttributeOk, RootAttributeOk}
use Rattle.bynames.proofs.AcceptedTokens.{pattern_of_lem, count-each}

-- ---- lists of rows
pub all_each : {A : Type 0} (P : A → Type 0) (f : ℕ → A) (n a : ℕ) → ((k : ℕ) → a ≤ k → k < a + n → P (f k)) → All P (each f a n)
all_each P f zero a h = tt
all_each P f (suc n) a h = (h a (omega arith) (omega arith), all_each P f n (a + 1) (λ k l u. h k (omega arith) (omega arith)))

pub all_along : {A : Type 0} (P : A → Type 0) (f : ℕ → A) (s : Span) → ((k : ℕ) → s.first ≤ k → k < s.past → P (f k)) → All P (along f s)
all_along P f s h = all_each P f (s.past - s.first) s.first (λ k l u. h k l (omega arith))

-- ---- words
each_at : (p : ℕ → Bool) → p 0 ≡ true → (l : List ℕ) → Each p l → (k : ℕ) → p (get_or l k 0) ≡ true
each_at p z [] a k = z
each_at p z (x ∷ l) a zero = a.0
each_at p z (x ∷ l) a (suc k) = each_at p z l a.1 k

-- every word of a table has 32 bits
pub word_below : (words : List ℕ) → only word_fits words ≡ true → (k : ℕ) → get_or words k 0 < 2 ^ 32
unfolding word_fits
word_below words e k = ltb-true (get_or words k 0) (2 ^ 32) (each_at word_fits refl words (count-each word_fits words (eqb-true (count word_fits words) (length words) e)) k)

high : (B : ℕ) {h k : ℕ} (l : ℕ) → h < k → l < B → h * B + l < k * B
high B l a b = omega (arith, mul-le-mul_right B a)

-- four words are 128 bits
pub bits_below : (w : Words) → w.a < 2 ^ 32 → w.b < 2 ^ 32 → w.c < 2 ^ 32 → w.d < 2 ^ 32 → bits_of w < 2 ^ 128
bits_below w a b c d = high (2 ^ 64) {k = 2 ^ 64} (w.c * 2 ^ 32 + w.d) (high (2 ^ 32) {k = 2 ^ 32} w.b a b) (high (2 ^ 32) {k = 2 ^ 32} w.d c d)

-- ---- names, patterns, types
pub is_name_lem : (s : List ℕ) → is_name s ≡ true → IsName s
unfolding is_name
is_name_lem [] e = absurd (false≢true e)
is_name_lem (x ∷ []) e = absurd (false≢true e)
is_name_lem (x ∷ y ∷ r) e =
    let all : (eqb x 37 && only name_byte (y ∷ r)) ≡ true = and_right (leb 2 (length (x ∷ y ∷ r))) (eqb x 37 && only name_byte (y ∷ r)) e in
    let first : x ≡ 37 = eqb-true x 37 (and_left (eqb x 37) (only name_byte (y ∷ r)) all) in
    let rest : Each name_byte (y ∷ r) = count-each name_byte (y ∷ r) (eqb-true (count name_byte (y ∷ r)) (length (y ∷ r)) (and_right (eqb x 37) (only name_byte (y ∷ r)) all)) in
    record { first = y; rest = r; spelt = ap (λ (z : ℕ). z ∷ y ∷ r) first; each = rest }

pub name_in_lem : (text : List ℕ) (s : Span) → name_in text s ≡ true → IsName (letters_of text s)
unfolding name_in
name_in_lem text s e = is_name_lem (letters_of text s) (and_right (leb s.past (length text)) (is_name (letters_of text s)) e)

pattern_in_lem : (p : ℕ → Bool) (text : List ℕ) (s : Span) → pattern_in p text s ≡ true → IsPattern p (letters_of text s)
unfolding pattern_in is_pattern
pattern_in_lem p text s e =
    let l : List ℕ = letters_of text s in
    let g : is_pattern p l ≡ true = and_right (leb s.past (length text)) (is_pattern p l) e in
    pattern_of_lem p l (leb-true 1 (length l) (and_left (leb 1 (length l)) (only p l) g)) (count-each p l (eqb-true (count p l) (length l) (and_right (leb 1 (length l)) (only p l) g)))

pub typing-ok : (w : ℕ) → width_fits w ≡ true → TypingOk (typing_of w)
unfolding width_fits
typing-ok w e =
    let top : w ≤ 65535 = leb-true w 65535 e in
    by_cond TypingOk (eqb w 0) syntax.untyped (syntax.typed w) (λ q. tt) (λ q. (some w (eqb-false w 0 q), omega arith))
  where
    some : (w : ℕ) → (w ≡ 0 → ⊥) → 1 ≤ w
    some w n = omega arith

-- ---- operands: names says that rows from lo up to hi that assign have names
module _ (text S O : List ℕ) (lo hi : ℕ) (names : (j : ℕ) → lo ≤ j → j < hi → assigning S j ≡ true → IsName (name_at text S j)) (words : only word_fits O ≡ true) where
  operand-bits : (j : ℕ) → bits_of (operand_at O j).bits < 2 ^ 128
  unfolding operand_at
  operand-bits j = bits_below _ (word_below O words _) (word_below O words _) (word_below O words _) (word_below O words _)

  pub operand-ok : (j : ℕ) → operand_ok S lo hi (operand_at O j) ≡ true → OperandOk (operand_of text S O j)
  unfolding operand_of as_operand operand_ok value_ok constant_ok
  operand-ok j ok =
      let r : Operand = operand_at O j in
      by_cond OperandOk (eqb r.code value_code) (syntax.value (name_at text S r.row)) (syntax.constant (bits_of r.bits) (typing_of r.width))
      (λ e.
      let known : value_ok S lo hi r ≡ true = sym (cond-true (eqb r.code value_code) (value_ok S lo hi r) (constant_ok r) e) ∙ ok in
      let f : Refers S lo hi r.row = refers_to_lem S lo hi r.row (and_left (refers_to S lo hi r.row) (eqb r.width 0 && at_most 0 r.bits) known) in
      names r.row f.low f.high f.so)
      (λ e.
      let known : constant_ok r ≡ true = sym (cond-false (eqb r.code value_code) (value_ok S lo hi r) (constant_ok r) e) ∙ ok in
      (operand-bits j, typing-ok r.width (and_right (eqb r.row 0) (width_fits r.width) (and_right (eqb r.code constant_code) (eqb r.row 0 && width_fits r.width) known))))

  pub operands-ok : (s : Span) → operands_ok S O lo hi s ≡ true → (k : ℕ) → s.first ≤ k → k < s.past → OperandOk (operand_of text S O k)
  unfolding operands_ok
  operands-ok s e k l u = operand-ok k (every-along (λ i. operand_ok S lo hi (operand_at O i)) s e k l u)

-- ---- attributes
at_most_lem : (n : ℕ) (w : Words) → at_most n w ≡ true → bits_of w ≤ n
unfolding at_most
at_most_lem n w e =
    let from-c : Bool = eqb w.c 0 && leb w.d n in
    let from-b : Bool = eqb w.b 0 && from-c in
    let e₂ : from-b ≡ true = and_right (eqb w.a 0) from-b e in
    let e₃ : from-c ≡ true = and_right (eqb w.b 0) from-c e₂ in
    let a : w.a ≡ 0 = eqb-true w.a 0 (and_left (eqb w.a 0) from-b e) in
    let b : w.b ≡ 0 = eqb-true w.b 0 (and_left (eqb w.b 0) from-c e₂) in
    let c : w.c ≡ 0 = eqb-true w.c 0 (and_left (eqb w.c 0) (leb w.d n) e₃) in
    let d : w.d ≤ n = leb-true w.d n (and_right (eqb w.c 0) (leb w.d n) e₃) in
    omega (arith, ap (λ (x : ℕ). (x * 2 ^ 32 + w.b) * 2 ^ 64) a, ap (λ (x : ℕ). (0 * 2 ^ 32 + x) * 2 ^ 64) b, ap (λ (x : ℕ). x * 2 ^ 32) c)

module _ (text A : List ℕ) (words : only word_fits A ≡ true) (lo hi j : ℕ) (ok : attribute_ok text lo hi (attribute_at A j) ≡ true) where
  abbrev r : Attribute
  r = attribute_at A j

  abbrev code : ℕ
  code = r.code

  low_below : bits_of (attribute_at A j).low < 2 ^ 128
  unfolding attribute_at
  low_below = bits_below _ (word_below A words _) (word_below A words _) (word_below A words _) (word_below A words _)

  high_below : bits_of (attribute_at A j).high < 2 ^ 128
  unfolding attribute_at
  high_below = bits_below _ (word_below A words _) (word_below A words _) (word_below A words _) (word_below A words _)

  parts_known : (pattern_ok text r && numbers_ok r) ≡ true
  unfolding attribute_ok
  parts_known = and_right (inside lo hi code) (pattern_ok text r && numbers_ok r) ok

  pattern-known : pattern_ok text r ≡ true
  pattern-known = and_left (pattern_ok text r) (numbers_ok r) parts_known

  numbers_known : numbers_ok r ≡ true
  numbers_known = and_right (pattern_ok text r) (numbers_ok r) parts_known

  sign_bits : code ≡ sign_bits_code → bits_of r.low < 2 ^ 8
  unfolding numbers_ok greatest
  sign_bits e =
      let fits : (at_most (greatest code) r.low && at_most 0 r.high) ≡ true = sym (cond-false (eqb code range_code) true (at_most (greatest code) r.low && at_most 0 r.high) (ap (λ (n : ℕ). eqb n range_code) e)) ∙ numbers_known in
      let top : bits_of r.low ≤ greatest code = at_most_lem (greatest code) r.low (and_left (at_most (greatest code) r.low) (at_most 0 r.high) fits) in
      below (bits_of r.low) (greatest code) top (ap greatest e)
    where
      below : (b n : ℕ) → b ≤ n → n ≡ 255 → b < 256
      below b n l q = omega arith

  pub attribute-ok : AttributeOk (attribute_of text A j)
  unfolding attribute_of as_attribute pattern_ok
  attribute-ok =
      by_cond AttributeOk (eqb code known_bits_code) _ _ (λ e. pattern_in_lem pattern_byte text r.pattern (sym (cond-true (eqb code known_bits_code) (pattern_in pattern_byte text r.pattern) behind e) ∙ pattern-known)) (λ n₁.
      by_cond AttributeOk (eqb code (attribute_code keyword.power_of_two)) _ _ (λ e. tt) (λ n₂.
      by_cond AttributeOk (eqb code (attribute_code keyword.negative)) _ _ (λ e. tt) (λ n₃.
      by_cond AttributeOk (eqb code (attribute_code keyword.non_negative)) _ _ (λ e. tt) (λ n₄.
      by_cond AttributeOk (eqb code (attribute_code keyword.non_zero)) _ _ (λ e. tt) (λ n₅.
      by_cond AttributeOk (eqb code (attribute_code keyword.has_external_uses)) _ _ (λ e. tt) (λ n₆.
      by_cond AttributeOk (eqb code sign_bits_code) _ _ (λ e. sign_bits (eqb-true code sign_bits_code e)) (λ n₇. (low_below, high_below))))))))
    where
      behind : Bool
      behind = cond (eqb code demanded_bits_code) (pattern_in bit text r.pattern) (no_span r.pattern)

  pub root_attribute_ok : RootAttributeOk (root_attribute_of text A j)
  unfolding root_attribute_of as_root_attribute pattern_ok
  root_attribute_ok =
      by_cond RootAttributeOk (eqb code demanded_bits_code) (syntax.demanded_bits (letters_of text r.pattern)) syntax.harvested_from_use
      (λ e. pattern_in_lem bit text r.pattern
      (sym (cond-false (eqb code known_bits_code) (pattern_in pattern_byte text r.pattern) behind (ap (λ (n : ℕ). eqb n known_bits_code) (eqb-true code demanded_bits_code e)) ∙ cond-true (eqb code demanded_bits_code) (pattern_in bit text r.pattern) (no_span r.pattern) e)
      ∙ pattern-known)) (λ e. tt)
    where
      behind : Bool
      behind = cond (eqb code demanded_bits_code) (pattern_in bit text r.pattern) (no_span r.pattern)

module _ (text A : List ℕ) (words : only word_fits A ≡ true) (lo hi : ℕ) (s : Span) (ok : attributes_ok text A lo hi s ≡ true) where
  one_ok : (k : ℕ) → s.first ≤ k → k < s.past → attribute_ok text lo hi (attribute_at A k) ≡ true
  unfolding attributes_ok
  one_ok k l u = every-along (λ i. attribute_ok text lo hi (attribute_at A i)) s ok k l u

  pub attributes-ok : All AttributeOk (along (attribute_of text A) s)
  attributes-ok = all_along AttributeOk (attribute_of text A) s (λ k l u. attribute-ok text A words lo hi k (one_ok k l u))

  pub root_attributes_ok : All RootAttributeOk (along (root_attribute_of text A) s)
  root_attributes_ok = all_along RootAttributeOk (root_attribute_of text A) s (λ k l u. root_attribute_ok text A words lo hi k (one_ok k l u))
