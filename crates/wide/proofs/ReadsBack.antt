-- The shortest decimal of bits reads back to those bits, so no two have the same.
-- Assumes nothing.
use mathlib.Core.Path.{◌≡◌, refl, sym, ap, ◌∙◌}
use mathlib.Core.Bool.{Bool, true, false, ◌&&◌, ◌||◌}
use mathlib.Core.List.{List, [], ◌∷◌, ◌++◌}
use Prim.Native.Nat.{ℕ, zero, suc, ◌+◌, ◌-◌, ◌*◌, ◌/◌, ◌%◌, ◌^◌, ◌≤◌, ◌<◌, suc-le-suc}
use native.Mathlib.Nat.{lt_of_lt_of_le}
use native.Mathlib.Omega.{arith}
use lib.Dec.{eqb, leb, ltb}
use lib.ListN.{length, get_or, drop}
use lib.Pow.{pow_mono}
use borrow.Author.Tests.{lt-ltb, le-leb, lt-leb, ne_eqb, ltb-true, leb-true, leb-false}
use Rattle.rules.specs.Integers.{number, refused, behind, unsigned, fits, integer, type_width, spell, digits, decimal}
use Rattle.rules.specs.Bytes.{byte, digit}
use Rattle.laws.proofs.Tests.{and_left, and_right}
use Rattle.laws.proofs.Cases.{by_cases}
use Rattle.laws.proofs.Opposite.{opposite_is, Left, left}
use Rattle.wide.proofs.Fields.{apart}
use Rattle.wide.proofs.Unsigned.{digit-range, range-digit, unsigned_some}
use Rattle.wide.proofs.Digits.{few, len_some}
use Rattle.wide.proofs.Decimals.{decimal_sign, decimal_plain}

-- one more digit behind a list
pub behind-last : (a : List ℕ) (v u c : ℕ) → behind v a ≡ number u → digit c ≡ true → behind v (a ++ (c ∷ [])) ≡ number (u * 10 + (c - byte "0"))
behind-last [] v u c e d = let w : v ≡ u = cc in rw (d, w)
behind-last (x ∷ a) v u c e d =
    by_cases (digit x)
    (λ t. let k : behind (v * 10 + (x - byte "0")) a ≡ number u = sym (rw t) ∙ e in rw t (behind-last a (v * 10 + (x - byte "0")) u c k d))
    (λ t. let k : refused ≡ number u = sym (rw t) ∙ e in absurd (apart (sym k)))

glyph_digit : (d : ℕ) → d < 10 → digit (byte "0" + d) ≡ true
glyph_digit d h = range-digit (byte "0" + d) (omega arith) (omega arith)

spell_back_one : (f n : ℕ) → n < 10 → behind 0 (spell (suc f) n) ≡ number n
spell_back_one f n h = let w : 0 * 10 + (byte "0" + n - byte "0") ≡ n = omega arith in rw (lt-ltb n 10 h, glyph_digit n h) (ap number w)

spell-back : (f n : ℕ) → n < 10 ^ suc f → behind 0 (spell (suc f) n) ≡ number n
spell-back zero n h = spell_back_one zero n h
spell-back (suc f) n h =
    let less : n / 10 < 10 ^ suc f = omega arith in
    let whole : n / 10 * 10 + (byte "0" + n % 10 - byte "0") ≡ n = omega arith in
    let small : n % 10 < 10 = omega arith in
    by_cases (ltb n 10)
    (λ t. spell_back_one (suc f) n (ltb-true n 10 t))
    (λ t. rw t (behind-last (spell (suc f) (n / 10)) 0 (n / 10) (byte "0" + n % 10) (spell-back f (n / 10) less) (glyph_digit (n % 10) small) ∙ ap number whole))

pub digits-behind : (n : ℕ) → n < 2 ^ 128 → behind 0 (digits n) ≡ number n
unfolding digits
digits-behind n h = spell-back 38 n (few h)

not_empty : (k : ℕ) → 1 ≤ k → k ≡ 0 → ⊥
not_empty k h e = omega arith

pub digits-back : (n : ℕ) → n < 2 ^ 128 → unsigned (digits n) ≡ number n
digits-back n h = unsigned_some (digits n) (not_empty (length (digits n)) (len_some n h)) ∙ digits-behind n h

-- every element passes
abbrev pub every : (ℕ → Bool) → List ℕ → Bool
every p [] = true
every p (x ∷ l) = p x && every p l

behind-every : (l : List ℕ) (v u : ℕ) → behind v l ≡ number u → every digit l ≡ true
behind-every [] v u e = refl
behind-every (x ∷ l) v u e =
    by_cases (digit x)
    (λ t. let k : behind (v * 10 + (x - byte "0")) l ≡ number u = sym (rw t) ∙ e in rw t (behind-every l (v * 10 + (x - byte "0")) u k))
    (λ t. let k : refused ≡ number u = sym (rw t) ∙ e in absurd (apart (sym k)))

pub digits-every : (n : ℕ) → n < 2 ^ 128 → every digit (digits n) ≡ true
digits-every n h = behind-every (digits n) 0 n (digits-behind n h)

-- a first digit is no sign
every_first : (l : List ℕ) → 1 ≤ length l → every digit l ≡ true → digit (get_or l 0 0) ≡ true
every_first [] h e = let w : ⊥ = omega arith in absurd w
every_first (x ∷ l) h e = and_left (digit x) _ e

every_rest : (l : List ℕ) → every digit l ≡ true → every digit (drop 1 l) ≡ true
every_rest [] e = refl
every_rest (x ∷ l) e = and_right (digit x) _ e

no_sign : (b : ℕ) → digit b ≡ true → eqb b (byte "-") ≡ false
no_sign b d = let r : (byte "0" ≤ b) × (b ≤ byte "9") = digit-range b d in ne_eqb b (byte "-") (λ e. late b r.0 e)
  where
    late : (b : ℕ) → byte "0" ≤ b → b ≡ byte "-" → ⊥
    late b h e = omega arith

pub digits-first : (n : ℕ) → n < 2 ^ 128 → digit (get_or (digits n) 0 0) ≡ true
digits-first n h = every_first (digits n) (len_some n h) (digits-every n h)

module _ (b : ℕ) (h : b < 2 ^ 128) where
  below-zero : 2 ^ 127 ≤ b → Left (2 ^ 128) (2 ^ 127) b
  below-zero k = left (2 ^ 128) (2 ^ 127) b refl (leb-true 1 (2 ^ 127) refl) k h

  pub decimal-minus : 2 ^ 127 ≤ b → decimal b ≡ byte "-" ∷ digits (2 ^ 128 - b)
  decimal-minus k = decimal_sign b (le-leb (2 ^ 127) b k) ∙ ap (λ (x : ℕ). byte "-" ∷ digits x) (opposite_is b (below-zero k).there)

  pub decimal_plus : b < 2 ^ 127 → decimal b ≡ digits b
  decimal_plus k = sym (decimal_plain b (lt-leb (2 ^ 127) b k))

  back-minus : 2 ^ 127 ≤ b → integer (byte "-" ∷ digits (2 ^ 128 - b)) ≡ number b
  unfolding integer
  back-minus k =
      let f = below-zero k in
      rw (digits-back (2 ^ 128 - b) f.less, lt-ltb (2 ^ 128 - b) (2 ^ 127 + 1) (suc-le-suc f.half))
      (ap number (opposite_is (2 ^ 128 - b) f.some ∙ f.twice))

  back_plus : b < 2 ^ 127 → integer (digits b) ≡ number b
  unfolding integer
  back_plus k = rw (no_sign (get_or (digits b) 0 0) (digits-first b h), digits-back b h, lt-ltb b (2 ^ 127) k)

  -- what is printed is read back
  pub integer-decimal : integer (decimal b) ≡ number b
  integer-decimal =
      by_cases (leb (2 ^ 127) b)
      (λ t. let k : 2 ^ 127 ≤ b = leb-true (2 ^ 127) b t in ap integer (decimal-minus k) ∙ back-minus k)
      (λ t. let k : b < 2 ^ 127 = leb-false (2 ^ 127) b t in ap integer (decimal_plus k) ∙ back_plus k)

  -- its first byte is a sign or a digit
  pub decimal-first : (eqb (get_or (decimal b) 0 0) (byte "-") || digit (get_or (decimal b) 0 0)) ≡ true
  decimal-first =
      by_cases (leb (2 ^ 127) b)
      (λ t. let k : 2 ^ 127 ≤ b = leb-true (2 ^ 127) b t in rw (decimal-minus k))
      (λ t. let k : b < 2 ^ 127 = leb-false (2 ^ 127) b t in rw (decimal_plus k, digits-first b h, no_sign (get_or (digits b) 0 0) (digits-first b h)))

  -- and all others are digits
  pub decimal_others : every digit (drop 1 (decimal b)) ≡ true
  decimal_others =
      by_cases (leb (2 ^ 127) b)
      (λ t. let k : 2 ^ 127 ≤ b = leb-true (2 ^ 127) b t in rw (decimal-minus k) (digits-every (2 ^ 128 - b) (below-zero k).less))
      (λ t. let k : b < 2 ^ 127 = leb-false (2 ^ 127) b t in rw (decimal_plus k) (every_rest (digits b) (digits-every b h)))

pub decimal_injective : (a b : ℕ) → a < 2 ^ 128 → b < 2 ^ 128 → decimal a ≡ decimal b → a ≡ b
decimal_injective a b h k e = let w : number a ≡ number b = sym (integer-decimal a h) ∙ ap integer e ∙ integer-decimal b k in cc

-- a number that fits a field reads back into it, whatever the field's width
pub field_back : (w n : ℕ) → w ≤ 127 → n < 2 ^ w → fits w (integer (decimal n)) ≡ number n
field_back w n k h =
    let half : n < 2 ^ 127 = lt_of_lt_of_le h (pow_mono k) in
    rw (integer-decimal n (lt_of_lt_of_le half (leb-true (2 ^ 127) (2 ^ 128) refl)), lt-ltb n (2 ^ w) h)

-- and so does the width of a type
pub type-back : (n : ℕ) → 0 < n → n < 2 ^ 16 → type_width (byte "i" ∷ digits n) ≡ number n
unfolding type_width
type-back n some h =
    rw (digits-back n (lt_of_lt_of_le h (leb-true (2 ^ 16) (2 ^ 128) refl)), lt-ltb n (2 ^ 16) h, ne_eqb n 0 (λ e. not_empty n some e))
