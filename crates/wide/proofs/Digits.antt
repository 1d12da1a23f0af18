-- Laws of the digits of a number below 2^128: which they are, and how many.
-- Assumes nothing.
use mathlib.Core.Path.{◌≡◌, refl, sym, ap, ◌∙◌}
use mathlib.Core.List.{List, [], ◌∷◌, ◌++◌}
use Prim.Native.Nat.{ℕ, zero, suc, ◌+◌, ◌*◌, ◌/◌, ◌%◌, ◌^◌, ◌≤◌, ◌<◌}
use native.Mathlib.Nat.{lt_of_lt_of_le}
use native.Mathlib.Omega.{arith}
use lib.Dec.{ltb}
use lib.ListN.{length, length-append}
use borrow.Author.Tests.{lt-ltb, le-ltb, ltb-true, ltb-false, leb-true}
use Rattle.rules.specs.Bytes.{byte}
use Rattle.rules.specs.Integers.{spell, digits}
use Rattle.laws.proofs.Cases.{by_cases}

-- more room changes nothing
spell_more : (f n : ℕ) → n < 10 ^ suc f → spell (suc (suc f)) n ≡ spell (suc f) n
spell_more zero n h = rw (lt-ltb n 10 h)
spell_more (suc f) n h =
    let less : n / 10 < 10 ^ suc f = omega arith in
    by_cases (ltb n 10) (λ t. rw t) (λ t. rw t (ap (λ (l : List ℕ). l ++ ((byte "0" + n % 10) ∷ [])) (spell_more f (n / 10) less)))

-- 128 bits are within 39 digits
pub few : {n : ℕ} → n < 2 ^ 128 → n < 10 ^ 39
few h = lt_of_lt_of_le h (leb-true (2 ^ 128) (10 ^ 39) refl)

-- the two ways of `digits`
pub digits_one : (n : ℕ) → n < 10 → digits n ≡ (byte "0" + n) ∷ []
unfolding digits
digits_one n h = rw (lt-ltb n 10 h)

tenth_below : (n p : ℕ) → n < 10 * p → n / 10 < p
tenth_below n p h = omega arith

tenth_few : (n : ℕ) → n < 10 ^ 39 → n / 10 < 10 ^ 38
tenth_few n h = tenth_below n (10 ^ 38) h

pub digits_more : (n : ℕ) → 10 ≤ n → n < 2 ^ 128 → digits n ≡ digits (n / 10) ++ ((byte "0" + n % 10) ∷ [])
unfolding digits
digits_more n h k = rw (le-ltb n 10 h) (ap (λ (l : List ℕ). l ++ ((byte "0" + n % 10) ∷ [])) (sym (spell_more 37 (n / 10) (tenth_few n (few k)))))

spell_len : (f n : ℕ) → length (spell f n) ≤ f
spell_len zero n = omega arith
spell_len (suc f) n =
    by_cases (ltb n 10)
    (λ t. rw t (omega arith))
    (λ t. rw t (simp length-append (omega (arith, spell_len f (n / 10)))))

pub digits_len : (n : ℕ) → length (digits n) ≤ 39
unfolding digits
digits_len n = spell_len 39 n

-- lengths
pub len_one : (n : ℕ) → n < 10 → length (digits n) ≡ 1
len_one n h = ap length (digits_one n h)

pub len_more : (n : ℕ) → 10 ≤ n → n < 2 ^ 128 → length (digits n) ≡ length (digits (n / 10)) + 1
len_more n h k = ap length (digits_more n h k) ∙ simp length-append

pub len_some : (n : ℕ) → n < 2 ^ 128 → 1 ≤ length (digits n)
len_some n k = by_cases (ltb n 10) (λ t. omega (arith, len_one n (ltb-true n 10 t))) (λ t. omega (arith, len_more n (ltb-false n 10 t) k))
