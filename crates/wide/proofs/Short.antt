-- Integers of one or two digits: their decimals, and how they are written.
-- Assumes nothing.
use mathlib.Core.Path.{◌≡◌, refl, sym, ap, ◌∙◌}
use mathlib.Core.Bool.{true}
use mathlib.Core.List.{List, [], ◌∷◌, ◌++◌}
use Prim.Native.Nat.{ℕ, ◌+◌, ◌*◌, ◌/◌, ◌%◌, ◌^◌, ◌≤◌, ◌<◌}
use native.Mathlib.Nat.{lt_of_lt_of_le}
use native.Mathlib.Omega.{arith}
use lib.Dec.{ltb}
use lib.ListN.{length, set, drop}
use borrow.Author.Tests.{lt-leb, ltb-true, leb-true}
use Rattle.rules.specs.Bytes.{byte}
use Rattle.rules.specs.Integers.{digits, decimal}
use Rattle.rules.specs.Out.{Wrote}
use Rattle.wide.proofs.Digits.{digits_one, digits_more}
use Rattle.wide.proofs.Decimals.{wrote_none, wrote_all, decimal_plain}

-- the low half of bits that are short
module _ (h l : ℕ) (t : ltb (h * 2 ^ 64 + l) 100 ≡ true) where
  pub low-short : (l ≡ h * 2 ^ 64 + l) × (l < 100)
  low-short = plain h l (ltb-true (h * 2 ^ 64 + l) 100 t)
    where
      plain : (h l : ℕ) → h * 2 ^ 64 + l < 100 → (l ≡ h * 2 ^ 64 + l) × (l < 100)
      plain h l e = omega arith

short_plain : (n : ℕ) → n < 100 → decimal n ≡ digits n
short_plain n h = sym (decimal_plain n (lt-leb (2 ^ 127) n (lt_of_lt_of_le h (leb-true 100 (2 ^ 127) refl))))

one_digit : (n : ℕ) → n < 10 → decimal n ≡ (byte "0" + n) ∷ []
one_digit n h = short_plain n (omega arith) ∙ digits_one n h

two_digits : (n : ℕ) → 10 ≤ n → n < 100 → decimal n ≡ (byte "0" + n / 10) ∷ (byte "0" + n % 10) ∷ []
two_digits n g h =
    let tens : n / 10 < 10 = omega arith in
    short_plain n h
    ∙ digits_more n g (lt_of_lt_of_le h (leb-true 100 (2 ^ 128) refl))
    ∙ ap (λ (l : List ℕ). l ++ ((byte "0" + n % 10) ∷ [])) (digits_one (n / 10) tens)

-- one byte, and two, over the front
over_one : (out : List ℕ) (a : ℕ) → 1 ≤ length out → set out 0 a ≡ a ∷ drop 1 out
over_one [] a h = absurd (omega arith)
over_one (x ∷ out) a h = refl

over_two : (out : List ℕ) (a b : ℕ) → 2 ≤ length out → set (set out 0 a) 1 b ≡ a ∷ b ∷ drop 2 out
over_two [] a b h = absurd (omega arith)
over_two (x ∷ []) a b h = absurd (omega arith)
over_two (x ∷ y ∷ out) a b h = refl

module _ (n : ℕ) (out : List ℕ) where
  pub one_unwritten : n < 10 → length out < 1 → Wrote (decimal n) out out 1
  one_unwritten h k = wrote_none (sym (ap length (one_digit n h))) k

  pub one_written : n < 10 → 1 ≤ length out → Wrote (decimal n) out (set out 0 (byte "0" + n)) 1
  one_written h k =
      wrote_all (sym (ap length (one_digit n h))) k
      (over_one out (byte "0" + n) k ∙ ap (λ (l : List ℕ). l ++ drop 1 out) (sym (one_digit n h)))

  pub two_unwritten : 10 ≤ n → n < 100 → length out < 2 → Wrote (decimal n) out out 2
  two_unwritten g h k = wrote_none (sym (ap length (two_digits n g h))) k

  pub two_written : 10 ≤ n → n < 100 → 2 ≤ length out → Wrote (decimal n) out (set (set out 0 (byte "0" + n / 10)) 1 (byte "0" + n % 10)) 2
  two_written g h k =
      wrote_all (sym (ap length (two_digits n g h))) k
      (over_two out (byte "0" + n / 10) (byte "0" + n % 10) k ∙ ap (λ (l : List ℕ). l ++ drop 2 out) (sym (two_digits n g h)))
