-- Ten times a number of two halves, and its tenth, in pieces of 32 bits.
-- Assumes nothing.
use mathlib.Core.Path.{◌≡◌, refl}
use Prim.Native.Nat.{ℕ, ◌+◌, ◌-◌, ◌*◌, ◌/◌, ◌%◌, ◌^◌, ◌≤◌, ◌<◌}
use native.Mathlib.Omega.{arith}
use borrow.Author.Tests.{leb-true}
use Rattle.rules.specs.Integers.{number, refused, fits}
use Rattle.wide.proofs.Fields.{in_below, out_below}
use Rattle.wide.proofs.Halves.{lt_high, le_high, only-low, ten_high}

-- a chain of divisions by ten: hi, then what is left of it with each half of lo
pub tenth_law : (hi lo : ℕ) → hi / 10 * 2 ^ 64 + ((hi % 10 * 4294967296 + lo / 4294967296) / 10 * 4294967296 + ((hi % 10 * 4294967296 + lo / 4294967296) % 10 * 4294967296 + lo % 4294967296) / 10) ≡ (hi * 2 ^ 64 + lo) / 10
tenth_law hi lo = omega arith

pub tenth_rest : (hi lo : ℕ) → ((hi % 10 * 4294967296 + lo / 4294967296) % 10 * 4294967296 + lo % 4294967296) % 10 ≡ (hi * 2 ^ 64 + lo) % 10
tenth_rest hi lo = omega (arith, tenth_law hi lo)

pub tenth_fits : (hi lo : ℕ) → lo < 2 ^ 64 → hi % 10 * 4294967296 + lo / 4294967296 < 2 ^ 64
tenth_fits hi lo h = omega arith

-- ten times lo and a digit, in pieces of 32 bits
abbrev pub low10 : ℕ → ℕ → ℕ
low10 lo d = lo % 4294967296 * 10 + d

abbrev pub high10 : ℕ → ℕ → ℕ
high10 lo d = lo / 4294967296 * 10 + low10 lo d / 4294967296

abbrev pub carry10 : ℕ → ℕ → ℕ
carry10 lo d = high10 lo d / 4294967296

abbrev pub rest10 : ℕ → ℕ → ℕ
rest10 lo d = high10 lo d % 4294967296 * 4294967296 + low10 lo d % 4294967296

pub ten_low : (lo d : ℕ) → carry10 lo d * 2 ^ 64 + rest10 lo d ≡ lo * 10 + d
ten_low lo d = omega arith

pub carry_small : (lo d : ℕ) → lo < 2 ^ 64 → d < 10 → carry10 lo d < 10
carry_small lo d h k = omega (arith, ten_low lo d)

pub rest_small : (lo d : ℕ) → rest10 lo d < 2 ^ 64
rest_small lo d = omega arith

pub over_ten : (h c : ℕ) → c < 10 → (18446744073709551615 - c) / 10 < h → 2 ^ 64 ≤ h * 10 + c
over_ten h c a b = omega arith

pub in_ten : (h c : ℕ) → c < 10 → h ≤ (18446744073709551615 - c) / 10 → h * 10 + c < 2 ^ 64
in_ten h c a b = omega arith

module _ (h l d : ℕ) (a : l < 2 ^ 64) (b : d < 10) where
  pub shift_in : h ≤ (18446744073709551615 - carry10 l d) / 10 → number ((h * 10 + carry10 l d) * 2 ^ 64 + rest10 l d) ≡ fits 128 (number ((h * 2 ^ 64 + l) * 10 + d))
  shift_in k =
      in_below (2 ^ 128) ((h * 2 ^ 64 + l) * 10 + d) (ten_high (2 ^ 64) h l d (carry10 l d) (rest10 l d) (ten_low l d))
      (lt_high (2 ^ 64) (rest10 l d) 0 (in_ten h (carry10 l d) (carry_small l d a b) k) (rest_small l d))

  pub shift_out : (18446744073709551615 - carry10 l d) / 10 < h → refused ≡ fits 128 (number ((h * 2 ^ 64 + l) * 10 + d))
  shift_out k =
      out_below (2 ^ 128) ((h * 2 ^ 64 + l) * 10 + d)
      (rw (← ten_high (2 ^ 64) h l d (carry10 l d) (rest10 l d) (ten_low l d)) (le_high (2 ^ 64) (rest10 l d) (over_ten h (carry10 l d) (carry_small l d a b) k)))

-- where the high half is 0 and the low half has room for a digit
module _ {h : ℕ} (l d : ℕ) (z : h ≡ 0) (a : l < 1844674407370955161) (b : d < 10) where
  pub short-mul : l * 10 < 2 ^ 64
  short-mul = omega arith

  pub short-fits : l * 10 + d < 2 ^ 64
  short-fits = omega arith

  pub short_in : number (0 * 2 ^ 64 + (l * 10 + d)) ≡ fits 128 (number ((h * 2 ^ 64 + l) * 10 + d))
  short_in =
      in_below (2 ^ 128) ((h * 2 ^ 64 + l) * 10 + d) (low (2 ^ 64) h l d z)
      (lt_high (2 ^ 64) {h = 0} {k = 2 ^ 64} (l * 10 + d) 0 (leb-true 1 (2 ^ 64) refl) short-fits)
    where
      low : (B h l d : ℕ) → h ≡ 0 → 0 * B + (l * 10 + d) ≡ (h * B + l) * 10 + d
      low B h l d z = let e : h * B + l ≡ l = only-low B l z in omega arith

-- the tenth of a low half alone
pub tenth_short : {hi : ℕ} (lo : ℕ) → hi ≡ 0 → (0 * 2 ^ 64 + lo / 10 ≡ (hi * 2 ^ 64 + lo) / 10) × (lo % 10 ≡ (hi * 2 ^ 64 + lo) % 10)
tenth_short {hi} lo z = rw z (omega arith, omega arith)
