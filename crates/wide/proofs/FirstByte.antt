-- The same for a text that is looked at by its first byte, and whose digits are lent as `&s[1..]`.
-- Assumes nothing.
use mathlib.Core.Path.{◌≡◌, refl, ap, ◌∙◌}
use mathlib.Core.Bool.{true, false}
use mathlib.Core.List.{List, [], ◌∷◌}
use Prim.Native.Nat.{ℕ, ◌-◌, ◌^◌, ◌<◌}
use native.Mathlib.Omega.{arith}
use lib.Dec.{ltb}
use lib.ListN.{length, get_or, drop, take}
use borrow.Author.Tests.{eq-eqb, ne_eqb}
use Rattle.std.specs.Cmp.Lexicographic.{pointwise}
use Rattle.std.proofs.Common.{nat_eq}
use Rattle.rules.specs.Bytes.{byte}
use Rattle.rules.specs.Integers.{Read, number, refused, fits, unsigned, opposite, integer, positive, type_width}
use Rattle.laws.proofs.Runs.{rest}
use Rattle.wide.proofs.Signed.{begins, signed, plain}
use Rattle.wide.proofs.Signed as read

-- the first byte is looked at only where there is one
pub integer_none : (s : List ℕ) → length s ≡ 0 → refused ≡ integer s
unfolding integer
integer_none [] h = refl
integer_none (x ∷ s) h = let w : ⊥ = omega arith in absurd w

pub type_none : (s : List ℕ) → length s ≡ 0 → refused ≡ type_width s
unfolding type_width
type_none [] h = refl
type_none (x ∷ s) h = let w : ⊥ = omega arith in absurd w

begun : (s : List ℕ) (b : ℕ) → 0 < b → get_or s 0 0 ≡ b → pointwise nat_eq (take 1 s) (b ∷ []) ≡ true
begun s b h e = begins s b h ∙ eq-eqb (get_or s 0 0) b e

other : (s : List ℕ) (b : ℕ) → 0 < b → (get_or s 0 0 ≡ b → ⊥) → pointwise nat_eq (take 1 s) (b ∷ []) ≡ false
other s b h n = begins s b h ∙ ne_eqb (get_or s 0 0) b n

-- what the digits behind the first byte read as, lent as `&s[1..]`
module _ (s : List ℕ) {r : Read} (e : r ≡ fits 128 (unsigned (take (length s - 1) (drop 1 s)))) where
  pub digits-behind : r ≡ fits 128 (unsigned (drop 1 s))
  digits-behind = e ∙ ap (λ (l : List ℕ). fits 128 (unsigned l)) (rest s 1)

-- '-' and digits
module _ (s : List ℕ) (sign : get_or s 0 0 ≡ byte "-") where
  pub minus_bad : refused ≡ fits 128 (unsigned (take (length s - 1) (drop 1 s))) → refused ≡ integer s
  minus_bad e = signed s (begun s (byte "-") (omega arith) sign) (read.minus_bad (drop 1 s) (digits-behind s e))

  module _ (v : ℕ) (e : number v ≡ fits 128 (unsigned (take (length s - 1) (drop 1 s)))) where
    pub minus-out : ltb (2 ^ 127) v ≡ true → refused ≡ integer s
    minus-out t = signed s (begun s (byte "-") (omega arith) sign) (read.minus-out (drop 1 s) v (digits-behind s e) t)

    pub minus_in : ltb (2 ^ 127) v ≡ false → {r : ℕ} → r ≡ opposite v → number r ≡ integer s
    minus_in t o = signed s (begun s (byte "-") (omega arith) sign) (read.minus_in (drop 1 s) v (digits-behind s e) t o)

-- digits alone
module _ (s : List ℕ) (sign : get_or s 0 0 ≡ byte "-" → ⊥) where
  pub plus_bad : refused ≡ fits 128 (unsigned s) → refused ≡ integer s
  plus_bad e = plain s (other s (byte "-") (omega arith) sign) (read.plain_bad s e)

  module _ (v : ℕ) (e : number v ≡ fits 128 (unsigned s)) where
    pub plus_out : ltb (2 ^ 127 - 1) v ≡ true → refused ≡ integer s
    plus_out t = plain s (other s (byte "-") (omega arith) sign) (read.plain_out s v e t)

    pub plus_in : ltb (2 ^ 127 - 1) v ≡ false → number v ≡ integer s
    plus_in t = plain s (other s (byte "-") (omega arith) sign) (read.plain_in s v e t)

-- 'i' and digits
pub type-other : (s : List ℕ) → (get_or s 0 0 ≡ byte "i" → ⊥) → refused ≡ type_width s
type-other s h = read.type-other s (other s (byte "i") (omega arith) h)

module _ (s : List ℕ) (first : get_or s 0 0 ≡ byte "i") where
  pub type_bad : refused ≡ fits 128 (unsigned (take (length s - 1) (drop 1 s))) → refused ≡ type_width s
  type_bad e = read.type_bad s (begun s (byte "i") (omega arith) first) (digits-behind s e)

  pub type_is : (v : ℕ) → number v ≡ fits 128 (unsigned (take (length s - 1) (drop 1 s))) → positive (fits 16 (number v)) ≡ type_width s
  type_is v e = read.type_is s (begun s (byte "i") (omega arith) first) v (digits-behind s e)
