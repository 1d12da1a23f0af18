-- What the library says of lists, in the words of `rules`: a chain that counts up to the first element that does not pass, and `==` of two parts.
-- Assumes nothing.
use mathlib.Core.Path.{◌≡◌, refl, sym, ap, ◌∙◌}
use mathlib.Core.Bool.{Bool, true, false, cond, ◌&&◌}
use mathlib.Core.List.{List, [], ◌∷◌}
use Prim.Native.Nat.{ℕ, suc, ◌<◌}
use native.Mathlib.Numerals.{one-add}
use lib.ListN.{length, take}
use native.Mathlib.Omega.{arith}
use lib.Dec.{eqb, leb}
use Rattle.std.specs.Cmp.Lexicographic.{pointwise}
use Rattle.std.specs.List.{prefix_len}
use Rattle.std.specs.Prelude.{Option, None, Some, unwrap_or, is_some, IfSome}
use Rattle.std.specs.Bool.{then_some}
use Rattle.std.proofs.Common.{Ordering, Less, Equal, Greater}
use Rattle.std.specs.Ordering.{MatchOrdering, is_le, nat_cmp}
use Rattle.std.specs.Cmp.{ranked}
use Rattle.std.specs.declared.ops.RangeInclusive.{RangeInclusive}
use Rattle.std.specs.Range.{range_inclusive_start, range_inclusive_end, range_inclusive_exhausted, range_inclusive_contains}
use borrow.Author.Tests.{le-leb, lt-leb}
use Rattle.rules.specs.Bytes.{count, same, inside}
use Rattle.laws.proofs.Cases.{by_cases}

pub count-prefix : (p : ℕ → Bool) (s : List ℕ) → length (take (prefix_len p s) s) ≡ count p s
count-prefix p [] = refl
count-prefix p (x ∷ s) = by_cases (p x) (λ e. rw (e, one-add) (ap suc (count-prefix p s))) (λ e. rw e)

pub same-pointwise : (a b : List ℕ) → pointwise eqb a b ≡ same a b
unfolding same
same-pointwise [] [] = refl
same-pointwise [] (y ∷ b) = refl
same-pointwise (x ∷ a) [] = refl
same-pointwise (x ∷ a) (y ∷ b) = ap (λ (t : Bool). eqb x y && t) (same-pointwise a b)

-- `contains` of a range from lo up to and with hi
module _ (x y : ℕ) where
  le_by : (r : Ordering) → MatchOrdering r (x < y) (x ≡ y) (y < x) → is_le r ≡ leb x y
  le_by Less h = sym (le-leb x y (omega arith))
  le_by Equal h = sym (le-leb x y (omega arith))
  le_by Greater h = sym (lt-leb x y h)

  le-cmp : is_le (nat_cmp x y) ≡ leb x y
  le-cmp = le_by (nat_cmp x y) (ranked x y (nat_cmp x y) refl)

pub contains-inside :
    (r : RangeInclusive ℕ) (lo hi b : ℕ) {t : Bool}
    → range_inclusive_start r ≡ lo
    → range_inclusive_end r ≡ hi
    → range_inclusive_exhausted r ≡ false
    → t ≡ range_inclusive_contains (λ x y. Some (nat_cmp x y)) r b
    → t ≡ inside lo hi b
unfolding inside
contains-inside r lo hi b p q s e = e ∙ rw (p, q, s, le-cmp lo b, le-cmp b hi)

-- a number that is answered where a test holds
pub then-some : (t : Bool) (n : ℕ) → unwrap_or (then_some t n) 0 ≡ cond t n 0
then-some true n = refl
then-some false n = refl

-- a number, not 0, that stands where there is one
pub some-leb : (o : Option ℕ) → IfSome o (λ k. 0 < k) → is_some o ≡ leb 1 (unwrap_or o 0)
some-leb None h = refl
some-leb (Some k) h = sym (le-leb 1 k h)
