-- What reading an integer or a type comes to, from what its digits read as: one law for each way out.
-- Assumes nothing.
use mathlib.Core.Path.{◌≡◌, refl, sym, ap, ◌∙◌}
use mathlib.Core.Bool.{Bool, true, false, not, ◌&&◌}
use mathlib.Core.List.{List, [], ◌∷◌}
use Prim.Native.Nat.{ℕ, ◌+◌, ◌-◌, ◌^◌, ◌≤◌, ◌<◌, suc-le-suc}
use native.Mathlib.Omega.{arith}
use lib.Dec.{ltb, eqb}
use lib.ListN.{get_or, drop, take}
use borrow.Author.Tests.{ltb-true, ltb-false, leb-true, ne_eqb}
use Rattle.std.specs.Cmp.Lexicographic.{pointwise}
use Rattle.std.proofs.Common.{nat_eq, Option, Some, None}
use Rattle.std.specs.Prelude.{MatchOption}
use Rattle.std.specs.Bool.{then_some}
use Rattle.rules.specs.Bytes.{byte}
use Rattle.rules.specs.Integers.{Read, number, refused, below, fits, unsigned, minus, opposite, integer, positive, type_width}
use Rattle.laws.proofs.Cases.{by_cases}
use Rattle.wide.specs.Wide.{as_field}
use Rattle.wide.proofs.Fields.{in_below, out_below, below_in, below_less}

least_fits : 2 ^ 127 + 1 ≤ 2 ^ 128
least_fits = leb-true (2 ^ 127 + 1) (2 ^ 128) refl

most-fits : 2 ^ 127 ≤ 2 ^ 128
most-fits = leb-true (2 ^ 127) (2 ^ 128) refl

width_fits_lem : 2 ^ 16 ≤ 2 ^ 128
width_fits_lem = leb-true (2 ^ 16) (2 ^ 128) refl

and_yes : (t : Bool) → (t && true) ≡ t
and_yes true = refl
and_yes false = refl

-- the first byte, as the code compares it
pub begins : (s : List ℕ) (b : ℕ) → 0 < b → pointwise nat_eq (take 1 s) (b ∷ []) ≡ eqb (get_or s 0 0) b
begins [] b h = sym (ne_eqb 0 b (λ e. omega arith))
begins (x ∷ s) b h = and_yes (eqb x b)

module _ (s : List ℕ) where
  pub signed : pointwise nat_eq (take 1 s) (byte "-" ∷ []) ≡ true → {r : Read} → r ≡ minus (below (2 ^ 127 + 1) (unsigned (drop 1 s))) → r ≡ integer s
  unfolding integer
  signed h e = e ∙ sym (rw (sym (begins s (byte "-") (omega arith)) ∙ h))

  pub plain : pointwise nat_eq (take 1 s) (byte "-" ∷ []) ≡ false → {r : Read} → r ≡ below (2 ^ 127) (unsigned s) → r ≡ integer s
  unfolding integer
  plain h e = e ∙ sym (rw (sym (begins s (byte "-") (omega arith)) ∙ h))

-- what the digits of an integer read as, in a field of 128 bits
module _ (s : List ℕ) where
  pub minus_bad : refused ≡ fits 128 (unsigned s) → refused ≡ minus (below (2 ^ 127 + 1) (unsigned s))
  minus_bad e = ap minus (below_less (2 ^ 127 + 1) (2 ^ 128) (unsigned s) least_fits e)

  pub plain_bad : refused ≡ fits 128 (unsigned s) → refused ≡ below (2 ^ 127) (unsigned s)
  plain_bad e = below_less (2 ^ 127) (2 ^ 128) (unsigned s) most-fits e

  module _ (v : ℕ) (e : number v ≡ fits 128 (unsigned s)) where
    pub minus-out : ltb (2 ^ 127) v ≡ true → refused ≡ minus (below (2 ^ 127 + 1) (unsigned s))
    minus-out t = ap minus (out_below (2 ^ 127 + 1) v (ltb-true (2 ^ 127) v t) ∙ ap (below (2 ^ 127 + 1)) (sym (below_in (2 ^ 128) v (unsigned s) e).0))

    pub minus_in : ltb (2 ^ 127) v ≡ false → {r : ℕ} → r ≡ opposite v → number r ≡ minus (below (2 ^ 127 + 1) (unsigned s))
    minus_in t o = ap number o ∙ ap minus (in_below (2 ^ 127 + 1) v refl (suc-le-suc (ltb-false (2 ^ 127) v t)) ∙ ap (below (2 ^ 127 + 1)) (sym (below_in (2 ^ 128) v (unsigned s) e).0))

    pub plain_out : ltb (2 ^ 127 - 1) v ≡ true → refused ≡ below (2 ^ 127) (unsigned s)
    plain_out t = out_below (2 ^ 127) v (ltb-true (2 ^ 127 - 1) v t) ∙ ap (below (2 ^ 127)) (sym (below_in (2 ^ 128) v (unsigned s) e).0)

    pub plain_in : ltb (2 ^ 127 - 1) v ≡ false → number v ≡ below (2 ^ 127) (unsigned s)
    plain_in t = in_below (2 ^ 127) v refl (suc-le-suc (ltb-false (2 ^ 127 - 1) v t)) ∙ ap (below (2 ^ 127)) (sym (below_in (2 ^ 128) v (unsigned s) e).0)

-- 'i' and digits
module _ (s : List ℕ) where
  pub type-other : pointwise nat_eq (take 1 s) (byte "i" ∷ []) ≡ false → refused ≡ type_width s
  unfolding type_width
  type-other h = sym (rw (sym (begins s (byte "i") (omega arith)) ∙ h))

  module _ (first : pointwise nat_eq (take 1 s) (byte "i" ∷ []) ≡ true) where
    typed : positive (fits 16 (unsigned (drop 1 s))) ≡ type_width s
    unfolding type_width
    typed = sym (rw (sym (begins s (byte "i") (omega arith)) ∙ first))

    pub type_bad : refused ≡ fits 128 (unsigned (drop 1 s)) → refused ≡ type_width s
    type_bad e = ap positive (below_less (2 ^ 16) (2 ^ 128) (unsigned (drop 1 s)) width_fits_lem e) ∙ typed

    pub type_is : (v : ℕ) → number v ≡ fits 128 (unsigned (drop 1 s)) → positive (fits 16 (number v)) ≡ type_width s
    type_is v e = ap (λ (r : Read). positive (fits 16 r)) (sym (below_in (2 ^ 128) v (unsigned (drop 1 s)) e).0) ∙ typed

kept_by : (x : ℕ) (t : Bool) → t ≡ not (eqb x 0) → as_field (then_some t x) ≡ positive (number x)
kept_by x t e = rw e (by_cases (eqb x 0) (λ z. rw z) (λ z. rw z))

-- a number that is kept where it is not 0
pub kept :
    {Q : ℕ → Bool → Type 0} (o r : Option ℕ)
    → ((x : ℕ) (t : Bool) → Q x t → t ≡ not (eqb x 0))
    → MatchOption o (r ≡ None) (λ x. (t : Bool) × Q x t × (r ≡ then_some t x))
    → as_field r ≡ positive (as_field o)
kept None r same e = ap as_field e
kept (Some x) r same (t, q, e) = ap as_field e ∙ kept_by x t (same x t q)
