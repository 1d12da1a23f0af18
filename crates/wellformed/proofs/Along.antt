-- Rows one after the other: where a loop stands among them, and what a test of all of them says of each.
-- Assumes nothing.
use mathlib.Core.Path.{◌≡◌, refl, sym, ap, ◌∙◌, subst}
use mathlib.Core.Bool.{Bool, true, false, false≢true}
use mathlib.Core.List.{[], ◌∷◌}
use Prim.Native.Nat.{ℕ, zero, suc, ◌+◌, ◌-◌, ◌≤◌, ◌<◌}
use native.Mathlib.Omega.{arith}
use lib.Dec.{eqb}
use lib.ListN.{length}
use borrow.Author.Tests.{eqb-true, eqb-false}
use denote.Param.Members.{Mut}
use Rattle.std.specs.Bool.{MatchBool}
use Rattle.std.specs.Fn.{Called}
use Rattle.std.specs.Iterator.{ChecksAll}
use Rattle.std.specs.List.{range_with_len, AllWithin, HoldsAt}
use Rattle.std.proofs.iter.Yields.{nat_range_steps}
use Rattle.std.proofs.lemmas.Iterator.{cases_from_all, YieldsList-from_range}
use Rattle.std.proofs.lemmas.List.FromFn.{length-range_with_len, get_or-range_with_len}
use Rattle.std.specs.declared.ops.Range.{Range}
use Rattle.rules.specs.declared.Span.{Span}
use Rattle.rules.specs.View.{each, along}
use Rattle.rules.specs.WellFormed.{every}
use Rattle.laws.proofs.Cases.{by_cases}
use Rattle.laws.proofs.Tests.{and_left, and_right}

-- a loop stands at row i of those up to another
module _ {A : Type 0} (f : ℕ → A) (i past : ℕ) where
  pub each_more : i < past → each f i (past - i) ≡ f i ∷ each f (i + 1) (past - (i + 1))
  each_more h = let e : past - i ≡ suc (past - (i + 1)) = omega arith in ap (each f i) e

  pub each-end : past ≤ i → each f i (past - i) ≡ []
  each-end h = let e : past - i ≡ 0 = omega arith in ap (each f i) e

-- it stands at the first
pub each_start : {A : Type 0} (f : ℕ → A) (n : ℕ) → each f 0 n ≡ each f 0 (n - 0)
each_start f n = let e : n ≡ n - 0 = omega arith in ap (each f 0) e

module _ (f : ℕ → Bool) (i past : ℕ) where
  pub every_more : i < past → f i ≡ true → every (each f i (past - i)) ≡ every (each f (i + 1) (past - (i + 1)))
  every_more h e = ap every (each_more f i past h) ∙ rw e

  pub every-stop : i < past → f i ≡ false → every (each f i (past - i)) ≡ false
  every-stop h e = ap every (each_more f i past h) ∙ rw e

  pub every-end : past ≤ i → every (each f i (past - i)) ≡ true
  every-end h = ap every (each-end f i past h)

-- a loop over the rows from first up to past has come to row i: those it passed have passed the test f
pub record Passing (f : ℕ → Bool) (first i past : ℕ) : Type 0 where
  pub rest : every (each f first (past - first)) ≡ every (each f i (past - i))

module _ {f : ℕ → Bool} {first past : ℕ} where
  pub passing_begin : Passing f first first past
  passing_begin = record { rest = refl }

  module _ {i : ℕ} (p : Passing f first i past) where
    pub passing_more : i < past → f i ≡ true → Passing f first (i + 1) past
    passing_more h e = record { rest = p.rest ∙ every_more f i past h e }

    pub passing_stop : i < past → f i ≡ false → false ≡ every (each f first (past - first))
    passing_stop h e = sym (p.rest ∙ every-stop f i past h e)

    pub passing_end : past ≤ i → true ≡ every (each f first (past - first))
    passing_end h = sym (p.rest ∙ every-end f i past h)

-- what a test of all rows says of each, and what follows where each passes
each_passes : (f : ℕ → Bool) (first n : ℕ) → every (each f first n) ≡ true → (i : ℕ) → first ≤ i → i < first + n → f i ≡ true
each_passes f first zero e i h k = absurd (omega arith)
each_passes f first (suc n) e i h k =
    by_cases (eqb first i)
    (λ t. subst (λ (j : ℕ). f j ≡ true) (eqb-true first i t) (and_left (f first) (every (each f (first + 1) n)) e))
    (λ t.
    let ne = eqb-false first i t in
    each_passes f (first + 1) n (and_right (f first) (every (each f (first + 1) n)) e) i (omega arith) (omega arith))

passes_each : (f : ℕ → Bool) (first n : ℕ) → ((i : ℕ) → first ≤ i → i < first + n → f i ≡ true) → every (each f first n) ≡ true
passes_each f first zero h = refl
passes_each f first (suc n) h = rw (h first (omega arith) (omega arith)) (passes_each f (first + 1) n (λ i a b. h i (omega arith) (omega arith)))

module _ (f : ℕ → Bool) (s : Span) where
  pub along_passes : every (along f s) ≡ true → (i : ℕ) → s.first ≤ i → i < s.past → f i ≡ true
  along_passes e i h k = each_passes f s.first (s.past - s.first) e i h (omega arith)

  pub passes_along : ((i : ℕ) → s.first ≤ i → i < s.past → f i ≡ true) → every (along f s) ≡ true
  passes_along h = passes_each f s.first (s.past - s.first) (λ i a b. h i a (omega arith))

module _ (f : ℕ → Bool) (n : ℕ) where
  pub rows_pass : every (each f 0 n) ≡ true → (i : ℕ) → i < n → f i ≡ true
  rows_pass e i h = each_passes f 0 n e i (omega arith) (omega arith)

  pub passes_rows : ((i : ℕ) → i < n → f i ≡ true) → every (each f 0 n) ≡ true
  passes_rows h = passes_each f 0 n (λ i a b. h i (omega arith))

-- one row of a list is passed over: so are not all
stopped_at : (f : ℕ → Bool) (first n k : ℕ) → k < n → f (first + k) ≡ false → every (each f first n) ≡ false
stopped_at f first n k h e =
    by_cases (every (each f first n))
    (λ t. absurd (false≢true (sym e ∙ each_passes f first n t (first + k) (omega arith) (omega arith))))
    (λ t. t)

rows_answer :
    (f : ℕ → Bool) (first n : ℕ) (r : Bool)
    → MatchBool r (AllWithin (λ x. f x ≡ true) (range_with_len first n) 0 (length (range_with_len first n))) ((k : ℕ) × (k < length (range_with_len first n)) × HoldsAt (λ x. f x ≡ false) (range_with_len first n) k)
    → r ≡ every (each f first n)
rows_answer f first n true h =
    sym (passes_each f first n
    (λ i a b.
    let e : first + (i - first) ≡ i = omega arith in
    let there = get_or-range_with_len first n (i - first) 0 (omega arith) in
    subst (λ (x : ℕ). f x ≡ true) (there ∙ e) (h (i - first) 0 (omega arith) (omega (arith, length-range_with_len first n)))))
rows_answer f first n false h =
    let k = h.0 in
    let l : k < n = omega (arith, length-range_with_len first n, h.1) in
    sym (stopped_at f first n k l (subst (λ (x : ℕ). f x ≡ false) (get_or-range_with_len first n k 0 l) (h.2 0)))

-- what `all` answers along a range of rows, where each call answers a test of its row
pub all_rows :
    {F : Type 0} {g : Mut F (ℕ × Unit {0}) Bool} {s : Range ℕ} (u : Range ℕ) (q : F) (r : Bool) (f : ℕ → Bool) (first past : ℕ)
    → ChecksAll nat_range_steps g s q r u
    → s ≡ record { start = first; end = past }
    → ((x : ℕ) (b : Bool) (t : F) → Called g q (x, tt) b t → (t ≡ q) × (b ≡ f x))
    → r ≡ every (each f first (past - first))
all_rows {F} {g} u q r f first past ran from says =
    let n = past - first in
    let found : MatchBool r (AllWithin (λ x. f x ≡ true) (range_with_len first n) 0 (length (range_with_len first n))) ((k : ℕ) × (k < length (range_with_len first n)) × HoldsAt (λ x. f x ≡ false) (range_with_len first n) k) =
    cases_from_all u q r (λ x. f x ≡ true) (λ x. f x ≡ false) ran (YieldsList-from_range first past n from refl)
    (λ x t k. (let w = says x true t k in w.0, let w = says x true t k in sym w.1))
    (λ x t k. let w = says x false t k in sym w.1) in
    rows_answer f first n r found
