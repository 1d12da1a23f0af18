-- Whether every number of a list passes a test, where `all` went along it.
-- Assumes nothing.
use mathlib.Core.Path.{◌≡◌, refl, sym, ap, ◌∙◌}
use native.Mathlib.Omega.{arith}
use mathlib.Core.Bool.{Bool, true, false, cond}
use mathlib.Core.List.{List, [], ◌∷◌}
use Prim.Native.Nat.{ℕ, zero, suc, ◌≤◌, ◌<◌, ◌^◌}
use lib.ListN.{length, get_or}
use borrow.Author.Tests.{eq-eqb, ne_eqb, lt-ltb}
use Rattle.rules.specs.Bytes.{count}
use Rattle.rules.specs.WellFormed.{only, word_fits}
use Rattle.laws.proofs.Cases.{by_cases}
use denote.Param.Members.{Mut}
use denote.Ref.{Bor}
use Rattle.std.specs.Bool.{MatchBool}
use Rattle.std.specs.Fn.{Called}
use Rattle.std.specs.Iterator.{ChecksAll}
use Rattle.std.specs.List.{AllWithin, HoldsAt}
use Rattle.std.specs.Slice.Iter.{iter_rest}
use Rattle.std.proofs.iter.Yields.{fronts}
use Rattle.std.proofs.lemmas.Iterator.{cases_from_all, YieldsList-from_slice}

all_count : (l : List ℕ) → ((k : ℕ) → get_or l k 0 < 2 ^ 32) → count word_fits l ≡ length l
unfolding word_fits
all_count [] h = refl
all_count (x ∷ l) h =
    ap (λ (t : Bool). cond t (suc (count word_fits l)) 0) (lt-ltb x (2 ^ 32) (h 0)) ∙ ap suc (all_count l (λ k. h (suc k)))

-- words that have 32 bits
pub words-fit : (l : List ℕ) → ((k : ℕ) → get_or l k 0 < 2 ^ 32) → only word_fits l ≡ true
words-fit l h = eq-eqb (count word_fits l) (length l) (all_count l h)

-- what `all` answers along a slice, where each call answers a test of its number
all_pass : (p : ℕ → Bool) (l : List ℕ) → ((k : ℕ) → k < length l → p (get_or l k 0) ≡ true) → count p l ≡ length l
all_pass p [] h = refl
all_pass p (x ∷ l) h = rw (h 0 (omega arith)) (ap suc (all_pass p l (λ k b. h (suc k) (omega arith))))

one_fails : (p : ℕ → Bool) (l : List ℕ) (k : ℕ) → k < length l → p (get_or l k 0) ≡ false → count p l ≤ k
one_fails p [] k h e = absurd (omega arith)
one_fails p (x ∷ l) zero h e = rw e (omega arith)
one_fails p (x ∷ l) (suc k) h e =
    let rest = one_fails p l k (omega arith) e in
    by_cases (p x)
    (λ t. rw t (omega (arith, rest)))
    (λ t. rw t (omega arith))

only_answer :
    (p : ℕ → Bool) (l : List ℕ) (r : Bool)
    → MatchBool r (AllWithin (λ x. p x ≡ true) l 0 (length l)) ((k : ℕ) × (k < length l) × HoldsAt (λ x. p x ≡ false) l k)
    → r ≡ only p l
only_answer p l true h = sym (eq-eqb (count p l) (length l) (all_pass p l (λ k b. h k 0 (omega arith) b)))
only_answer p l false h =
    let few = one_fails p l h.0 h.1 (h.2 0) in
    sym (ne_eqb (count p l) (length l) (λ e. absurd (omega (arith, few, h.1, e))))

pub all_only :
    {F : Type 0} {g : Mut F (Bor ℕ × Unit {0}) Bool} {s : _} (u : _) (q : F) (r : Bool) (p : ℕ → Bool) (l : List ℕ)
    → ChecksAll fronts g s q r u
    → iter_rest s ≡ l
    → ((x : Bor ℕ) (b : Bool) (t : F) → Called g q (x, tt) b t → (t ≡ q) × (b ≡ p x.now))
    → r ≡ only p l
all_only u q r p l ran from says =
    only_answer p l r (
    cases_from_all u q r (λ x. p x ≡ true) (λ x. p x ≡ false) ran (YieldsList-from_slice l from)
    (λ x t k. (let w = says x true t k in w.0, let w = says x true t k in sym w.1))
    (λ x t k. let w = says x false t k in sym w.1))
