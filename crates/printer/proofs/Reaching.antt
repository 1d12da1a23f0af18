-- What roots list: the rows of a span, where the roots and all that they reach are among them, and no more rows than that.
-- Assumes nothing.
use mathlib.Core.Path.{◌≡◌, subst}
use mathlib.Core.List.{List, ◌++◌}
use Prim.Native.Nat.{ℕ, ◌+◌, ◌-◌, ◌≤◌, ◌<◌}
use native.Mathlib.Omega.{arith}
use lib.ListN.{length}
use Rattle.rules.specs.declared.Span.{Span}
use Rattle.rules.specs.Rows.{◌up_to◌}
use Rattle.rules.specs.Meaning.{Mem, All}
use Rattle.rules.specs.Syntax.{flat}
use Rattle.laws.proofs.Members.{all_at, all_of, all_map, flat_mem}
use Rattle.listing.specs.Listing.{Marks, marked, unfolded}
use Rattle.listing.specs.References.{references, refers, Sound}
use Rattle.listing.proofs.Marking.{firsts-only}
use Rattle.listing.proofs.Orders.{Reach, here, there, unfolded_reach}
use Rattle.listing.proofs.Listings.{listing-append}
use Rattle.listing.proofs.Steps.{refers-counted, refers-earlier}
use Rattle.printer.specs.Rows.{reached}
use Rattle.printer.specs.Contract.{Within}
use Rattle.printer.proofs.Counting.{free_most, firsts-few}

module _ (S O : List ℕ) (s : ℕ) (so : Sound S O s) where
  -- roots one after the other
  pub reached-append : (m : Marks) (xs ys : List ℕ) → reached S O s m (xs ++ ys) ≡ reached S O s m xs ++ reached S O s (marked m (reached S O s m xs)) ys
  unfolding reached
  reached-append m xs ys = listing-append (refers S O s) (refers-earlier S O s so) s m xs ys

  -- among the rows of a span that refer to such rows alone
  module _ (span : Span) (counted : span.past ≤ s) (inside : (i : ℕ) → Within span i → All (λ j. span.first ≤ j) (references S O i)) where
    below : (x j : ℕ) → Within span x → Mem j (refers S O s x) → Within span j
    below x j w q =
        let same : refers S O s x ≡ references S O x = refers-counted S O s so x (omega (arith, w.1)) in
        let low : span.first ≤ j = all_at (λ k. span.first ≤ k) (references S O x) (inside x w) j (subst (Mem j) same q) in
        let less : j < x = all_at (λ k. k < x) (refers S O s x) (refers-earlier S O s so x) j q in
        (low, omega (arith, w.1))

    reach_within : {x y : ℕ} → Reach (refers S O s) x y → Within span x → Within span y
    reach_within here w = w
    reach_within (there {x} {j} q p) w = reach_within p (below x j w q)

    flat-within : (roots : List ℕ) → All (Within span) roots → All (Within span) (flat (unfolded (refers S O s) s) roots)
    flat-within roots a =
        all_of (Within span) (flat (unfolded (refers S O s) s) roots)
        (λ y h.
        let g : (j : ℕ) × Mem j roots × Mem y (unfolded (refers S O s) s j) = flat_mem (unfolded (refers S O s) s) y roots h in
        reach_within (unfolded_reach (refers S O s) (refers-earlier S O s so) s g.0 y g.2) (all_at (Within span) roots a g.0 g.1))

    pub reached-within : (m : Marks) (roots : List ℕ) → All (Within span) roots → All (Within span) (reached S O s m roots)
    unfolding reached
    reached-within m roots a =
        all_of (Within span) (reached S O s m roots)
        (λ y h. all_at (Within span) (flat (unfolded (refers S O s) s) roots) (flat-within roots a) y (firsts-only (flat (unfolded (refers S O s) s) roots) m y h).0)

    pub reached-few : span.first ≤ span.past → (m : Marks) (roots : List ℕ) → All (Within span) roots → length (reached S O s m roots) ≤ span.past - span.first
    unfolding reached
    reached-few h m roots a =
        let n : ℕ = span.past - span.first in
        let near : All (λ j. (span.first ≤ j) × (j < span.first + n)) (flat (unfolded (refers S O s) s) roots) =
        all_map (Within span) (λ j. (span.first ≤ j) × (j < span.first + n)) (λ j w. (w.0, omega (arith, w.1))) (flat (unfolded (refers S O s) s) roots) (flat-within roots a) in
        omega (arith, firsts-few (flat (unfolded (refers S O s) s) roots) m span.first n near, free_most m span.first n)

  -- among all counted rows
  all_inside : (i : ℕ) → Within (0 up_to s) i → All (λ j. 0 ≤ j) (references S O i)
  all_inside i w = all_of (λ j. 0 ≤ j) (references S O i) (λ j q. omega arith)

  counted-within : (roots : List ℕ) → All (λ j. j < s) roots → All (Within (0 up_to s)) roots
  counted-within roots a = all_map (λ j. j < s) (Within (0 up_to s)) (λ j h. (omega arith, h)) roots a

  pub reached-counted : (m : Marks) (roots : List ℕ) → All (λ j. j < s) roots → All (λ j. j < s) (reached S O s m roots)
  reached-counted m roots a =
      all_map (Within (0 up_to s)) (λ j. j < s) (λ j w. w.1) (reached S O s m roots)
      (reached-within (0 up_to s) (omega arith) all_inside m roots (counted-within roots a))

  pub reached-length : (m : Marks) (roots : List ℕ) → All (λ j. j < s) roots → length (reached S O s m roots) ≤ s
  reached-length m roots a = omega (arith, reached-few (0 up_to s) (omega arith) all_inside (omega arith) m roots (counted-within roots a))
