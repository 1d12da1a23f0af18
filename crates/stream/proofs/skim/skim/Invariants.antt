-- `skim` meets its contract. The loop's invariant: what is left, from between tokens, comes to what all of it comes to.
-- Assumes nothing.
use Prim.Native.Nat.{ℕ, ◌+◌, ◌-◌, ◌≤◌}
use mathlib.Core.Path.{◌≡◌}
use lib.ListN.{length, drop}
use Rattle.stream.specs.Steps.{gapped, fed}
use Rattle.stream.specs.Skims.{standing}
use Rattle.stream.proofs.skim.skim.Given as goal

abbrev pub invariant-loop-past : goal.invariant-loop-past
invariant-loop-past l =
    (l.past ≤ length l.s) × ((i : ℕ) → i + length l.s ≤ 65537 → fed (standing i (gapped l.count)) l.s ≡ fed (standing (i + l.past) (gapped l.n)) (drop l.past l.s))

abbrev pub decreases-loop-past : goal.decreases-loop-past
decreases-loop-past l = length l.s - l.past
