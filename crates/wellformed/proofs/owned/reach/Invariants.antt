-- `reach` meets its contract. The loop's invariant: the spans passed are consecutive up to where it stands, so the others decide.
-- Assumes nothing.
use mathlib.Core.List.{List}
use Prim.Native.Nat.{ℕ, ◌-◌}
use Rattle.std.specs.Prelude.{Option}
use Rattle.rules.specs.declared.Span.{Span}
use Rattle.rules.specs.Syntax.{flat}
use Rattle.rules.specs.View.{each}
use Rattle.wellformed.specs.Reached.{Reaches}
use Rattle.wellformed.proofs.Spans.{Following}
use Rattle.wellformed.proofs.owned.reach.Given as goal

abbrev pub invariant-loop-i : goal.invariant-loop-i
invariant-loop-i g l =
    (spans : ℕ → List Span)
    → ((i : ℕ) → (a : ℕ) → (r : Option ℕ) → goal.F-post g l.step i a r → Reaches a (spans i) r)
    → Following (λ k. flat spans (each (λ j. j) k (l.end - k))) l.fn.first l.fn.at l.i l.reached
