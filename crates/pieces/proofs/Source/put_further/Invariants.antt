-- `pieces::Source::put_further` meets its contract.
-- Assumes nothing.
use Prim.Native.Nat.{◌-◌}
use mathlib.Core.List.{[], ◌∷◌}
use Rattle.rules.specs.Printing.{further}
use Rattle.pieces.specs.Sources.{operand_in}
use Rattle.rules.specs.View.{each}
use Rattle.output.proofs.Words.{Through}
use Rattle.pieces.proofs.Source.put_further.Given as goal

abbrev pub invariant-loop-i : goal.invariant-loop-i
invariant-loop-i l = Through (further (each (operand_in l.self) l.initial.i (l.i-end - l.initial.i)) []) (each (λ j. further (operand_in l.self j ∷ []) []) l.i (l.i-end - l.i)) l.initial.writer l.writer
