-- `pieces::Source::put_attributes` meets its contract.
-- Assumes nothing.
use Prim.Native.Nat.{◌-◌}
use mathlib.Core.List.{[], ◌++◌}
use Rattle.rules.specs.Bytes.{bytes}
use Rattle.rules.specs.Printing.{attribute, attributes}
use Rattle.pieces.specs.Sources.{attribute_in}
use Rattle.rules.specs.View.{each}
use Rattle.output.proofs.Words.{Through}
use Rattle.pieces.proofs.Source.put_attributes.Given as goal

abbrev pub invariant-loop-i : goal.invariant-loop-i
invariant-loop-i l = Through (attributes attribute (each (attribute_in l.self) l.initial.i (l.i-end - l.initial.i)) []) (each (λ j. bytes " (" ++ attribute (attribute_in l.self j) [] ++ bytes ")") l.i (l.i-end - l.i)) l.initial.writer l.writer
