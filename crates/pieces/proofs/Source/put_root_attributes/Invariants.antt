-- `pieces::Source::put_root_attributes` meets its contract.
-- Assumes nothing.
use Prim.Native.Nat.{◌-◌}
use mathlib.Core.List.{[], ◌++◌}
use Rattle.rules.specs.Bytes.{bytes}
use Rattle.rules.specs.Printing.{root_attribute, attributes}
use Rattle.pieces.specs.Sources.{root_attribute_in}
use Rattle.rules.specs.View.{each}
use Rattle.output.proofs.Words.{Through}
use Rattle.pieces.proofs.Source.put_root_attributes.Given as goal

abbrev pub invariant-loop-i : goal.invariant-loop-i
invariant-loop-i l = Through (attributes root_attribute (each (root_attribute_in l.self) l.initial.i (l.i-end - l.initial.i)) []) (each (λ j. bytes " (" ++ root_attribute (root_attribute_in l.self j) [] ++ bytes ")") l.i (l.i-end - l.i)) l.initial.writer l.writer
