-- `pieces::Source::put_root_attribute` meets its contract.
-- Assumes nothing.
use mathlib.Core.Path.{ap}
use mathlib.Core.List.{[]}
use Rattle.rules.specs.Syntax.{RootAttribute}
use Rattle.rules.specs.Printing.{root_attribute}
use Rattle.output.proofs.Words.{writes_as}
use Rattle.pieces.proofs.Seen.{demanded_bits_written, harvested_seen}
use Rattle.pieces.proofs.Source.put_root_attribute.Goals as goal

pub returns-then-row-eq-DEMANDED_BITS : goal.returns-then-row-eq-DEMANDED_BITS
returns-then-row-eq-DEMANDED_BITS c = writes_as (demanded_bits_written _ _ _ c.attribute_at-row.ensures c.if-row-eq-DEMANDED_BITS.true) c.put_pattern.ensures

pub returns-else-row-eq-DEMANDED_BITS : goal.returns-else-row-eq-DEMANDED_BITS
returns-else-row-eq-DEMANDED_BITS c = writes_as (ap (λ (a : RootAttribute). root_attribute a []) (harvested_seen _ _ _ c.attribute_at-row.ensures c.if-row-eq-DEMANDED_BITS.false)) c.put.ensures
