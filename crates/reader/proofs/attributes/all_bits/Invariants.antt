-- `reader::attributes::all_bits` meets its contract.
-- Assumes nothing.
use mathlib.Core.Path.{◌≡◌}
use lib.ListN.{drop}
use Rattle.rules.specs.Reading as R
use Rattle.reader.proofs.attributes.all_bits.Given as goal

abbrev pub invariant-loop-b : goal.invariant-loop-b
invariant-loop-b l = R.all_bits l.s ≡ R.all_bits (drop l.b-index l.s)
