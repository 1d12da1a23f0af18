-- `store::loading::take_rows` meets its contract. The loop's invariant: i words stand over the front of the table, and the rest is as it was.
-- Assumes nothing.
use mathlib.Core.Path.{◌≡◌}
use mathlib.Core.List.{◌++◌}
use lib.ListN.{take, drop}
use Rattle.rules.specs.Stored.{in_words}
use Rattle.store.proofs.loading.take_rows.Given as goal

abbrev pub invariant-loop-i : goal.invariant-loop-i
invariant-loop-i l = l.table ≡ take l.i (in_words l.bytes) ++ drop l.i l.initial.table
