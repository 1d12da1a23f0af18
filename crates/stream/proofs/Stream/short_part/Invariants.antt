-- `short_part` meets its contract. The loop's invariant: the state is what the bytes so far lead to.
-- Assumes nothing.
use Rattle.std.proofs.Common.{◌≡◌, take, fold}
use Rattle.stream.specs.Steps.{stepped}
use Rattle.stream.proofs.Stream.short_part.Given as goal

abbrev pub invariant-loop-b : goal.invariant-loop-b
invariant-loop-b l = l.state ≡ fold stepped l.initial.state (take l.b-index l.bytes)
