-- `reader::operands::operands_behind` meets its contract: the operands that are left are what is left of the rule.
-- Assumes nothing.
use Rattle.std.proofs.Common.{◌-◌, ◌≡◌}
use Rattle.parser.specs.Stands.{but_operands}
use Rattle.reader.specs.Commas.{wanted}
use Rattle.reader.proofs.Commas.{Behind}
use Rattle.reader.proofs.operands.operands_behind.Given as goal

abbrev pub invariant-loop-i : goal.invariant-loop-i
invariant-loop-i l = Behind l.comma l.n l.initial.p (wanted l.comma l.i) (l.n - l.i) l.p × (but_operands l.p ≡ but_operands l.initial.p)
