-- `lines::statement::put_operation` meets its contract.
-- Assumes nothing.
use Rattle.std.proofs.Common.{rules}
use mathlib.Core.Path.{◌≡◌, ap}
use Prim.Native.Nat.{◌-◌}
use native.Mathlib.Omega.{arith}
use Rattle.rules.specs.Instructions.{instruction_name}
use Rattle.laws.proofs.Over.{written}
use Rattle.output.proofs.Words.{put_wrote, first, next, last}
use Rattle.lines.proofs.Sides.{operation_pieces}
use Rattle.lines.proofs.statement.put_operation.Goals as goal

pub returns : goal.returns
returns c =
    last
    (next
    (first (operation_pieces _ _)
    (c.append.ensures (instruction_name (c.args.row.code - 1))
    (λ rest n left p b. put_wrote b (written (ap instruction_name (let e : c.args.row.code - 1 ≡ c.saturating_sub.result = omega (arith, c.saturating_sub.ensures) in e)) (search rules)))))
    c.put_operands.ensures)
