-- `pieces::operand::put_number` meets its contract.
-- Assumes nothing.
use Rattle.std.proofs.Common.{rules}
use Rattle.output.proofs.Words.{put_wrote}
use Rattle.pieces.proofs.Decimals.{decimal-wrote}
use Rattle.pieces.proofs.operand.put_number.Goals as goal

pub returns : goal.returns
returns c = c.append.ensures _ (λ rest n left p b. put_wrote b (decimal-wrote c.from-number.ensures (search rules)))
