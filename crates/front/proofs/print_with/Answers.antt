-- `print_with` reads and prints: laws of both calls together.
-- Assumes nothing.
use Rattle.std.proofs.Common.{ap}
use Rattle.rules.specs.Results.{read_answer}
use Rattle.front.proofs.Laws.{tells_print, tells-refusal}
use Rattle.front.proofs.print_with.Goals as goal

pub returns-in-Err : goal.returns-in-Err
returns-in-Err c =
    tells-refusal c.args.entry c.args.text.now c.args.items.now c.args.statements.now c.args.operands.now c.args.attributes.now c.args.work.now c.args.output.now
    (record { items = c.told-items; statements = c.told-statements; operands = c.told-operands; attributes = c.told-attributes; words = c.told-work })
    _ _ _ _ _ c.read.ensures _ _ (ap read_answer c.in-Err.is)

pub returns-in-Ok : goal.returns-in-Ok
returns-in-Ok c =
    tells_print c.args.entry c.args.text.now c.args.items.now c.args.statements.now c.args.operands.now c.args.attributes.now c.args.work.now c.args.output.now
    (record { items = c.told-items; statements = c.told-statements; operands = c.told-operands; attributes = c.told-attributes; words = c.told-work })
    _ _ _ _ _ c.read.ensures _ _ _ _ (ap read_answer c.in-Ok.is) _ _ _ c.print.ensures
