-- `store_with` reads and stores: laws of both calls together.
-- Assumes nothing.
use Rattle.std.proofs.Common.{ap}
use Rattle.rules.specs.Results.{read_answer}
use Rattle.front_stored.proofs.Laws.{tells_file, tells-refusal}
use Rattle.front_stored.proofs.storing.store_with.Goals as goal

pub returns-in-Err : goal.returns-in-Err
returns-in-Err c =
    tells-refusal c.args.entry c.args.text.now c.args.items.now c.args.statements.now c.args.operands.now c.args.attributes.now c.args.output.now
    (record { items = c.told-items; statements = c.told-statements; operands = c.told-operands; attributes = c.told-attributes })
    _ _ _ _ _ c.read.ensures _ _ (ap read_answer c.in-Err.is)

pub returns-in-Ok : goal.returns-in-Ok
returns-in-Ok c =
    tells_file c.args.entry c.args.text.now c.args.items.now c.args.statements.now c.args.operands.now c.args.attributes.now c.args.output.now
    (record { items = c.told-items; statements = c.told-statements; operands = c.told-operands; attributes = c.told-attributes })
    _ _ _ _ _ c.read.ensures _ _ _ _ (ap read_answer c.in-Ok.is) _ _ c.store.ensures
