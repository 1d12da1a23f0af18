-- `hold` meets its contract.
-- Assumes nothing.
use Rattle.index.proofs.Links.{linked_near}
use Rattle.index.proofs.hold.Goals as goal

pub returns : goal.returns
returns c h =
    let n = c.near-from in
    c.enter_rows.ensures _ h.low (linked_near n.ensures h.linked)
