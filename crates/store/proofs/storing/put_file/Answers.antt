-- `store::storing::put_file` meets its contract.
-- Assumes nothing.
use Rattle.laws.proofs.Going.{going_more, going_fits, going_done}
use Rattle.store.proofs.Pieces.{file_begin, file_short}
use Rattle.store.proofs.storing.put_file.Goals as goal

pub overflow_add-n : goal.overflow_add-n
overflow_add-n c =
    let g1 = file_begin c.args.file.now.text.now c.args.file.now.items.now c.args.file.now.statements.now c.args.file.now.operands.now c.args.file.now.attributes.now c.put-n.ensures in
    record { fits = going_fits g1 (file_short c.args.file.now.text.now c.args.file.now.items.now c.args.file.now.statements.now c.args.file.now.operands.now c.args.file.now.attributes.now c.args.file.now.letters c.args.file.now.few) c.put_tables-n.ensures }

pub overflow_add-result : goal.overflow_add-result
overflow_add-result c =
    let g1 = file_begin c.args.file.now.text.now c.args.file.now.items.now c.args.file.now.statements.now c.args.file.now.operands.now c.args.file.now.attributes.now c.put-n.ensures in
    let g2 = going_more g1 c.least-at.ensures c.put_tables-n.ensures in
    record { fits = going_fits g2 (file_short c.args.file.now.text.now c.args.file.now.items.now c.args.file.now.statements.now c.args.file.now.operands.now c.args.file.now.attributes.now c.args.file.now.letters c.args.file.now.few) c.put_trailer.ensures }

pub returns : goal.returns
returns c =
    let g1 = file_begin c.args.file.now.text.now c.args.file.now.items.now c.args.file.now.statements.now c.args.file.now.operands.now c.args.file.now.attributes.now c.put-n.ensures in
    let g2 = going_more g1 c.least-at.ensures c.put_tables-n.ensures in
    going_done (going_more g2 c.least-at-2.ensures c.put_trailer.ensures)
