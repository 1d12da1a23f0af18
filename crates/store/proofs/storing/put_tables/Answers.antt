-- `store::storing::put_tables` meets its contract.
-- Assumes nothing.
use Rattle.laws.proofs.Going.{going_more, going_fits, going_done}
use Rattle.store.proofs.Pieces.{tables_begin, tables-short}
use Rattle.store.proofs.storing.put_tables.Goals as goal

pub overflow_add-n : goal.overflow_add-n
overflow_add-n c =
    let g1 = tables_begin c.args.file.now.items.now c.args.file.now.statements.now c.args.file.now.operands.now c.args.file.now.attributes.now c.put_words-n.ensures in
    record { fits = going_fits g1 (tables-short c.args.file.now.items.now c.args.file.now.statements.now c.args.file.now.operands.now c.args.file.now.attributes.now c.args.file.now.few) c.put_words-n-2.ensures }

pub overflow_add-n-2 : goal.overflow_add-n-2
overflow_add-n-2 c =
    let g1 = tables_begin c.args.file.now.items.now c.args.file.now.statements.now c.args.file.now.operands.now c.args.file.now.attributes.now c.put_words-n.ensures in
    let g2 = going_more g1 c.least-at.ensures c.put_words-n-2.ensures in
    record { fits = going_fits g2 (tables-short c.args.file.now.items.now c.args.file.now.statements.now c.args.file.now.operands.now c.args.file.now.attributes.now c.args.file.now.few) c.put_words-n-3.ensures }

pub overflow_add-result : goal.overflow_add-result
overflow_add-result c =
    let g1 = tables_begin c.args.file.now.items.now c.args.file.now.statements.now c.args.file.now.operands.now c.args.file.now.attributes.now c.put_words-n.ensures in
    let g2 = going_more g1 c.least-at.ensures c.put_words-n-2.ensures in
    let g3 = going_more g2 c.least-at-2.ensures c.put_words-n-3.ensures in
    record { fits = going_fits g3 (tables-short c.args.file.now.items.now c.args.file.now.statements.now c.args.file.now.operands.now c.args.file.now.attributes.now c.args.file.now.few) c.put_words.ensures }

pub returns : goal.returns
returns c =
    let g1 = tables_begin c.args.file.now.items.now c.args.file.now.statements.now c.args.file.now.operands.now c.args.file.now.attributes.now c.put_words-n.ensures in
    let g2 = going_more g1 c.least-at.ensures c.put_words-n-2.ensures in
    let g3 = going_more g2 c.least-at-2.ensures c.put_words-n-3.ensures in
    let g4 = going_more g3 c.least-at-3.ensures c.put_words.ensures in
    going_done g4
