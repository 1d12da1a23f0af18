-- `printer::put_items` meets its contract.
-- Assumes nothing.
use Rattle.std.proofs.Common.{rules}
use native.Mathlib.Omega.{arith}
use Rattle.printer.specs.Contract.{ItemsPrinted}
use Rattle.printer.proofs.Items.{going_start, going_own, going_more, going_done}
use Rattle.printer.proofs.put_items.Goals as goal

pub loop-i-init : goal.loop-i-init
loop-i-init c = going_start _ c.requires.prepared c.requires.unmarked

pub put_item-requires : goal.put_item-requires
put_item-requires c = record { prepared = c.loop-i.invariant.prepared; unmarked = c.loop-i.invariant.marks; own = going_own c.loop-i.invariant c.loop-i-test.true c.requires.owned c.item_at-item.ensures }

pub loop-i-preserved : goal.loop-i-preserved
loop-i-preserved c = going_more c.loop-i.invariant c.loop-i-test.true c.item_at-item.ensures c.put_item.auto.work c.put_item.ensures

pub returns : goal.returns
returns c =
    let all : ItemsPrinted c.args.source.now.text.now c.args.items.now c.args.source.now.statements.now c.args.source.now.operands.now c.args.source.now.attributes.now c.args.count c.args.rows c.args.out.now c.loop-i.work c.loop-i.writer.out.now c.loop-i.writer.count =
    going_done c.loop-i.invariant (omega arith) c.requires.owned c.new-writer.ensures.same c.new-writer.ensures.nothing in
    search rules
