-- `reader::items::items_of` meets its contract.
-- Assumes nothing.
use Rattle.std.proofs.Common.{rules}
use Rattle.reader.proofs.Loops.{none_yet, turn, over, fails, blind, falls, items_loop}
use Rattle.reader.proofs.items.items_of.Goals as goal

pub loop-p-init : goal.loop-p-init
loop-p-init c = none_yet _ _

pub item-requires : goal.item-requires
item-requires c = c.in_ok-item_ahead.ensures.ready (c.loop-p.invariant.ready c.requires)

pub loop-p-smaller : goal.loop-p-smaller
loop-p-smaller c = falls (items_loop c.args.entry) _ _ _ _ c.in_ok-item_ahead.ensures c.in_ok-item.ensures

pub loop-p-preserved : goal.loop-p-preserved
loop-p-preserved c = turn (items_loop c.args.entry) _ _ _ _ _ c.if-branch.true c.loop-p.invariant c.in_ok-item_ahead.ensures c.in_ok-item.ensures

pub returns-in_err-item_ahead : goal.returns-in_err-item_ahead
returns-in_err-item_ahead c = blind (items_loop c.args.entry) _ _ _ _ _ (search rules) c.loop-p.invariant c.in_err-item_ahead.ensures

pub returns-in_err-item : goal.returns-in_err-item
returns-in_err-item c = fails (items_loop c.args.entry) _ _ _ _ _ _ _ c.if-branch.true (search rules) c.loop-p.invariant c.in_ok-item_ahead.ensures c.in_err-item.ensures

pub returns : goal.returns
returns c = over (items_loop c.args.entry) _ _ _ _ c.if-branch.false c.loop-p.invariant c.in_ok-item_ahead.ensures
