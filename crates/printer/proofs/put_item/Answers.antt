-- `printer::put_item` meets its contract.
-- Assumes nothing.
use mathlib.Core.Path.{◌∙◌}
use Rattle.printer.proofs.Items.{first_counted, second-counted, clear_room, item_printed}
use Rattle.printer.proofs.put_item.Goals as goal

pub put_before-requires : goal.put_before-requires
put_before-requires c = record { prepared = c.requires.prepared; first_bound = c.requires.own.operands.first; roots_inside = first_counted _ _ _ c.args.item c.requires.own }

pub put_first_closing-requires : goal.put_first_closing-requires
put_first_closing-requires c = c.requires.own.operands.first

pub put_between-requires : goal.put_between-requires
put_between-requires c = record { prepared = c.put_before.ensures.prepared; roots_inside = second-counted _ _ _ c.args.item c.requires.own }

pub clear_rows-requires : goal.clear_rows-requires
clear_rows-requires c = record { first_le_past = c.requires.own.span; past_in_bounds = clear_room c.put_between.ensures.prepared c.requires.own }

pub returns : goal.returns
returns c =
    item_printed _ _ c.args.item c.requires.prepared c.requires.own c.requires.unmarked c.put_before.ensures c.put_first_closing.ensures c.put_between.ensures (c.put_second_closing.ensures c.args.source.now.attributes.now)
    c.clear_rows.ensures (c.clear_rows.auto.work ∙ c.put_between.auto.work ∙ c.put_before.auto.work)
