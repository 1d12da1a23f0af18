-- `printer::clear_rows` meets its contract.
-- Assumes nothing.
use Rattle.printer.proofs.Cleaning.{cleared, part-long}
use Rattle.printer.proofs.clear_rows.Goals as goal

pub slice_bounds-clear_marks-count : goal.slice_bounds-clear_marks-count
slice_bounds-clear_marks-count c = c.requires.first_le_past

pub slice_bounds-clear_marks-start : goal.slice_bounds-clear_marks-start
slice_bounds-clear_marks-start c = c.requires.first_le_past

pub slice_bounds-clear_marks-end : goal.slice_bounds-clear_marks-end
slice_bounds-clear_marks-end c = c.requires.past_in_bounds

pub returns : goal.returns
returns c = cleared c.args.span c.args.work.now c.clear_marks.new.work c.requires.first_le_past c.requires.past_in_bounds (part-long c.args.span c.args.work.now c.clear_marks.new.work c.requires.first_le_past c.requires.past_in_bounds c.clear_marks.auto.work) c.clear_marks.ensures
