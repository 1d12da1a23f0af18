-- `printer::listed::put_listed` meets its contract.
-- Assumes nothing.
use Rattle.printer.proofs.Walks.{begin_room, walking_start, walking_more, walking_less, walking_done, listed, ended}
use Rattle.printer.proofs.listed.put_listed.Goals as goal

pub begin-walk-requires : goal.begin-walk-requires
begin-walk-requires c = record { rows_in_bounds = begin_room c.requires.prepared; rows_bound = c.requires.prepared.sound.few; root_lt_rows = c.requires.root_lt_rows }

pub loop-row-init : goal.loop-row-init
loop-row-init c = walking_start _ _ c.requires.prepared _ (c.begin-walk.ensures _ _ c.requires.prepared.sound c.requires.prepared.ready) _

pub advance-requires : goal.advance-requires
advance-requires c = record { sound = c.requires.prepared.sound; ready = c.loop-row.invariant.ready }

pub put_line-requires : goal.put_line-requires
put_line-requires c =
    let h = listed c.in-Some.is c.advance.ensures.advanced in
    (c.requires.prepared.operands _ h.counted).first

pub loop-row-smaller : goal.loop-row-smaller
loop-row-smaller c =
    let h = listed c.in-Some.is c.advance.ensures.advanced in
    walking_less c.loop-row.invariant h

pub loop-row-preserved : goal.loop-row-preserved
loop-row-preserved c =
    let h = listed c.in-Some.is c.advance.ensures.advanced in
    walking_more c.loop-row.invariant h c.advance.auto.work c.put_line.ensures

pub returns : goal.returns
returns c = walking_done _ _ c.requires.prepared _ (c.begin-walk.ensures _ _ c.requires.prepared.sound c.requires.prepared.ready) c.loop-row.invariant (ended _ c.in_default.is c.advance.ensures.advanced)
