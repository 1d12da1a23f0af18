-- `listing::Graph::trace` meets its contract.
-- Assumes nothing.
use Prim.Native.Nat.{◌+◌, ◌<◌}
use native.Mathlib.Omega.{arith}
use lib.ListN.{length, length-set}
use Rattle.listing.specs.References.{size}
use Rattle.listing.proofs.Steps.{references-below, trace-room, traced}
use Rattle.listing.proofs.Graph.trace.Goals as goal

pub overflow_add-work-2 : goal.overflow_add-work-2
overflow_add-work-2 c =
    let room : c.args.self.now.rows + c.args.depth + (size c.args.self.now.statements.now c.args.row + 2) < length c.args.work.now = trace-room _ _ _ c.requires.sound _ _ _ c.requires.ready c.requires.row_lt_rows c.requires.traced c.requires.unmarked in
    omega (arith, room)

pub offset_bounds-work-base : goal.offset_bounds-work-base
offset_bounds-work-base c =
    let room : c.args.self.now.rows + c.args.depth + (size c.args.self.now.statements.now c.args.row + 2) < length c.args.work.now = trace-room _ _ _ c.requires.sound _ _ _ c.requires.ready c.requires.row_lt_rows c.requires.traced c.requires.unmarked in
    omega (arith, room)

pub bounds-work-base : goal.bounds-work-base
bounds-work-base c =
    let room : c.args.self.now.rows + c.args.depth + (size c.args.self.now.statements.now c.args.row + 2) < length c.args.work.now = trace-room _ _ _ c.requires.sound _ _ _ c.requires.ready c.requires.row_lt_rows c.requires.traced c.requires.unmarked in
    omega (arith, room, c.mark.auto.work)

pub overflow_add-depth : goal.overflow_add-depth
overflow_add-depth c =
    let room : c.args.self.now.rows + c.args.depth + (size c.args.self.now.statements.now c.args.row + 2) < length c.args.work.now = trace-room _ _ _ c.requires.sound _ _ _ c.requires.ready c.requires.row_lt_rows c.requires.traced c.requires.unmarked in
    omega (arith, room)

pub push_references-requires : goal.push_references-requires
push_references-requires c =
    let room : c.args.self.now.rows + c.args.depth + (size c.args.self.now.statements.now c.args.row + 2) < length c.args.work.now = trace-room _ _ _ c.requires.sound _ _ _ c.requires.ready c.requires.row_lt_rows c.requires.traced c.requires.unmarked in
    let so = c.requires.sound in
    let i = c.args.row in record { row_inside = omega (arith, so.whole, so.few); operands_inside = so.inside i c.requires.row_lt_rows; room = simp length-set (omega (arith, room, c.mark.auto.work)); small_rows = references-below _ _ _ so i c.requires.row_lt_rows }

pub returns : goal.returns
returns c =
    traced _ _ _ c.requires.sound _ _ _ c.requires.ready c.requires.row_lt_rows c.requires.traced c.requires.unmarked _ c.mark.ensures _ _ c.push_references.auto.work c.push_references.ensures
