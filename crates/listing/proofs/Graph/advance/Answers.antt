-- `listing::Graph::advance` meets its contract.
-- Assumes nothing.
use Rattle.std.proofs.Common.{rules}
use mathlib.Core.Path.{refl}
use native.Mathlib.Omega.{arith}
use Rattle.laws.proofs.Tests.{said_not, said_not_not}
use Rattle.listing.proofs.Steps.{going_from, going_ended, Turn, turn_ready, turn_room, turn_counted, turn_trace, turn_listed, turn_passed, turn_going, turn_less}
use Rattle.listing.proofs.Graph.advance.Goals as goal

pub loop-depth-init : goal.loop-depth-init
loop-depth-init c = record { going = going_from _ _ _ _ _ c.requires.ready; stays = refl }

pub overflow_sub-depth : goal.overflow_sub-depth
overflow_sub-depth c = omega arith

pub overflow_add-entry : goal.overflow_add-entry
overflow_add-entry c =
    let turn : Turn c.args.self.now.statements.now c.args.self.now.operands.now c.args.self.now.rows c.args.work.now c.args.walk.now.depth c.loop-depth.work c.loop-depth.depth = record { sound = c.requires.sound; going = c.loop-depth.invariant.going; more = c.loop-depth-test.true } in
    omega (arith, turn_room turn)

pub offset_bounds-work-base : goal.offset_bounds-work-base
offset_bounds-work-base c =
    let turn : Turn c.args.self.now.statements.now c.args.self.now.operands.now c.args.self.now.rows c.args.work.now c.args.walk.now.depth c.loop-depth.work c.loop-depth.depth = record { sound = c.requires.sound; going = c.loop-depth.invariant.going; more = c.loop-depth-test.true } in
    omega (arith, turn_room turn)

pub bounds-work-base : goal.bounds-work-base
bounds-work-base c =
    let turn : Turn c.args.self.now.statements.now c.args.self.now.operands.now c.args.self.now.rows c.args.work.now c.args.walk.now.depth c.loop-depth.work c.loop-depth.depth = record { sound = c.requires.sound; going = c.loop-depth.invariant.going; more = c.loop-depth-test.true } in
    omega (arith, turn_room turn)

pub returns-then-entry-eq1-clause-advanced : goal.returns-then-entry-eq1-clause-advanced
returns-then-entry-eq1-clause-advanced c =
    let turn : Turn c.args.self.now.statements.now c.args.self.now.operands.now c.args.self.now.rows c.args.work.now c.args.walk.now.depth c.loop-depth.work c.loop-depth.depth = record { sound = c.requires.sound; going = c.loop-depth.invariant.going; more = c.loop-depth-test.true } in
    turn_listed turn c.if-entry-eq1.true

pub is_marked-unmarked-requires : goal.is_marked-unmarked-requires
is_marked-unmarked-requires c =
    let turn : Turn c.args.self.now.statements.now c.args.self.now.operands.now c.args.self.now.rows c.args.work.now c.args.walk.now.depth c.loop-depth.work c.loop-depth.depth = record { sound = c.requires.sound; going = c.loop-depth.invariant.going; more = c.loop-depth-test.true } in
    omega (arith, turn_counted turn, turn_room turn)

pub trace-depth-requires : goal.trace-depth-requires
trace-depth-requires c =
    let turn : Turn c.args.self.now.statements.now c.args.self.now.operands.now c.args.self.now.rows c.args.work.now c.args.walk.now.depth c.loop-depth.work c.loop-depth.depth = record { sound = c.requires.sound; going = c.loop-depth.invariant.going; more = c.loop-depth-test.true } in
    let u = turn in
    record { sound = u.sound; ready = turn_ready u; row_lt_rows = turn_counted u; traced = turn_trace u c.if-entry-eq1.false; unmarked = search (rules, said_not) }

pub loop-depth-smaller-then-unmarked : goal.loop-depth-smaller-then-unmarked
loop-depth-smaller-then-unmarked c =
    let turn : Turn c.args.self.now.statements.now c.args.self.now.operands.now c.args.self.now.rows c.args.work.now c.args.walk.now.depth c.loop-depth.work c.loop-depth.depth = record { sound = c.requires.sound; going = c.loop-depth.invariant.going; more = c.loop-depth-test.true } in
    turn_less turn _ _ c.trace-depth.ensures

pub loop-depth-preserved-then-unmarked : goal.loop-depth-preserved-then-unmarked
loop-depth-preserved-then-unmarked c =
    let turn : Turn c.args.self.now.statements.now c.args.self.now.operands.now c.args.self.now.rows c.args.work.now c.args.walk.now.depth c.loop-depth.work c.loop-depth.depth = record { sound = c.requires.sound; going = c.loop-depth.invariant.going; more = c.loop-depth-test.true } in
    record { going = turn_going turn _ _ c.trace-depth.ensures c.trace-depth.auto.work; stays = c.loop-depth.invariant.stays }

pub loop-depth-smaller : goal.loop-depth-smaller
loop-depth-smaller c =
    let turn : Turn c.args.self.now.statements.now c.args.self.now.operands.now c.args.self.now.rows c.args.work.now c.args.walk.now.depth c.loop-depth.work c.loop-depth.depth = record { sound = c.requires.sound; going = c.loop-depth.invariant.going; more = c.loop-depth-test.true } in
    turn_less turn _ _ (turn_passed turn c.if-entry-eq1.false (search (rules, said_not_not)))

pub loop-depth-preserved : goal.loop-depth-preserved
loop-depth-preserved c =
    let turn : Turn c.args.self.now.statements.now c.args.self.now.operands.now c.args.self.now.rows c.args.work.now c.args.walk.now.depth c.loop-depth.work c.loop-depth.depth = record { sound = c.requires.sound; going = c.loop-depth.invariant.going; more = c.loop-depth-test.true } in
    record { going = turn_going turn _ _ (turn_passed turn c.if-entry-eq1.false (search (rules, said_not_not))) refl; stays = c.loop-depth.invariant.stays }

pub returns-clause-advanced : goal.returns-clause-advanced
returns-clause-advanced c = going_ended _ _ _ _ _ _ _ c.loop-depth.invariant.going c.loop-depth-test.false
