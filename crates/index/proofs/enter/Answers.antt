-- `enter` meets its contract.
-- Assumes nothing.
use mathlib.Core.Path.{refl}
use native.Mathlib.Omega.{arith}
use lib.ListN.{length-set}
use Rattle.index.specs.Linked as linked
use Rattle.index.proofs.Links.{linked_passed, linked_entered}
use Rattle.index.proofs.enter.Goals as goal

pub returns-then-slot-ge-HEADS : goal.returns-then-slot-ge-HEADS
returns-then-slot-ge-HEADS c = (refl, λ slots first e d. linked_passed (omega arith) d)

pub bounds-index-slot : goal.bounds-index-slot
unfolding linked.room
bounds-index-slot c = omega arith

pub bounds-index-row : goal.bounds-index-row
unfolding linked.room
bounds-index-row c = omega arith

pub overflow_add-index-3 : goal.overflow_add-index-3
unfolding linked.room
overflow_add-index-3 c = omega arith

pub overflow_cast-index-2 : goal.overflow_cast-index-2
unfolding linked.room
overflow_cast-index-2 c = omega arith

pub bounds-index-slot-2 : goal.bounds-index-slot-2
unfolding linked.room
bounds-index-slot-2 c = simp length-set (omega arith)

pub returns : goal.returns
unfolding linked.room
returns c = (simp length-set, λ slots first e d. linked_entered slots _ first _ _ e (omega arith) (omega arith) d)
