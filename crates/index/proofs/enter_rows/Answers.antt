-- `enter_rows` meets its contract. While rows enter, those before are linked, and the index keeps its length.
-- Assumes nothing.
use mathlib.Core.Path.{◌≡◌, refl, ◌∙◌}
use native.Mathlib.Omega.{arith}
use lib.ListN.{set}
use lib.Seq.{get_or-set_same}
use borrow.Author.Rules.{rules}
use Rattle.index.specs.Slots.{slots_in}
use Rattle.index.specs.Linked as linked
use Rattle.index.specs.Linked.{held, Linked}
use Rattle.index.proofs.Links.{linked-held}
use Rattle.index.proofs.Numbers.{named-slot}
use Rattle.index.proofs.enter_rows.Goals as goal

pub loop-i-init : goal.loop-i-init
loop-i-init c = (search rules, search rules, refl, λ first d. d)

pub enter-requires : goal.enter-requires
unfolding linked.room
enter-requires c = omega arith

pub loop-i-preserved : goal.loop-i-preserved
loop-i-preserved c =
    let i = c.loop-i.i in
    let k : slots_in c.args.text.now c.args.statements.now i ≡ c.slot_of.result = named-slot _ _ _ c.name_at-span.ensures c.letters.ensures c.slot_of.ensures.0 in
    (search rules, search rules, c.enter.ensures.0 ∙ c.loop-i.invariant.2, λ first d. c.enter.ensures.1 _ first k (c.loop-i.invariant.3 first d))

pub overflow_cast-index : goal.overflow_cast-index
unfolding linked.room
overflow_cast-index c = omega arith

pub bounds-index-1024 : goal.bounds-index-1024
unfolding linked.room
bounds-index-1024 c = omega arith

pub returns : goal.returns
unfolding linked.room
returns c first low d =
    let past = c.args.past in
    let whole : c.loop-i.i ≡ past = omega arith in
    let long = c.loop-i.invariant.2 in
    let here : held (set c.loop-i.index 1024 past) ≡ past = get_or-set_same c.loop-i.index 1024 past 0 (omega arith) in
    let now : Linked (slots_in c.args.text.now c.args.statements.now) c.loop-i.index first past = rw whole at (c.loop-i.invariant.3 first d) in
    record { low = low; within = omega arith; linked = rw here (linked-held _ past now) }
