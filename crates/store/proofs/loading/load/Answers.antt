-- `store::loading::load` meets its contract.
-- Assumes nothing.
use borrow.Author.Rules.{rules}
use mathlib.Core.Path.{sym, ap, ◌∙◌}
use Rattle.laws.proofs.Tests.{said_not, said_not_not}
use Rattle.rules.specs.Stored.{refused, content}
use Rattle.store.proofs.Parts.{shaped, parts_inside, parts_whole}
use Rattle.store.proofs.Loads.{bad_shape, small, roomed, malformed, accepted, load_refused, load_all, answer_is, told, over_text}
use Rattle.store.proofs.loading.load.Goals as goal

pub returns-in-Some : goal.returns-in-Some
returns-in-Some c =
    let h = c.in-Some.ensures in
    load_refused _ _ _ _ _ _ (bad_shape _ _ (λ e. h.1 (sym h.0 ∙ e)) ∙ ap refused h.0)

pub lengths-l-requires : goal.lengths-l-requires
lengths-l-requires c = (shaped _ c.in_default.ensures).long

pub returns-then-not-roomy : goal.returns-then-not-roomy
returns-then-not-roomy c = load_refused _ _ _ _ _ 15 (small _ _ c.in_default.ensures (said_not (told _ _ c.roomy.ensures c.lengths-l.ensures) c.if-not-roomy.true-raw))

pub formed-malformed-requires : goal.formed-malformed-requires
formed-malformed-requires c = record { within = parts_inside _ c.lengths-l.ensures c.in_default.ensures; whole = parts_whole _ c.lengths-l.ensures c.in_default.ensures }

pub returns-then-malformed : goal.returns-then-malformed
returns-then-malformed c = load_refused _ _ _ _ _ 8
    (roomed _ _ c.in_default.ensures (said_not_not (told _ _ c.roomy.ensures c.lengths-l.ensures) c.if-not-roomy.false-raw)
    ∙ ap (content _) (sym c.lengths-l.ensures)
    ∙ malformed c.args.file.now c.lengths-l.result (search (rules, said_not)))

pub take_parts-requires : goal.take_parts-requires
take_parts-requires c = record { within = parts_inside _ c.lengths-l.ensures c.in_default.ensures; roomy = said_not_not c.roomy.ensures c.if-not-roomy.false-raw }

pub returns : goal.returns
returns c =
    let t = c.take_parts.ensures in
    let l = c.lengths-l.result in
    let file = c.args.file.now in
    let inside = parts_inside file c.lengths-l.ensures c.in_default.ensures in
    load_all _ _ _ _ _ _ _ _ _ _
    (roomed _ _ c.in_default.ensures (said_not_not (told _ _ c.roomy.ensures c.lengths-l.ensures) c.if-not-roomy.false-raw)
    ∙ ap (content file) (sym c.lengths-l.ensures)
    ∙ accepted file l (search (rules, said_not_not)))
    (answer_is file l inside) (over_text file l _ inside t.text_after) t.items_after t.statements_after t.operands_after t.attributes_after
