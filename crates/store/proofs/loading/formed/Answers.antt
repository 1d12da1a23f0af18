-- `store::loading::formed` meets its contract.
-- Assumes nothing.
use mathlib.Core.Path.{ap, ◌∙◌}
use Rattle.rules.specs.WellFormed.{Counts, well_formed}
use Rattle.rules.specs.Stored.{in_words, text_in, items_in, statements_in, operands_in, attributes_in}
use Rattle.store.proofs.Parts.{whole_parts, counted_all}
use Rattle.store.proofs.loading.formed.Goals as goal

pub packed_well_formed-requires : goal.packed_well_formed-requires
packed_well_formed-requires c =
    let e = c.parts_of-p.ensures in
    rw (e.items, e.statements, e.operands, e.attributes) (whole_parts c.args.file.now c.args.l c.requires.within c.requires.whole)

pub returns : goal.returns
returns c =
    let a = c.args in
    let e = c.parts_of-p.ensures in
    let told = rw (e.text, e.items, e.statements, e.operands, e.attributes) at c.packed_well_formed.ensures in
    told
    ∙ ap (λ (n : Counts). well_formed (text_in a.file.now a.l) (in_words (items_in a.file.now a.l)) (in_words (statements_in a.file.now a.l)) (in_words (operands_in a.file.now a.l)) (in_words (attributes_in a.file.now a.l)) n)
    (counted_all (items_in a.file.now a.l) (statements_in a.file.now a.l) (operands_in a.file.now a.l) (attributes_in a.file.now a.l))
