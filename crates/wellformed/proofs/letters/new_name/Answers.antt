-- `new_name` meets its contract.
-- Assumes nothing.
use mathlib.Core.Bool.{not}
use mathlib.Core.Path.{refl, ap, ◌∙◌}
use borrow.Author.Rules.{rules}
use Rattle.rules.specs.Bytes.{same}
use Rattle.rules.specs.Rows.{name_at, letters_of}
use Rattle.rules.specs.WellFormed.{new_name}
use Rattle.wellformed.proofs.Along.{all_rows}
use Rattle.wellformed.proofs.letters.new_name.Goals as goal

pub returns : goal.returns
unfolding new_name name_at
returns g c =
    let a = c.args in
    let S = g.T.Table.words a.statements in
    let here = c.letters-name.ensures ∙ ap (letters_of a.text.now) c.name_at-s.ensures in
    all_rows _ _ _ (λ k. not (same (name_at a.text.now S k) (name_at a.text.now S a.i))) a.first a.i c.all.ensures.ran refl (λ x b t k. rw (← here) (search rules))
