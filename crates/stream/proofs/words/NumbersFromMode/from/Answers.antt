-- `from` meets its contract.
-- Assumes nothing.
use mathlib.Core.Path.{sym, ap, ◌∙◌}
use Rattle.stream.specs.Words.{mode_numbers, mode_of}
use Rattle.stream.proofs.Kept.{wide_back, percent_back, run-back, known-back, equals-back, stopped-back}
use Rattle.stream.proofs.words.NumbersFromMode.from.Goals as goal

pub returns-in-Gap : goal.returns-in-Gap
unfolding mode_numbers mode_of
returns-in-Gap c = (c.plain.ensures.value ∙ ap mode_numbers (sym c.in-Gap.is), ap mode_of c.plain.ensures.value ∙ sym c.in-Gap.is)

pub returns-in-Comment : goal.returns-in-Comment
unfolding mode_numbers mode_of
returns-in-Comment c = (c.plain-in-Comment.ensures.value ∙ ap mode_numbers (sym c.in-Comment.is), ap mode_of c.plain-in-Comment.ensures.value ∙ sym c.in-Comment.is)

pub returns-in-Wide : goal.returns-in-Wide
unfolding mode_numbers mode_of
returns-in-Wide c = (c.inside.ensures.value ∙ ap mode_numbers (sym c.in-Wide.is), ap mode_of c.inside.ensures.value ∙ wide_back c.inside.ensures.small ∙ sym c.in-Wide.is)

pub returns-in-Percent : goal.returns-in-Percent
unfolding mode_numbers mode_of
returns-in-Percent c = (c.plain-in-Percent.ensures.value ∙ ap mode_numbers (sym c.in-Percent.is), ap mode_of c.plain-in-Percent.ensures.value ∙ percent_back c.plain-in-Percent.ensures.small ∙ sym c.in-Percent.is)

pub returns-in-Run : goal.returns-in-Run
unfolding mode_numbers mode_of
returns-in-Run c = (c.plain-in-Run.ensures.value ∙ ap mode_numbers (sym c.in-Run.is), ap mode_of c.plain-in-Run.ensures.value ∙ run-back c.plain-in-Run.ensures.small ∙ sym c.in-Run.is)

pub returns-in-Known : goal.returns-in-Known
unfolding mode_numbers mode_of
returns-in-Known c = (c.plain-in-Known.ensures.value ∙ ap mode_numbers (sym c.in-Known.is), ap mode_of c.plain-in-Known.ensures.value ∙ known-back c.plain-in-Known.ensures.small ∙ sym c.in-Known.is)

pub returns-in-Equals : goal.returns-in-Equals
unfolding mode_numbers mode_of
returns-in-Equals c = (c.plain-in-Equals.ensures.value ∙ ap mode_numbers (sym c.in-Equals.is), ap mode_of c.plain-in-Equals.ensures.value ∙ equals-back c.plain-in-Equals.ensures.small ∙ sym c.in-Equals.is)

pub returns-in-Stopped : goal.returns-in-Stopped
unfolding mode_numbers mode_of
returns-in-Stopped c = (c.stopped.ensures.value ∙ ap mode_numbers (sym c.in-Stopped.is), ap mode_of c.stopped.ensures.value ∙ stopped-back c.stopped.ensures.fits ∙ sym c.in-Stopped.is)
