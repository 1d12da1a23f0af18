-- `from` meets its contract.
-- Assumes nothing.
use mathlib.Core.Path.{sym, ap, ◌∙◌}
use Rattle.stream.specs.Words.{sequence_numbers, sequence_of}
use Rattle.stream.proofs.Kept.{inside_back, bad_back}
use Rattle.stream.proofs.words.NumbersFromSequence.from.Goals as goal

pub returns-in-Between : goal.returns-in-Between
unfolding sequence_numbers sequence_of
returns-in-Between c = (c.plain.ensures.value ∙ ap sequence_numbers (sym c.in-Between.is), ap sequence_of c.plain.ensures.value ∙ sym c.in-Between.is)

pub returns-in-Inside : goal.returns-in-Inside
unfolding sequence_numbers sequence_of
returns-in-Inside c = (c.inside.ensures.value ∙ ap sequence_numbers (sym c.in-Inside.is), ap sequence_of c.inside.ensures.value ∙ inside_back c.inside.ensures.small ∙ sym c.in-Inside.is)

pub returns-in-Bad : goal.returns-in-Bad
unfolding sequence_numbers sequence_of
returns-in-Bad c = (c.plain-in-Bad.ensures.value ∙ ap sequence_numbers (sym c.in-Bad.is), ap sequence_of c.plain-in-Bad.ensures.value ∙ bad_back c.plain-in-Bad.ensures.small ∙ sym c.in-Bad.is)
