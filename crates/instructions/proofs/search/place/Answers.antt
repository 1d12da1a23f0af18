-- Each arm by the length that it names: its candidates are the words of that length. Behind the last arm none is left.
-- Assumes nothing.
use mathlib.Core.Path.{refl, sym, ◌∙◌}
use mathlib.Core.List.{[], ◌∷◌}
use lib.ListN.{length}
use Rattle.laws.proofs.Tests.{nums}
use Rattle.instructions.specs.Candidates.{all_instructions}
use Rattle.instructions.proofs.Candidates.{among_length, no_candidate}
use Rattle.instructions.proofs.search.place.Goals as goal

pub returns-in-2 : goal.returns-in-2
returns-in-2 c = c.of_two.ensures ∙ among_length c.args.w.now all_instructions 2 c.in-2.is

pub returns-in-3 : goal.returns-in-3
returns-in-3 c = c.of_three.ensures ∙ among_length c.args.w.now all_instructions 3 c.in-3.is

pub returns-in-4 : goal.returns-in-4
returns-in-4 c = c.of_four.ensures ∙ among_length c.args.w.now all_instructions 4 c.in-4.is

pub returns-in-5 : goal.returns-in-5
returns-in-5 c = c.of_five.ensures ∙ among_length c.args.w.now all_instructions 5 c.in-5.is

pub returns-in-6 : goal.returns-in-6
returns-in-6 c = c.of_six.ensures ∙ among_length c.args.w.now all_instructions 6 c.in-6.is

pub returns-in-8 : goal.returns-in-8
returns-in-8 c = c.of_eight.ensures ∙ among_length c.args.w.now all_instructions 8 c.in-8.is

pub returns-in-9 : goal.returns-in-9
returns-in-9 c = c.of_nine.ensures ∙ among_length c.args.w.now all_instructions 9 c.in-9.is

pub returns-in-10 : goal.returns-in-10
returns-in-10 c = c.only.ensures ∙ among_length c.args.w.now all_instructions 10 c.in-10.is

pub returns-in-12 : goal.returns-in-12
returns-in-12 c = c.only-in-12.ensures ∙ among_length c.args.w.now all_instructions 12 c.in-12.is

pub returns-in-18 : goal.returns-in-18
returns-in-18 c = c.of_eighteen.ensures ∙ among_length c.args.w.now all_instructions 18 c.in-18.is

pub returns-in_default : goal.returns-in_default
returns-in_default c = sym (no_candidate length (2 ∷ 3 ∷ 4 ∷ 5 ∷ 6 ∷ 8 ∷ 9 ∷ 10 ∷ 12 ∷ 18 ∷ []) c.args.w.now all_instructions refl (search nums))
