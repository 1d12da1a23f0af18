use mathlib.Core.Path.{refl, sym, ap, ◌∙◌}
use Rattle.rules.specs.Reading as R
use Rattle.rules.specs.Integers.{integer}
use Rattle.wide.specs.Wide.{as_read}
use Rattle.parser.specs.Stands.{world}
use Rattle.parser.proofs.Chains as chain
use Rattle.parser.proofs.Parser.int.Goals as goal

pub returns-in-Some-clause-runs : goal.returns-in-Some-clause-runs
unfolding R.int R.valued world
returns-in-Some-clause-runs c =
    chain.then _ _ c.in_ok-t.was c.expect.ensures.runs
    (chain.sees _ _ (sym (ap as_read c.in-Some.is) ∙ c.from_digits.ensures ∙ ap integer c.letters.ensures) (chain.gives _ _ _ refl))

pub returns-in-None-clause-runs : goal.returns-in-None-clause-runs
unfolding R.int R.valued world
returns-in-None-clause-runs c =
    chain.then _ _ c.in_ok-t.was c.expect.ensures.runs
    (chain.sees _ _ (sym (ap as_read c.in-None.is) ∙ c.from_digits.ensures ∙ ap integer c.letters.ensures) (chain.refuses _ _ _ c.new.ensures.what c.new.ensures.at))
