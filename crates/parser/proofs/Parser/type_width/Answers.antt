use borrow.Author.Rules.{rules}
use mathlib.Core.Path.{refl, sym, ap, ◌∙◌}
use Rattle.rules.specs.Reading as R
use Rattle.rules.specs.Integers.{type_width}
use Rattle.wide.specs.Wide.{as_field}
use Rattle.parser.specs.Stands.{world}
use Rattle.parser.proofs.Chains as chain
use Rattle.parser.proofs.Parser.type_width.Goals as goal

pub returns-in-Some-clause-runs : goal.returns-in-Some-clause-runs
unfolding R.type R.valued world
returns-in-Some-clause-runs c =
    chain.then _ _ c.in_ok-t.was c.expect.ensures.runs
    (chain.sees _ _ (sym (ap as_field c.in-Some.is) ∙ c.type_width.ensures ∙ ap type_width c.letters.ensures) (chain.gives _ _ _ refl))

pub returns-in-None-clause-runs : goal.returns-in-None-clause-runs
unfolding R.type R.valued world
returns-in-None-clause-runs c =
    chain.then _ _ c.in_ok-t.was c.expect.ensures.runs
    (chain.sees _ _ (sym (ap as_field c.in-None.is) ∙ c.type_width.ensures ∙ ap type_width c.letters.ensures) (chain.refuses _ _ _ c.new.ensures.what c.new.ensures.at))

pub returns-in_err-t-clause-runs : goal.returns-in_err-t-clause-runs
unfolding R.type
returns-in_err-t-clause-runs c = chain.ends _ _ _ c.in_err-t.was (search rules) c.expect.ensures.runs
