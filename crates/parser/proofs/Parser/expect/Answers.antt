use mathlib.Core.Path.{refl}
use borrow.Author.Tests.{eq-eqb, ne_eqb}
use Rattle.rules.specs.Reading as R
use Rattle.parser.proofs.Chains as chain
use Rattle.parser.proofs.Parser.expect.Goals as goal

pub returns-then-t-kind-clause-runs : goal.returns-then-t-kind-clause-runs
unfolding R.expect
returns-then-t-kind-clause-runs c = chain.then _ _ c.in_ok-t.was c.token.ensures.runs (chain.yes _ (eq-eqb _ _ c.if-t-kind.true) (chain.gives _ _ _ refl))

pub returns-clause-runs : goal.returns-clause-runs
unfolding R.expect
returns-clause-runs c = chain.then _ _ c.in_ok-t.was c.token.ensures.runs (chain.no _ (ne_eqb _ _ c.if-t-kind.false) (chain.refuses _ _ _ c.new.ensures.what c.new.ensures.at))
