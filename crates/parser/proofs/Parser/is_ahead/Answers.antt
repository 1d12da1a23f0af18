use mathlib.Core.Path.{refl, sym}
use native.Mathlib.Omega.{arith}
use borrow.Author.Tests.{ne_eqb}
use Rattle.parser.specs.Stands.{is_ahead}
use Rattle.parser.proofs.Chains as chain
use Rattle.parser.proofs.Parser.is_ahead.Goals as goal

pub returns-in-Some-clause-runs : goal.returns-in-Some-clause-runs
unfolding is_ahead
returns-in-Some-clause-runs c = chain.then _ _ (chain.ok_at c.in_ok-t.was c.in-Some.is) c.lookahead.ensures.runs (chain.gives _ _ _ refl)

pub returns-in-None-clause-runs : goal.returns-in-None-clause-runs
unfolding is_ahead
returns-in-None-clause-runs c =
    chain.then _ _ (chain.ok_at c.in_ok-t.was c.in-None.is) c.lookahead.ensures.runs
    (chain.gives _ _ _ (sym (ne_eqb 0 c.args.kind (λ e. omega (arith, c.requires)))))
