use mathlib.Core.Path.{refl}
use Rattle.rules.specs.Reading as R
use Rattle.parser.specs.Stands.{world}
use Rattle.parser.proofs.Chains as chain
use Rattle.parser.proofs.Parser.keyword_ahead.Goals as goal

pub returns-in-Some-clause-runs : goal.returns-in-Some-clause-runs
unfolding R.lookahead_ident world
returns-in-Some-clause-runs c = chain.then _ _ (chain.ok_at c.in_ok-t.was c.in-Some.is) c.lookahead.ensures.runs (chain.answers _ _ _ c.keyword_at.ensures)

pub returns-in-None-clause-runs : goal.returns-in-None-clause-runs
unfolding R.lookahead_ident R.keyword_at world
returns-in-None-clause-runs c = chain.then _ _ (chain.ok_at c.in_ok-t.was c.in-None.is) c.lookahead.ensures.runs (chain.answers _ _ _ refl)
