use mathlib.Core.Path.{refl, sym, ◌∙◌}
use Rattle.rules.specs.Reading as R
use Rattle.rules.specs.World as W
use Rattle.parser.proofs.Chains as chain
use Rattle.parser.proofs.Parser.new_name.Goals as goal

pub returns-in-Some-clause-runs : goal.returns-in-Some-clause-runs
unfolding R.new_name R.fresh
returns-in-Some-clause-runs c = chain.then _ _ c.in_ok-t.was c.expect.ensures.runs (chain.sees _ _ (sym c.in-Some.is ∙ (c.in_scope.ensures (chain.ready_then c.in_ok-t.was c.expect.ensures.runs c.requires))) (chain.alike {a = W.refuse _ _} refl (chain.refuses _ _ _ c.new.ensures.what c.new.ensures.at)))

pub returns-in-None-clause-runs : goal.returns-in-None-clause-runs
unfolding R.new_name R.fresh
returns-in-None-clause-runs c = chain.then _ _ c.in_ok-t.was c.expect.ensures.runs (chain.sees _ _ (sym c.in-None.is ∙ (c.in_scope.ensures (chain.ready_then c.in_ok-t.was c.expect.ensures.runs c.requires))) (chain.alike {a = W.give _} refl (chain.gives _ _ _ refl)))
