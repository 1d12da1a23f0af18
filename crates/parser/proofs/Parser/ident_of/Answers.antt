use mathlib.Core.Path.{refl, sym, ◌∙◌}
use borrow.Author.Tests.{eq-eqb, ne_eqb}
use Rattle.rules.specs.Faults as fault
use Rattle.rules.specs.World.{give, refuse}
use Rattle.rules.specs.Reading as R
use Rattle.parser.specs.Stands.{world}
use Rattle.parser.proofs.Chains as chain
use Rattle.parser.proofs.Parser.ident_of.Goals as goal

pub returns-then-n-which-clause-runs : goal.returns-then-n-which-clause-runs
unfolding R.ident world
returns-then-n-which-clause-runs c =
    chain.then _ _ c.in_ok-t.was c.token.ensures.runs
    (chain.sees _ _ c.keyword_at.ensures (chain.yes (refuse fault.token c.in_ok-t.t) (eq-eqb _ _ (sym c.number_of-n.ensures ∙ c.if-n-which.true)) (chain.gives _ _ _ refl)))

pub returns-clause-runs : goal.returns-clause-runs
unfolding R.ident world
returns-clause-runs c =
    chain.then _ _ c.in_ok-t.was c.token.ensures.runs
    (chain.sees _ _ c.keyword_at.ensures (chain.no (give c.in_ok-t.t) (ne_eqb _ _ (rw c.number_of-n.ensures at c.if-n-which.false)) (chain.refuses _ _ _ c.new.ensures.what c.new.ensures.at)))
