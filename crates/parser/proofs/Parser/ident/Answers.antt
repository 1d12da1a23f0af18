use mathlib.Core.Path.{refl}
use Rattle.std.specs.Prelude.{Some}
use Rattle.rules.specs.Faults as fault
use Rattle.rules.specs.World.{give, refuse}
use Rattle.rules.specs.Reading as R
use Rattle.parser.specs.Stands.{world}
use Rattle.parser.proofs.Chains as chain
use Rattle.parser.proofs.Words.{same_word, other_word, asked_yes, asked_no}
use Rattle.parser.proofs.Parser.ident.Goals as goal

pub returns-then-eq-clause-runs : goal.returns-then-eq-clause-runs
unfolding R.ident world
returns-then-eq-clause-runs c =
    chain.then _ _ c.in_ok-t.was c.token.ensures.runs
    (chain.sees _ _ c.keyword_at.ensures (chain.yes (refuse fault.token c.in_ok-t.t) (same_word c.keyword_at.result (Some c.args.which) (asked_yes c.keyword_at.result c.args.which c.if-eq.ensures)) (chain.gives _ _ _ refl)))

pub returns-clause-runs : goal.returns-clause-runs
unfolding R.ident world
returns-clause-runs c =
    chain.then _ _ c.in_ok-t.was c.token.ensures.runs
    (chain.sees _ _ c.keyword_at.ensures (chain.no (give c.in_ok-t.t) (other_word c.keyword_at.result (Some c.args.which) (asked_no c.keyword_at.result c.args.which c.if-eq.ensures)) (chain.refuses _ _ _ c.new.ensures.what c.new.ensures.at)))
