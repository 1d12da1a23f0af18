use mathlib.Core.Path.{sym, ap, ◌∙◌}
use Rattle.wide.specs.Wide.{as_field}
use Rattle.parser.specs.Stands.{world, int_below}
use Rattle.parser.proofs.Chains as chain
use Rattle.parser.proofs.Parser.int_field.Goals as goal

pub returns-in-Some-clause-runs : goal.returns-in-Some-clause-runs
unfolding int_below world
returns-in-Some-clause-runs c = chain.then _ _ c.in_ok-n.was c.int.ensures.runs (chain.looks _ _ (chain.reads _ _ _ _ _ (sym c.fits.ensures ∙ ap as_field c.in-Some.is)))

pub returns-in-None-clause-runs : goal.returns-in-None-clause-runs
unfolding int_below world
returns-in-None-clause-runs c = chain.then _ _ c.in_ok-n.was c.int.ensures.runs (chain.looks _ _ (chain.unread _ _ _ (sym c.fits.ensures ∙ ap as_field c.in-None.is) c.new.ensures.what c.new.ensures.at))
