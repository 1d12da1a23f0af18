-- `reach` meets its contract.
-- Assumes nothing.
use mathlib.Core.Path.{◌≡◌, ap}
use borrow.Author.Rules.{rules}
use Rattle.std.specs.Prelude.{None}
use Rattle.rules.specs.Syntax.{flat}
use Rattle.wellformed.proofs.Along.{each-end}
use Rattle.wellformed.proofs.Spans.{answer_as, spans_step, following_begin, following_more, following_stop, following_end}
use Rattle.wellformed.proofs.owned.reach.Goals as goal

pub loop-i-init : goal.loop-i-init
loop-i-init g c = λ spans h. following_begin

pub returns-in_err-reached : goal.returns-in_err-reached
returns-in_err-reached g c = λ spans h.
    let broken : c.step.result ≡ None = search rules in
    let out : None ≡ c.from_residual.result = search rules in
    answer_as (following_stop (c.loop-i.invariant spans h) (spans_step spans (λ j. j) (search rules) (h c.loop-i.i c.loop-i.reached c.step.result c.step.ensures)) broken) out

pub loop-i-preserved : goal.loop-i-preserved
loop-i-preserved g c = λ spans h. following_more (c.loop-i.invariant spans h) (spans_step spans (λ j. j) (search rules) (h c.loop-i.i c.loop-i.reached c.step.result c.step.ensures)) c.in_ok-reached.was

pub returns : goal.returns
returns g c = λ spans h. following_end (c.loop-i.invariant spans h) (ap (flat spans) (each-end (λ j. j) c.loop-i.i c.args.end (search rules)))
