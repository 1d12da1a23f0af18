-- `next_token` meets its contract: what was skipped and what stands at the front behind it, told by places in the whole text.
-- Assumes nothing.
use mathlib.Core.Path.{sym}
use native.Mathlib.Omega.{arith}
use Rattle.laws.proofs.Spaces.{rest-gap-fits}
use Rattle.laws.proofs.Tokens.{past_end, placed-token, rest_spelt, rest-fault}
use Rattle.lexer.proofs.next_token.Goals as goal

pub returns-then-text-at : goal.returns-then-text-at
returns-then-text-at c = sym (past_end c.args.text.now c.args.cursor.at c.if-text-at.true)

pub overflow_add-i : goal.overflow_add-i
overflow_add-i c = omega (arith, rest-gap-fits c.args.text.now c.args.cursor.at c.skip_gap.ensures)

pub slice_bounds-front-count : goal.slice_bounds-front-count
slice_bounds-front-count c = omega (arith, rest-gap-fits c.args.text.now c.args.cursor.at c.skip_gap.ensures)

pub slice_bounds-front-start : goal.slice_bounds-front-start
slice_bounds-front-start c = omega (arith, rest-gap-fits c.args.text.now c.args.cursor.at c.skip_gap.ensures)

pub overflow_add-result : goal.overflow_add-result
overflow_add-result c =
    let text = c.args.text.now in
    let at = c.args.cursor.at in
    let gap = c.skip_gap.ensures in
    omega (arith, rest-gap-fits text at gap, rest_spelt text at gap c.front.ensures c.in-Spelt.is)

pub overflow_add-result-in-Fault : goal.overflow_add-result-in-Fault
overflow_add-result-in-Fault c =
    let text = c.args.text.now in
    let at = c.args.cursor.at in
    let gap = c.skip_gap.ensures in
    omega (arith, rest-gap-fits text at gap, rest-fault text at gap c.front.ensures c.in-Fault.is)

pub returns-in-Spelt : goal.returns-in-Spelt
returns-in-Spelt c = placed-token c.args.text.now c.args.cursor.at c.skip_gap.ensures c.front.ensures c.in-Spelt.is

pub returns-in-Fault : goal.returns-in-Fault
returns-in-Fault c = placed-token c.args.text.now c.args.cursor.at c.skip_gap.ensures c.front.ensures c.in-Fault.is

pub returns-in-Nothing : goal.returns-in-Nothing
returns-in-Nothing c = placed-token c.args.text.now c.args.cursor.at c.skip_gap.ensures c.front.ensures c.in-Nothing.is
