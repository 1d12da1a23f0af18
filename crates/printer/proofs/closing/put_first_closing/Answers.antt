-- `printer::closing::put_first_closing` meets its contract.
-- Assumes nothing.
use mathlib.Core.Path.{ap}
use mathlib.Core.List.{[]}
use native.Mathlib.Omega.{arith}
use Rattle.rules.specs.Syntax.{Closing}
use Rattle.output.proofs.Words.{writes_as}
use Rattle.rules.specs.Printing.{first_closing}
use Rattle.printer.proofs.ByKind.{replacement-closing, candidate-closing, left-closing, right_closing}
use Rattle.printer.proofs.closing.put_first_closing.Goals as goal

pub put_cand-requires : goal.put_cand-requires
put_cand-requires c = c.requires

pub returns-in-1 : goal.returns-in-1
returns-in-1 c = writes_as (ap (λ (l : Closing). first_closing l []) (replacement-closing _ _ _ _ c.args.item c.in-1.is)) c.put_infer.ensures

pub returns-in-2 : goal.returns-in-2
returns-in-2 c = writes_as (ap (λ (l : Closing). first_closing l []) (candidate-closing _ _ _ _ c.args.item c.in-2.is)) c.put_cand.ensures

pub returns-in-3 : goal.returns-in-3
returns-in-3 c = writes_as (ap (λ (l : Closing). first_closing l []) (left-closing _ _ _ _ c.args.item c.in-3.is)) c.put_infer-in-3.ensures

pub returns-in_default : goal.returns-in_default
returns-in_default c = writes_as (ap (λ (l : Closing). first_closing l []) (right_closing _ _ _ _ c.args.item (λ e. omega (arith, e)) (λ e. omega (arith, e)) (λ e. omega (arith, e)))) c.put_result.ensures
