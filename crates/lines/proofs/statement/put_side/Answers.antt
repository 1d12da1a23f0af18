-- `lines::statement::put_side` meets its contract.
-- Assumes nothing.
use mathlib.Core.Path.{ap}
use mathlib.Core.List.{[]}
use native.Mathlib.Omega.{arith}
use Rattle.rules.specs.Syntax.{RightSide}
use Rattle.rules.specs.Printing.{side}
use Rattle.output.proofs.Words.{writes_as}
use Rattle.lines.proofs.Seen.{var-seen, block-seen, phi-seen, reservedinst-seen, reservedconst-seen, instruction-seen}
use Rattle.lines.proofs.statement.put_side.Goals as goal

pub returns-in-60 : goal.returns-in-60
returns-in-60 c = writes_as (ap (λ (s : RightSide). side s []) (var-seen _ _ _ c.args.row c.in-60.is)) c.put.ensures

pub returns-in-61 : goal.returns-in-61
returns-in-61 c = writes_as (ap (λ (s : RightSide). side s []) (block-seen _ _ _ c.args.row c.in-61.is)) c.put_block.ensures

pub returns-in-62 : goal.returns-in-62
returns-in-62 c = writes_as (ap (λ (s : RightSide). side s []) (phi-seen _ _ _ c.args.row c.in-62.is)) c.put_phi.ensures

pub returns-in-63 : goal.returns-in-63
returns-in-63 c = writes_as (ap (λ (s : RightSide). side s []) (reservedinst-seen _ _ _ c.args.row c.in-63.is)) c.put-in-63.ensures

pub returns-in-64 : goal.returns-in-64
returns-in-64 c = writes_as (ap (λ (s : RightSide). side s []) (reservedconst-seen _ _ _ c.args.row c.in-64.is)) c.put-in-64.ensures

pub returns-in_default : goal.returns-in_default
returns-in_default c = writes_as (ap (λ (s : RightSide). side s []) (instruction-seen _ _ _ c.args.row (λ e. omega (arith, e)) (λ e. omega (arith, e)) (λ e. omega (arith, e)) (λ e. omega (arith, e)) (λ e. omega (arith, e)))) c.put_operation.ensures
