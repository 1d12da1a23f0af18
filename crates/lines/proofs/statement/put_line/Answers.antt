-- `lines::statement::put_line` meets its contract.
-- Assumes nothing.
use mathlib.Core.Path.{ap}
use mathlib.Core.List.{[]}
use native.Mathlib.Omega.{arith}
use Rattle.rules.specs.Syntax.{Statement}
use Rattle.rules.specs.Printing.{line}
use Rattle.output.proofs.Words.{writes_as}
use Rattle.lines.proofs.Lines.{other_code}
use Rattle.lines.proofs.Seen.{pc-seen, blockpc-seen, statement-seen}
use Rattle.lines.proofs.statement.put_line.Goals as goal

pub put_assignment-requires : goal.put_assignment-requires
put_assignment-requires c = other_code _ (λ e. omega (arith, e)) (λ e. omega (arith, e))

pub returns-in-65 : goal.returns-in-65
returns-in-65 c = writes_as (ap (λ (s : Statement). line s []) (pc-seen _ _ _ _ _ c.statement_at-row.ensures c.in-65.is)) c.put_pc.ensures

pub returns-in-66 : goal.returns-in-66
returns-in-66 c = writes_as (ap (λ (s : Statement). line s []) (blockpc-seen _ _ _ _ _ c.statement_at-row.ensures c.in-66.is)) c.put_blockpc.ensures

pub returns-in_default : goal.returns-in_default
returns-in_default c = writes_as (ap (λ (s : Statement). line s []) (statement-seen _ _ _ _ _ c.statement_at-row.ensures)) c.put_assignment.ensures
