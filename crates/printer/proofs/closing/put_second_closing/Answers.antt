-- `printer::closing::put_second_closing` meets its contract.
-- Assumes nothing.
use mathlib.Core.Path.{ap}
use mathlib.Core.List.{[]}
use Rattle.rules.specs.Syntax.{Closing}
use Rattle.output.proofs.Words.{writes_as, writes_none}
use Rattle.rules.specs.Printing.{second_closing}
use Rattle.printer.proofs.ByKind.{replacement-closing, no_second_closing}
use Rattle.printer.proofs.closing.put_second_closing.Goals as goal

pub returns-then-item-eq-INFER_RESULT : goal.returns-then-item-eq-INFER_RESULT
returns-then-item-eq-INFER_RESULT c = λ A. writes_as (ap (λ (l : Closing). second_closing l []) (replacement-closing _ _ _ A c.args.item c.if-item-eq-INFER_RESULT.true)) c.put_result.ensures

pub returns-else-item-eq-INFER_RESULT : goal.returns-else-item-eq-INFER_RESULT
returns-else-item-eq-INFER_RESULT c = λ A. writes_as (no_second_closing _ _ _ A c.args.item c.if-item-eq-INFER_RESULT.false) (writes_none _)
