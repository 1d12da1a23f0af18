-- `print_with` loads and prints: laws of both calls together.
-- Assumes nothing.
use Rattle.std.proofs.Common.{rules, arith, ◌≡◌, ℕ, Result, Err, ap}
use Rattle.rules.specs.declared.refusal.Refusal.{Refusal}
use Rattle.rules.specs.Results.{load_answer}
use Rattle.front_stored.proofs.Laws.{text-fits, tells_print, tells-refused}
use Rattle.front_stored.proofs.printing.print_with.Goals as goal

pub returns-in_err-held : goal.returns-in_err-held
returns-in_err-held c =
    let same : ◌≡◌ {A = Result ℕ Refusal} c.from_residual.result (Err c.in_err-held.field-0.0) = search rules in
    rw same
    (tells-refused c.args.file.now c.args.text.now c.args.items.now c.args.statements.now c.args.operands.now c.args.attributes.now c.args.work.now c.args.output.now
    c.told-text (record { items = c.told-items; statements = c.told-statements; operands = c.told-operands; attributes = c.told-attributes }) c.told-work
    _ _ _ _ _ _ c.load.ensures _ _ (ap load_answer c.in_err-held.was))

pub shared_ref_as_front-letters : goal.shared_ref_as_front-letters
shared_ref_as_front-letters c =
    omega (
      arith,
      c.load.auto.text,
      text-fits c.args.file.now c.args.text.now c.args.items.now c.args.statements.now c.args.operands.now c.args.attributes.now c.args.work.now c.args.output.now
          c.told-text (record { items = c.told-items; statements = c.told-statements; operands = c.told-operands; attributes = c.told-attributes }) c.told-work
          _ _ _ _ _ _ c.load.ensures _ _ _ _ _ (ap load_answer c.in_ok-held.was),
    )

pub returns : goal.returns
returns c =
    tells_print c.args.file.now c.args.text.now c.args.items.now c.args.statements.now c.args.operands.now c.args.attributes.now c.args.work.now c.args.output.now
    c.told-text (record { items = c.told-items; statements = c.told-statements; operands = c.told-operands; attributes = c.told-attributes }) c.told-work
    _ _ _ _ _ _ c.load.ensures _ _ _ _ _ (ap load_answer c.in_ok-held.was) _ _ _ c.print.ensures
