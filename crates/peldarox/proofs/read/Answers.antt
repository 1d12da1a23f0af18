use mathlib.Core.Path.{refl, sym, ◌∙◌}
use native.Mathlib.Omega.{arith}
use Rattle.peldarox.proofs.Endings as endings
use Rattle.peldarox.proofs.read.Goals as goal

pub returns-then-too_long : goal.returns-then-too_long
returns-then-too_long c =
    endings.same_ends (endings.too_long c.args.entry c.args.text.now c.args.items.now c.args.statements.now c.args.operands.now c.args.attributes.now c.if-too_long.true) c.refused.ensures refl refl refl refl refl refl refl refl

pub returns-in-Err : goal.returns-in-Err
returns-in-Err c =
    endings.same_ends (endings.ill_formed c.args.entry c.args.text.now c.args.items.now c.args.statements.now c.args.operands.now c.args.attributes.now _ (omega (arith, c.if-too_long.false)) (sym c.check.ensures ∙ c.in-Err.is)) c.refused-in-Err.ensures refl refl refl refl refl refl refl refl

pub returns-in-Ok : goal.returns-in-Ok
returns-in-Ok c =
    endings.same_ends (endings.well_formed c.args.entry c.args.text.now c.args.items.now c.args.statements.now c.args.operands.now c.args.attributes.now (omega (arith, c.if-too_long.false)) (sym c.check.ensures ∙ c.in-Ok.is)) c.read_checked.ensures refl refl refl refl refl refl refl refl
