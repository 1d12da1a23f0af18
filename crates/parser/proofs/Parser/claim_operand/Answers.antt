use mathlib.Core.Path.{refl}
use native.Mathlib.Omega.{arith}
use Rattle.parser.proofs.Claimed.{few, claimed_operand, no_operand}
use Rattle.parser.proofs.Parser.claim_operand.Goals as goal

pub overflow_add-self : goal.overflow_add-self
overflow_add-self c = omega (arith, few c.claim_operand.ensures c.if-claim_operand.true)

pub returns-then-claim_operand-clause-runs : goal.returns-then-claim_operand-clause-runs
returns-then-claim_operand-clause-runs c = claimed_operand c.args.self.now _ (record { same = refl; long = c.claim_operand.auto.operands }) _ c.claim_operand.ensures c.if-claim_operand.true

pub returns-clause-runs : goal.returns-clause-runs
returns-clause-runs c = no_operand c.args.self.now _ (record { same = refl; long = c.claim_operand.auto.operands }) _ c.claim_operand.ensures c.if-claim_operand.false _ c.no_row.ensures.what c.no_row.ensures.at
