use mathlib.Core.Path.{refl}
use native.Mathlib.Omega.{arith}
use Rattle.parser.proofs.Claimed.{few, claimed_statement, no_statement}
use Rattle.parser.proofs.Parser.claim_statement.Goals as goal

pub overflow_add-self : goal.overflow_add-self
overflow_add-self c = omega (arith, few c.claim_statement.ensures c.if-claim_statement.true)

pub returns-then-claim_statement-clause-runs : goal.returns-then-claim_statement-clause-runs
returns-then-claim_statement-clause-runs c = claimed_statement c.args.self.now _ (record { same = refl; long = c.claim_statement.auto.statements }) _ c.claim_statement.ensures c.if-claim_statement.true

pub returns-clause-runs : goal.returns-clause-runs
returns-clause-runs c = no_statement c.args.self.now _ (record { same = refl; long = c.claim_statement.auto.statements }) _ c.claim_statement.ensures c.if-claim_statement.false _ c.no_row.ensures.what c.no_row.ensures.at
