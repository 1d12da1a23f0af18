use mathlib.Core.Path.{refl}
use native.Mathlib.Omega.{arith}
use Rattle.parser.proofs.Claimed.{few, claimed_attribute, no_attribute}
use Rattle.parser.proofs.Parser.claim_attribute.Goals as goal

pub overflow_add-self : goal.overflow_add-self
overflow_add-self c = omega (arith, few c.claim_attribute.ensures c.if-claim_attribute.true)

pub returns-then-claim_attribute-clause-runs : goal.returns-then-claim_attribute-clause-runs
returns-then-claim_attribute-clause-runs c = claimed_attribute c.args.self.now _ (record { same = refl; long = c.claim_attribute.auto.attributes }) _ c.claim_attribute.ensures c.if-claim_attribute.true

pub returns-clause-runs : goal.returns-clause-runs
returns-clause-runs c = no_attribute c.args.self.now _ (record { same = refl; long = c.claim_attribute.auto.attributes }) _ c.claim_attribute.ensures c.if-claim_attribute.false _ c.no_row.ensures.what c.no_row.ensures.at
