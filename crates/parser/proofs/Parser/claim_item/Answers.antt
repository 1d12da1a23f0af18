use mathlib.Core.Path.{refl}
use native.Mathlib.Omega.{arith}
use Rattle.parser.proofs.Claimed.{few, claimed_item, no_item}
use Rattle.parser.proofs.Parser.claim_item.Goals as goal

pub overflow_add-self : goal.overflow_add-self
overflow_add-self c = omega (arith, few c.claim_item.ensures c.if-claim_item.true)

pub returns-then-claim_item-clause-runs : goal.returns-then-claim_item-clause-runs
returns-then-claim_item-clause-runs c = claimed_item c.args.self.now _ (record { same = refl; long = c.claim_item.auto.items }) _ c.claim_item.ensures c.if-claim_item.true

pub returns-clause-runs : goal.returns-clause-runs
returns-clause-runs c = no_item c.args.self.now _ (record { same = refl; long = c.claim_item.auto.items }) _ c.claim_item.ensures c.if-claim_item.false _ c.no_row.ensures.what c.no_row.ensures.at
