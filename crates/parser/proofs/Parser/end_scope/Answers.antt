use Rattle.parser.proofs.Claimed.{scope_ends}
use Rattle.parser.proofs.Parser.end_scope.Goals as goal

pub returns-clause-runs : goal.returns-clause-runs
returns-clause-runs c = scope_ends c.args.self.now
