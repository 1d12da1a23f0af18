use mathlib.Core.Path.{refl}
use Rattle.parser.specs.Stands.{world}
use Rattle.parser.proofs.Parser.in_scope.Goals as goal

pub returns : goal.returns
unfolding world
returns c ready = c.in_scope.ensures ready.holds (world c.args.self.now) refl refl refl
