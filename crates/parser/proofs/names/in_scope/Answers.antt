use Rattle.parser.proofs.Scope.{searched}
use Rattle.parser.proofs.names.in_scope.Goals as goal

pub returns : goal.returns
returns c ready w i j k = searched w _ _ _ _ _ i j k (c.find.ensures ready) c.letters.ensures
