-- A token that is found ends past the place that was asked at.
use Rattle.std.proofs.Common.{arith, sym}
use Rattle.laws.proofs.Tokens.{found_within}
use Rattle.token_vectors.proofs.print_next.Goals as goal

pub returns-in-Found : goal.returns-in-Found
returns-in-Found g c = omega (arith, found_within c.args.text.now c.args.at (sym c.in-Found.ensures))
