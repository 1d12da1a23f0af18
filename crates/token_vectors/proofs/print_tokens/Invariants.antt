-- Each turn goes on in the text.
use Rattle.std.proofs.Common.{◌+◌, ◌-◌, length}
use Rattle.token_vectors.proofs.print_tokens.Given as goal

abbrev pub decreases-loop-at : goal.decreases-loop-at
decreases-loop-at g l = length l.text + 1 - l.at
