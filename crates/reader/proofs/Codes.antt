-- Which attribute a keyword is.
-- Assumes nothing.
use Rattle.std.proofs.Common.{ℕ, ◌+◌, ◌-◌, ◌≡◌, arith}
use Rattle.parser.proofs.Steps.{steps}

pub code_back : (n : ℕ) → n + 8 - 8 ≡ n
code_back n = omega arith

pub ruleset flag_row = (code_back)

pub ruleset attribute_steps = (steps)
