-- Operands with or without a comma before the first.
-- Assumes nothing.
use Rattle.std.specs.Prelude.{ℕ, Bool, true, false, ◌||◌, ltb}
use Rattle.rules.specs.Tokens as kind
use Rattle.rules.specs.World.{P, ◌>>◌, give}
use Rattle.rules.specs.Reading as R

unfoldable pub comma_if : Bool → P (Unit {0})
comma_if true = R.expect kind.comma >> give tt
comma_if false = give tt

unfoldable pub operands_behind : Bool → ℕ → P (Unit {0})
operands_behind true n = R.further_operands n
operands_behind false n = R.operands n

-- a comma stands before operand i
abbrev pub wanted : Bool → ℕ → Bool
wanted comma i = comma || ltb 0 i
