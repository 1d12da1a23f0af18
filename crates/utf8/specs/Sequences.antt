-- The ranges of bytes that go on a sequence.
-- Assumes nothing.
use Rattle.std.specs.Prelude.{ℕ, zero, suc, List, [], ◌∷◌}
use Rattle.rules.specs.declared.Range.{Range}
use Rattle.rules.specs.Utf8.{◌to◌}

-- so many bytes from 80 to BF
abbrev pub going_on : ℕ → List Range
going_on zero = []
going_on (suc k) = 0x80 to 0xBF ∷ going_on k
