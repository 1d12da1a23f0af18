-- The first line of a text.
-- Assumes nothing.
use Rattle.std.specs.Prelude.{◌≡◌, ◌+◌, ◌<◌, List, ℕ, length, take, drop}
use Rattle.rules.specs.Bytes.{count, line_byte}

-- the line ends in front of the first line feed, or with the text, and the next begins behind it
abbrev pub IsFirstLine : List ℕ → List ℕ → List ℕ → Type 0
IsFirstLine text line rest = (line ≡ take (count line_byte text) text) × (rest ≡ drop (count line_byte text + 1) text) × (0 < length text)
