-- Section 10 of docs/RULES.md. What a load answers.
-- Assumes nothing.
use Rattle.std.specs.Prelude.{ℕ}

-- how many bytes of text and rows of each table it left, or the number of a refusal with its place
pub data LoadAnswer : Type 0 where
  Loaded : ℕ → ℕ → ℕ → ℕ → ℕ → LoadAnswer
  Refused : ℕ → ℕ → LoadAnswer
