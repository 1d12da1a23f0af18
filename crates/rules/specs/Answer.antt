-- Section 4 of docs/RULES.md. What a read or a print answers.
-- Assumes nothing.
use Rattle.std.specs.Prelude.{ℕ}

-- how many rows of each table a read left, how many bytes a print wrote, or the number of a refusal with its place
pub data Answer : Type 0 where
  Read : ℕ → ℕ → ℕ → ℕ → Answer
  Printed : ℕ → Answer
  Refused : ℕ → ℕ → Answer
