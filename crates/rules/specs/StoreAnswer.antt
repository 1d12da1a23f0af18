-- Section 10 of docs/RULES.md. What a store answers.
-- Assumes nothing.
use Rattle.std.specs.Prelude.{ℕ}

-- how many bytes it wrote, or the number of a refusal with its place
pub data StoreAnswer : Type 0 where
  Stored : ℕ → StoreAnswer
  Refused : ℕ → ℕ → StoreAnswer
