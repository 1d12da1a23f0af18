-- How far consecutive spans reach, as an answer: what that says of them with any others behind them.
-- Assumes nothing.
use Rattle.std.specs.Prelude.{ℕ, ◌≡◌, Bool, false, List, ◌++◌, Option, Some, None}
use Rattle.rules.specs.declared.Span.{Span}
use Rattle.rules.specs.WellFormed.{consecutive}

-- whether spans are consecutive up to a count, where those before them reach so far, or to none
abbrev pub goes_on : Option ℕ → ℕ → List Span → Bool
goes_on (Some at) past l = consecutive at past l
goes_on None past l = false

-- where rows are owned up to at, the spans s reach as far as r says
pub record Reaches (at : ℕ) (s : List Span) (r : Option ℕ) : Type 0 where
  pub behind : (past : ℕ) (l : List Span) → consecutive at past (s ++ l) ≡ goes_on r past l
