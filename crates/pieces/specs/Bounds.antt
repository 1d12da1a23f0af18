-- How many rows a span may have, so that the length of all that is printed fits 64 bits.
-- Assumes nothing.
use Rattle.std.specs.Prelude.{◌≤◌}
use Rattle.rules.specs.declared.Span.{Span}

-- rows among the first 65,536
pub record Few (s : Span) : Type 0 where
  pub first : s.first ≤ 65536
  pub past : s.past ≤ 65536
