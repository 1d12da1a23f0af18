-- Where a text stops being well-formed UTF-8: at a place in it, before which it is well formed, and where no well-formed sequence stands.
-- Assumes nothing.
use Rattle.std.specs.Prelude.{ℕ, ◌<◌, ◌≡◌, List, length, take, drop, Ok}
use Rattle.rules.specs.Utf8.{seq_len, checked}

pub record FirstBad (text : List ℕ) (p : ℕ) : Type 0 where
  pub within : p < length text
  pub before : checked (take p text) ≡ Ok tt
  pub there : seq_len (drop p text) ≡ 0
