-- ASCII white space, and what is known of a text that begins with it.
-- Assumes nothing.
use Rattle.std.specs.Prelude.{ℕ, ◌+◌, ◌≤◌, ◌≡◌, Bool, false, ◌||◌, List, eqb, length, get_or, drop}
use Rattle.rules.specs.Bytes.{byte, inside}
use Rattle.rules.specs.Space.{gap}

unfoldable pub blank : ℕ → Bool
blank b = inside 9 13 b || eqb b (byte " ")

-- the first n bytes of a text are blanks, and no more
pub record Blanks (s : List ℕ) (n : ℕ) : Type 0 where
  pub within : n ≤ length s
  pub onward : gap s ≡ n + gap (drop n s)
  pub ends : blank (get_or s n 0) ≡ false
