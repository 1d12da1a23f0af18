-- Bytes that are sequences by themselves, and what is known of a text of which some bytes have passed.
-- Assumes nothing.
use Rattle.std.specs.Prelude.{ℕ, ◌+◌, ◌≤◌, ◌≡◌, Bool, true, ◌&&◌, List, [], ◌∷◌, leb, length, drop}
use Rattle.rules.specs.Bytes.{count, far}
use Rattle.rules.specs.Utf8.{seq_len}

-- an ASCII byte, and a text of them alone
unfoldable pub ascii : ℕ → Bool
ascii b = leb b 0x7F

abbrev pub all_ascii : List ℕ → Bool
all_ascii [] = true
all_ascii (b ∷ s) = ascii b && all_ascii s

-- the first n bytes of a text are ASCII
pub record Begins (s : List ℕ) (n : ℕ) : Type 0 where
  pub within : n ≤ length s
  pub onward : count ascii s ≡ n + count ascii (drop n s)

-- the first n bytes of a text are whole sequences, at least one of them where the text begins with one
pub record Passes (s : List ℕ) (n : ℕ) : Type 0 where
  pub within : n ≤ length s
  pub onward : far seq_len 0 s ≡ n + far seq_len 0 (drop n s)
  pub some : n ≡ 0 → far seq_len 0 s ≡ 0
