-- What it is to pass over bytes at once: to feed them byte by byte comes to the same.
-- Assumes nothing.
use Rattle.std.specs.Prelude.{ℕ, ◌+◌, ◌≤◌, ◌≡◌, cond, List, Option, None, Some, eqb, leb, ltb, length, drop}
use Rattle.rules.specs.Bytes.{count, name_byte}
use Rattle.stream.specs.declared.Sequence.TheVariants.{Between}
use Rattle.stream.specs.declared.Mode.TheVariants.{Gap}
use Rattle.stream.specs.declared.Lexing.{Lexing}
use Rattle.stream.specs.declared.Stream.{Stream}
use Rattle.stream.specs.declared.skim.Skimmed.{Skimmed}
use Rattle.stream.specs.declared.skim.Leap.{Leap}
use Rattle.stream.specs.Steps.{more, gapped, fed}

-- the lexer at a place, between two sequences
abbrev pub standing : ℕ → Lexing → Stream
standing i l = record { seen = i; sequence = Between; lexing = l }

-- m, where a token of m bytes is not too long and ends inside its text
abbrev pub sure_of : ℕ → ℕ → Option ℕ
sure_of m all = cond (leb all m) None (cond (ltb 4096 m) None (Some m))

-- the bytes of the value name that a text begins with, where that is sure
abbrev pub name_of : List ℕ → Option ℕ
name_of s = cond (eqb (count name_byte (drop 1 s)) 0) None (sure_of (1 + count name_byte (drop 1 s)) (length s))

-- m bytes are a token
pub record Passes (s : List ℕ) (m : ℕ) : Type 0 where
  pub some : 1 ≤ m
  pub within : m ≤ length s
  pub onward : (i n : ℕ) → i + length s ≤ 65537 → fed (standing i (gapped n)) s ≡ fed (standing (i + m) (gapped (more n))) (drop m s)

-- white space and tokens are passed over
pub record Skims (s : List ℕ) (n : ℕ) (r : Skimmed) : Type 0 where
  pub within : r.past ≤ length s
  pub onward : (i : ℕ) → i + length s ≤ 65537 → fed (standing i (gapped n)) s ≡ fed (standing (i + r.past) (gapped r.count)) (drop r.past s)

-- bytes can be passed over from a state
pub record Ready (s : Stream) (bytes : ℕ) : Type 0 where
  pub between : s.sequence ≡ Between
  pub gap : s.lexing.mode ≡ Gap
  pub room : s.seen + bytes ≤ 65537

-- a part is fed up to a place
pub record Leaps (s : Stream) (bytes : List ℕ) (r : Leap) : Type 0 where
  pub within : r.past ≤ length bytes
  pub onward : fed s bytes ≡ fed r.state (drop r.past bytes)
