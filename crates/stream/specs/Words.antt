-- The state as fourteen words, and back: any words are a state. A number that is too great for its place loses its high bits, and a tag that none has is the last one's.
-- Assumes nothing.
use Rattle.std.specs.Prelude.{ℕ, ◌%◌, ◌≤◌, ◌≡◌, cond, List, [], ◌∷◌, ◌++◌, eqb, ltb, length, get_or, drop}
use Rattle.rules.specs.Streamed.{lex_report_of}
use Rattle.stream.specs.declared.Ahead.{Ahead}
use Rattle.stream.specs.declared.Sequence.{Sequence}
use Rattle.stream.specs.declared.Sequence.TheVariants.{Between, Inside, Bad}
use Rattle.stream.specs.declared.Mode.{Mode}
use Rattle.stream.specs.declared.Mode.TheVariants.{Gap, Comment, Wide, Percent, Run, Known, Equals, Stopped}
use Rattle.stream.specs.declared.Stream.{Stream}
use Rattle.stream.specs.declared.words.Numbers.{Numbers}
use Rattle.stream.specs.Steps.{begun, fed, ended}

abbrev pub low_of : ℕ → ℕ
low_of w = w % 4294967296

abbrev pub byte_of : ℕ → ℕ
byte_of w = w % 256

abbrev pub numbers_of : ℕ → ℕ → ℕ → ℕ → ℕ → ℕ → ℕ → Numbers
numbers_of tag first size kind lo hi more = record { tag = tag; first = first; size = size; kind = kind; lo = lo; hi = hi; more = more }

-- numbers that lose no bits
pub record Small (f s k l h m : ℕ) : Type 0 where
  pub first : low_of f ≡ f
  pub size : low_of s ≡ s
  pub kind : low_of k ≡ k
  pub lo : byte_of l ≡ l
  pub hi : byte_of h ≡ h
  pub more : byte_of m ≡ m

abbrev pub ahead_of : Numbers → Ahead
ahead_of x = record { lo = byte_of x.lo; hi = byte_of x.hi; more = byte_of x.more }

unfoldable pub mode_numbers : Mode → Numbers
mode_numbers Gap = numbers_of 0 0 0 0 0 0 0
mode_numbers Comment = numbers_of 1 0 0 0 0 0 0
mode_numbers (Wide first a code) = numbers_of 2 first code 0 a.lo a.hi a.more
mode_numbers (Percent first) = numbers_of 3 first 0 0 0 0 0
mode_numbers (Run k first l) = numbers_of 4 first l k 0 0 0
mode_numbers (Known first m) = numbers_of 5 first m 0 0 0 0
mode_numbers (Equals first) = numbers_of 6 first 0 0 0 0 0
mode_numbers (Stopped k p) = numbers_of 7 p k 0 0 0 0

unfoldable pub mode_of : Numbers → Mode
mode_of x =
    cond (eqb x.tag 0) Gap
    (cond (eqb x.tag 1) Comment
    (cond (eqb x.tag 2) (Wide (low_of x.first) (ahead_of x) (low_of x.size))
    (cond (eqb x.tag 3) (Percent (low_of x.first))
    (cond (eqb x.tag 4) (Run (low_of x.kind) (low_of x.first) (low_of x.size))
    (cond (eqb x.tag 5) (Known (low_of x.first) (low_of x.size))
    (cond (eqb x.tag 6) (Equals (low_of x.first))
    (Stopped (low_of x.size) x.first)))))))

unfoldable pub sequence_numbers : Sequence → Numbers
sequence_numbers Between = numbers_of 0 0 0 0 0 0 0
sequence_numbers (Inside first a) = numbers_of 1 first 0 0 a.lo a.hi a.more
sequence_numbers (Bad first) = numbers_of 2 first 0 0 0 0 0

unfoldable pub sequence_of : Numbers → Sequence
sequence_of x =
    cond (eqb x.tag 0) Between
    (cond (eqb x.tag 1) (Inside (low_of x.first) (ahead_of x))
    (Bad (low_of x.first)))

-- a state's words, from its counts, where the lexer stands, and where the check of UTF-8 does
abbrev pub words_of : ℕ → ℕ → Numbers → Numbers → List ℕ
words_of seen tokens m q =
    seen ∷ tokens ∷ m.tag ∷ m.first ∷ m.size ∷ m.kind ∷ m.lo ∷ m.hi ∷ m.more ∷ q.tag ∷ q.first ∷ q.lo ∷ q.hi ∷ q.more ∷ []

unfoldable pub encoded : Stream → List ℕ
encoded s = words_of s.seen s.lexing.count (mode_numbers s.lexing.mode) (sequence_numbers s.sequence)

-- the state that words are
unfoldable pub decoded : List ℕ → Stream
decoded w =
    record {
      seen = low_of (get_or w 0 0);
      sequence = sequence_of (numbers_of (get_or w 9 0) (get_or w 10 0) 0 0 (get_or w 11 0) (get_or w 12 0) (get_or w 13 0));
      lexing =
          record {
            mode = mode_of (numbers_of (get_or w 2 0) (get_or w 3 0) (get_or w 4 0) (get_or w 5 0) (get_or w 6 0) (get_or w 7 0) (get_or w 8 0));
            count = low_of (get_or w 1 0);
          };
    }

-- a state kept in words: its own, those behind them as they were; and it is what they are
pub record Keeps (s : Stream) (before after : List ℕ) : Type 0 where
  pub words : after ≡ encoded s ++ drop 14 before
  pub back : decoded after ≡ s

-- ---- the calls over lent words

-- words after a state is kept in them; where they are too few, they stay
unfoldable pub kept : Stream → List ℕ → List ℕ
kept s w = cond (ltb (length w) 14) w (encoded s ++ drop 14 w)

-- 9 and the words that are needed, as a report of eight words
abbrev pub too_few : List ℕ
too_few = 9 ∷ 14 ∷ 0 ∷ 0 ∷ 0 ∷ 0 ∷ 0 ∷ 0 ∷ []

-- the report of a call that is lent words
unfoldable pub tells : List ℕ → List ℕ → List ℕ
tells w r = cond (ltb (length w) 14) too_few r

-- nothing is told before the end
abbrev pub nothing : List ℕ
nothing = 0 ∷ 0 ∷ 0 ∷ 0 ∷ 0 ∷ 0 ∷ 0 ∷ 0 ∷ []

-- a call that leads to the state s, lent the words `before`: its report, every word as it returns, and that the state can be gone on with
pub record Leads (s : Stream) (before told after : List ℕ) : Type 0 where
  pub reports : told ≡ tells before nothing
  pub words : after ≡ kept s before
  pub back : 14 ≤ length before → decoded after ≡ s

-- start
abbrev pub Starts : List ℕ → List ℕ → List ℕ → Type 0
Starts = Leads begun

-- a part
abbrev pub Parts : List ℕ → List ℕ → List ℕ → List ℕ → Type 0
Parts part before = Leads (fed (decoded before) part) before

-- the end
unfoldable pub end_report : List ℕ → List ℕ
end_report w = tells w (lex_report_of (ended (decoded w)))
