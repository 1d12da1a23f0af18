-- Words are the state that was kept in them.
-- Assumes nothing.
use Prim.Native.Nat.{ℕ, ◌+◌, ◌≤◌, ◌<◌}
use mathlib.Core.Path.{◌≡◌, refl, ◌∙◌}
use mathlib.Core.List.{List, ◌++◌}
use native.Mathlib.Nat.{zero-add}
use native.Mathlib.Numerals.{add-one}
use lib.ListN.{length, get_or, drop, drop_of_length-le, set}
use lib.Seq.{sets, sets-eq, drop-cons}
use Rattle.stream.specs.declared.Sequence.TheVariants.{Inside, Bad}
use Rattle.stream.specs.declared.Mode.TheVariants.{Wide, Percent, Run, Known, Equals, Stopped}
use Rattle.stream.specs.declared.Stream.{Stream}
use Rattle.stream.specs.declared.words.Numbers.{Numbers}
use Rattle.stream.specs.Words.{low_of, numbers_of, Small, mode_numbers, mode_of, sequence_numbers, sequence_of, words_of, encoded, decoded}

-- a row stored word by word
module _ (t row : List ℕ) (i : ℕ) where
  pub stored : i < length row → sets t i (drop i row) ≡ sets (set t i (get_or row i 0)) (i + 1) (drop (i + 1) row)
  stored h = rw (add-one, drop-cons row i 0)

  pub all_stored : length row ≤ i → sets t i (drop i row) ≡ t
  all_stored h = rw (drop_of_length-le row h)

pub put_front : (t row : List ℕ) → length row ≤ length t → sets t 0 row ≡ row ++ drop (length row) t
put_front t row h = sets-eq row t 0 (rw zero-add h) ∙ rw zero-add

-- modes and sequences come back
module _ {f s k l h m : ℕ} (x : Small f s k l h m) where
  pub wide_back : mode_of (numbers_of 2 f s 0 l h m) ≡ Wide f (record { lo = l; hi = h; more = m }) s
  unfolding mode_of
  wide_back = simp (x.first, x.size, x.lo, x.hi, x.more)

  pub percent_back : mode_of (numbers_of 3 f s k l h m) ≡ Percent f
  unfolding mode_of
  percent_back = simp x.first

  pub run-back : mode_of (numbers_of 4 f s k l h m) ≡ Run k f s
  unfolding mode_of
  run-back = simp (x.first, x.size, x.kind)

  pub known-back : mode_of (numbers_of 5 f s k l h m) ≡ Known f s
  unfolding mode_of
  known-back = simp (x.first, x.size)

  pub equals-back : mode_of (numbers_of 6 f s k l h m) ≡ Equals f
  unfolding mode_of
  equals-back = simp x.first

  pub inside_back : sequence_of (numbers_of 1 f s 0 l h m) ≡ Inside f (record { lo = l; hi = h; more = m })
  unfolding sequence_of
  inside_back = simp (x.first, x.lo, x.hi, x.more)

  pub bad_back : sequence_of (numbers_of 2 f s k l h m) ≡ Bad f
  unfolding sequence_of
  bad_back = simp x.first

pub stopped-back : {k p : ℕ} → low_of k ≡ k → mode_of (numbers_of 7 p k 0 0 0 0) ≡ Stopped k p
unfolding mode_of
stopped-back e = simp e

-- and so does the whole state
pub state-back :
    (s : Stream) (a t : ℕ) (m q : Numbers) (r : List ℕ)
    → low_of a ≡ s.seen
    → low_of t ≡ s.lexing.count
    → mode_of m ≡ s.lexing.mode
    → sequence_of q ≡ s.sequence
    → decoded (words_of a t m q ++ r) ≡ s
unfolding decoded sequence_of
state-back s a t m q r e f g h =
    let d : decoded (words_of a t m q ++ r) ≡ record { seen = low_of a; sequence = sequence_of q; lexing = record { mode = mode_of m; count = low_of t } } = refl in
    d ∙ simp (e, f, g, h)

pub state-words :
    (s : Stream) (a t : ℕ) (m q : Numbers) (r : List ℕ)
    → a ≡ s.seen
    → t ≡ s.lexing.count
    → m ≡ mode_numbers s.lexing.mode
    → q ≡ sequence_numbers s.sequence
    → words_of a t m q ++ r ≡ encoded s ++ r
unfolding encoded
state-words s a t m q r e f g h = simp (e, f, g, h)
