-- From the state that a call leads to, to its report and the words lent to it.
-- Assumes nothing.
use Prim.Native.Nat.{ℕ, ◌≤◌, ◌<◌}
use mathlib.Core.Path.{◌≡◌, ap, ◌∙◌}
use mathlib.Core.List.{List}
use native.Mathlib.Omega.{arith}
use borrow.Author.Tests.{lt-ltb, le-ltb}
use lib.ListN.{length}
use Rattle.rules.specs.declared.LexReport.{LexReport}
use Rattle.rules.specs.Streamed.{lex_report_of}
use Rattle.stream.specs.declared.Stream.{Stream}
use Rattle.stream.specs.Steps.{ended}
use Rattle.stream.specs.Words.{decoded, Keeps, kept, too_few, tells, nothing, Leads, end_report}

module _ (w : List ℕ) where
  -- words that are too few are told, and stay
  module _ (h : length w < 14) {told : List ℕ} (e : told ≡ too_few) where
    few_told : (r : List ℕ) → told ≡ tells w r
    unfolding tells
    few_told r = rw (lt-ltb (length w) 14 h) e

    few-kept : (s : Stream) → w ≡ kept s w
    unfolding kept
    few-kept s = rw (lt-ltb (length w) 14 h)

    pub few_leads : (s : Stream) → Leads s w told w
    few_leads s = record { reports = few_told nothing; words = few-kept s; back = λ k. absurd (omega arith) }

    pub few-ends : told ≡ end_report w
    unfolding end_report
    few-ends = few_told (lex_report_of (ended (decoded w)))

  -- words that are enough take the state
  module _ (h : 14 ≤ length w) where
    enough_told : {told : List ℕ} (r : List ℕ) → told ≡ r → told ≡ tells w r
    unfolding tells
    enough_told r e = rw (le-ltb (length w) 14 h) e

    enough_kept : {s t : Stream} {v : List ℕ} → Keeps s w v → s ≡ t → v ≡ kept t w
    unfolding kept
    enough_kept k q = rw (le-ltb (length w) 14 h, ← q) k.words

    pub leads : {s t : Stream} {v told : List ℕ} → Keeps s w v → s ≡ t → told ≡ nothing → Leads t w told v
    leads k q e = record { reports = enough_told nothing e; words = enough_kept k q; back = λ x. k.back ∙ q }

    pub ends : {r : LexReport} {s : Stream} {told : List ℕ} → told ≡ lex_report_of r → r ≡ ended s → s ≡ decoded w → told ≡ end_report w
    unfolding end_report
    ends e f g = enough_told _ (e ∙ ap lex_report_of (f ∙ ap ended g))
