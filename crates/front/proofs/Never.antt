-- What a program never tells of any text: that a table has no row left (7), that its tables are not well formed (8), that its work area (9) or its output (10) is too
-- short. What it lends is enough.
-- Assumes nothing.
use Prim.Native.Nat.{ℕ, ◌≤◌}
use mathlib.Core.Path.{◌≡◌, refl, sym, ap, ◌∙◌}
use mathlib.Core.List.{List}
use native.Mathlib.Omega.{arith}
use borrow.Author.Tests.{le-ltb}
use lib.ListN.{length}
use Rattle.rules.specs.declared.Entry.{Entry}
use Rattle.rules.specs.Answer.{Answer}
use Rattle.rules.specs.Answer as answer
use Rattle.rules.specs.Answers.{Outcome, accepted, refusal, reading, start}
use Rattle.rules.specs.Prints.{fitting, print_answer}
use Rattle.reading.proofs.Fuel.{refused-number}
use Rattle.reading.proofs.Progress.{enough_rows}
use Rattle.accepted.proofs.Whole.{accepted-short}
use Rattle.grammar.proofs.PrintedLength.{printed-length}
use Rattle.front.specs.Told.{room, print_told, answer_told, Tells}

-- The rows that a program lends are enough for any text.
pub room_enough : (e : Entry) (text : List ℕ) (p : ℕ) → reading e text room ≡ refusal 7 p → ⊥
unfolding start
room_enough e text p h = enough_rows e text room (λ short. (omega arith, omega arith, omega arith, omega arith)) p h

-- a print that fits the output is no refusal
fits : (s : List ℕ) (bytes n p : ℕ) → length s ≤ bytes → print_answer (fitting s bytes) ≡ answer.Refused n p → ⊥
unfolding print_answer fitting
fits s bytes n p h = rw (le-ltb bytes (length s) h) (λ e. let z : ◌≡◌ {A = ℕ} 0 1 = cc in omega arith)

module _ (e : Entry) (text output : List ℕ) (enough : 131072 ≤ length output) (n p : ℕ) where
  by_outcome : (o : Outcome) → reading e text room ≡ o → answer_told text o (length output) ≡ answer.Refused n p → (1 ≤ n) × (n ≤ 6)
  unfolding answer_told print_told
  by_outcome (accepted t) h q =
      let long = printed-length e text room t h in
      let short = accepted-short e text room t h in
      absurd (fits _ (length output) n p (omega arith) q)
  by_outcome (refusal m place) h q =
      let same : m ≡ n = cc in
      let b = refused-number e text room m place h in
      let not_seven : m ≡ 7 → ⊥ = λ (z : m ≡ 7). room_enough e text place (h ∙ ap (λ k. refusal k place) z) in
      (omega (arith, b.0), omega (arith, b.1, not_seven))

  -- Whatever the text, a program that lends an output of 131,072 bytes refuses with 1 to 6 alone.
  pub never : (r : Answer) (output' : List ℕ) → Tells e text output r output' → r ≡ answer.Refused n p → (1 ≤ n) × (n ≤ 6)
  never r output' h q = by_outcome (reading e text room) refl (sym h.answers ∙ q)
