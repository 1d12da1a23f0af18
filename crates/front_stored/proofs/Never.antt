-- How long the file of a text is at most; and what a program that stores a text never tells: that a table has no row left (7), that its tables are not well formed (8), or that its
-- output is too short (15). What it lends is enough.
-- Assumes nothing.
use Prim.Native.Nat.{ℕ, ◌+◌, ◌*◌, ◌≤◌}
use mathlib.Core.Path.{◌≡◌, refl, sym, ap, ◌∙◌}
use mathlib.Core.List.{List}
use native.Mathlib.Omega.{arith}
use borrow.Author.Tests.{le-ltb}
use lib.ListN.{length}
use Rattle.rules.specs.declared.Entry.{Entry}
use Rattle.rules.specs.StoreAnswer.{StoreAnswer}
use Rattle.rules.specs.StoreAnswer as store
use Rattle.rules.specs.World.{Tables}
use Rattle.rules.specs.Answers.{Lent, Outcome, accepted, refusal, reading}
use Rattle.rules.specs.Stored.{fitting_file, storing_answer}
use Rattle.reading.proofs.Fuel.{refused-number}
use Rattle.reading.proofs.Progress.{accepted_bounds}
use Rattle.accepted.proofs.Whole.{accepted-short, accepted_itemed}
use Rattle.front.specs.Told.{room}
use Rattle.front.proofs.Never.{room_enough}
use Rattle.store.proofs.Pieces.{file_length}
use Rattle.front_stored.specs.Told.{file_told, answer_told, TellsFile}

-- The file of a text of n bytes has at most n + 100 n / 3 + 44 bytes.
pub file_long : (e : Entry) (text : List ℕ) (l : Lent) (t : Tables) → reading e text l ≡ accepted t → 3 * length (file_told text t) ≤ 103 * length text + 132
unfolding file_told
file_long e text l t h =
    let b = accepted_bounds e text l t h in
    let z = (accepted_itemed e text l t h).holds.sized in
    let f = file_length text t.items.words t.statements.words t.operands.words t.attributes.words in
    omega (arith, b.0, b.1, z.items, z.statements, z.operands, z.attributes, f)

-- a file that fits the output is no refusal
fits : (s : List ℕ) (bytes n p : ℕ) → length s ≤ bytes → storing_answer (fitting_file s bytes) ≡ store.Refused n p → ⊥
unfolding storing_answer fitting_file
fits s bytes n p h = rw (le-ltb bytes (length s) h) (λ e. let z : ◌≡◌ {A = ℕ} 0 1 = cc in omega arith)

module _ (e : Entry) (text output : List ℕ) (enough : 2250113 ≤ length output) (n p : ℕ) where
  by_outcome : (o : Outcome) → reading e text room ≡ o → answer_told text o (length output) ≡ store.Refused n p → (1 ≤ n) × (n ≤ 6)
  unfolding answer_told
  by_outcome (accepted t) h q =
      let long = file_long e text room t h in
      let short = accepted-short e text room t h in
      absurd (fits (file_told text t) (length output) n p (omega (arith, long, short, enough)) q)
  by_outcome (refusal m place) h q =
      let same : m ≡ n = cc in
      let b = refused-number e text room m place h in
      let not_seven : m ≡ 7 → ⊥ = λ (z : m ≡ 7). room_enough e text place (h ∙ ap (λ k. refusal k place) z) in
      (omega (arith, b.0), omega (arith, b.1, not_seven))

  -- Whatever the text, a program that lends an output of 2,250,113 bytes refuses with 1 to 6 alone.
  pub never : (r : StoreAnswer) (output' : List ℕ) → TellsFile e text output r output' → r ≡ store.Refused n p → (1 ≤ n) × (n ≤ 6)
  never r output' h q = by_outcome (reading e text room) refl (sym h.answers ∙ q)
