-- The programs agree: what is stored of a text prints as the text itself does, by the program that loads as by the program that reads.
-- Assumes nothing.
use Prim.Native.Nat.{ℕ, ◌+◌, ◌*◌, ◌/◌, ◌≤◌}
use mathlib.Core.Path.{◌≡◌, refl, sym, ap, ◌∙◌}
use mathlib.Core.Bool.{true}
use mathlib.Core.List.{List}
use native.Mathlib.Omega.{arith}
use borrow.Author.Tests.{le-ltb}
use lib.Dec.{ltb}
use lib.ListN.{length, take, drop}
use lib.Seq.{take_at, take_all}
use Rattle.rules.specs.declared.Entry.{Entry}
use Rattle.rules.specs.Answer.{Answer}
use Rattle.rules.specs.StoreAnswer.{StoreAnswer}
use Rattle.rules.specs.StoreAnswer as store
use Rattle.rules.specs.World.{Tables}
use Rattle.rules.specs.Rows.{item_length, statement_length, operand_length, attribute_length}
use Rattle.rules.specs.WellFormed.{Counts, counts, well_formed}
use Rattle.rules.specs.Answers.{Outcome, accepted, refusal, reading, padded}
use Rattle.rules.specs.Prints.{Print, words_needed, print_of, printing, print_answer, output_after}
use Rattle.rules.specs.Stored.{stored, fitting_file, storing_answer, stored_output, rows_all, Loading, loads, loading}
use Rattle.laws.proofs.Cases.{by_cases}
use Rattle.reading.proofs.Progress.{accepted_bounds}
use Rattle.accepted.proofs.Formed.{accepted_formed}
use Rattle.accepted.proofs.Whole.{accepted-short, accepted_itemed}
use Rattle.front.specs.Told.{room, print_told, answer_told, output_told, Tells}
use Rattle.proof_store.proofs.Alike.{Alike}
use Rattle.proof_store.proofs.Tables.{padded_alike, well_formed_alike}
use Rattle.proof_store.proofs.Read.{written-loads}
use Rattle.front_stored.specs.Told as told
use Rattle.front_stored.specs.Told.{file_told, TellsFile, load_room, print_held, answer_held, output_held, TellsPrint}

back : (v w : List ℕ) → Alike v w → Alike w v
back v w e = record { at = λ k. sym (e.at k) }

-- What a text reads as, stored and loaded: the text and its rows, and their print is the print of the items that they say.
module _ (e : Entry) (text : List ℕ) (t : Tables) (h : reading e text room ≡ accepted t) where
  c : Counts
  c = counts t.items.count t.statements.count t.operands.count t.attributes.count

  -- the rows without the zeros that a read leaves behind them
  formed : well_formed text t.items.words t.statements.words t.operands.words t.attributes.words c ≡ true
  unfolding c
  formed =
      let z = (accepted_itemed e text room t h).holds.sized in
      well_formed_alike text (padded 294912 t.items.words) (padded 218460 t.statements.words) (padded 458752 t.operands.words) (padded 240306 t.attributes.words)
      t.items.words t.statements.words t.operands.words t.attributes.words c
      (back _ _ (padded_alike 294912 t.items.words)) (back _ _ (padded_alike 218460 t.statements.words)) (back _ _ (padded_alike 458752 t.operands.words)) (back _ _ (padded_alike 240306 t.attributes.words))
      (omega (arith, z.items)) (omega (arith, z.statements)) (omega (arith, z.operands)) (omega (arith, z.attributes))
      (accepted_formed e text room t h)

  file_is : stored text t.items.words t.statements.words t.operands.words t.attributes.words c ≡ file_told text t
  unfolding c stored file_told
  file_is =
      let z = (accepted_itemed e text room t h).holds.sized in
      rw (take_all (t.items.count * item_length) t.items.words (omega (arith, z.items)), take_all (t.statements.count * statement_length) t.statements.words (omega (arith, z.statements)), take_all (t.operands.count * operand_length) t.operands.words (omega (arith, z.operands)), take_all (t.attributes.count * attribute_length) t.attributes.words (omega (arith, z.attributes))) refl

  loads_it : loading (file_told text t) load_room ≡ loads text t.items.words t.statements.words t.operands.words t.attributes.words
  unfolding c
  loads_it =
      let z = (accepted_itemed e text room t h).holds.sized in
      let b = accepted_bounds e text room t h in
      let short = accepted-short e text room t h in
      let k = written-loads text t.items.words t.statements.words t.operands.words t.attributes.words c formed load_room short
      (omega (arith, b.1, short)) (omega (arith, b.1, short)) (omega (arith, b.0, short)) (omega (arith, b.1, short)) in
      let i = take_all (t.items.count * item_length) t.items.words (omega (arith, z.items)) in
      let s = take_all (t.statements.count * statement_length) t.statements.words (omega (arith, z.statements)) in
      let o = take_all (t.operands.count * operand_length) t.operands.words (omega (arith, z.operands)) in
      let a = take_all (t.attributes.count * attribute_length) t.attributes.words (omega (arith, z.attributes)) in
      ap (λ (f : List ℕ). loading f load_room) (sym file_is) ∙ k ∙ rw (i, s, o, a) refl

  counted : rows_all t.items.words t.statements.words t.operands.words t.attributes.words ≡ c
  unfolding c
  counted =
      let z = (accepted_itemed e text room t h).holds.sized in
      let i : length t.items.words / item_length ≡ t.items.count = omega (arith, z.items) in
      let s : length t.statements.words / statement_length ≡ t.statements.count = omega (arith, z.statements) in
      let o : length t.operands.words / operand_length ≡ t.operands.count = omega (arith, z.operands) in
      let a : length t.attributes.words / attribute_length ≡ t.attributes.count = omega (arith, z.attributes) in
      rw (i, s, o, a) refl

  prints-counted : (bytes : ℕ) → printing text t.items.words t.statements.words t.operands.words t.attributes.words c 131073 bytes ≡ print_told text t bytes
  unfolding c printing print_of print_told words_needed
  prints-counted bytes =
      let b = accepted_bounds e text room t h in
      let short = accepted-short e text room t h in
      let enough : 3 * t.statements.count + t.operands.count + 1 ≤ 131073 = omega (arith, b.0, b.1, short) in
      rw (formed, le-ltb 131073 (3 * t.statements.count + t.operands.count + 1) enough) refl

  prints_it : (bytes : ℕ) → print_held text t.items.words t.statements.words t.operands.words t.attributes.words bytes ≡ print_told text t bytes
  prints_it bytes = ap (λ (k : Counts). printing text t.items.words t.statements.words t.operands.words t.attributes.words k 131073 bytes) counted ∙ prints-counted bytes

-- a store that wrote n bytes wrote the file of what the text reads as
abbrev wrote : StoreAnswer → ℕ
wrote (store.Stored n) = n
wrote (store.Refused n p) = 0

abbrev is_stored : StoreAnswer → ℕ
is_stored (store.Stored n) = 1
is_stored (store.Refused n p) = 0

module _ (e : Entry) (text output : List ℕ) (n : ℕ) (output' : List ℕ) (s : TellsFile e text output (store.Stored n) output')
    (out : List ℕ) (r : Answer) (out' : List ℕ) (p : TellsPrint (take n output') out r out') where
  by_fitting : (file : List ℕ) → store.Stored n ≡ storing_answer (fitting_file file (length output)) → output' ≡ stored_output (fitting_file file (length output)) output → take n output' ≡ file
  unfolding fitting_file storing_answer stored_output
  by_fitting file =
      by_cases (ltb (length output) (length file))
      (λ small. rw small (λ q k. let z : ◌≡◌ {A = ℕ} 1 0 = ap is_stored q in absurd (omega (arith, z))))
      (λ fits. rw fits (λ q k. let m : n ≡ length file = ap wrote q in ap (take n) k ∙ take_at file (drop (length file) output) n (sym m)))

  by_outcome : (o : Outcome) → reading e text room ≡ o → store.Stored n ≡ told.answer_told text o (length output) → output' ≡ told.output_told text o output → Tells e text out r out'
  unfolding told.answer_told told.output_told answer_told output_told answer_held output_held
  by_outcome (accepted t) h q k =
      let held : loading (take n output') load_room ≡ loads text t.items.words t.statements.words t.operands.words t.attributes.words =
      ap (λ (f : List ℕ). loading f load_room) (by_fitting (file_told text t) q k) ∙ loads_it e text t h in
      let same = prints_it e text t h (length out) in
      record {
        answers = rw h (p.answers ∙ ap (λ (l : Loading). answer_held l (length out)) held ∙ ap print_answer same);
        bytes = rw h (p.bytes ∙ ap (λ (l : Loading). output_held l out) held ∙ ap (λ (z : Print). output_after z out) same);
      }
  by_outcome (refusal m place) h q k = let z : ◌≡◌ {A = ℕ} 1 0 = ap is_stored q in absurd (omega (arith, z))

  -- What one program stores of a text, the other prints as the text itself is printed.
  pub stored_prints_alike : Tells e text out r out'
  stored_prints_alike = by_outcome (reading e text room) refl s.answers s.bytes
