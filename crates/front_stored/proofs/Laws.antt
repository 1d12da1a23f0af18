-- What the contracts of a read and of a store say together, and those of a load and of a print.
-- Assumes nothing.
use Prim.Native.Nat.{ℕ, ◌*◌, ◌/◌, ◌-◌, ◌≤◌}
use mathlib.Core.Path.{◌≡◌, refl, sym, ap, subst, ◌∙◌}
use mathlib.Core.Bool.{not}
use mathlib.Core.List.{List}
use native.Mathlib.Omega.{arith}
use lib.ListN.{length, take, drop, replicate, length-append, length-replicate}
use lib.Seq.{take_at}
use Rattle.rules.specs.declared.Entry.{Entry}
use Rattle.rules.specs.Answer.{Answer}
use Rattle.rules.specs.Answer as answer
use Rattle.rules.specs.StoreAnswer.{StoreAnswer}
use Rattle.rules.specs.StoreAnswer as store
use Rattle.rules.specs.LoadAnswer.{LoadAnswer}
use Rattle.rules.specs.LoadAnswer as load
use Rattle.rules.specs.World.{Tables}
use Rattle.rules.specs.Rows.{item_length, statement_length, operand_length, attribute_length}
use Rattle.rules.specs.WellFormed.{counts, well_formed}
use Rattle.rules.specs.Answers.{lent, Outcome, accepted, refusal, reading, answer_of, rows_of, padded, Leaves, Reads}
use Rattle.rules.specs.Prints.{Print, printing, print_answer, output_after, Prints}
use Rattle.rules.specs.Stored.{stored, file_of, Storing, refusing, fitting_file, storing, storing_answer, stored_output, Stores, Room, rows_all, Loading, refused, loads, loading, loading_answer, text_after, items_after, statements_after, operands_after, attributes_after, LoadLeaves, Loads}
use Rattle.rules.specs.Stored as stored
use Rattle.laws.proofs.Tests.{cond-false}
use Rattle.simulation.proofs.Left.{left_say}
use Rattle.simulation.proofs.Stable.{Sized}
use Rattle.accepted.proofs.Formed.{left_formed}
use Rattle.accepted.proofs.Whole.{accepted_itemed}
use Rattle.front.specs.Told.{room}
use Rattle.proof_store.proofs.Tables.{padded_alike}
use Rattle.proof_store.proofs.Prints.{prints_alike}
use Rattle.proof_store.proofs.Written.{loaded_formed}
use Rattle.front_stored.specs.Told.{file_told, answer_told, output_told, TellsFile, load_room, print_held, answer_held, output_held, TellsPrint}

-- as many words as a fresh array has
pub zeros : (n : ℕ) → length {A = ℕ} (replicate n 0) ≡ n
zeros n = length-replicate {A = ℕ} n 0

-- as many words as a program lends
pub record Roomy (I S O A : List ℕ) : Type 0 where
  pub items : length I ≡ 294912
  pub statements : length S ≡ 218460
  pub operands : length O ≡ 458752
  pub attributes : length A ≡ 240306

-- the counted rows of a table that has zeros behind them
rows-front : (n m : ℕ) (w old : List ℕ) → length w ≡ n → old ≡ padded m w → take n old ≡ w
unfolding padded
rows-front n m w old e h = ap (take n) h ∙ take_at w (replicate (m - length w) 0) n e

-- Reading and storing

module _ (e : Entry) (text I S O A output : List ℕ) (roomy : Roomy I S O A) where
  same_room : lent I S O A ≡ room
  same_room = rw (roomy.items, roomy.statements, roomy.operands, roomy.attributes) refl

  module _ (I' S' O' A' : List ℕ) where
    file_is : (i s o a : ℕ) (t : Tables) → answer.Read i s o a ≡ answer_of (accepted t) → Leaves (accepted t) I S O A I' S' O' A' → Sized t → stored text I' S' O' A' (counts i s o a) ≡ file_told text t
    unfolding answer_of rows_of stored file_told
    file_is i s o a t told left sized =
        let ci : i ≡ t.items.count = cc in
        let cs : s ≡ t.statements.count = cc in
        let co : o ≡ t.operands.count = cc in
        let ca : a ≡ t.attributes.count = cc in
        let ei : take (i * item_length) I' ≡ t.items.words = rows-front (i * item_length) (length I) t.items.words I' (sized.items ∙ ap (λ (n : ℕ). n * item_length) (sym ci)) left.items in
        let es : take (s * statement_length) S' ≡ t.statements.words = rows-front (s * statement_length) (length S) t.statements.words S' (sized.statements ∙ ap (λ (n : ℕ). n * statement_length) (sym cs)) left.statements in
        let eo : take (o * operand_length) O' ≡ t.operands.words = rows-front (o * operand_length) (length O) t.operands.words O' (sized.operands ∙ ap (λ (n : ℕ). n * operand_length) (sym co)) left.operands in
        let ea : take (a * attribute_length) A' ≡ t.attributes.words = rows-front (a * attribute_length) (length A) t.attributes.words A' (sized.attributes ∙ ap (λ (n : ℕ). n * attribute_length) (sym ca)) left.attributes in
        rw (ei, es, eo, ea) refl

    -- a read that is accepted, and the store of what it leaves
    accepted-tells : (i s o a : ℕ) → Reads e text I S O A (answer.Read i s o a) I' S' O' A' → (r : StoreAnswer) (output' : List ℕ)
        → Stores text I' S' O' A' (counts i s o a) output r output' → TellsFile e text output r output'
    unfolding answer_told output_told storing
    accepted-tells i s o a h r output' p =
        let x = left_say e text I S O A I' S' O' A' i s o a h in
        let t = x.tables in
        let told : answer.Read i s o a ≡ answer_of (accepted t) = h.answers ∙ ap answer_of x.reads in
        let left : Leaves (accepted t) I S O A I' S' O' A' = subst (λ (o : Outcome). Leaves o I S O A I' S' O' A') x.reads h.leaves in
        let file = file_is i s o a t told left (accepted_itemed e text (lent I S O A) t x.reads).holds.sized in
        let formed = left_formed e text I S O A I' S' O' A' i s o a h in
        let c = counts i s o a in
        let q : storing text I' S' O' A' c (length output) ≡ fitting_file (file_told text t) (length output) =
        cond-false (not (well_formed text I' S' O' A' c)) (refusing 8) (fitting_file (stored text I' S' O' A' c) (length output)) (ap not formed)
        ∙ ap (λ (f : List ℕ). fitting_file f (length output)) file in
        let reads : reading e text room ≡ accepted t = ap (reading e text) (sym same_room) ∙ x.reads in
        record {
          answers = rw reads (p.answers ∙ ap storing_answer q);
          bytes = rw reads (p.bytes ∙ ap (λ (z : Storing). stored_output z output) q);
        }

    by_refusal : (o : Outcome) (n p : ℕ) → reading e text room ≡ o → answer.Refused n p ≡ answer_of o → TellsFile e text output (store.Refused n p) output
    unfolding answer_of answer_told output_told
    by_refusal (accepted t) n p h told = absurd (let z : ◌≡◌ {A = ℕ} 0 1 = cc in omega arith)
    by_refusal (refusal m q) n p h told =
        let same_number : n ≡ m = cc in
        let same_place : p ≡ q = cc in
        record { answers = rw (h, same_number, same_place) refl; bytes = rw h refl }

    -- by what a read answered
    module _ (x : Answer) (h : Reads e text I S O A x I' S' O' A') where
      pub tells_file : (i s o a : ℕ) → x ≡ answer.Read i s o a → (r : StoreAnswer) (output' : List ℕ) → Stores text I' S' O' A' (counts i s o a) output r output' → TellsFile e text output r output'
      tells_file i s o a q = accepted-tells i s o a (subst (λ (z : Answer). Reads e text I S O A z I' S' O' A') q h)

      pub tells-refusal : (n p : ℕ) → x ≡ answer.Refused n p → TellsFile e text output (store.Refused n p) output
      tells-refusal n p q = by_refusal (reading e text room) n p refl (sym q ∙ h.answers ∙ ap (λ l. answer_of (reading e text l)) same_room)

-- Loading and printing

-- no fewer words than before zeros are put behind them
longer : (n k : ℕ) (w : List ℕ) → k ≤ length w → k ≤ length (padded n w)
unfolding padded
longer n k w h = omega (arith, h, length-append w (replicate (n - length w) 0))

module _ (file text I S O A work output : List ℕ) (letters : length text ≡ 65536) (roomy : Roomy I S O A) (words : length work ≡ 131073)
    (text' I' S' O' A' : List ℕ) where
  same_load : stored.room text I S O A ≡ load_room
  same_load = rw (letters, roomy.items, roomy.statements, roomy.operands, roomy.attributes) refl

  by_loading : (l : Loading) → loading file load_room ≡ l → LoadLeaves l text I S O A text' I' S' O' A' → (t i s o a : ℕ) → load.Loaded t i s o a ≡ loading_answer l
      → (r : Answer) (work' output' : List ℕ) → Prints (take t text') I' S' O' A' (counts i s o a) work output r work' output' → TellsPrint file output r output'
  unfolding loading_answer text_after items_after statements_after operands_after attributes_after answer_held output_held
  by_loading (refused n) h left t i s o a told r work' output' p = absurd (let z : ◌≡◌ {A = ℕ} 0 1 = cc in omega arith)
  by_loading (loads T J K L M) h left t i s o a told r work' output' p =
      let et : t ≡ length T = cc in
      let ei : i ≡ length J / item_length = cc in
      let es : s ≡ length K / statement_length = cc in
      let eo : o ≡ length L / operand_length = cc in
      let ea : a ≡ length M / attribute_length = cc in
      let front : take t text' ≡ T = ap (take t) left.bytes ∙ take_at T (drop (length T) text) t (sym et) in
      let alike : printing T J K L M (rows_all J K L M) 131073 (length output) ≡ printing T (padded (length I) J) (padded (length S) K) (padded (length O) L) (padded (length A) M) (rows_all J K L M) 131073 (length output) =
      prints_alike T J K L M (padded (length I) J) (padded (length S) K) (padded (length O) L) (padded (length A) M) (rows_all J K L M)
      (padded_alike (length I) J) (padded_alike (length S) K) (padded_alike (length O) L) (padded_alike (length A) M)
      (longer (length I) (length J / item_length * item_length) J (omega arith)) (longer (length S) (length K / statement_length * statement_length) K (omega arith)) (longer (length O) (length L / operand_length * operand_length) L (omega arith)) (longer (length A) (length M / attribute_length * attribute_length) M (omega arith))
      (loaded_formed file load_room T J K L M h) 131073 (length output) in
      let same : printing (take t text') I' S' O' A' (counts i s o a) (length work) (length output) ≡ print_held T J K L M (length output) =
      rw (front, left.items, left.statements, left.operands, left.attributes, ei, es, eo, ea, words) (sym alike) in
      record {
        answers = rw h (p.answers ∙ ap print_answer same);
        bytes = rw h (p.bytes ∙ ap (λ (z : Print). output_after z output) same);
      }

  by_refused : (l : Loading) → loading file load_room ≡ l → LoadLeaves l text I S O A text' I' S' O' A' → (n p : ℕ) → load.Refused n p ≡ loading_answer l → TellsPrint file output (answer.Refused n p) output
  unfolding loading_answer answer_held output_held
  by_refused (refused m) h left n p told =
      let same_number : n ≡ m = cc in
      let same_place : p ≡ 0 = cc in
      record { answers = rw (h, same_number, same_place) refl; bytes = rw h refl }
  by_refused (loads T J K L M) h left n p told = absurd (let z : ◌≡◌ {A = ℕ} 0 1 = cc in omega arith)

  fits-text : (l : Loading) → LoadLeaves l text I S O A text' I' S' O' A' → (t i s o a : ℕ) → load.Loaded t i s o a ≡ loading_answer l → t ≤ length text'
  unfolding loading_answer text_after
  fits-text (refused n) left t i s o a told = absurd (let z : ◌≡◌ {A = ℕ} 0 1 = cc in omega arith)
  fits-text (loads T J K L M) left t i s o a told =
      let et : t ≡ length T = cc in
      let long = ap length left.bytes ∙ length-append T (drop (length T) text) in
      omega (arith, et, long)

  -- by what a load answered
  module _ (x : LoadAnswer) (h : Loads file text I S O A x text' I' S' O' A') where
    leaves : LoadLeaves (loading file load_room) text I S O A text' I' S' O' A'
    leaves = subst (λ (r : Room). LoadLeaves (loading file r) text I S O A text' I' S' O' A') same_load h.leaves

    answers : x ≡ loading_answer (loading file load_room)
    answers = h.answers ∙ ap (λ (r : Room). loading_answer (loading file r)) same_load

    -- the text that is told lies in what was lent
    pub text-fits : (t i s o a : ℕ) → x ≡ load.Loaded t i s o a → t ≤ length text'
    text-fits t i s o a q = fits-text (loading file load_room) leaves t i s o a (sym q ∙ answers)

    pub tells_print : (t i s o a : ℕ) → x ≡ load.Loaded t i s o a → (r : Answer) (work' output' : List ℕ) → Prints (take t text') I' S' O' A' (counts i s o a) work output r work' output' → TellsPrint file output r output'
    tells_print t i s o a q = by_loading (loading file load_room) refl leaves t i s o a (sym q ∙ answers)

    pub tells-refused : (n p : ℕ) → x ≡ load.Refused n p → TellsPrint file output (answer.Refused n p) output
    tells-refused n p q = by_refused (loading file load_room) refl leaves n p (sym q ∙ answers)
