-- The calls that answer by a report of eight words answer and leave what the others do: so all that is said of those holds of these.
-- A report tells which answer it is: none but a store that wrote n bytes is told by 0, n and zeros, and none but a load by 0, the bytes of its text and four counts.
-- That answer is a result's, which is what the other calls answer.
-- Assumes nothing.
use Prim.Native.Nat.{ℕ, ◌/◌}
use mathlib.Core.Path.{◌≡◌, refl, sym, ap, ◌∙◌}
use mathlib.Core.Bool.{Bool, ◌&&◌}
use mathlib.Core.List.{List, [], ◌∷◌}
use native.Mathlib.Omega.{arith}
use lib.Dec.{eqb, ltb}
use lib.ListN.{length}
use borrow.Author.Tests.{eqb-false}
use Rattle.std.specs.Prelude.{Result, Ok, Err}
use Rattle.rules.specs.declared.refusal.Reason.{Reason}
use Rattle.rules.specs.declared.refusal.Reason.TheVariants.{NotWellFormed, OtherVersion, NotInOrder, NoRoom}
use Rattle.rules.specs.declared.refusal.Refusal.{Refusal}
use Rattle.rules.specs.declared.Loaded as what
use Rattle.rules.specs.StoreAnswer.{StoreAnswer}
use Rattle.rules.specs.StoreAnswer.{Stored}
use Rattle.rules.specs.LoadAnswer.{LoadAnswer}
use Rattle.rules.specs.LoadAnswer.{Loaded}
use Rattle.rules.specs.LoadAnswer as load
use Rattle.rules.specs.Rows.{item_length, statement_length, operand_length, attribute_length}
use Rattle.rules.specs.Results.{number_of, store_answer, load_answer}
use Rattle.rules.specs.WellFormed.{Counts, well_formed}
use Rattle.rules.specs.Stored.{stored, Storing, refusing, writes, fitting_file, storing, storing_answer, trailer_length, trailer_word, lengths_of, in_order, whole_rows, shape, Room, room, roomy, rows_all, Loading, refused, loads, accepting, content, loading, loading_answer, Stores, Loads, store_report, load_report, StoreReports, LoadReports}
use Rattle.laws.proofs.Cases.{by_cases}

-- No refusal has the number 0.
abbrev number : Storing → ℕ
number (refusing n) = n
number (writes file) = 1

storing-number : (text I S O A : List ℕ) (c : Counts) (n : ℕ) → number (storing text I S O A c n) ≡ 0 → ⊥
unfolding storing fitting_file
storing-number text I S O A c n =
    by_cases (well_formed text I S O A c)
    (λ t. rw t (by_cases (ltb n (length (stored text I S O A c))) (λ s. rw s (λ z. omega (arith, z))) (λ s. rw s (λ z. omega (arith, z)))))
    (λ t. rw t (λ z. omega (arith, z)))

abbrev fault : Loading → ℕ
fault (refused n) = n
fault (loads t I S O A) = 1

content-number : (b : Bool) (text I S O A : List ℕ) → well_formed text I S O A (rows_all I S O A) ≡ b → fault (accepting text I S O A) ≡ 0 → ⊥
unfolding accepting
content-number b text I S O A =
    by_cases (well_formed text I S O A (rows_all I S O A))
    (λ t. rw t (λ e z. omega (arith, z)))
    (λ t. rw t (λ e z. omega (arith, z)))

loading-number : (file : List ℕ) (r : Room) → fault (loading file r) ≡ 0 → ⊥
unfolding loading content
loading-number file r =
    by_cases (eqb (shape file) 0)
    (λ t. rw t (by_cases (roomy (lengths_of file) r) (λ s. rw s (content-number _ _ _ _ _ _ refl)) (λ s. rw s (λ z. omega (arith, z)))))
    (λ t. rw t (λ z. eqb-false (shape file) 0 t z))

-- What the definitions answer is a result: of a store,
pub store_result : (text I S O A : List ℕ) (c : Counts) (n : ℕ) → (r : Result ℕ Refusal) × (store_answer r ≡ storing_answer (storing text I S O A c n))
unfolding storing fitting_file storing_answer
store_result text I S O A c n =
    by_cases (well_formed text I S O A c)
    (λ t.
    rw t
    (by_cases (ltb n (length (stored text I S O A c)))
    (λ s. rw s (Err (record { reason = NoRoom; place = 0 }), refl))
    (λ s. rw s (Ok (length (stored text I S O A c)), refl))))
    (λ t. rw t (Err (record { reason = NotWellFormed; place = 0 }), refl))

-- the reason for which a file is refused by its shape
shape_reason : (file : List ℕ) → (shape file ≡ 0 → ⊥) → (w : Reason) × (number_of w ≡ shape file)
unfolding shape
shape_reason file =
    by_cases (ltb (length file) trailer_length)
    (λ t. rw t (λ h. (NotInOrder, refl)))
    (λ t.
    rw t
    (by_cases (eqb (trailer_word file 10) 1)
    (λ u.
    rw u
    (by_cases (in_order file (lengths_of file) && whole_rows (lengths_of file))
    (λ v. rw v (λ h. absurd (h refl)))
    (λ v. rw v (λ h. (NotInOrder, refl)))))
    (λ u. rw u (λ h. (OtherVersion, refl)))))

content_result : (text I S O A : List ℕ) → (r : Result what.Loaded Refusal) × (load_answer r ≡ loading_answer (accepting text I S O A))
unfolding accepting loading_answer
content_result text I S O A =
    by_cases (well_formed text I S O A (rows_all I S O A))
    (λ t.
    rw t (
      Ok (record {
        text = length text;
        rows = record { items = length I / item_length; statements = length S / statement_length; operands = length O / operand_length; attributes = length A / attribute_length };
      }),
      refl,
    ))
    (λ t. rw t (Err (record { reason = NotWellFormed; place = 0 }), refl))

-- and of a load.
pub load_result : (file : List ℕ) (r : Room) → (w : Result what.Loaded Refusal) × (load_answer w ≡ loading_answer (loading file r))
unfolding loading content loading_answer
load_result file r =
    by_cases (eqb (shape file) 0)
    (λ t. rw t (by_cases (roomy (lengths_of file) r) (λ s. rw s (content_result _ _ _ _ _)) (λ s. rw s (Err (record { reason = NoRoom; place = 0 }), refl))))
    (λ t. rw t (let w = shape_reason file (eqb-false (shape file) 0 t) in (Err (record { reason = w.0; place = 0 }), ap (λ (k : ℕ). load.Refused k 0) w.1)))

module _ {text I S O A : List ℕ} {c : Counts} {output told output' : List ℕ} (h : StoreReports text I S O A c output told output') where
  -- A report tells an answer that the store could have given.
  pub stores_too : (r : StoreAnswer) × (told ≡ store_report r) × Stores text I S O A c output r output'
  stores_too = (storing_answer (storing text I S O A c (length output)), h.tells, record { answers = refl; bytes = h.bytes })

  pub stores_result : (r : Result ℕ Refusal) × (told ≡ store_report (store_answer r)) × Stores text I S O A c output (store_answer r) output'
  stores_result =
      let w = store_result text I S O A c (length output) in
      (w.0, h.tells ∙ ap store_report (sym w.1), record { answers = w.1; bytes = h.bytes })

  by_storing : (n : ℕ) → told ≡ 0 ∷ n ∷ 0 ∷ 0 ∷ 0 ∷ 0 ∷ 0 ∷ 0 ∷ [] → (w : Storing) → storing text I S O A c (length output) ≡ w → told ≡ store_report (storing_answer w) → Stored n ≡ storing_answer w
  unfolding store_report storing_answer
  by_storing n q (refusing k) e z = let zero-told : k ≡ 0 = cc in absurd (storing-number text I S O A c (length output) (ap number e ∙ zero-told))
  by_storing n q (writes file) e z = let same : n ≡ length file = cc in rw same refl

  -- A store that wrote, by its report.
  pub wrote : (n : ℕ) → told ≡ 0 ∷ n ∷ 0 ∷ 0 ∷ 0 ∷ 0 ∷ 0 ∷ 0 ∷ [] → Stores text I S O A c output (Stored n) output'
  wrote n q = record { answers = by_storing n q (storing text I S O A c (length output)) refl h.tells; bytes = h.bytes }

module _ {file text I S O A told text' I' S' O' A' : List ℕ} (h : LoadReports file text I S O A told text' I' S' O' A') where
  -- A report tells an answer that the load could have given.
  pub loads_too : (r : LoadAnswer) × (told ≡ load_report r) × Loads file text I S O A r text' I' S' O' A'
  loads_too = (loading_answer (loading file (room text I S O A)), h.tells, record { answers = refl; leaves = h.leaves })

  pub loads_result : (r : Result what.Loaded Refusal) × (told ≡ load_report (load_answer r)) × Loads file text I S O A (load_answer r) text' I' S' O' A'
  loads_result =
      let w = load_result file (room text I S O A) in
      (w.0, h.tells ∙ ap load_report (sym w.1), record { answers = w.1; leaves = h.leaves })

  by_loading : (t i s o a : ℕ) → told ≡ 0 ∷ t ∷ i ∷ s ∷ o ∷ a ∷ 0 ∷ 0 ∷ [] → (w : Loading) → loading file (room text I S O A) ≡ w → told ≡ load_report (loading_answer w) → Loaded t i s o a ≡ loading_answer w
  unfolding load_report loading_answer
  by_loading t i s o a q (refused k) e z = let zero-told : k ≡ 0 = cc in absurd (loading-number file (room text I S O A) (ap fault e ∙ zero-told))
  by_loading t i s o a q (loads T J K L M) e z = cc

  -- A load that was accepted, by its report.
  pub loaded : (t i s o a : ℕ) → told ≡ 0 ∷ t ∷ i ∷ s ∷ o ∷ a ∷ 0 ∷ 0 ∷ [] → Loads file text I S O A (Loaded t i s o a) text' I' S' O' A'
  loaded t i s o a q = record { answers = by_loading t i s o a q (loading file (room text I S O A)) refl h.tells; leaves = h.leaves }
