-- From what the printer leaves to what a print answers and leaves.
-- Assumes nothing.
use Prim.Native.Nat.{ℕ, zero, suc, ◌-◌, ◌≤◌, ◌<◌}
use mathlib.Core.Path.{◌≡◌, refl, sym, ap, ◌∙◌, subst}
use mathlib.Core.Bool.{true, false, cond, not}
use mathlib.Core.List.{List, ◌++◌}
use native.Mathlib.Omega.{arith}
use lib.Dec.{ltb}
use lib.ListN.{length, get_or, take, drop, replicate}
use borrow.Author.Tests.{lt-ltb, le-ltb}
use Rattle.rules.specs.Answer.{Answer}
use Rattle.rules.specs.Answer.{Printed, Refused}
use Rattle.rules.specs.Answers.{padded}
use Rattle.rules.specs.Out.{Wrote}
use Rattle.rules.specs.Prints.{Print, malformed, more_words, more_bytes, whole, words_needed, print_of, fitting, printing, print_answer, work_after, output_after, PrintEnds, Prints}
use Rattle.rules.specs.WellFormed.{Counts, well_formed}
use Rattle.laws.proofs.Tests.{cond-true, cond-false}
use Rattle.listing.specs.Listing.{none}
use Rattle.listing.specs.Work.{marks_of}
use Rattle.listing.proofs.Words.{clearing_done}
use Rattle.printer.specs.Rows.{items_text}
use Rattle.printable.proofs.Printable.{items-text}

-- ---- a work area that was cleared
pub cleared : (n : ℕ) (w : List ℕ) {w' : List ℕ} → length w ≡ n → w' ≡ padded (length w) (take 0 w) → w' ≡ replicate n 0
unfolding padded
cleared n w long e = let z : length w - 0 ≡ n = omega arith in e ∙ ap (λ (k : ℕ). replicate {A = ℕ} k 0) z

zero_at : (n j : ℕ) → get_or (replicate {A = ℕ} n 0) j 0 ≡ 0
zero_at zero j = refl
zero_at (suc n) zero = refl
zero_at (suc n) (suc j) = zero_at n j

pub no_marks : (n : ℕ) {w : List ℕ} → w ≡ replicate n 0 → (s : ℕ) → marks_of w s ≡ none
no_marks n {w} e s =
    clearing_done w s w s
    (record { low = omega arith; long = refl; zeros = λ j h. ap (λ (l : List ℕ). get_or l j 0) e ∙ zero_at n j })
    (omega arith)

-- ---- what a print of a text comes to, by the bytes lent
module _ (s work output : List ℕ) {n : ℕ} {work' output' : List ℕ} (count : n ≡ length s) (clear : work' ≡ replicate (length work) 0) where
  pub more_bytes_lem : length output < n → output' ≡ output → PrintEnds (fitting s (length output)) work output (Refused 10 n) work' output'
  unfolding fitting print_answer work_after output_after
  more_bytes_lem h same =
      subst (λ (p : Print). PrintEnds p work output (Refused 10 n) work' output')
      (sym (cond-true (ltb (length output) (length s)) (more_bytes (length s)) (whole s) (lt-ltb (length output) (length s) (omega arith))))
      (record { answers = ap (Refused 10) count; words = clear; bytes = same })

  pub all_bytes : (length output < n → ⊥) → {before : List ℕ} {m : ℕ} → before ≡ output → Wrote s before output' m → PrintEnds (fitting s (length output)) work output (Printed n) work' output'
  unfolding fitting print_answer work_after output_after
  all_bytes h {before} same wrote =
      let room : length s ≤ length output = omega arith in
      let into : length s ≤ length before = omega (arith, ap length same) in
      subst (λ (p : Print). PrintEnds p work output (Printed n) work' output')
      (sym (cond-false (ltb (length output) (length s)) (more_bytes (length s)) (whole s) (le-ltb (length output) (length s) room)))
      (record { answers = ap Printed count; words = clear; bytes = wrote.bytes into ∙ ap (λ (l : List ℕ). s ++ drop (length s) l) same })

-- ---- 8, 9, and then the text
module _ (text I S O A : List ℕ) (c : Counts) (work output : List ℕ) where
  abbrev past_nine : Print
  past_nine = fitting (print_of text I S O A c) (length output)

  abbrev past_eight : Print
  past_eight = cond (ltb (length work) (words_needed c)) (more_words (words_needed c)) past_nine

  abbrev so : Print → Answer → List ℕ → List ℕ → Type 0
  so p = PrintEnds p work output

  pub ill_formed : well_formed text I S O A c ≡ false → Prints text I S O A c work output (Refused 8 0) work output
  unfolding printing print_answer work_after output_after
  ill_formed e =
      subst (λ (p : Print). so p (Refused 8 0) work output)
      (sym (cond-true (not (well_formed text I S O A c)) malformed past_eight (ap not e)))
      (record { answers = refl; words = refl; bytes = refl })

  module _ (ok : well_formed text I S O A c ≡ true) where
    formed : printing text I S O A c (length work) (length output) ≡ past_eight
    unfolding printing
    formed = cond-false (not (well_formed text I S O A c)) malformed past_eight (ap not ok)

    pub few_words : {n : ℕ} → n ≡ words_needed c → length work < n → Prints text I S O A c work output (Refused 9 n) work output
    unfolding print_answer work_after output_after
    few_words {n} e h =
        subst (λ (p : Print). so p (Refused 9 n) work output)
        (sym (formed ∙ cond-true (ltb (length work) (words_needed c)) (more_words (words_needed c)) past_nine (lt-ltb (length work) (words_needed c) (omega arith))))
        (record { answers = ap (Refused 9) e; words = refl; bytes = refl })

    pub enough_words : {r : Answer} {work' output' : List ℕ} → words_needed c ≤ length work
        → PrintEnds (fitting (items_text text I S O A c.items c.statements) (length output)) work output r work' output' → Prints text I S O A c work output r work' output'
    enough_words {r} {work'} {output'} h ends =
        subst (λ (p : Print). so p r work' output')
        (ap (λ (s : List ℕ). fitting s (length output)) (items-text text I S O A c ok)
        ∙ sym (formed ∙ cond-false (ltb (length work) (words_needed c)) (more_words (words_needed c)) past_nine (le-ltb (length work) (words_needed c) h)))
        ends
