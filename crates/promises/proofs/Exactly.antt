-- Demand 1, each number exactly in its condition: 1 and 2 of a read, 8, 9, 10 and 0 of a print.
-- Assumes nothing.
use Prim.Native.Nat.{ℕ, ◌≤◌, ◌<◌}
use mathlib.Core.Path.{◌≡◌, refl, sym, ap, ◌∙◌}
use mathlib.Core.Bool.{true≢false}
use mathlib.Core.Logic.{◌↔◌}
use mathlib.Core.List.{List}
use native.Mathlib.Omega.{arith}
use lib.ListN.{length}
use Rattle.std.specs.Prelude.{Ok}
use Rattle.rules.specs.declared.Entry.{Entry}
use Rattle.rules.specs.Answer.{Answer}
use Rattle.rules.specs.Utf8.{checked, Checked, bad_at}
use Rattle.promises.proofs.FirstBad.{same_place}
use Rattle.rules.specs.WellFormed.{Counts}
use Rattle.rules.specs.Answers.{Reads, report_of, print_report, refusal_report}
use Rattle.rules.specs.Prints.{words_needed, print_of, Prints}
use Rattle.promises.specs.Ends.{Placed, no_token, wrong_token, text_ended, bad_integer, bad_name, no_row, ReadEnd, read, too_long, ill_formed, refused, PrintEnd, not_well_formed, few_words, few_bytes, printed, NoTables, FewWords, FewBytes, Enough}
use Rattle.promises.proofs.EveryCall.{every-read, every_print}

-- ---- reads
not_both : {c : Checked} {p : ℕ} → c ≡ Ok tt → c ≡ bad_at p → ⊥
not_both h k = let z : ◌≡◌ {A = ℕ} 0 1 = cc in omega arith

-- the numbers of a text's faults are behind 2
placed-number : {text : List ℕ} {n p : ℕ} → Placed text n p → 3 ≤ n
placed-number (no_token i p h) = omega arith
placed-number (wrong_token i t h) = omega arith
placed-number (text_ended i h) = omega arith
placed-number (bad_integer i t h e) = omega arith
placed-number (bad_name i t h e) = omega arith
placed-number (no_row i t h) = omega arith

module _ {text I S O A : List ℕ} where
  ends_one : {r I' S' O' A' : List ℕ} → ReadEnd text I S O A r I' S' O' A' → (r ≡ refusal_report 1 65536) ↔ (65536 < length text)
  ends_one (read i s o a short good few x y z w) = (λ q. absurd (let k : ◌≡◌ {A = ℕ} 0 1 = cc in omega arith), λ long. absurd (omega arith))
  ends_one (too_long long) = (λ q. long, λ k. refl)
  ends_one (ill_formed p short bad first) = (λ q. absurd (let k : ◌≡◌ {A = ℕ} 2 1 = cc in omega arith), λ long. absurd (omega arith))
  ends_one (refused n p short good at within) = (λ q. absurd (let k : n ≡ 1 = cc in omega (arith, placed-number at)), λ long. absurd (omega arith))

  ends_two : (p : ℕ) {r I' S' O' A' : List ℕ} → ReadEnd text I S O A r I' S' O' A' → (r ≡ refusal_report 2 p) ↔ ((length text ≤ 65536) × (checked text ≡ bad_at p))
  ends_two p (read i s o a short good few x y z w) = (λ q. absurd (let k : ◌≡◌ {A = ℕ} 0 2 = cc in omega arith), λ bad. absurd (not_both good bad.1))
  ends_two p (too_long long) = (λ q. absurd (let k : ◌≡◌ {A = ℕ} 1 2 = cc in omega arith), λ bad. absurd (omega (arith, bad.0)))
  ends_two p (ill_formed p₁ short bad first) = (λ q. let k : p₁ ≡ p = cc in (short, bad ∙ ap bad_at k), λ b. ap (refusal_report 2) (same_place (sym bad ∙ b.1)))
  ends_two p (refused n p₁ short good at within) = (λ q. absurd (let k : n ≡ 2 = cc in omega (arith, placed-number at)), λ bad. absurd (not_both good bad.1))

module _ (e : Entry) (text I S O A : List ℕ) {r : Answer} {I' S' O' A' : List ℕ} (h : Reads e text I S O A r I' S' O' A') where
  -- 1 exactly where the text is longer than 65,536 bytes.
  pub exactly_one : (report_of r ≡ refusal_report 1 65536) ↔ (65536 < length text)
  exactly_one = ends_one (every-read e text I S O A h)

  -- 2 at p exactly where it is not, and the first bad sequence starts at p.
  pub exactly_two : (p : ℕ) → (report_of r ≡ refusal_report 2 p) ↔ ((length text ≤ 65536) × (checked text ≡ bad_at p))
  exactly_two p = ends_two p (every-read e text I S O A h)

-- ---- prints
module _ (text I S O A : List ℕ) (c : Counts) where
  abbrev s : List ℕ
  s = print_of text I S O A c

  module _ {w o : List ℕ} where
    ends_eight : {r w' o' : List ℕ} → PrintEnd text I S O A c w o r w' o' → (r ≡ refusal_report 8 0) ↔ NoTables text I S O A c
    ends_eight (not_well_formed bad) = (λ q. bad, λ k. refl)
    ends_eight (few_words ok few) = (λ q. absurd (let k : ◌≡◌ {A = ℕ} 9 8 = cc in omega arith), λ bad. absurd (true≢false (sym ok ∙ bad)))
    ends_eight (few_bytes ok many few) = (λ q. absurd (let k : ◌≡◌ {A = ℕ} 10 8 = cc in omega arith), λ bad. absurd (true≢false (sym ok ∙ bad)))
    ends_eight (printed ok many room) = (λ q. absurd (let k : ◌≡◌ {A = ℕ} 0 8 = cc in omega arith), λ bad. absurd (true≢false (sym ok ∙ bad)))

    ends_nine : {r w' o' : List ℕ} → PrintEnd text I S O A c w o r w' o' → (r ≡ refusal_report 9 (words_needed c)) ↔ FewWords text I S O A c w
    ends_nine (not_well_formed bad) = (λ q. absurd (let k : ◌≡◌ {A = ℕ} 8 9 = cc in omega arith), λ k. absurd (true≢false (sym k.0 ∙ bad)))
    ends_nine (few_words ok few) = (λ q. (ok, few), λ k. refl)
    ends_nine (few_bytes ok many few) = (λ q. absurd (let k : ◌≡◌ {A = ℕ} 10 9 = cc in omega arith), λ k. absurd (omega (arith, k.1)))
    ends_nine (printed ok many room) = (λ q. absurd (let k : ◌≡◌ {A = ℕ} 0 9 = cc in omega arith), λ k. absurd (omega (arith, k.1)))

    ends_ten : {r w' o' : List ℕ} → PrintEnd text I S O A c w o r w' o' → (r ≡ refusal_report 10 (length s)) ↔ FewBytes text I S O A c w o
    ends_ten (not_well_formed bad) = (λ q. absurd (let k : ◌≡◌ {A = ℕ} 8 10 = cc in omega arith), λ k. absurd (true≢false (sym k.0 ∙ bad)))
    ends_ten (few_words ok few) = (λ q. absurd (let k : ◌≡◌ {A = ℕ} 9 10 = cc in omega arith), λ k. absurd (omega (arith, k.1)))
    ends_ten (few_bytes ok many few) = (λ q. (ok, many, few), λ k. refl)
    ends_ten (printed ok many room) = (λ q. absurd (let k : ◌≡◌ {A = ℕ} 0 10 = cc in omega arith), λ k. absurd (omega (arith, k.2)))

    ends-printed : {r w' o' : List ℕ} → PrintEnd text I S O A c w o r w' o' → (r ≡ print_report (length s)) ↔ Enough text I S O A c w o
    ends-printed (not_well_formed bad) = (λ q. absurd (let k : ◌≡◌ {A = ℕ} 8 0 = cc in omega arith), λ k. absurd (true≢false (sym k.0 ∙ bad)))
    ends-printed (few_words ok few) = (λ q. absurd (let k : ◌≡◌ {A = ℕ} 9 0 = cc in omega arith), λ k. absurd (omega (arith, k.1)))
    ends-printed (few_bytes ok many few) = (λ q. absurd (let k : ◌≡◌ {A = ℕ} 10 0 = cc in omega arith), λ k. absurd (omega (arith, k.2)))
    ends-printed (printed ok many room) = (λ q. (ok, many, room), λ k. refl)

    module _ {r : Answer} {w' o' : List ℕ} (h : Prints text I S O A c w o r w' o') where
      -- 8 exactly where the tables are not well formed; 9 where they are, and the work area is too short; 10 where it is not, and the output is; else 0.
      pub exactly_eight : (report_of r ≡ refusal_report 8 0) ↔ NoTables text I S O A c
      exactly_eight = ends_eight (every_print text I S O A c h)

      pub exactly_nine : (report_of r ≡ refusal_report 9 (words_needed c)) ↔ FewWords text I S O A c w
      exactly_nine = ends_nine (every_print text I S O A c h)

      pub exactly_ten : (report_of r ≡ refusal_report 10 (length (print_of text I S O A c))) ↔ FewBytes text I S O A c w o
      exactly_ten = ends_ten (every_print text I S O A c h)

      pub exactly_printed : (report_of r ≡ print_report (length (print_of text I S O A c))) ↔ Enough text I S O A c w o
      exactly_printed = ends-printed (every_print text I S O A c h)
