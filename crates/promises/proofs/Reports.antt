-- The calls that answer by a report of six words answer and leave what the others do: whatever they leave and tell is an answer's report, of which all that is said of
-- the others holds. That answer is a result's, which is what the others answer.
-- Assumes nothing.
use mathlib.Core.Path.{◌≡◌, refl, sym, ap, ◌∙◌}
use mathlib.Core.List.{List}
use Prim.Native.Nat.{ℕ, zero, suc, ◌≤◌}
use native.Mathlib.Omega.{arith}
use lib.ListN.{length}
use Rattle.std.specs.Prelude.{Result, Ok, Err}
use Rattle.rules.specs.declared.Entry.{Entry}
use Rattle.rules.specs.declared.refusal.Reason.{Reason}
use Rattle.rules.specs.declared.refusal.Reason.TheVariants.{TextTooLong, NotUtf8, NoToken, Unwanted, BadInteger, BadName, NoRow, NotWellFormed, WorkTooShort, OutputTooShort}
use Rattle.rules.specs.declared.refusal.Refusal.{Refusal}
use Rattle.rules.specs.declared.Counts as rows
use Rattle.rules.specs.Answer.{Answer}
use Rattle.rules.specs.Answer as answer
use Rattle.rules.specs.WellFormed.{Counts}
use Rattle.rules.specs.Answers.{Lent, lent, Outcome, accepted, refusal, reading, answer_of, report_of, Reads, Reports}
use Rattle.rules.specs.Prints.{Print, malformed, more_words, more_bytes, whole, printing, print_answer, Prints, PrintReports}
use Rattle.rules.specs.Results as result
use Rattle.reading.proofs.Fuel.{refused-number}

pub reads_too : {e : Entry} {text I S O A told I' S' O' A' : List ℕ} → Reports e text I S O A told I' S' O' A' → (r : Answer) × (report_of r ≡ told) × Reads e text I S O A r I' S' O' A'
reads_too {e} {text} {I} {S} {O} {A} h = (answer_of (reading e text (lent I S O A)), sym h.tells, record { answers = refl; leaves = h.leaves })

pub prints_too : {text I S O A : List ℕ} {c : Counts} {work output told work' output' : List ℕ} → PrintReports text I S O A c work output told work' output'
    → (r : Answer) × (report_of r ≡ told) × Prints text I S O A c work output r work' output'
prints_too {text} {I} {S} {O} {A} {c} {work} {output} h = (print_answer (printing text I S O A c (length work) (length output)), sym h.tells, record { answers = refl; words = h.words; bytes = h.bytes })

-- ---- of results

-- each number with which a read refuses is that of a reason
read_reason : (n : ℕ) → 1 ≤ n → n ≤ 7 → (w : Reason) × (result.number_of w ≡ n)
read_reason zero h k = absurd (omega arith)
read_reason (suc zero) h k = (TextTooLong, refl)
read_reason (suc (suc zero)) h k = (NotUtf8, refl)
read_reason (suc (suc (suc zero))) h k = (NoToken, refl)
read_reason (suc (suc (suc (suc zero)))) h k = (Unwanted, refl)
read_reason (suc (suc (suc (suc (suc zero))))) h k = (BadInteger, refl)
read_reason (suc (suc (suc (suc (suc (suc zero)))))) h k = (BadName, refl)
read_reason (suc (suc (suc (suc (suc (suc (suc zero))))))) h k = (NoRow, refl)
read_reason (suc (suc (suc (suc (suc (suc (suc (suc n)))))))) h k = absurd (omega arith)

-- What the definitions answer is a result: of a read,
pub read_result : (e : Entry) (text : List ℕ) (l : Lent) → (r : Result rows.Counts Refusal) × (result.read_answer r ≡ answer_of (reading e text l))
unfolding answer_of
read_result e text l = by (reading e text l) refl
  where
    by : (o : Outcome) → reading e text l ≡ o → (r : Result rows.Counts Refusal) × (result.read_answer r ≡ answer_of o)
    by (accepted t) q = (Ok (record { items = t.items.count; statements = t.statements.count; operands = t.operands.count; attributes = t.attributes.count }), refl)
    by (refusal n p) q =
        let b = refused-number e text l n p q in
        let w = read_reason n b.0 b.1 in
        (Err (record { reason = w.0; place = p }), ap (λ (k : ℕ). answer.Refused k p) w.1)

-- and of a print.
pub print_result : (p : Print) → (r : Result ℕ Refusal) × (result.print_answer r ≡ print_answer p)
unfolding print_answer
print_result malformed = (Err (record { reason = NotWellFormed; place = 0 }), refl)
print_result (more_words n) = (Err (record { reason = WorkTooShort; place = n }), refl)
print_result (more_bytes n) = (Err (record { reason = OutputTooShort; place = n }), refl)
print_result (whole s) = (Ok (length s), refl)

pub reads_result : {e : Entry} {text I S O A told I' S' O' A' : List ℕ} → Reports e text I S O A told I' S' O' A'
    → (r : Result rows.Counts Refusal) × (report_of (result.read_answer r) ≡ told) × Reads e text I S O A (result.read_answer r) I' S' O' A'
reads_result {e} {text} {I} {S} {O} {A} h =
    let w = read_result e text (lent I S O A) in
    (w.0, ap report_of w.1 ∙ sym h.tells, record { answers = w.1; leaves = h.leaves })

pub prints_result : {text I S O A : List ℕ} {c : Counts} {work output told work' output' : List ℕ} → PrintReports text I S O A c work output told work' output'
    → (r : Result ℕ Refusal) × (report_of (result.print_answer r) ≡ told) × Prints text I S O A c work output (result.print_answer r) work' output'
prints_result {text} {I} {S} {O} {A} {c} {work} {output} h =
    let w = print_result (printing text I S O A c (length work) (length output)) in
    (w.0, ap report_of w.1 ∙ sym h.tells, record { answers = w.1; words = h.words; bytes = h.bytes })
