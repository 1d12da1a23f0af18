-- No two different answers satisfy the contract of a call, nor do two different contents of anything lent to it; the same of a result, which is what a call answers, and of a report.
-- Assumes nothing.
use Prim.Native.Nat.{ℕ}
use mathlib.Core.Path.{◌≡◌, sym, ◌∙◌}
use mathlib.Core.List.{List}
use denote.Ref.{Bor}
use Rattle.std.specs.Prelude.{Result}
use Rattle.rules.specs.declared.Entry.{Entry}
use Rattle.rules.specs.declared.refusal.Refusal.{Refusal}
use Rattle.rules.specs.declared.Counts as rows
use Rattle.rules.specs.Answer.{Answer}
use Rattle.rules.specs.declared.Span.{Span}
use Rattle.rules.specs.Answers.{Outcome, Leaves, Reads, Reports}
use Rattle.rules.specs.Prints.{Prints, PrintReports, name_part, name_report}
use Rattle.rules.specs.Results.{read_answer, print_answer}
use Rattle.rules.specs.WellFormed.{Counts}
use Rattle.prints.specs.Parts.{IsPart}
use Rattle.proof_results.proofs.Apart.{one_read_result, one_print_result}

-- two contents of each table, one and the same
pub record Same (I S O A I' S' O' A' : List ℕ) : Type 0 where
  pub items : I ≡ I'
  pub statements : S ≡ S'
  pub operands : O ≡ O'
  pub attributes : A ≡ A'

left_alike : {o : Outcome} {I S O A I₁ S₁ O₁ A₁ I₂ S₂ O₂ A₂ : List ℕ} → Leaves o I S O A I₁ S₁ O₁ A₁ → Leaves o I S O A I₂ S₂ O₂ A₂ → Same I₁ S₁ O₁ A₁ I₂ S₂ O₂ A₂
left_alike x y =
    record {
      items = x.items ∙ sym y.items;
      statements = x.statements ∙ sym y.statements;
      operands = x.operands ∙ sym y.operands;
      attributes = x.attributes ∙ sym y.attributes;
    }

pub one_answer : (e : Entry) (text : List ℕ) {I S O A : List ℕ} {r₁ r₂ : Answer} {I₁ S₁ O₁ A₁ I₂ S₂ O₂ A₂ : List ℕ}
    → Reads e text I S O A r₁ I₁ S₁ O₁ A₁ → Reads e text I S O A r₂ I₂ S₂ O₂ A₂ → (r₁ ≡ r₂) × Same I₁ S₁ O₁ A₁ I₂ S₂ O₂ A₂
one_answer e text x y = (x.answers ∙ sym y.answers, left_alike x.leaves y.leaves)

-- what the read calls answer
pub one_read : (e : Entry) (text : List ℕ) {I S O A : List ℕ} {r₁ r₂ : Result rows.Counts Refusal} {I₁ S₁ O₁ A₁ I₂ S₂ O₂ A₂ : List ℕ}
    → Reads e text I S O A (read_answer r₁) I₁ S₁ O₁ A₁ → Reads e text I S O A (read_answer r₂) I₂ S₂ O₂ A₂ → (r₁ ≡ r₂) × Same I₁ S₁ O₁ A₁ I₂ S₂ O₂ A₂
one_read e text x y = let a = one_answer e text x y in (one_read_result a.0, a.1)

pub one_report : {e : Entry} {text I S O A told₁ told₂ I₁ S₁ O₁ A₁ I₂ S₂ O₂ A₂ : List ℕ}
    → Reports e text I S O A told₁ I₁ S₁ O₁ A₁ → Reports e text I S O A told₂ I₂ S₂ O₂ A₂ → (told₁ ≡ told₂) × Same I₁ S₁ O₁ A₁ I₂ S₂ O₂ A₂
one_report x y = (x.tells ∙ sym y.tells, left_alike x.leaves y.leaves)

-- ---- prints

pub one_print : (text I S O A : List ℕ) (c : Counts) {work output : List ℕ} {r₁ r₂ : Answer} {work₁ output₁ work₂ output₂ : List ℕ}
    → Prints text I S O A c work output r₁ work₁ output₁ → Prints text I S O A c work output r₂ work₂ output₂ → (r₁ ≡ r₂) × (work₁ ≡ work₂) × (output₁ ≡ output₂)
one_print text I S O A c x y = (x.answers ∙ sym y.answers, x.words ∙ sym y.words, x.bytes ∙ sym y.bytes)

-- what the print call answers
pub one_printed : (text I S O A : List ℕ) (c : Counts) {work output : List ℕ} {r₁ r₂ : Result ℕ Refusal} {work₁ output₁ work₂ output₂ : List ℕ}
    → Prints text I S O A c work output (print_answer r₁) work₁ output₁ → Prints text I S O A c work output (print_answer r₂) work₂ output₂ → (r₁ ≡ r₂) × (work₁ ≡ work₂) × (output₁ ≡ output₂)
one_printed text I S O A c x y = let a = one_print text I S O A c x y in (one_print_result a.0, a.1, a.2)

pub one_print_report : {text I S O A : List ℕ} {c : Counts} {work output told₁ told₂ work₁ output₁ work₂ output₂ : List ℕ}
    → PrintReports text I S O A c work output told₁ work₁ output₁ → PrintReports text I S O A c work output told₂ work₂ output₂ → (told₁ ≡ told₂) × (work₁ ≡ work₂) × (output₁ ≡ output₂)
one_print_report x y = (x.tells ∙ sym y.tells, x.words ∙ sym y.words, x.bytes ∙ sym y.bytes)

-- ---- names

-- two parts of one text, one and the same: where they stand, and their bytes
pub record SamePart (r₁ r₂ : Bor (List ℕ)) : Type 0 where
  pub block : r₁.ref_ptr.0 ≡ r₂.ref_ptr.0
  pub place : r₁.ref_ptr.1 ≡ r₂.ref_ptr.1
  pub letters : r₁.now ≡ r₂.now

pub one_name : {text : Bor (List ℕ)} {s : Span} {r₁ r₂ : Bor (List ℕ)} → IsPart text s r₁ → IsPart text s r₂ → SamePart r₁ r₂
one_name x y = record { block = x.block ∙ sym y.block; place = x.place ∙ sym y.place; letters = x.letters ∙ sym y.letters }

pub one_name_report : (text I S O A : List ℕ) (c : Counts) (row : ℕ) {told₁ told₂ : List ℕ}
    → told₁ ≡ name_report (name_part text I S O A c row) → told₂ ≡ name_report (name_part text I S O A c row) → told₁ ≡ told₂
one_name_report text I S O A c row x y = x ∙ sym y
