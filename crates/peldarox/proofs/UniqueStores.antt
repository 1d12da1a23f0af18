-- No two different answers satisfy the contract of a store or of a load, nor do two different contents of anything lent to it; the same of a result, which is what
-- the calls answer, and of a report.
-- Assumes nothing.
use Prim.Native.Nat.{ℕ}
use mathlib.Core.Path.{◌≡◌, sym, ◌∙◌}
use mathlib.Core.List.{List}
use Rattle.std.specs.Prelude.{Result}
use Rattle.rules.specs.declared.refusal.Refusal.{Refusal}
use Rattle.rules.specs.declared.Loaded.{Loaded}
use Rattle.rules.specs.StoreAnswer.{StoreAnswer}
use Rattle.rules.specs.LoadAnswer.{LoadAnswer}
use Rattle.rules.specs.Stored.{Loading, LoadLeaves, Stores, Loads, StoreReports, LoadReports}
use Rattle.rules.specs.Results.{store_answer, load_answer}
use Rattle.rules.specs.WellFormed.{Counts}
use Rattle.proof_results.proofs.Apart.{one_store_result, one_load_result}
use Rattle.peldarox.proofs.Unique.{Same}

pub one_store : (text I S O A : List ℕ) (c : Counts) {output : List ℕ} {r₁ r₂ : StoreAnswer} {output₁ output₂ : List ℕ}
    → Stores text I S O A c output r₁ output₁ → Stores text I S O A c output r₂ output₂ → (r₁ ≡ r₂) × (output₁ ≡ output₂)
one_store text I S O A c x y = (x.answers ∙ sym y.answers, x.bytes ∙ sym y.bytes)

-- what the store call answers
pub one_stored : (text I S O A : List ℕ) (c : Counts) {output : List ℕ} {r₁ r₂ : Result ℕ Refusal} {output₁ output₂ : List ℕ}
    → Stores text I S O A c output (store_answer r₁) output₁ → Stores text I S O A c output (store_answer r₂) output₂ → (r₁ ≡ r₂) × (output₁ ≡ output₂)
one_stored text I S O A c x y = let a = one_store text I S O A c x y in (one_store_result a.0, a.1)

pub one_store_report : {text I S O A : List ℕ} {c : Counts} {output told₁ told₂ output₁ output₂ : List ℕ}
    → StoreReports text I S O A c output told₁ output₁ → StoreReports text I S O A c output told₂ output₂ → (told₁ ≡ told₂) × (output₁ ≡ output₂)
one_store_report x y = (x.tells ∙ sym y.tells, x.bytes ∙ sym y.bytes)

left_alike : {l : Loading} {text I S O A text₁ I₁ S₁ O₁ A₁ text₂ I₂ S₂ O₂ A₂ : List ℕ}
    → LoadLeaves l text I S O A text₁ I₁ S₁ O₁ A₁ → LoadLeaves l text I S O A text₂ I₂ S₂ O₂ A₂ → (text₁ ≡ text₂) × Same I₁ S₁ O₁ A₁ I₂ S₂ O₂ A₂
left_alike x y = (
  x.bytes ∙ sym y.bytes,
  record {
    items = x.items ∙ sym y.items;
    statements = x.statements ∙ sym y.statements;
    operands = x.operands ∙ sym y.operands;
    attributes = x.attributes ∙ sym y.attributes;
  },
)

pub one_load : (file : List ℕ) {text I S O A : List ℕ} {r₁ r₂ : LoadAnswer} {text₁ I₁ S₁ O₁ A₁ text₂ I₂ S₂ O₂ A₂ : List ℕ}
    → Loads file text I S O A r₁ text₁ I₁ S₁ O₁ A₁ → Loads file text I S O A r₂ text₂ I₂ S₂ O₂ A₂ → (r₁ ≡ r₂) × (text₁ ≡ text₂) × Same I₁ S₁ O₁ A₁ I₂ S₂ O₂ A₂
one_load file x y = let l = left_alike x.leaves y.leaves in (x.answers ∙ sym y.answers, l.0, l.1)

-- what the load call answers
pub one_loaded : (file : List ℕ) {text I S O A : List ℕ} {r₁ r₂ : Result Loaded Refusal} {text₁ I₁ S₁ O₁ A₁ text₂ I₂ S₂ O₂ A₂ : List ℕ}
    → Loads file text I S O A (load_answer r₁) text₁ I₁ S₁ O₁ A₁ → Loads file text I S O A (load_answer r₂) text₂ I₂ S₂ O₂ A₂ → (r₁ ≡ r₂) × (text₁ ≡ text₂) × Same I₁ S₁ O₁ A₁ I₂ S₂ O₂ A₂
one_loaded file x y = let a = one_load file x y in (one_load_result a.0, a.1, a.2)

pub one_load_report : {file text I S O A told₁ told₂ text₁ I₁ S₁ O₁ A₁ text₂ I₂ S₂ O₂ A₂ : List ℕ}
    → LoadReports file text I S O A told₁ text₁ I₁ S₁ O₁ A₁ → LoadReports file text I S O A told₂ text₂ I₂ S₂ O₂ A₂ → (told₁ ≡ told₂) × (text₁ ≡ text₂) × Same I₁ S₁ O₁ A₁ I₂ S₂ O₂ A₂
one_load_report x y = let l = left_alike x.leaves y.leaves in (x.tells ∙ sym y.tells, l.0, l.1)
