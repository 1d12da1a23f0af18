-- What a store keeps, of the results that the public calls answer: the promises of `Promises`, in the words in which a caller has them.
-- Assumes nothing.
use Prim.Native.Nat.{ℕ, ◌≤◌}
use mathlib.Core.Path.{◌≡◌}
use mathlib.Core.List.{List, ◌++◌}
use lib.ListN.{length, take, drop}
use Rattle.std.specs.Prelude.{Result, Ok}
use Rattle.rules.specs.declared.refusal.Refusal.{Refusal}
use Rattle.rules.specs.declared.Counts as rows
use Rattle.rules.specs.declared.Loaded.{Loaded}
use Rattle.rules.specs.WellFormed.{Counts, counts}
use Rattle.rules.specs.Results.{print_answer, store_answer, load_answer}
use Rattle.rules.specs.Prints.{Prints}
use Rattle.rules.specs.Stored.{Stores, Loads}
use Rattle.proof_results.proofs.Apart.{one_print_result, one_store_result, one_load_result}
use Rattle.proof_store.proofs.Written.{Bytes}
use Rattle.proof_store.proofs.Promises as answers
use Rattle.proof_store.proofs.Promises.{Enough, LoadsBack}

-- what a load tells of a text and counts
abbrev pub loaded_of : List ℕ → Counts → Loaded
loaded_of text c = record { text = length text; rows = record { items = c.items; statements = c.statements; operands = c.operands; attributes = c.attributes } }

-- A store that wrote n bytes, and a load of these.
module _ (text I S O A : List ℕ) (c : Counts) (output : List ℕ) (n : ℕ) (output' : List ℕ)
    (stores : Stores text I S O A c output (store_answer (Ok n)) output')
    (text₀ I₀ S₀ O₀ A₀ : List ℕ) (enough : Enough text c text₀ I₀ S₀ O₀ A₀)
    (r : Result Loaded Refusal) (text₁ I₁ S₁ O₁ A₁ : List ℕ)
    (loads_it : Loads (take n output') text₀ I₀ S₀ O₀ A₀ (load_answer r) text₁ I₁ S₁ O₁ A₁) where
  back : LoadsBack text I S O A c text₀ I₀ S₀ O₀ A₀ (load_answer r) text₁ I₁ S₁ O₁ A₁
  back = answers.written-loads-back text I S O A c output n output' stores text₀ I₀ S₀ O₀ A₀ enough (load_answer r) text₁ I₁ S₁ O₁ A₁ loads_it

  -- What was written loads as the same text, counts and rows.
  pub written-loads-back : (r ≡ Ok (loaded_of text c)) × LoadsBack text I S O A c text₀ I₀ S₀ O₀ A₀ (load_answer r) text₁ I₁ S₁ O₁ A₁
  written-loads-back =
      let same : load_answer r ≡ load_answer (Ok (loaded_of text c)) = back.answer in
      (one_load_result same, back)

  -- What is loaded prints alike: a print of it, into any work area and any output, answers and leaves what a print of what was stored does.
  pub loaded_prints_alike : (work output₀ : List ℕ) (r₁ r₂ : Result ℕ Refusal) (work₁ output₁ work₂ output₂ : List ℕ)
      → Prints text I S O A c work output₀ (print_answer r₁) work₁ output₁
      → Prints (take (length text) text₁) I₁ S₁ O₁ A₁ c work output₀ (print_answer r₂) work₂ output₂
      → (r₁ ≡ r₂) × ((work₁ ≡ work₂) × (output₁ ≡ output₂))
  loaded_prints_alike work output₀ r₁ r₂ work₁ output₁ work₂ output₂ x y =
      let a =
      answers.loaded_prints_alike text I S O A c output n output' stores text₀ I₀ S₀ O₀ A₀ enough (load_answer r) text₁ I₁ S₁ O₁ A₁ loads_it
      work output₀ (print_answer r₁) (print_answer r₂) work₁ output₁ work₂ output₂ x y in
      (one_print_result a.0, a.1)

-- A file that was loaded, and a store of what was loaded: an accepted file is exactly what the writer writes of it.
pub accepted_is_written : (file : List ℕ) → Bytes file → (text₀ I₀ S₀ O₀ A₀ : List ℕ) (l : Loaded) (text₁ I₁ S₁ O₁ A₁ : List ℕ)
    → Loads file text₀ I₀ S₀ O₀ A₀ (load_answer (Ok l)) text₁ I₁ S₁ O₁ A₁
    → (output : List ℕ) → length file ≤ length output → (r : Result ℕ Refusal) (output' : List ℕ)
    → Stores (take l.text text₁) I₁ S₁ O₁ A₁ (counts l.rows.items l.rows.statements l.rows.operands l.rows.attributes) output (store_answer r) output'
    → (r ≡ Ok (length file)) × (output' ≡ file ++ drop (length file) output)
accepted_is_written file bytes text₀ I₀ S₀ O₀ A₀ l text₁ I₁ S₁ O₁ A₁ loads_it output fits r output' x =
    let a =
    answers.accepted_is_written file bytes text₀ I₀ S₀ O₀ A₀ l.text l.rows.items l.rows.statements l.rows.operands l.rows.attributes text₁ I₁ S₁ O₁ A₁ loads_it
    output fits (store_answer r) output' x in
    let same : store_answer r ≡ store_answer (Ok (length file)) = a.0 in
    (one_store_result same, a.1)
