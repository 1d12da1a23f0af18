-- Demand 3, equal bytes.
-- Take any two texts that the same entry point accepts, each read into tables of whatever size. The items that their tables say
-- print to equal bytes exactly when their meanings are equal.
-- Assumes nothing.
use Prim.Native.Nat.{ℕ}
use mathlib.Core.Path.{◌≡◌}
use mathlib.Core.Logic.{◌↔◌}
use mathlib.Core.List.{List}
use Rattle.rules.specs.declared.Entry.{Entry}
use Rattle.rules.specs.Meaning.{SameMeanings}
use Rattle.rules.specs.Printing.{printed_all}
use Rattle.rules.specs.World.{Tables}
use Rattle.rules.specs.Answers.{Lent, accepted, reading}
use Rattle.bynames.proofs.Canonical as by_names
use Rattle.simulation.proofs.Said.{items_in}
use Rattle.simulation.proofs.Items.{entry_of}
use Rattle.simulation.proofs.Whole.{accepted_by_names}

-- the promise
pub canonical : (e : Entry) (text₁ text₂ : List ℕ) (l₁ l₂ : Lent) (t₁ t₂ : Tables) → reading e text₁ l₁ ≡ accepted t₁ → reading e text₂ l₂ ≡ accepted t₂
    → (printed_all (items_in text₁ t₁) ≡ printed_all (items_in text₂ t₂)) ↔ SameMeanings (items_in text₁ t₁) (items_in text₂ t₂)
canonical e text₁ text₂ l₁ l₂ t₁ t₂ p q =
    by_names.canonical (entry_of e) text₁ text₂ (items_in text₁ t₁) (items_in text₂ t₂) (accepted_by_names e text₁ l₁ t₁ p) (accepted_by_names e text₂ l₂ t₂ q)
