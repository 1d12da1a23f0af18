-- Demand 3, what a print lists.
-- Of each item that an accepted text's tables say, a print lists each assignment that can be reached from the item's roots, once,
-- after all that it refers to, and lists no other statement; closing lines stand behind all that they refer to.
-- `Lists` says just this, in five parts.
-- Assumes nothing.
use Prim.Native.Nat.{ℕ}
use mathlib.Core.Path.{◌≡◌}
use mathlib.Core.List.{List}
use Rattle.rules.specs.declared.Entry.{Entry}
use Rattle.rules.specs.Syntax.{Item}
use Rattle.rules.specs.Meaning.{Mem}
use Rattle.rules.specs.World.{Tables}
use Rattle.rules.specs.Answers.{Lent, accepted, reading}
use Rattle.bynames.proofs.Listed as by_names
use Rattle.bynames.proofs.Listed.{Lists}
use Rattle.simulation.proofs.Said.{items_in}
use Rattle.simulation.proofs.Items.{entry_of}
use Rattle.simulation.proofs.Whole.{accepted_by_names}

-- the promise
pub print_lists : (e : Entry) (text : List ℕ) (l : Lent) (t : Tables) → reading e text l ≡ accepted t → (x : Item) → Mem x (items_in text t) → Lists x
print_lists e text l t p = by_names.print_lists (entry_of e) text (items_in text t) (accepted_by_names e text l t p)
