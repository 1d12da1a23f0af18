-- The items that tables say: what rules' View sees in the words of the four tables.
-- Assumes nothing.
use Prim.Native.Nat.{ℕ}
use mathlib.Core.List.{List}
use Rattle.rules.specs.Syntax.{Item}
use Rattle.rules.specs.View.{items_of}
use Rattle.rules.specs.World.{Tables}

abbrev pub items_in : List ℕ → Tables → List Item
items_in text t = items_of text t.items.words t.statements.words t.operands.words t.attributes.words t.items.count
