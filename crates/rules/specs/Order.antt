-- Statements in an order in which they can be read: each once, and after all that it refers to.
-- Assumes nothing.
use Rattle.std.specs.Prelude.{◌≡◌, List, [], ◌∷◌}
use Rattle.rules.specs.Syntax.{Name, Assignment, Statement, assignment, refers}
use Rattle.rules.specs.Meaning.{Mem}

-- one of a list of statements assigns a name
abbrev pub Assigns : Name → List Statement → Type 0
Assigns n l = (a : Assignment) × Mem (assignment a) l × (a.name ≡ n)

-- statements behind others: none is one of those before it, and each name that it refers to is assigned by one before it
abbrev pub InOrder : List Statement → List Statement → Type 0
InOrder t [] = Unit {0}
InOrder t (s ∷ l) = (Mem s t → ⊥) × ((m : Name) → Mem m (refers s) → Assigns m t) × InOrder (s ∷ t) l
