-- Section 7 of docs/RULES.md. What an item means: its kind, its closing lines, and the set of assignments that can be reached from its roots. No order of visiting is in it.
-- Assumes nothing.
use Rattle.std.specs.Prelude.{ℕ, ◌≡◌, Bool, true, ◌⊎◌, ◌↔◌, List, [], ◌∷◌}
use Rattle.rules.specs.Syntax.{Name, Assignment, Statement, assignment, Item, scope, refers, roots}

-- x is an element of a list
abbrev pub Mem : {A : Type 0} → A → List A → Type 0
Mem x [] = ⊥
Mem x (y ∷ l) = (x ≡ y) ⊎ Mem x l

-- each element of a list is so
abbrev pub All : {A : Type 0} → (A → Type 0) → List A → Type 0
All P [] = Unit {0}
All P (x ∷ l) = P x × All P l

-- each number of a list passes a test
abbrev pub Each : (ℕ → Bool) → List ℕ → Type 0
Each p = All (λ b. p b ≡ true)

-- among some statements, an assignment is reached from a name: it has that name, or another that has it refers to a name from which it is reached
pub data Reach (l : List Statement) (b : Assignment) : Name → Type 0 where
  here : {n : Name} → Mem (assignment b) l → b.name ≡ n → Reach l b n
  there : {n m : Name} (a : Assignment) → Mem (assignment a) l → a.name ≡ n → Mem m (refers (assignment a)) → Reach l b m → Reach l b n

abbrev pub Reachable : Item → Assignment → Type 0
Reachable x b = (n : Name) × Mem n (roots x.closing) × Reach (scope x) b n

-- two items mean the same: kinds and closing lines are equal, and each assignment is reachable in one exactly when it is in the other
pub record SameMeaning (x y : Item) : Type 0 where
  pub closing : x.closing ≡ y.closing
  pub reachable : (b : Assignment) → Reachable x b ↔ Reachable y b

-- a list's meaning is its items' in order
pub data SameMeanings : List Item → List Item → Type 0 where
  none : SameMeanings [] []
  more : {x y : Item} {xs ys : List Item} → SameMeaning x y → SameMeanings xs ys → SameMeanings (x ∷ xs) (y ∷ ys)
