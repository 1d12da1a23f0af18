-- A print as lines: item by item those of some statements, the first closing line, those of more statements, and the second closing line, if there is one.
-- Assumes nothing.
use Rattle.std.specs.Prelude.{ℕ, ◌≡◌, Bool, true, ◌&&◌, List, [], ◌∷◌, ◌++◌}
use Rattle.rules.specs.Bytes.{line_byte}
use Rattle.rules.specs.Syntax.{Name, Assignment, Statement, assignment, Closing, infer_result, cand, infer, result, Item, first_roots, second_roots}
use Rattle.rules.specs.Meaning.{Mem, Reachable, All}
use Rattle.rules.specs.Order.{Assigns, InOrder}
use Rattle.rules.specs.Out.{joined}
use Rattle.rules.specs.Printing.{feed, line, result_line, first_closing}

-- the lines of statements, and the second closing line, if there is one
abbrev pub lines_of : List Statement → List (List ℕ)
lines_of [] = []
lines_of (s ∷ l) = line s [] ∷ lines_of l

abbrev pub second_lines : Closing → List (List ℕ)
second_lines (infer_result n l o) = result_line o [] ∷ []
second_lines (cand x y l) = []
second_lines (infer n l) = []
second_lines (result o) = []

-- whether no byte of a list is a line feed
abbrev pub unfed : List ℕ → Bool
unfed [] = true
unfed (b ∷ l) = line_byte b && unfed l

-- one line feed, the last byte
abbrev pub IsLine : List ℕ → Type 0
IsLine s = (t : List ℕ) × (unfed t ≡ true) × (s ≡ t ++ feed [])

-- an item's lines, all of them
pub record ItemLines (x : Item) (all : List (List ℕ)) : Type 0 where
  -- the statements listed before the first closing line, and those between infer and result
  pub before : List Statement
  pub between : List Statement
  pub lines : all ≡ lines_of before ++ (first_closing x.closing [] ∷ (lines_of between ++ second_lines x.closing))
  pub fed : All IsLine all
  -- each that can be reached, and no other
  pub each : (b : Assignment) → Reachable x b → Mem (assignment b) (before ++ between)
  pub other : (s : Statement) → Mem s (before ++ between) → (b : Assignment) × (s ≡ assignment b) × Reachable x b
  -- once, and after all that it refers to
  pub order : InOrder [] (before ++ between)
  -- and closing lines stand behind all that they refer to
  pub first : (m : Name) → Mem m (first_roots x.closing) → Assigns m before
  pub second : (m : Name) → Mem m (second_roots x.closing) → Assigns m (before ++ between)

-- a text that is the lines of items, one item after another
pub data ItemByItem : List Item → List ℕ → Type 0 where
  none : ItemByItem [] []
  more : {x : Item} {xs : List Item} {r : List ℕ} (all : List (List ℕ)) → ItemLines x all → ItemByItem xs r → ItemByItem (x ∷ xs) (joined all ++ r)
