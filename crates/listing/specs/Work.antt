-- What the words of a work area say: S marks, a word each, and from word S on a stack, its bottom first.
-- Assumes nothing.
use Rattle.std.specs.Prelude.{ℕ, zero, suc, ◌+◌, ◌*◌, ◌/◌, ◌%◌, ◌≤◌, ◌<◌, ◌≡◌, Bool, true, cond, not, ◌&&◌, List, [], ◌∷◌, eqb, ltb, length, get_or, set, take, Option, Some, None}
use Rattle.rules.specs.Meaning.{All}
use Rattle.listing.specs.Listing.{Marks, listing}
use Rattle.listing.specs.References.{size, owned, refers}
use Rattle.listing.specs.Machine.{Run, emit, lists, ended, Entry, trace, finished, traces, run}

-- whether row i has a mark; the work area with a mark at row i
unfoldable pub has_mark : List ℕ → ℕ → Bool
has_mark w i = not (eqb (get_or w i 0) 0)

unfoldable pub with_mark : List ℕ → ℕ → List ℕ
with_mark w i = set w i 1

-- the marks of s rows
unfoldable pub marks_of : List ℕ → ℕ → Marks
marks_of w s = λ i. ltb i s && has_mark w i

-- a word of the stack: twice the row, and 1 more once the row is finished
unfoldable pub entry_of : ℕ → Entry
entry_of n = cond (eqb (n % 2) 1) (finished (n / 2)) (trace (n / 2))

-- the stack of t words from word s on, its top first
abbrev pub stack_of : List ℕ → ℕ → ℕ → List Entry
stack_of w s zero = []
stack_of w s (suc t) = entry_of (get_or w (s + t) 0) ∷ stack_of w s t

abbrev pub row_of : Entry → ℕ
row_of (trace i) = i
row_of (finished i) = i

-- some rows are pushed to be traced, which takes n words at most; the words before the stack stay
pub record Pushed (rows w : List ℕ) (s t n : ℕ) (w' : List ℕ) (t' : ℕ) : Type 0 where
  pub fits : t' ≤ t + n
  pub before : take s w' ≡ take s w
  pub stack : stack_of w' s t' ≡ traces rows (stack_of w s t)

-- the words that the first n rows may still ask of the stack: of each with no mark its own, its block's and those of its operands
abbrev pub budget : List ℕ → Marks → ℕ → ℕ
budget statements m zero = 0
budget statements m (suc n) = budget statements m n + cond (m n) 0 (size statements n + 2)

-- the words that a stack never passes
abbrev pub most : List ℕ → ℕ → ℕ
most statements s = 2 * s + owned statements s + 1

-- what is still to come
unfoldable pub to_come : List ℕ → List ℕ → ℕ → List ℕ → ℕ → Run
to_come statements operands s w t = run (refers statements operands s) s (marks_of w s) (stack_of w s t)

-- the words of the stack, and those that may still be asked of it
unfoldable pub left : List ℕ → ℕ → List ℕ → ℕ → ℕ
left statements s w t = t + budget statements (marks_of w s) s

-- with a row that has a mark, all that it refers to has one
abbrev pub Closed : (ℕ → List ℕ) → Marks → Type 0
Closed r m = (i : ℕ) → m i ≡ true → All (λ j. m j ≡ true) (r i)

-- the work area has room for all, and its stack has t words
pub record Ready (statements operands : List ℕ) (s : ℕ) (w : List ℕ) (t : ℕ) : Type 0 where
  pub room : s + most statements s ≤ length w
  pub space : left statements s w t ≤ most statements s
  pub known : All (λ e. row_of e < s) (stack_of w s t)
  pub closed : Closed (refers statements operands s) (to_come statements operands s w t).marks

-- a walk from a root has begun: the listing of the root is to come
pub record Begun (statements operands : List ℕ) (s : ℕ) (w : List ℕ) (root : ℕ) (w' : List ℕ) (t : ℕ) : Type 0 where
  pub whole : to_come statements operands s w' t ≡ lists (marks_of w s) (listing (refers statements operands s) s (marks_of w s) (root ∷ []))
  pub ready : Ready statements operands s w' t

-- from one stack to another that has the same to come, with less left
pub record Traced (statements operands : List ℕ) (s : ℕ) (w : List ℕ) (t : ℕ) (w' : List ℕ) (t' : ℕ) : Type 0 where
  pub same : to_come statements operands s w t ≡ to_come statements operands s w' t'
  pub less : left statements s w' t' < left statements s w t
  pub ready : Ready statements operands s w' t'

-- the next row of what is to come, and the rest of it
pub record Listed (statements operands : List ℕ) (s : ℕ) (w : List ℕ) (t : ℕ) (w' : List ℕ) (row t' : ℕ) : Type 0 where
  pub counted : row < s
  pub next : to_come statements operands s w t ≡ emit row (to_come statements operands s w' t')
  pub ready : Ready statements operands s w' t'

-- nothing is to come
pub record Ended (statements operands : List ℕ) (s : ℕ) (w : List ℕ) (t : ℕ) (w' : List ℕ) : Type 0 where
  pub nothing : to_come statements operands s w t ≡ ended (marks_of w' s)
  pub ready : Ready statements operands s w' 0

-- what a walk has to come, once it was asked for its next row
abbrev pub Advanced : List ℕ → List ℕ → ℕ → List ℕ → ℕ → List ℕ → Option ℕ → ℕ → Type 0
Advanced statements operands s w t w' (Some row) t' = Listed statements operands s w t w' row t'
Advanced statements operands s w t w' None t' = Ended statements operands s w t w'
