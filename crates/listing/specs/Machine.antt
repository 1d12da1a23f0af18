-- What a stack has still to list: a search that traces rows, depth first, with marks.
-- Assumes nothing.
use Rattle.std.specs.Prelude.{ℕ, zero, suc, cond, List, [], ◌∷◌}
use Rattle.listing.specs.Listing.{Marks, mark, marked}

-- what is listed, and the marks after it
pub record Run : Type 0 where
  pub listed : List ℕ
  pub marks : Marks

abbrev pub emit : ℕ → Run → Run
emit i o = record { listed = i ∷ o.listed; marks = o.marks }

-- a list is listed, and each of it gets a mark; nothing is listed
abbrev pub lists : Marks → List ℕ → Run
lists m l = record { listed = l; marks = marked m l }

abbrev pub ended : Marks → Run
ended m = lists m []

-- an entry of the stack: a row to be traced, or one that is listed next
pub data Entry : Type 0 where
  trace : ℕ → Entry
  finished : ℕ → Entry

-- entries to trace some rows, on top of others
abbrev pub traces : List ℕ → List Entry → List Entry
traces [] l = l
traces (i ∷ rows) l = trace i ∷ traces rows l

-- f from each row of a list, one after the other, then k
abbrev pub thread : (Marks → ℕ → (Marks → Run) → Run) → Marks → List ℕ → (Marks → Run) → Run
thread f m [] k = k m
thread f m (i ∷ l) k = f m i (λ m'. thread f m' l k)

-- the search from row i to a depth, then k
abbrev pub depth_first : (ℕ → List ℕ) → ℕ → Marks → ℕ → (Marks → Run) → Run
depth_first r zero m i k = k m
depth_first r (suc d) m i k = cond (m i) (k m) (thread (depth_first r d) (mark m i) (r i) (λ m'. emit i (k m')))

-- the run of a stack among s rows, its top first
abbrev pub run : (ℕ → List ℕ) → ℕ → Marks → List Entry → Run
run r s m [] = ended m
run r s m (trace i ∷ l) = depth_first r s m i (λ m'. run r s m' l)
run r s m (finished i ∷ l) = emit i (run r s m l)
