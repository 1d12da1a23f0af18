-- Section 8 of docs/RULES.md. The listing: which statements of an item are printed, and in which order. It is defined with no visiting and no marks:
-- the unfolding of a name is the unfoldings of all it refers to, left to right, and then itself; the listing is the first occurrences in the unfoldings of the roots.
-- Assumes nothing.
use Rattle.std.specs.Prelude.{Bool, false, cond, ◌||◌, List, [], ◌∷◌, ◌++◌}
use Rattle.rules.specs.Bytes.{same}
use Rattle.rules.specs.Syntax.{Name, Statement, assignment, pc, blockpc, Item, flat, onto, scope, refers, first_roots, second_roots}

-- whether a statement assigns a name; whether one of a list does
abbrev pub assigns : Name → Statement → Bool
assigns n (assignment a) = same a.name n
assigns n (pc x y) = false
assigns n (blockpc b k x y) = false

abbrev pub has : Name → List Statement → Bool
has n [] = false
has n (s ∷ l) = assigns n s || has n l

-- the unfolding of a name in a scope: a statement refers only to those before it, which are the rest of the scope
abbrev pub unfolded : List Statement → Name → List Statement
unfolded [] n = []
unfolded (s ∷ l) n = cond (assigns n s) (flat (unfolded l) (refers s) ++ (s ∷ [])) (unfolded l n)

-- whether what a statement assigns is among some already
abbrev pub among : List Statement → Statement → Bool
among t (assignment a) = has a.name t
among t (pc x y) = false
among t (blockpc b k x y) = false

-- those of a list that are not among t, each at its first occurrence
abbrev pub firsts : List Statement → List Statement → List Statement
firsts t [] = []
firsts t (s ∷ l) = cond (among t s) (firsts t l) (s ∷ firsts (s ∷ t) l)

-- the listing of some roots in a scope, where t are listed already
abbrev pub listing : List Statement → List Statement → List Name → List Statement
listing s t roots = firsts t (flat (unfolded s) roots)

-- what is listed before the first closing line; and what is listed between infer and result, without what stands before infer
unfoldable pub listed_before : Item → List Statement
listed_before x = listing (scope x) [] (first_roots x.closing)

unfoldable pub listed_between : Item → List Statement
listed_between x = listing (scope x) (onto (listed_before x) []) (second_roots x.closing)
