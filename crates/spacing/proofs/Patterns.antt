-- The letters of a pattern are the token's letters behind the first ten.
-- Assumes nothing.
use Prim.Native.Nat.{ℕ}
use mathlib.Core.Path.{◌≡◌, sym, ap, ◌∙◌}
use mathlib.Core.List.{List}
use lib.ListN.{drop}
use Rattle.rules.specs.declared.Spot.{Spot}
use Rattle.rules.specs.Rows.{letters_of}
use Rattle.rules.specs.Reading as R
use Rattle.simulation.proofs.Attributes as simulation

-- tokens of the same letters have patterns of the same letters
pub pattern-letters : (x y : List ℕ) (s t : Spot) → R.letters x s ≡ R.letters y t → letters_of x (R.pattern_of s) ≡ letters_of y (R.pattern_of t)
pattern-letters x y s t e = simulation.pattern-letters x s.first s.past ∙ ap (drop 10) e ∙ sym (simulation.pattern-letters y t.first t.past)
