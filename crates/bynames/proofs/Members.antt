-- Lists within lists, and members of a list put onto another.
-- Assumes nothing.
use mathlib.Core.Logic.{◌⊎◌, inl, inr, ⊎_elim}
use mathlib.Core.List.{List, [], ◌∷◌}
use Rattle.rules.specs.Syntax.{onto}
use Rattle.rules.specs.Meaning.{Mem}

-- each element of one list is one of the other
abbrev pub Within : {A : Type 0} → List A → List A → Type 0
Within {A} s t = (c : A) → Mem c s → Mem c t

module _ {A : Type 0} where
  pub mem_below : (y : A) (xs ys : List A) → Mem y ys → Mem y (onto xs ys)
  mem_below y [] ys h = h
  mem_below y (x ∷ xs) ys h = mem_below y xs (x ∷ ys) (inr h)

  pub mem_onto : (y : A) (xs ys : List A) → Mem y xs → Mem y (onto xs ys)
  mem_onto y [] ys h = absurd h
  mem_onto y (x ∷ xs) ys (inl e) = mem_below y xs (x ∷ ys) (inl e)
  mem_onto y (x ∷ xs) ys (inr h) = mem_onto y xs (x ∷ ys) h

  pub onto_mem : (y : A) (xs ys : List A) → Mem y (onto xs ys) → Mem y xs ⊎ Mem y ys
  onto_mem y [] ys h = inr h
  onto_mem y (x ∷ xs) ys h = ⊎_elim (λ (l : Mem y xs). inl (inr l)) side (onto_mem y xs (x ∷ ys) h)
    where
      side : Mem y (x ∷ ys) → Mem y (x ∷ xs) ⊎ Mem y ys
      side (inl e) = inl (inl e)
      side (inr q) = inr q
