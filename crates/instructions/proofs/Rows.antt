-- What the code's tables say of the instructions.
-- Assumes nothing.
use mathlib.Core.Path.{◌≡◌, refl, ap}
use mathlib.Core.Bool.{Bool, true}
use mathlib.Core.List.{List, [], ◌∷◌}
use Prim.Native.Nat.{ℕ, ◌≤◌, ◌<◌}
use lib.Dec.{eqb}
use lib.ListN.{length, get_or, get_or-eq_default}
use borrow.Author.Tests.{eqb-true}
use denote.Bor.{Bor}
use Rattle.rules.specs.Bytes.{same}
use Rattle.rules.specs.Instructions.{Instruction, ◌takes◌, instructions, arity_of, instruction_name}
use Rattle.laws.proofs.Every.{every, every_at}
use Rattle.laws.proofs.Places.{same_eq}

-- the arities, by one computed test
unfoldable pub arities : List ℕ
arities = arity_list instructions
  where
    arity_list : List Instruction → List ℕ
    arity_list [] = []
    arity_list (i ∷ l) = i.arity ∷ arity_list l

right_arity : ℕ → ℕ → Bool
right_arity k a = eqb a (arity_of k)

pub arity_at : (k : ℕ) → k < 59 → get_or arities k 0 ≡ arity_of k
unfolding right_arity arity_of arities
arity_at k h = eqb-true (get_or arities k 0) (arity_of k) (every_at right_arity 0 arities refl k h)

-- the names, by another
unfoldable pub right_name : ℕ → Bor (List ℕ) → Bool
right_name k n = same n.now (instruction_name k)

pub name_at : (l : List (Bor (List ℕ))) (d : Bor (List ℕ)) → every right_name 0 l ≡ true → (k : ℕ) → k < length l → (get_or l k d).now ≡ instruction_name k
unfolding right_name
name_at l d t k h = same_eq (get_or l k d).now (instruction_name k) (every_at right_name d l t k h)

-- past the table
module _ (k : ℕ) (h : 59 ≤ k) where
  pub arity-past : arity_of k ≡ 0
  unfolding arity_of
  arity-past = ap (λ (i : Instruction). i.arity) (get_or-eq_default instructions ("" takes 0) h)

  pub name-past : instruction_name k ≡ []
  unfolding instruction_name
  name-past = ap (λ (i : Instruction). i.name) (get_or-eq_default instructions ("" takes 0) h)
