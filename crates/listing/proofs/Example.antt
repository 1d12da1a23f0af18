-- A table and its listings, computed: what the definitions say, and that `Sound` can be met.
-- Assumes nothing.
use mathlib.Core.Path.{◌≡◌, refl}
use mathlib.Core.List.{List, [], ◌∷◌}
use Prim.Native.Nat.{ℕ, zero, suc, ◌*◌, ◌≤◌, ◌<◌}
use native.Mathlib.Omega.{arith}
use lib.Dec.{lit≤}
use lib.ListN.{length}
use Rattle.rules.specs.Rows.{operand_length, statement_at, operand_at}
use Rattle.rules.specs.WellFormed.{has_block}
use Rattle.rules.specs.Meaning.{All}
use Rattle.listing.specs.Listing.{none, marked, listing}
use Rattle.listing.specs.Machine.{trace, run}
use Rattle.listing.specs.References.{size, references, refers, Sound}

-- %0 = block 2, %1 = var, %2 = phi %0, %1, 7, %3 = add %2, %1, pc %3 %1
abbrev statements : List ℕ
statements =
    61 ∷ 0 ∷ 0 ∷ 0 ∷ 2 ∷ 0 ∷ 0 ∷ 0 ∷ 0 ∷ 0
    ∷ 60 ∷ 0 ∷ 0 ∷ 0 ∷ 0 ∷ 0 ∷ 0 ∷ 0 ∷ 0 ∷ 0
    ∷ 62 ∷ 0 ∷ 0 ∷ 0 ∷ 0 ∷ 0 ∷ 0 ∷ 2 ∷ 0 ∷ 0
    ∷ 1 ∷ 0 ∷ 0 ∷ 0 ∷ 0 ∷ 0 ∷ 2 ∷ 4 ∷ 0 ∷ 0
    ∷ 65 ∷ 0 ∷ 0 ∷ 0 ∷ 0 ∷ 0 ∷ 4 ∷ 6 ∷ 0 ∷ 0 ∷ []

abbrev operands : List ℕ
operands =
    1 ∷ 1 ∷ 0 ∷ 0 ∷ 0 ∷ 0 ∷ 0
    ∷ 2 ∷ 0 ∷ 0 ∷ 0 ∷ 0 ∷ 0 ∷ 7
    ∷ 1 ∷ 2 ∷ 0 ∷ 0 ∷ 0 ∷ 0 ∷ 0
    ∷ 1 ∷ 1 ∷ 0 ∷ 0 ∷ 0 ∷ 0 ∷ 0
    ∷ 1 ∷ 3 ∷ 0 ∷ 0 ∷ 0 ∷ 0 ∷ 0
    ∷ 1 ∷ 1 ∷ 0 ∷ 0 ∷ 0 ∷ 0 ∷ 0 ∷ []

-- a block before operands, and operands left to right
one_root : listing (refers statements operands 5) 5 none (3 ∷ []) ≡ 0 ∷ 1 ∷ 2 ∷ 3 ∷ []
unfolding refers references has_block size statement_at operand_at
one_root = refl

two_roots : listing (refers statements operands 5) 5 none (1 ∷ 4 ∷ []) ≡ 1 ∷ 0 ∷ 2 ∷ 3 ∷ 4 ∷ []
unfolding refers references has_block size statement_at operand_at
two_roots = refl

-- what is listed already is not listed again
second_root : listing (refers statements operands 5) 5 (marked none (1 ∷ [])) (4 ∷ []) ≡ 0 ∷ 2 ∷ 3 ∷ 4 ∷ []
unfolding refers references has_block size statement_at operand_at
second_root = refl

-- the search finds the same
searched : (run (refers statements operands 5) 5 none (trace 4 ∷ [])).listed ≡ 0 ∷ 1 ∷ 2 ∷ 3 ∷ 4 ∷ []
unfolding refers references has_block size statement_at operand_at
searched = refl

inside : (i : ℕ) → i < 5 → (statement_at statements i).operands.past * operand_length ≤ length operands
unfolding statement_at
inside zero h = lit≤ tt
inside (suc zero) h = lit≤ tt
inside (suc (suc zero)) h = lit≤ tt
inside (suc (suc (suc zero))) h = lit≤ tt
inside (suc (suc (suc (suc zero)))) h = lit≤ tt
inside (suc (suc (suc (suc (suc i))))) h = absurd (let n : ⊥ = omega arith in n)

earlier : (i : ℕ) → i < 5 → All (λ j. j < i) (references statements operands i)
unfolding references has_block size statement_at operand_at
earlier zero h = tt
earlier (suc zero) h = tt
earlier (suc (suc zero)) h = (lit≤ tt, (lit≤ tt, tt))
earlier (suc (suc (suc zero))) h = (lit≤ tt, (lit≤ tt, tt))
earlier (suc (suc (suc (suc zero)))) h = (lit≤ tt, (lit≤ tt, tt))
earlier (suc (suc (suc (suc (suc i))))) h = absurd (let n : ⊥ = omega arith in n)

pub is_sound : Sound statements operands 5
is_sound = record { whole = lit≤ tt; few = lit≤ tt; inside = inside; earlier = earlier }
