-- `store` lends arrays.
use Rattle.std.proofs.Common.{◌≡◌, ℕ, length, sym}
use Rattle.std.proofs.Math.ListN.{replicate}
use Rattle.std.proofs.lemmas.List.{length-replicate}
use Rattle.front_stored.proofs.storing.store.Goals as goal

-- as it computes, so long a list is too long to count
as_many : (n : ℕ) → n ≡ length {A = ℕ} (replicate n 0)
as_many n = sym (length-replicate {A = ℕ} n 0)

pub slice_bounds-store_input-end-2 : goal.slice_bounds-store_input-end-2
slice_bounds-store_input-end-2 g c = as_many 2250113
