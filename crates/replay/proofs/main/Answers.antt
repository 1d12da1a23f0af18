use Rattle.std.proofs.Common.{◌≡◌, ℕ, length, sym}
use Rattle.std.proofs.Math.ListN.{replicate}
use Rattle.std.proofs.lemmas.List.{length-replicate}
use Rattle.replay.proofs.main.Goals as goal

as_many : (n : ℕ) → n ≡ length {A = ℕ} (replicate n 0)
as_many n = sym (length-replicate {A = ℕ} n 0)

pub slice_bounds-read_full-end : goal.slice_bounds-read_full-end
slice_bounds-read_full-end c = as_many 524288

pub slice_bounds-input-end : goal.slice_bounds-input-end
slice_bounds-input-end c = c.read_full-n.ensures.0

pub slice_bounds-of-end : goal.slice_bounds-of-end
slice_bounds-of-end c = c.read_full-n.ensures.1
