-- Zeros from a place to the end of a list.
-- Assumes nothing.
use Prim.Native.Nat.{ℕ, ◌≤◌, ◌-◌}
use mathlib.Core.Path.{◌≡◌}
use mathlib.Core.List.{List, [], append-nil}
use native.Mathlib.Omega.{arith}
use borrow.Rule.Slice.PartMut.{put_mid}
use lib.ListN.{length, length-take, length-drop, drop, take, replicate, drop_of_length-le}
use lib.Seq.{take_all}
use Rattle.rules.specs.Answers.{padded}

module _ (f : ℕ) (t : List ℕ) where
  -- zeros stored from f on, and f past the end
  pub zeros_behind : (ys : List ℕ) → f ≤ length t → ys ≡ replicate (length (take (length t - f) (drop f t))) 0 → put_mid f (length t - f) t ys ≡ padded (length t) (take f t)
  unfolding padded
  zeros_behind ys low e =
      let size : length (take (length t - f) (drop f t)) ≡ length t - length (take f t) = simp (length-take, length-drop) (omega arith) in
      let none : drop (length t - f) (drop f t) ≡ [] = drop_of_length-le (drop f t) (simp length-drop (omega arith)) in
      rw (e, size) (simp (none, append-nil))

  pub no_zeros : length t ≤ f → t ≡ padded (length t) (take f t)
  unfolding padded
  no_zeros past =
      let none : length t - length t ≡ 0 = omega arith in
      simp (take_all _ t past, none, append-nil)
