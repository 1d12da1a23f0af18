-- A rule that is repeated: each turn claims a row of a table, so the fuel lasts, and a turn can be told by itself.
-- Assumes nothing.
use Prim.Native.Nat.{ℕ, zero, suc, ◌-◌, ◌<◌}
use mathlib.Core.Path.{◌≡◌, refl, ap}
use mathlib.Core.Bool.{Bool, true, false, cond}
use native.Mathlib.Omega.{arith}
use Rattle.rules.specs.declared.Spot.{Spot}
use Rattle.rules.specs.Faults as fault
use Rattle.rules.specs.World.{Table, Tables, World, Res, go, stop, P, ◌>>=◌, ◌>>◌, give, repeated, many}
use Rattle.reading.proofs.Ends.{Ends, goes, stops, seq, either, same_after, told, stopped}
use Rattle.reading.proofs.Claims.{Keeps, Claims}

either_same : {A : Type 0} (t : Bool) (p q x y : P A) (w : World) → p w ≡ x w → q w ≡ y w → cond t p q w ≡ cond t x y w
either_same true p q x y w h k = h
either_same false p q x y w h k = k

-- how many rows of a table are left to claim
abbrev left : Table → ℕ
left t = t.cap - t.count

-- a rule that stops only with faults of which F holds
pub record Stops (F : ℕ → Spot → Type 0) {A : Type 0} (p : P A) : Type 0 where
  pub by : (w : World) → Ends (λ a v. Unit {0}) F (p w)

ended : {A : Type 0} (k : ℕ) (m : Res A) → ((t : Spot) → m ≡ stop k t → ⊥) → Ends (λ a v. Unit {0}) (λ n t. n ≡ k → ⊥) m
ended k (go a w) h = goes a w tt
ended k (stop n t) h = stops n t (λ e. h t (ap (λ i. stop i t) e))

stops_but : {A : Type 0} {p : P A} {k : ℕ} → ((w : World) (t : Spot) → p w ≡ stop k t → ⊥) → Stops (λ n t. n ≡ k → ⊥) p
stops_but {p = p} {k = k} h = record { by = λ w. ended k (p w) (h w) }

module _ {of : Tables → Table} {peek : P Bool} {rule : P (Unit {0})} (x : Keeps of peek) (y : Claims of rule) where
  -- fuel beyond the rows that are left changes nothing
  pub enough : (n m : ℕ) (w : World) → left (of w.tables) < n → left (of w.tables) < m → repeated n peek rule w ≡ repeated m peek rule w
  unfolding repeated
  enough zero m w h k = absurd (let z : ⊥ = omega arith in z)
  enough (suc n) zero w h k = absurd (let z : ⊥ = omega arith in z)
  enough (suc n) (suc m) w h k =
      same_after _ _ (x.by w) (λ more v a.
      either_same more _ _ _ _ v
      (same_after _ _ (y.by v) (λ u v' b. enough n m v' (omega arith) (omega arith)))
      refl)

  -- a turn: a look, and where it says so the rule and all the further turns
  pub many_turn : (w : World) → many of peek rule w ≡ (peek >>= λ more. cond more (rule >> many of peek rule) (give tt)) w
  unfolding many repeated
  many_turn w =
      same_after _ _ (x.by w) (λ more v a.
      either_same more _ _ _ _ v
      (same_after _ _ (y.by v) (λ u v' b. enough (of w.tables).cap (suc (of v'.tables).cap) v' (omega arith) (omega arith)))
      refl)

  repeated_stops : {F : ℕ → Spot → Type 0} → Stops F peek → Stops F rule → (n : ℕ) (w : World) → left (of w.tables) < n → Ends (λ a v. Unit {0}) F (repeated n peek rule w)
  unfolding repeated
  repeated_stops f g zero w h = absurd (let z : ⊥ = omega arith in z)
  repeated_stops f g (suc n) w h =
      seq _ (told (x.by w) (f.by w)) (λ more v a.
      either more _ _ v
      (seq _ (told (y.by v) (g.by v)) (λ u v' b. repeated_stops f g n v' (omega arith)))
      (goes tt v tt))

  -- it stops only as the look or the rule does, and never for want of fuel of its own
  pub many_stops : {F : ℕ → Spot → Type 0} → Stops F peek → Stops F rule → Stops F (many of peek rule)
  unfolding many
  many_stops f g = record { by = λ w. repeated_stops f g _ w (omega arith) }

  pub many-fuel : ((w : World) (t : Spot) → peek w ≡ stop fault.fuel t → ⊥) → ((w : World) (t : Spot) → rule w ≡ stop fault.fuel t → ⊥) → (w : World) (t : Spot) → many of peek rule w ≡ stop fault.fuel t → ⊥
  many-fuel f g w t e = stopped (rw e at ((many_stops (stops_but f) (stops_but g)).by w)) refl
