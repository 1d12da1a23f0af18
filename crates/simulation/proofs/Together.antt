-- Two readings go together: where the one over rows goes on, so does the one by names; where it stops, the one by names refuses, but for want of a row.
-- Assumes nothing.
use Prim.Native.Nat.{ℕ}
use mathlib.Core.Path.{◌≡◌, refl}
use mathlib.Core.Bool.{Bool, true, false, cond}
use native.Mathlib.Omega.{arith}
use borrow.Author.Tests.{eqb-true, eqb-false}
use lib.Dec.{eqb, ltb}
use Rattle.rules.specs.declared.Spot.{Spot}
use Rattle.rules.specs.Faults as fault
use Rattle.rules.specs.World.{World, Table, Res, go, stop, P, bind, claim}
use Rattle.bynames.proofs.Reader as names
use Rattle.bynames.proofs.Reader.{State}
use Rattle.bynames.proofs.AcceptedParts.{Ok}

pub data Both {X Y : Type 0} (Q : X → World → Y → State → Type 0) : Res X → names.Res Y → Type 0 where
  goes : (x : X) (w : World) (y : Y) (a : State) → Q x w y a → Both Q (go x w) (names.go y a)
  full : (p : Spot) (n : names.Res Y) → Both Q (stop fault.no_row p) n
  halts : (k : ℕ) (p : Spot) → Both Q (stop k p) names.stop

module _ {X Y X' Y' : Type 0} {Q : X → World → Y → State → Type 0} {Z : X' → World → Y' → State → Type 0} (f : X → P X') (g : Y → names.P Y') where
  -- one rule after another
  pub seq : {m : Res X} {n : names.Res Y} → Both Q m n → ((x : X) (w : World) (y : Y) (a : State) → Q x w y a → Both Z (f x w) (g y a)) → Both Z (bind m f) (names.bind n g)
  seq (goes x w y a q) k = k x w y a q
  seq (full p n) k = full p _
  seq (halts j p) k = halts j p

  -- the same, with what is known of the reading by names alone
  pub seq_ok : {K : Y → State → Type 0} {m : Res X} {n : names.Res Y} → Both Q m n → Ok K n → ((x : X) (w : World) (y : Y) (a : State) → Q x w y a → K y a → Both Z (f x w) (g y a)) → Both Z (bind m f) (names.bind n g)
  seq_ok (goes x w y a q) h k = k x w y a q h
  seq_ok (full p n) h k = full p _
  seq_ok (halts j p) h k = halts j p

module _ {X Y : Type 0} {Z : X → World → Y → State → Type 0} where
  -- the two arms of a test
  pub either : (b : Bool) (f f' : P X) (g g' : names.P Y) (w : World) (a : State) → (b ≡ true → Both Z (f w) (g a)) → (b ≡ false → Both Z (f' w) (g' a)) → Both Z (cond b f f' w) (cond b g g' a)
  either true f f' g g' w a h k = h refl
  either false f f' g g' w a h k = k refl

  -- a test of the reading by names alone
  pub picks : (m : Res X) (k i : ℕ) (g g' : names.P Y) (a : State) → (k ≡ i → Both Z m (g a)) → ((k ≡ i → ⊥) → Both Z m (g' a)) → Both Z m (cond (eqb k i) g g' a)
  picks m k i g g' a h o = by (eqb k i) refl
    where
      by : (b : Bool) → eqb k i ≡ b → Both Z m (cond b g g' a)
      by true e = h (eqb-true k i e)
      by false e = o (eqb-false k i e)

  -- what follows in the reading by names alone
  pub then-names : {Y' : Type 0} {Q : X → World → Y' → State → Type 0} (g : Y' → names.P Y) {m : Res X} {n : names.Res Y'} → Both Q m n → ((x : X) (w : World) (y : Y') (a : State) → Q x w y a → Both Z (go x w) (g y a)) → Both Z m (names.bind n g)
  then-names g (goes x w y a q) k = k x w y a q
  then-names g (full p n) k = full p _
  then-names g (halts j p) k = halts j p

  -- a rule that is two, before others
  pub nested : {A B : Type 0} (m : Res A) (f : A → P B) (g : B → P X) {n : names.Res Y} → Both Z (bind m (λ x w. bind (f x w) g)) n → Both Z (bind (bind m f) g) n
  nested (go a w) f g h = h
  nested (stop k p) f g h = h

-- what follows a rule that stops where the reading by names refuses
pub stopped : {X Y X' Y' : Type 0} {Q : X → World → Y → State → Type 0} {Z : X' → World → Y' → State → Type 0} (f : X → P X') {m : Res X} {n : names.Res Y} → Both Q m n → n ≡ names.stop → Both Z (bind m f) names.stop
stopped f (goes x w y a q) e = absurd (let z : ◌≡◌ {A = ℕ} 0 1 = cc in omega arith)
stopped f (full p n) e = full p _
stopped f (halts k p) e = halts k p

-- a claim beside a reading by names that goes on
pub claims : {Y : Type 0} {Z : Unit {0} → World → Y → State → Type 0} (t : Table) (v w : World) (y : Y) (a : State) → Z tt v y a → Both Z (claim t v w) (names.go y a)
claims {Z = Z} t v w y a z = by (ltb t.count t.cap)
  where
    by : (b : Bool) → Both Z (cond b (go tt v) (stop fault.no_row w.stand.last)) (names.go y a)
    by true = goes tt v y a z
    by false = full _ _
