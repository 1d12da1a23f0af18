-- What a function answers is what a rule says: along the rule, one call, look or test at a time.
-- Assumes nothing.
use Rattle.std.proofs.Common.{ℕ, ◌≡◌, refl, ◌∙◌, Bool, true, false, cond, Result, Ok, Err, ap}
use Rattle.rules.specs.declared.Spot.{Spot}
use Rattle.rules.specs.World.{World, Res, P, bind, ◌>>=◌, asks, give, refuse}
use Rattle.parser.specs.declared.Parser.{Parser}
use Rattle.parser.specs.declared.fault.Fault.{Fault}
use Rattle.parser.specs.Stands.{RunsTo, Ready, world, number_of}
use Rattle.parser.proofs.Chains.{kept, both_kept}
use Rattle.parser.proofs.Leaves.{leaves}

module _ {A B C D : Type 0} (v : A → B) (u : C → D) (m : P B) (f : B → P D) (p q : Parser) where
  -- a rule that went on, and the one behind it
  pub then : (r : Parser) (a : A) (b : Result C Fault) → RunsTo v m p (Ok a) q → RunsTo u (f (v a)) q b r → RunsTo u (m >>= f) p b r
  then r a b x y = record { tells = y.tells ∙ ap (λ (n : Res B). bind n f) x.tells; keeps = both_kept x.keeps y.keeps; ready = λ h. y.ready (x.ready h) }

  -- a rule that stopped
  pub stops : (e : Fault) (b : Result C Fault) → b ≡ Err e → RunsTo v m p (Err e) q → RunsTo u (m >>= f) p b q
  stops e b h x = rw h (record { tells = ap (λ (n : Res B). bind n f) x.tells; keeps = x.keeps; ready = λ h. tt })

-- what is seen
module _ {B C D : Type 0} (u : C → D) (g : World → B) (f : B → P D) (p q : Parser) (a : B) (b : Result C Fault) where
  pub seen : a ≡ g (world p) → RunsTo u (f a) p b q → RunsTo u (asks g >>= f) p b q
  unfolding asks
  seen e x = record { tells = rw e at x.tells; keeps = x.keeps; ready = x.ready }

-- an index that held rows of the item
module _ {A B : Type 0} (v : A → B) (m : P B) (p q : Parser) (a : A) where
  pub still : RunsTo v m p (Ok a) q → Ready p → Ready q
  still x h = x.ready h

-- a test that holds, and one that does not
module _ {C D : Type 0} (u : C → D) (m n : P D) (p q : Parser) (b : Result C Fault) (t : Bool) where
  pub yes : t ≡ true → RunsTo u m p b q → RunsTo u (cond t m n) p b q
  yes e x = rw e x

  pub no : t ≡ false → RunsTo u n p b q → RunsTo u (cond t m n) p b q
  no e x = rw e x

-- a value that is given, and a refusal
module _ {C D : Type 0} (u : C → D) (p : Parser) where
  pub gives : (c : C) (d : D) → u c ≡ d → RunsTo u (give d) p (Ok c) p
  gives c d e = rw (← e) (record { tells = refl; keeps = kept p; ready = λ h. h })

  pub refuses : (e : Fault) (k : ℕ) (t : Spot) → number_of e.what ≡ k → e.at ≡ t → RunsTo {A = C} u (refuse k t) p (Err e) p
  refuses e k t i j = rw (← i, ← j) (record { tells = refl; keeps = kept p; ready = λ h. tt })

pub ruleset steps = (then, stops, seen, still, yes, no, gives, refuses, leaves)
