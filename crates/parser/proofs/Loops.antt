-- The loops of the reader's code: `while ahead(p)? { rule(p)?; }`. What is left to read is the loop's invariant, and the rows left to claim are its measure.
-- Assumes nothing.
use Prim.Native.Nat.{◌-◌, ◌≤◌, ◌<◌}
use mathlib.Core.Path.{◌≡◌, refl, sym, ap, ◌∙◌}
use mathlib.Core.Bool.{Bool, true, false, cond}
use native.Mathlib.Omega.{arith}
use Rattle.std.specs.Prelude.{Result, Ok, Err}
use Rattle.rules.specs.World.{Table, Tables, Res, go, P, bind, ◌>>=◌, ◌>>◌, give, many}
use Rattle.reading.proofs.Claims as claiming
use Rattle.reading.proofs.Many.{many_turn}
use Rattle.parser.specs.declared.Parser.{Parser}
use Rattle.parser.specs.declared.fault.Fault.{Fault}
use Rattle.parser.specs.Stands.{tables_of, world, told, Keeps, Ready, RunsTo, Runs}
use Rattle.parser.proofs.Chains as chain
use Rattle.parser.proofs.Chains.{kept, both_kept}

-- what a rule does from p is what it does from q, further on
pub record Along (rule : P (Unit {0})) (p q : Parser) : Type 0 where
  pub same : rule (world p) ≡ rule (world q)
  pub keeps : Keeps p q
  pub ready : Ready p → Ready q

pub begins : (rule : P (Unit {0})) (p : Parser) → Along rule p p
begins rule p = record { same = refl; keeps = kept p; ready = λ h. h }

-- a rule that goes on
went : {A B : Type 0} {value : A → B} {rule : P B} {p q : Parser} {r : Result A Fault} {a : A} → r ≡ Ok a → RunsTo value rule p r q → rule (world p) ≡ go (value a) (world q)
went {value = value} {q = q} e x = sym x.tells ∙ ap (λ (m : Result _ Fault). told value m q) e

ends_along : {rule : P (Unit {0})} {p q s : Parser} {r : Result (Unit {0}) Fault} → Along rule p q → Runs rule q r s → Runs rule p r s
ends_along l x = record { tells = x.tells ∙ sym l.same; keeps = both_kept l.keeps x.keeps; ready = λ h. x.ready (l.ready h) }

module _ {of : Tables → Table} {peek : P Bool} {body : P (Unit {0})} (x : claiming.Keeps of peek) (y : claiming.Claims of body) where
  turn : {p q : Parser} {r : Result (Unit {0}) Fault} → Runs (peek >>= λ more. cond more (body >> many of peek body) (give tt)) p r q → Runs (many of peek body) p r q
  turn {p = p} t = chain.alike (many_turn x y (world p)) t

  module _ {o p q : Parser} {ahead : Result Bool Fault} (l : Along (many of peek body) o p) (a : Runs peek p ahead q) where
    -- no turn more, or a fault at the look
    pub done : ahead ≡ Ok false → Runs (many of peek body) o (Ok tt) q
    done e = ends_along l (turn (chain.then _ _ e a (chain.gives _ _ _ refl)))

    pub look_ends : {r : Result (Unit {0}) Fault} (f : Fault) → ahead ≡ Err f → r ≡ Err f → Runs (many of peek body) o r q
    look_ends f e g = ends_along l (turn (chain.ends _ _ f e g a))

    -- a turn more
    module _ {s : Parser} {b : Result (Unit {0}) Fault} (e : ahead ≡ Ok true) (t : Runs body q b s) where
      pub turn_ends : {r : Result (Unit {0}) Fault} (f : Fault) → b ≡ Err f → r ≡ Err f → Runs (many of peek body) o r s
      turn_ends f h g = ends_along l (turn (chain.then _ _ e a (chain.ends _ _ f h g t)))

      pub goes_on : b ≡ Ok tt → Along (many of peek body) o s
      goes_on h =
          record {
            same = l.same ∙ many_turn x y (world p) ∙ ap (λ (m : Res Bool). bind m (λ more. cond more (body >> many of peek body) (give tt))) (went e a) ∙ ap (λ (m : Res (Unit {0})). bind m (λ _. many of peek body)) (went h t);
            keeps = both_kept l.keeps (both_kept a.keeps t.keeps);
            ready = λ k. chain.ready_then h t (chain.ready_then e a (l.ready k));
          }

      pub lighter : b ≡ Ok tt → (of (tables_of p)).cap ≤ 65536 → 65536 - (of (tables_of s)).count < 65536 - (of (tables_of p)).count
      unfolding world
      lighter h few =
          let look = claiming.keeps x (world p) true (world q) (went e a) in
          let more = claiming.claims y (world q) tt (world s) (went h t) in
          omega (arith, look.0, look.1, more.0, more.1, more.2)
