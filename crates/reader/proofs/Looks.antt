-- What is done by a look at the token ahead.
-- Assumes nothing.
use Rattle.std.proofs.Common.{ℕ, ◌≡◌, ◌∙◌, refl, Bool, false, cond, Result, Ok, ap, nat_eq, eq-eqb, List, Option, ◌||◌}
use Rattle.rules.specs.declared.Spot.{Spot}
use Rattle.rules.specs.declared.keyword.Keyword.{Keyword}
use Rattle.rules.specs.Keywords as word
use Rattle.rules.specs.Keywords.{keyword_number}
use Rattle.rules.specs.Tokens as kind
use Rattle.rules.specs.Reading as R
use Rattle.rules.specs.World.{Res, go, stop, P, bind, ◌>>=◌, give}
use Rattle.parser.specs.declared.Parser.{Parser}
use Rattle.parser.specs.declared.fault.Fault.{Fault}
use Rattle.parser.specs.Stands.{RunsTo, Runs, world, is_ahead, rests, ahead_of}
use Rattle.parser.proofs.Chains.{both_kept}
use Rattle.reader.specs.Roots.{statement_by}
use Rattle.parser.proofs.Steps.{steps, stops, then, seen, gives}

bind-bind : {A B C : Type 0} (r : Res A) (f : A → P B) (g : B → P C) → bind (bind r f) g ≡ bind r (λ a. f a >>= g)
bind-bind (go a w) f g = refl
bind-bind (stop n t) f g = refl

-- a rule that asks for the kind of the token ahead, and no more of it
module _ {C D : Type 0} (u : C → D) (k : ℕ) (m n : P D) (p q : Parser) (b : Result C Fault) where
  pub by_kind : RunsTo u (is_ahead k >>= λ t. cond t m n) p b q → RunsTo u (R.lookahead >>= λ t. cond (nat_eq t.kind k) m n) p b q
  unfolding is_ahead
  by_kind x = record { tells = x.tells ∙ bind-bind (R.lookahead (world p)) (λ t. give (nat_eq t.kind k)) (λ t. cond t m n); keeps = x.keeps; ready = x.ready }

-- whether a statement comes next, by the token that is seen
pub statement_seen : (p q : Parser) (o : Option Spot) (b : Bool) → RunsTo ahead_of R.lookahead p (Ok o) q
    → b ≡ (nat_eq (ahead_of o).kind kind.val_name || (nat_eq (R.keyword_at q.text.bytes.now (ahead_of o)) word.pc || nat_eq (R.keyword_at q.text.bytes.now (ahead_of o)) word.blockpc))
    → Runs R.statement_ahead p (Ok b) q
unfolding R.statement_ahead world
statement_seen p q o b x e = then _ _ _ _ _ _ _ _ _ x (seen _ _ _ _ _ _ _ refl (gives _ _ _ _ e))

-- the statement that begins with a token, by its kind or by its keyword
module _ (p q : Parser) (text : List ℕ) (t : Spot) (b : Result (Unit {0}) Fault) where
  pub by_name : t.kind ≡ kind.val_name → Runs R.assignment p b q → Runs (statement_by text t) p b q
  unfolding statement_by
  by_name e x = rw (eq-eqb _ _ e) x

  pub by_condition : (k : Option Keyword) → nat_eq t.kind kind.val_name ≡ false → keyword_number k ≡ R.keyword_at text t → Runs (cond (nat_eq (keyword_number k) word.pc) R.pc R.blockpc) p b q → Runs (statement_by text t) p b q
  unfolding statement_by
  by_condition k e f x = rw (e, ← f) x

-- a rule from where nothing was done
pub held : {A : Type 0} (m : P A) (p q r : Parser) (b : Result A Fault) → Runs rests p (Ok tt) q → Runs m q b r → Runs m p b r
unfolding rests
held m p q r b x y =
    let e : world q ≡ world p = cc (x.tells) in
    record { tells = y.tells ∙ ap m e; keeps = both_kept x.keeps y.keeps; ready = λ h. y.ready (x.ready h) }

-- what a look's goals take
pub ruleset look_steps = (steps, by_kind)

pub ruleset statement_steps = (stops, statement_seen)

pub ruleset statement_ways = (by_name, by_condition)
