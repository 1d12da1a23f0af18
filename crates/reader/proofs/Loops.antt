-- A rule that is repeated as long as a look says so: `while look(p)? { rule(p)?; }`.
-- Assumes nothing.
use Rattle.std.proofs.Common.{ℕ, ◌-◌, ◌<◌, ◌≤◌, ◌≡◌, refl, sym, ◌∙◌, Bool, true, false, cond, Result, Ok, Err, ap, arith}
use Rattle.rules.specs.declared.Entry.{Entry}
use Rattle.rules.specs.World.{World, Table, Tables, Res, P, bind, ◌>>=◌, ◌>>◌, give}
use Rattle.rules.specs.Reading as R
use Rattle.reading.proofs.Many.{many_turn}
use Rattle.reading.proofs.Claims as claims
use Rattle.parser.specs.declared.Parser.{Parser}
use Rattle.parser.specs.declared.fault.Fault.{Fault}
use Rattle.parser.specs.Stands.{Runs, world, Ready}
use Rattle.parser.proofs.Chains.{both_kept}

-- behind some turns: what is left to read is what the rule reads, and an index that held rows of the item still does
pub record SoFar (rule : P (Unit {0})) (p q : Parser) : Type 0 where
  pub rest : (b : Result (Unit {0}) Fault) (r : Parser) → Runs rule q b r → Runs rule p b r
  pub ready : Ready p → Ready q

pub none_yet : (rule : P (Unit {0})) (p : Parser) → SoFar rule p p
none_yet rule p = record { rest = λ b r x. x; ready = λ h. h }

-- a loop: its table, how many rows of it a parser counts, the look, the rule of a turn and that of all the turns
pub record Loop (of : Tables → Table) (rows : Parser → ℕ) (look : P Bool) (rule all : P (Unit {0})) : Type 0 where
  pub turns : (w : World) → all w ≡ (look >>= λ more. cond more (rule >> all) (give tt)) w
  pub keeps : claims.Keeps of look
  pub claims : claims.Claims of rule
  pub count : (p : Parser) → (of (world p).tables).count ≡ rows p
  pub few : (p : Parser) → (of (world p).tables).cap ≤ 65536

module _ {of : Tables → Table} {rows : Parser → ℕ} {look : P Bool} {rule all : P (Unit {0})} (l : Loop of rows look rule all) (p q : Parser) where
  abbrev body : Bool → P (Unit {0})
  body more = cond more (rule >> all) (give tt)

  -- what a look that went on leaves to do
  looked : (b : Bool) (q1 : Parser) → Runs look q (Ok b) q1 → body b (world q1) ≡ all (world q)
  looked b q1 x = ap (λ (n : Res Bool). bind n body) x.tells ∙ sym (l.turns (world q))

  pub turn : (q1 q2 : Parser) (t : Bool) → t ≡ true → SoFar all p q → Runs look q (Ok t) q1 → Runs rule q1 (Ok tt) q2 → SoFar all p q2
  turn q1 q2 t h s z y =
      let x : Runs look q (Ok true) q1 = rw h at z in
      record {
        rest = λ b r v. s.rest b r
            (record {
              tells = v.tells ∙ ap (λ (n : Res (Unit {0})). bind n (λ u. all)) y.tells ∙ looked true q1 x;
              keeps = both_kept x.keeps (both_kept y.keeps v.keeps);
              ready = λ h. v.ready (y.ready (x.ready h));
            });
        ready = λ h. y.ready (x.ready (s.ready h));
      }

  pub over : (q1 : Parser) (t : Bool) → t ≡ false → SoFar all p q → Runs look q (Ok t) q1 → Runs all p (Ok tt) q1
  over q1 t h s z =
      let x : Runs look q (Ok false) q1 = rw h at z in
      s.rest (Ok tt) q1 (record { tells = looked false q1 x; keeps = x.keeps; ready = x.ready })

  pub fails : (q1 q2 : Parser) (t : Bool) (e : Fault) (b : Result (Unit {0}) Fault) → t ≡ true → b ≡ Err e → SoFar all p q → Runs look q (Ok t) q1 → Runs rule q1 (Err e) q2 → Runs all p b q2
  fails q1 q2 t e b h i s z y =
      let x : Runs look q (Ok true) q1 = rw h at z in
      rw i
      (s.rest (Err e) q2
      (record {
        tells = ap (λ (n : Res (Unit {0})). bind n (λ u. all)) y.tells ∙ looked true q1 x;
        keeps = both_kept x.keeps y.keeps;
        ready = λ h. tt;
      }))

  pub blind : (q1 : Parser) (e : Fault) (b : Result (Unit {0}) Fault) → b ≡ Err e → SoFar all p q → Runs look q (Err e) q1 → Runs all p b q1
  blind q1 e b i s x =
      rw i
      (s.rest (Err e) q1
      (record {
        tells = ap (λ (n : Res Bool). bind n body) x.tells ∙ sym (l.turns (world q));
        keeps = x.keeps;
        ready = λ h. tt;
      }))

-- each turn claims a row
module _ {of : Tables → Table} {rows : Parser → ℕ} {look : P Bool} {rule all : P (Unit {0})} (l : Loop of rows look rule all) where
  pub falls : (q q1 q2 : Parser) (t : Bool) → Runs look q (Ok t) q1 → Runs rule q1 (Ok tt) q2 → 65536 - rows q2 < 65536 - rows q
  falls q q1 q2 t x y =
      let a = claims.keeps l.keeps (world q) t (world q1) (sym x.tells) in
      let b = claims.claims l.claims (world q1) tt (world q2) (sym y.tells) in
      omega (arith, a.1, b.1, b.2, l.few q1, l.count q, l.count q1, l.count q2)

pub attributes_loop : Loop (λ t. t.attributes) (λ p. p.counts.attributes) R.open_paren_ahead R.attribute R.attributes
unfolding world R.attributes
attributes_loop =
    let k = claims.open_paren_ahead-keeps (λ t. t.attributes) in
    record { turns = many_turn k claims.attribute_claims; keeps = k; claims = claims.attribute_claims; count = λ p. refl; few = λ p. omega arith }

pub root_attributes_loop : Loop (λ t. t.attributes) (λ p. p.counts.attributes) R.open_paren_ahead R.root_attribute R.root_attributes
unfolding world R.root_attributes
root_attributes_loop =
    let k = claims.open_paren_ahead-keeps (λ t. t.attributes) in
    record { turns = many_turn k claims.root_attribute_claims; keeps = k; claims = claims.root_attribute_claims; count = λ p. refl; few = λ p. omega arith }

pub statements_loop : Loop (λ t. t.statements) (λ p. p.counts.statements) R.statement_ahead R.statement R.statements
unfolding world R.statements
statements_loop =
    let k = claims.statement_ahead-keeps (λ t. t.statements) in
    record { turns = many_turn k claims.statement_claims; keeps = k; claims = claims.statement_claims; count = λ p. refl; few = λ p. omega arith }

pub items_loop : (e : Entry) → Loop (λ t. t.items) (λ p. p.counts.items) R.item_ahead (R.item_of e) (R.items e)
unfolding world R.items
items_loop e =
    let k = claims.item_ahead-keeps (λ t. t.items) in
    record { turns = many_turn k (claims.item_of_claims e); keeps = k; claims = claims.item_of_claims e; count = λ p. refl; few = λ p. omega arith }
