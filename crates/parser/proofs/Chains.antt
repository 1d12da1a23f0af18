-- What a function answers is what a rule says: along the rule, one call, look or test at a time.
-- Assumes nothing.
use Prim.Native.Nat.{ℕ}
use mathlib.Core.Path.{◌≡◌, refl, sym, ap, ◌∙◌}
use mathlib.Core.List.{List}
use mathlib.Core.Bool.{Bool, true, false, cond}
use Rattle.std.specs.Prelude.{Result, Ok, Err, OnOk}
use Rattle.std.specs.Borrow.{MutBor}
use lib.Dec.{eqb}
use Rattle.rules.specs.declared.Spot.{Spot}
use Rattle.rules.specs.Integers.{Read, number, refused}
use Rattle.rules.specs.Reading as R
use Rattle.rules.specs.World.{World, Res, go, stop, P, bind, ◌>>=◌, asks, give, refuse}
use Rattle.parser.specs.declared.Parser.{Parser}
use Rattle.parser.specs.declared.stand.Stand.{Stand}
use Rattle.parser.specs.declared.fault.Fault.{Fault}
use Rattle.parser.specs.declared.fault.What.{What}
use Rattle.parser.specs.Stands.{world, told, number_of, is_ahead, Lent, Keeps, Ready, RunsTo}

lent : (v : MutBor (List ℕ)) → Lent v v
lent v = record { same = refl; long = refl }

lent-twice : {u v w : MutBor (List ℕ)} → Lent u v → Lent v w → Lent u w
lent-twice a b = record { same = b.same ∙ a.same; long = b.long ∙ a.long }

-- nothing changed, and one change after another
pub kept : (p : Parser) → Keeps p p
kept p =
    record {
      text = refl;
      items = lent p.items;
      statements = lent p.statements;
      operands = lent p.operands;
      attributes = lent p.attributes;
      index = lent p.index;
    }

pub both_kept : {p q s : Parser} → Keeps p q → Keeps q s → Keeps p s
both_kept a b =
    record {
      text = b.text ∙ a.text;
      items = lent-twice a.items b.items;
      statements = lent-twice a.statements b.statements;
      operands = lent-twice a.operands b.operands;
      attributes = lent-twice a.attributes b.attributes;
      index = lent-twice a.index b.index;
    }

-- a call that goes on, and what the rule does with its value
pub then : {A B C D : Type 0} {value : A → B} {last : C → D} {rule : P B} (next : B → P D) {p q s : Parser} {r : Result A Fault} {out : Result C Fault} (a : A) → r ≡ Ok a → RunsTo value rule p r q → RunsTo last (next (value a)) q out s → RunsTo last (rule >>= next) p out s
then {B = B} {value = value} {rule = rule} next {p = p} {q = q} a e x y =
    let went : rule (world p) ≡ go (value a) (world q) = sym x.tells ∙ ap (λ (m : Result _ Fault). told value m q) e in
    record {
      tells = y.tells ∙ sym (ap (λ (m : Res B). bind m next) went);
      keeps = both_kept x.keeps y.keeps;
      ready = λ h. y.ready (rw e at (x.ready h));
    }

-- a call that is at fault, where the rule ends
pub ends : {A B C D : Type 0} {value : A → B} (last : C → D) {rule : P B} (next : B → P D) {p q : Parser} {r : Result A Fault} {out : Result C Fault} (f : Fault) → r ≡ Err f → out ≡ Err f → RunsTo value rule p r q → RunsTo last (rule >>= next) p out q
ends {B = B} {value = value} last {rule = rule} next {p = p} {q = q} f e o x =
    let halt : rule (world p) ≡ stop (number_of f.what) f.at = sym x.tells ∙ ap (λ (m : Result _ Fault). told value m q) e in
    rw o
    (record {
      tells = sym (ap (λ (m : Res B). bind m next) halt);
      keeps = x.keeps;
      ready = λ h. tt;
    })

module _ {C D : Type 0} {last : C → D} {p s : Parser} {out : Result C Fault} where
  -- what is seen of the world
  pub looks : {B : Type 0} (g : World → B) (f : B → P D) → RunsTo last (f (g (world p))) p out s → RunsTo last (asks g >>= f) p out s
  unfolding asks
  looks g f x = record { tells = x.tells; keeps = x.keeps; ready = x.ready }

  -- the same, where a call has answered it
  pub sees : {B : Type 0} (g : World → B) (f : B → P D) {b : B} → b ≡ g (world p) → RunsTo last (f b) p out s → RunsTo last (asks g >>= f) p out s
  sees g f e x = looks g f (rw (← e) x)

  -- a test that holds, and one that does not
  pub yes : {t : Bool} {a : P D} (b : P D) → t ≡ true → RunsTo last a p out s → RunsTo last (cond t a b) p out s
  yes b e x = rw e x

  pub no : {t : Bool} (a : P D) {b : P D} → t ≡ false → RunsTo last b p out s → RunsTo last (cond t a b) p out s
  no a e x = rw e x

  -- a rule that does here what another does
  pub alike : {a b : P D} → b (world p) ≡ a (world p) → RunsTo last a p out s → RunsTo last b p out s
  alike e x = record { tells = x.tells ∙ sym e; keeps = x.keeps; ready = x.ready }

same : {A : Type 0} (r : Result A Fault) (p : Parser) → Ready p → OnOk r (Ready p)
same (Ok a) p h = h
same (Err f) p h = tt

module _ {A B : Type 0} {value : A → B} {rule : P B} {r : Result A Fault} where
  -- the parser stays as it is
  pub stays : (p : Parser) → told value r p ≡ rule (world p) → RunsTo value rule p r p
  stays p e = record { tells = e; keeps = kept p; ready = same r p }

  -- the parser stands elsewhere
  pub moves : (p : Parser) (s : Stand) → told value r (record { text = p.text; stand = s; scope = p.scope; counts = p.counts; items = p.items; statements = p.statements; operands = p.operands; attributes = p.attributes; index = p.index }) ≡ rule (world p) → RunsTo value rule p r (record { text = p.text; stand = s; scope = p.scope; counts = p.counts; items = p.items; statements = p.statements; operands = p.operands; attributes = p.attributes; index = p.index })
  moves p s e = record { tells = e; keeps = let k = kept p in record { text = refl; items = k.items; statements = k.statements; operands = k.operands; attributes = k.attributes; index = k.index }; ready = λ h. same r _ (record { holds = h.holds }) }

-- a value that is given, and a fault
pub gives : {A B : Type 0} (value : A → B) {b : B} (p : Parser) (a : A) → value a ≡ b → RunsTo value (give b) p (Ok a) p
gives value p a e = stays p (rw e refl)

pub refuses : {A B : Type 0} (value : A → B) {t : Spot} (p : Parser) (f : Fault) {w : What} → f.what ≡ w → f.at ≡ t → RunsTo value (refuse (number_of w) t) p (Err f) p
refuses value p f e i = stays p (rw (e, i) refl)

-- a number that was read, and one that was not
pub reads : {A : Type 0} (value : A → ℕ) (p : Parser) (a : A) {r : Read} (k : ℕ) (t : Spot) → r ≡ number (value a) → RunsTo value (R.valued r k t) p (Ok a) p
unfolding R.valued
reads value p a k t e = rw e (gives value p a refl)

pub unread : {A : Type 0} (value : A → ℕ) {t : Spot} (p : Parser) (f : Fault) {w : What} {r : Read} → r ≡ refused → f.what ≡ w → f.at ≡ t → RunsTo value (R.valued r (number_of w) t) p (Err f) p
unfolding R.valued
unread value p f u e i = rw u (refuses value p f e i)

-- a look that ends a rule
pub answers : {A B : Type 0} (value : A → B) (g : World → B) {p : Parser} (a : A) → value a ≡ g (world p) → RunsTo value (asks g) p (Ok a) p
unfolding asks
answers value g {p = p} a e = stays p (rw e refl)

-- the index still holds rows of the item
pub ready_then : {A B : Type 0} {value : A → B} {rule : P B} {p q : Parser} {r : Result A Fault} {a : A} → r ≡ Ok a → RunsTo value rule p r q → Ready p → Ready q
ready_then e x h = rw e at (x.ready h)

-- a value by its parts
pub ok_at : {A : Type 0} {r : Result A Fault} {x a : A} → r ≡ Ok x → x ≡ a → r ≡ Ok a
ok_at e s = rw (← s) e

kind_asked : {D : Type 0} (k : ℕ) (f : Bool → P D) (m : Res Spot) → bind m (λ t. f (eqb t.kind k)) ≡ bind (bind m (λ t. give (eqb t.kind k))) f
kind_asked k f (go t w) = refl
kind_asked k f (stop n t) = refl

-- a look at the kind of the token ahead, and what the rule does by it
pub by_kind : {C D : Type 0} {last : C → D} {p s : Parser} {out : Result C Fault} (k : ℕ) (f : Bool → P D) → RunsTo last (is_ahead k >>= f) p out s → RunsTo last (R.lookahead >>= λ t. f (eqb t.kind k)) p out s
unfolding is_ahead
by_kind {p = p} k f x = alike {a = is_ahead k >>= f} {b = R.lookahead >>= λ t. f (eqb t.kind k)} (kind_asked k f (R.lookahead (world p))) x
