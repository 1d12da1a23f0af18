-- The item's statements by rows and by names: a name is found among the rows exactly where the statements by names have it.
-- Assumes nothing.
use Prim.Native.Nat.{ℕ, zero, suc, ◌+◌, ◌-◌, ◌≤◌, ◌<◌}
use mathlib.Core.Path.{◌≡◌, refl, ◌∙◌, subst}
use mathlib.Core.Bool.{Bool, true, false, cond}
use mathlib.Core.List.{List, [], ◌∷◌}
use native.Mathlib.Omega.{arith}
use lib.Dec.{eqb}
use lib.ListN.{length}
use Rattle.rules.specs.declared.Spot.{Spot}
use Rattle.std.specs.Prelude.{Option, Some, None}
use Rattle.rules.specs.Bytes.{same}
use Rattle.rules.specs.Faults as fault
use Rattle.rules.specs.Keywords as keyword
use Rattle.rules.specs.Tokens as kind
use Rattle.rules.specs.Rows.{statement_at, name_at, keyword_code}
use Rattle.rules.specs.Syntax.{Name, Statement, assignment, pc, blockpc}
use Rattle.rules.specs.Listing.{assigns, has}
use Rattle.rules.specs.World.{World, Stand, Tables, P, go, stop, bind, asks}
use Rattle.rules.specs.Reading as rows
use Rattle.rules.specs.Reading.{letters, find_row}
use Rattle.rules.specs.Grammar.{side_in, side_of}
use Rattle.laws.proofs.Same.{same_true}
use Rattle.bynames.proofs.WellFormed.{is_block, block_size}
use Rattle.bynames.proofs.Reader as names
use Rattle.bynames.proofs.Reader.{State}
use Rattle.simulation.proofs.Stable.{Later, name_stays, statement_in, Says, says_later}
use Rattle.simulation.proofs.Together.{Both, halts, nested}
use Rattle.simulation.proofs.Tokens.{world, state, Sits, after, expect_both}

-- the name that a statement assigns: none where it is a condition
abbrev pub name_of : Statement → Name
name_of (assignment a) = a.name
name_of (pc x y) = []
name_of (blockpc b k x y) = []

-- a row that says a statement
pub record Stated (text : List ℕ) (t : Tables) (i : ℕ) (s : Statement) : Type 0 where
  pub there : i < t.statements.count
  pub says : Says (statement_in text) t i s
  pub name : name_at text t.statements.words i ≡ name_of s
  pub block : eqb (statement_at t.statements.words i).code (keyword_code keyword.block) ≡ is_block (side_in s)
  pub size : is_block (side_in s) ≡ true → (statement_at t.statements.words i).number ≡ block_size (side_in s)

pub stated_later : {text : List ℕ} {t u : Tables} {i : ℕ} {s : Statement} → Later t u → Stated text t i s → Stated text u i s
stated_later {text} {t} {u} {i} {s} l h =
    let same_row = l.statement i h.there in
    record {
      there = omega arith;
      says = says_later l h.says;
      name = name_stays text l i h.there ∙ h.name;
      block = rw same_row h.block;
      size = rw same_row h.size;
    }

-- the k rows from f on say a list of statements, the newest first
pub data Scoped (text : List ℕ) (t : Tables) (f : ℕ) : ℕ → List Statement → Type 0 where
  none : Scoped text t f zero []
  more : {k : ℕ} {s : Statement} {l : List Statement} → Stated text t (f + k) s → Scoped text t f k l → Scoped text t f (suc k) (s ∷ l)

scoped_later : {text : List ℕ} {t u : Tables} {f k : ℕ} {l : List Statement} → Later t u → Scoped text t f k l → Scoped text u f k l
scoped_later e none = none
scoped_later e (more h r) = more (stated_later e h) (scoped_later e r)

-- all rows from f on do
pub record Scope (text : List ℕ) (f : ℕ) (t : Tables) (l : List Statement) : Type 0 where
  pub long : ℕ
  pub count : t.statements.count ≡ f + long
  pub scoped : Scoped text t f long l

module _ {text : List ℕ} {f : ℕ} {t u : Tables} {l : List Statement} where
  pub scope_later : Later t u → u.statements.count ≡ t.statements.count → Scope text f t l → Scope text f u l
  scope_later e same s = record { long = s.long; count = same ∙ s.count; scoped = scoped_later e s.scoped }

  pub scope_enter : {s : Statement} → Later t u → u.statements.count ≡ t.statements.count + 1 → Stated text u t.statements.count s → Scope text f t l → Scope text f u (s ∷ l)
  scope_enter {s} e one h r =
      record {
        long = suc r.long;
        count = omega arith;
        scoped = more (subst (λ (i : ℕ). Stated text u i s) r.count h) (scoped_later e r.scoped);
      }

-- ---- looking for a name
pub record Finds (text : List ℕ) (t : Tables) (n : Name) (l : List Statement) (r : ℕ) : Type 0 where
  pub there : r < t.statements.count
  pub held : has n l ≡ true
  pub name : name_at text t.statements.words r ≡ n
  pub block : eqb (statement_at t.statements.words r).code (keyword_code keyword.block) ≡ is_block (side_of n l)
  pub size : is_block (side_of n l) ≡ true → (statement_at t.statements.words r).number ≡ block_size (side_of n l)

abbrev Searched : List ℕ → Tables → Name → List Statement → Option ℕ → Type 0
Searched text t n l (Some r) = Finds text t n l r
Searched text t n l None = has n l ≡ false

-- only an assignment has a name
assigns-name : (n : Name) (s : Statement) → 1 ≤ length n → assigns n s ≡ same (name_of s) n
unfolding same
assigns-name n (assignment a) h = refl
assigns-name [] (pc x y) h = absurd (let z : ⊥ = omega arith in z)
assigns-name (b ∷ n) (pc x y) h = refl
assigns-name [] (blockpc c k x y) h = absurd (let z : ⊥ = omega arith in z)
assigns-name (b ∷ n) (blockpc c k x y) h = refl

searched : {text : List ℕ} {t : Tables} {f k : ℕ} {l : List Statement} → Scoped text t f k l → (n : Name) → 1 ≤ length n → Searched text t n l (find_row text t.statements.words n f k)
unfolding find_row
searched none n h = refl
searched {text} {t} {f} (more {k = k} {s = s} {l = l} q r) n h =
    rw q.name (by (same (name_of s) n) refl (find_row text t.statements.words n f k) (searched r n h))
  where
    older : assigns n s ≡ false → (row : Option ℕ) → Searched text t n l row → Searched text t n (s ∷ l) row
    older e (Some i) z = record { there = z.there; held = rw e z.held; name = z.name; block = rw e z.block; size = rw e z.size }
    older e None z = rw e z

    by : (b : Bool) → same (name_of s) n ≡ b → (row : Option ℕ) → Searched text t n l row → Searched text t n (s ∷ l) (cond b (Some (f + k)) row)
    by true e row z =
        let a : assigns n s ≡ true = assigns-name n s h ∙ e in
        record { there = q.there; held = rw a refl; name = q.name ∙ same_true (name_of s) n e; block = rw a q.block; size = rw a q.size }
    by false e row z = older (assigns-name n s h ∙ e) row z

module _ (text : List ℕ) (f : ℕ) (t : Tables) (l : List Statement) (sc : Scope text f t l) where
  scope_searched : (x : Spot) (s : Stand) → 1 ≤ length (letters text x) → Searched text t (letters text x) l (rows.in_scope x (world text f s t))
  unfolding rows.in_scope
  scope_searched x s h =
      let e : t.statements.count - f ≡ sc.long = let c = sc.count in omega arith in
      rw e (searched sc.scoped (letters text x) h)

  module _ {X Y : Type 0} {Z : X → World → Y → State → Type 0} where
    -- a name in scope
    pub value_then : (F : ℕ → P X) (G : Name → names.P Y) (s : Stand) → Sits text s
        → ((r : ℕ) (v : Stand) → Sits text v → r < t.statements.count → Both Z (F r (world text f v t)) (G (name_at text t.statements.words r) (state text l v)))
        → Both Z (bind (rows.value (world text f s t)) F) (names.bind (names.expect kind.val_name (state text l s)) (λ n a. names.bind (names.known n a) (λ u. G n)))
    unfolding rows.value asks rows.known
    value_then F G s z k =
        nested (rows.expect kind.val_name (world text f s t)) _ _
        (after text f t l _ _ (expect_both text f t l kind.val_name s z) (λ x v y h. by x v y (rows.in_scope x (world text f v t)) (scope_searched x v h.1)))
      where
        by : (x : Spot) (v : Stand) → Sits text v → (row : Option ℕ) → Searched text t (letters text x) l row
            → Both Z (bind (rows.known row x (world text f v t)) F) (names.bind (names.known (letters text x) (state text l v)) (λ u. G (letters text x)))
        by x v y (Some r) q = rw (q.held, ← q.name) (k r v y q.there)
        by x v y None q = rw q (halts fault.unknown x)

    -- a name that is not in scope yet
    pub name_then : (F : Spot → P X) (G : Name → names.P Y) (s : Stand) → Sits text s
        → ((x : Spot) (v : Stand) → Sits text v → Both Z (F x (world text f v t)) (G (letters text x) (state text l v)))
        → Both Z (bind (rows.new_name (world text f s t)) F) (names.bind (names.expect kind.val_name (state text l s)) (λ n a. names.bind (names.fresh n a) (λ u. G n)))
    unfolding rows.new_name asks rows.fresh
    name_then F G s z k =
        nested (rows.expect kind.val_name (world text f s t)) _ _
        (after text f t l _ _ (expect_both text f t l kind.val_name s z) (λ x v y h. by x v y (rows.in_scope x (world text f v t)) (scope_searched x v h.1)))
      where
        by : (x : Spot) (v : Stand) → Sits text v → (row : Option ℕ) → Searched text t (letters text x) l row
            → Both Z (bind (bind (rows.fresh row x (world text f v t)) (λ u w. go x w)) F) (names.bind (names.fresh (letters text x) (state text l v)) (λ u. G (letters text x)))
        by x v y (Some r) q = rw q.held (halts fault.redefined x)
        by x v y None q = rw q (k x v y)

    -- the name of a block in scope
    pub block_then : (F : ℕ → P X) (G : Name → ℕ → names.P Y) (s : Stand) → Sits text s
        → ((r : ℕ) (v : Stand) → Sits text v → r < t.statements.count
        → Both Z (F r (world text f v t)) (G (name_at text t.statements.words r) (statement_at t.statements.words r).number (state text l v)))
        → Both Z (bind (rows.block (world text f s t)) F) (names.bind (names.expect kind.val_name (state text l s)) (λ n a. names.bind (names.blocked n a) (G n)))
    unfolding rows.block asks rows.block_at
    block_then F G s z k =
        nested (rows.expect kind.val_name (world text f s t)) _ _
        (after text f t l _ _ (expect_both text f t l kind.val_name s z) (λ x v y h. by x v y (rows.in_scope x (world text f v t)) (scope_searched x v h.1)))
      where
        by : (x : Spot) (v : Stand) → Sits text v → (row : Option ℕ) → Searched text t (letters text x) l row
            → Both Z (bind (rows.block_at row x (world text f v t)) F) (names.bind (names.blocked (letters text x) (state text l v)) (G (letters text x)))
        by x v y (Some r) q = rw (q.held, q.block) (fit (is_block (side_of (letters text x) l)) refl)
          where
            fit : (b : Bool) → is_block (side_of (letters text x) l) ≡ b
                → Both Z (bind (cond b (go r (world text f v t)) (stop fault.no_block x)) F) (names.bind (cond b (names.go (block_size (side_of (letters text x) l)) (state text l v)) names.stop) (G (letters text x)))
            fit true e = rw (← q.size e, ← q.name) (k r v y q.there)
            fit false e = halts fault.no_block x
        by x v y None q = rw q (halts fault.no_block x)
