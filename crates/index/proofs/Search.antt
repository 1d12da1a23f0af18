-- The search for a name back through rows: one row at a time, and past rows that have another slot.
-- Assumes nothing.
use Prim.Native.Nat.{ℕ, zero, suc, ◌+◌, ◌-◌, ◌≤◌, ◌<◌}
use mathlib.Core.Path.{◌≡◌, sym, ap, ◌∙◌}
use mathlib.Core.Bool.{true, false, cond}
use mathlib.Core.List.{List}
use native.Mathlib.Omega.{arith}
use lib.Dec.{ltb}
use Rattle.std.specs.Prelude.{Some, None}
use lib.ListN.{get_or}
use borrow.Author.Tests.{ltb-true, ltb-false}
use Rattle.rules.specs.declared.Span.{Span}
use Rattle.rules.specs.Bytes.{part, same}
use Rattle.rules.specs.Rows.{statement_at, name_at}
use Rattle.rules.specs.Reading.{find_row}
use Rattle.laws.proofs.Cases.{by_cases}
use Rattle.laws.proofs.Same.{ne_same}
use Rattle.index.specs.Slots.{slot_of, slots_in}
use Rattle.index.specs.Linked.{Leads, Linked}

-- the letters at the place of a row's name, compared with a name
pub compared : (text words name : List ℕ) (i : ℕ) {place : Span} {letters : List ℕ} → place ≡ (statement_at words i).name → letters ≡ part text place.first place.past → same (name_at text words i) name ≡ same letters name
unfolding name_at
compared text words name i e l = rw (l, e)

-- two lists that differ at a place
pub differ : (a b : List ℕ) (j : ℕ) → (get_or a j 0 ≡ get_or b j 0 → ⊥) → same a b ≡ false
differ a b j h = ne_same a b (λ e. h (ap (λ (l : List ℕ). get_or l j 0) e))

-- a search that stands at row i looks at the row before it
module _ (text words name : List ℕ) (first i : ℕ) (h : first < i) where
  looked : find_row text words name first (i - first) ≡ cond (same (name_at text words (i - 1)) name) (Some (i - 1)) (find_row text words name first (i - 1 - first))
  unfolding find_row
  looked =
      let more : i - first ≡ suc (i - 1 - first) = omega arith in
      let here : first + (i - 1 - first) ≡ i - 1 = omega arith in
      rw (more, here)

  pub found_here : same (name_at text words (i - 1)) name ≡ true → find_row text words name first (i - first) ≡ Some (i - 1)
  found_here e = rw (looked, e)

  pub not_here : same (name_at text words (i - 1)) name ≡ false → find_row text words name first (i - first) ≡ find_row text words name first (i - 1 - first)
  not_here e = rw (looked, e)

-- a search that has come to the first row
pub none_left : (text words name : List ℕ) (first i : ℕ) → i ≤ first → find_row text words name first (i - first) ≡ None
unfolding find_row
none_left text words name first i h =
    let none : i - first ≡ 0 = omega arith in
    rw none

-- a name whose slot is another's than a row's is not the row's
other-slot : (a b : List ℕ) → (slot_of a ≡ slot_of b → ⊥) → same a b ≡ false
other-slot a b h = ne_same a b (λ e. h (ap slot_of e))

module _ (text words name : List ℕ) (first v : ℕ) where
  -- d rows from v on that have other slots
  skip : (d : ℕ) → ((r : ℕ) → first ≤ r → v ≤ r → r < v + d → slots_in text words r ≡ slot_of name → ⊥) → find_row text words name first (v + d - first) ≡ find_row text words name first (v - first)
  skip zero k = let e : v + 0 - first ≡ v - first = omega arith in rw e
  skip (suc d) k =
      let e : v + suc d - 1 - first ≡ v + d - first = omega arith in
      let more : v + suc d - 1 ≡ v + d = omega arith in
      let rest = skip d (λ r a b c. k r a b (omega arith)) in
      by_cases (ltb first (v + suc d))
      (λ t.
      let l = ltb-true first (v + suc d) t in
      not_here text words name first (v + suc d) l (rw more (other-slot _ name (k (v + d) (omega arith) (omega arith) (omega arith)))) ∙ rw e rest)
      (λ t.
      let l = ltb-false first (v + suc d) t in
      let z : v + suc d - first ≡ v - first = omega arith in
      rw z)

  -- a search is led on
  pub led : {b : ℕ} → Leads (slots_in text words) first (slot_of name) b v → find_row text words name first (b - first) ≡ find_row text words name first (v - first)
  led {b} d =
      let w = d.within in
      let e : v + (b - v) ≡ b = omega arith in
      rw e at (skip (b - v) (λ r a l m. d.skipped r a l (omega arith)))

-- a search by links stands at i: what it finds from here is what is to be found, and where a row is before it, that has the name's slot
pub record Walk (text words name : List ℕ) (first past i : ℕ) : Type 0 where
  pub rest : find_row text words name first (past - first) ≡ find_row text words name first (i - first)
  pub slot : first < i → slots_in text words (i - 1) ≡ slot_of name
  pub within : i ≤ past

module _ {text words index name : List ℕ} {first past : ℕ} (d : Linked (slots_in text words) index first past) (low : slot_of name < 1024) where
  -- from the slot's head
  pub walk_begins : {h i : ℕ} → h ≡ slot_of name → i ≡ get_or index h 0 → Walk text words name first past i
  walk_begins {h} {i} e f =
      let l = d.heads (slot_of name) low in
      rw (f, e) (record { rest = led text words name first _ l; slot = l.slot; within = l.within })

  module _ {i : ℕ} (w : Walk text words name first past i) (h : first < i) where
    -- the link of the row before i
    link : Leads (slots_in text words) first (slot_of name) (i - 1) (get_or index (1025 + (i - 1)) 0)
    link =
        let s = w.slot h in
        let b = w.within in
        rw s at (d.links (i - 1) (omega arith) (omega arith) (omega arith))

    pub link_falls : get_or index (1025 + (i - 1)) 0 ≤ i - 1
    link_falls = link.within

    pub walk_found : same (name_at text words (i - 1)) name ≡ true → Some (i - 1) ≡ find_row text words name first (past - first)
    walk_found e = sym (w.rest ∙ found_here text words name first i h e)

    pub walk_on : {next : ℕ} → next ≡ get_or index (1025 + (i - 1)) 0 → same (name_at text words (i - 1)) name ≡ false → Walk text words name first past next
    walk_on f e =
        let l = link in
        let b = w.within in
        let k = link_falls in
        rw f
        (record {
          rest = w.rest ∙ not_here text words name first i h e ∙ led text words name first _ l;
          slot = l.slot;
          within = omega arith;
        })

-- past the last of them
pub walk_ends : {text words name : List ℕ} {first past i : ℕ} → Walk text words name first past i → i ≤ first → None ≡ find_row text words name first (past - first)
walk_ends w h = sym (w.rest ∙ none_left _ _ _ _ _ h)

-- a search along the newest rows, and then before them
module _ (text words name : List ℕ) (first d : ℕ) where
  found_near : (k r : ℕ) → find_row text words name (first + d) k ≡ Some r → find_row text words name first (d + k) ≡ Some r
  unfolding find_row
  found_near zero r e = absurd (let z : ◌≡◌ {A = ℕ} 0 1 = cc in let y : ⊥ = omega arith in y)
  found_near (suc k) r e =
      let more : d + suc k ≡ suc (d + k) = omega arith in
      let here : first + d + k ≡ first + (d + k) = omega arith in
      by_cases (same (name_at text words (first + (d + k))) name)
      (λ t. rw (more, t) (rw (here, t) at e))
      (λ t. rw (more, t) (found_near k r (rw (here, t) at e)))

  missed_near : (k : ℕ) → find_row text words name (first + d) k ≡ None → find_row text words name first (d + k) ≡ find_row text words name first d
  unfolding find_row
  missed_near zero e = let more : d + 0 ≡ d = omega arith in rw more
  missed_near (suc k) e =
      let more : d + suc k ≡ suc (d + k) = omega arith in
      let here : first + d + k ≡ first + (d + k) = omega arith in
      by_cases (same (name_at text words (first + (d + k))) name)
      (λ t. absurd (let z : ◌≡◌ {A = ℕ} 0 1 = cc (rw (here, t) at e) in let y : ⊥ = omega arith in y))
      (λ t. rw (more, t) (missed_near k (rw (here, t) at e)))

-- rows from one on come first, of those from `first` up to `past`
module _ (text words name : List ℕ) {first from past : ℕ} (low : first ≤ from) (high : from ≤ past) where
  pub found_first : (r : ℕ) → find_row text words name from (past - from) ≡ Some r → find_row text words name first (past - first) ≡ Some r
  found_first r e =
      let a : first + (from - first) ≡ from = omega arith in
      let b : from - first + (past - from) ≡ past - first = omega arith in
      rw b at (found_near text words name first (from - first) (past - from) r (rw a e))

  pub missed_first : find_row text words name from (past - from) ≡ None → find_row text words name first (past - first) ≡ find_row text words name first (from - first)
  missed_first e =
      let a : first + (from - first) ≡ from = omega arith in
      let b : from - first + (past - from) ≡ past - first = omega arith in
      rw b at (missed_near text words name first (from - first) (past - from) (rw a e))
