-- Rows that say statements: where each refers by name to what its row refers to by number, and names are distinct, the listing by numbers says the listing by names.
-- Assumes nothing.
use mathlib.Core.Path.{◌≡◌, refl, sym, ap, ◌∙◌, subst}
use mathlib.Core.Logic.{⊎_elim}
use mathlib.Core.Bool.{Bool, true, false, cond, ◌||◌, ◌&&◌}
use mathlib.Core.List.{List, [], ◌∷◌, ◌++◌, map}
use Prim.Native.Nat.{ℕ, zero, suc, ◌+◌, ◌≤◌, ◌<◌}
use native.Mathlib.Nat.{not-suc-le-zero}
use native.Mathlib.Decide.{ℕ_discrete}
use native.Mathlib.Omega.{arith}
use Rattle.rules.specs.Bytes.{same}
use Rattle.rules.specs.Meaning.{Mem, All}
use Rattle.rules.specs.Syntax.{Name, Statement, flat, onto, refers}
use Rattle.rules.specs.Listing as names
use Rattle.laws.proofs.Cases.{by_cases}
use Rattle.laws.proofs.Same.{same_refl, ne_same}
use Rattle.laws.proofs.Members.{all_at, all_of, flat_mem, flat_cong}
use Rattle.listing.specs.Listing.{Marks, mark, marked, unfolded, firsts, listing}
use Rattle.listing.proofs.Marking.{mark_same, mark-other, firsts_old, firsts_new, firsts-only}
use Rattle.listing.proofs.Unfolding.{unfolded_cases, below}
use Rattle.byrows.proofs.Maps.{map_join, map-flat, flat_map}

-- row i says a statement, as one of the rows from lo on: it refers to earlier rows of them that assign, by their names; it assigns its own name, or none
pub record Says (say : ℕ → Statement) (name : ℕ → Name) (assigning : ℕ → Bool) (r : ℕ → List ℕ) (lo i : ℕ) : Type 0 where
  pub by_name : refers (say i) ≡ map name (r i)
  pub own : All (λ j. (lo ≤ j) × (assigning j ≡ true)) (r i)
  pub assigns : (n : Name) → names.assigns n (say i) ≡ (assigning i && same (name i) n)
  pub among : assigning i ≡ true → (t : List Statement) → names.among t (say i) ≡ names.has (name i) t

-- a row from lo up to hi that assigns
pub record Assigns (assigning : ℕ → Bool) (lo hi i : ℕ) : Type 0 where
  pub low : lo ≤ i
  pub high : i < hi
  pub so : assigning i ≡ true

-- the first k rows from lo on as a scope, the newest first
abbrev pub scope_of : (ℕ → Statement) → ℕ → ℕ → List Statement
scope_of say lo zero = []
scope_of say lo (suc k) = say (lo + k) ∷ scope_of say lo k

-- marks and a list of statements say of each row that assigns the same: it is listed already, or not
abbrev pub Alike : (ℕ → Name) → (ℕ → Bool) → ℕ → ℕ → Marks → List Statement → Type 0
Alike name assigning lo hi m t = (i : ℕ) → Assigns assigning lo hi i → m i ≡ names.has (name i) t

and_so : (b : Bool) {c : Bool} → b ≡ true → c ≡ true → (b && c) ≡ true
and_so true e f = f
and_so false e f = e

and_not : (b : Bool) {c : Bool} → (b ≡ true → c ≡ false) → (b && c) ≡ false
and_not true f = f refl
and_not false f = refl

module _ (say : ℕ → Statement) (name : ℕ → Name) (assigning : ℕ → Bool) (r : ℕ → List ℕ) (down : (i : ℕ) → All (λ j. j < i) (r i)) (lo hi : ℕ)
    (says : (i : ℕ) → lo ≤ i → i < hi → Says say name assigning r lo i)
    (apart : (i j : ℕ) → Assigns assigning lo hi i → Assigns assigning lo hi j → name i ≡ name j → i ≡ j) where
  -- ---- whether a row's statement assigns another's name
  assigns_own : (i : ℕ) → Assigns assigning lo hi i → names.assigns (name i) (say i) ≡ true
  assigns_own i a = (says i a.low a.high).assigns (name i) ∙ and_so (assigning i) a.so (same_refl (name i))

  assigns-other : (i k : ℕ) → Assigns assigning lo hi i → lo ≤ k → k < hi → (i ≡ k → ⊥) → names.assigns (name i) (say k) ≡ false
  assigns-other i k a l h n =
      (says k l h).assigns (name i)
      ∙ and_not (assigning k) (λ e. ne_same (name k) (name i) (λ q. n (sym (apart k i (record { low = l; high = h; so = e }) a q))))

  -- a row that it refers to assigns too
  referred : (i j : ℕ) → lo ≤ i → i < hi → Mem j (r i) → Assigns assigning lo hi j
  referred i j l h q =
      let o : (lo ≤ j) × (assigning j ≡ true) = all_at (λ j. (lo ≤ j) × (assigning j ≡ true)) (r i) (says i l h).own j q in
      record { low = o.0; high = omega (arith, below r down i j q); so = o.1 }

  -- ---- the unfolding by numbers says the unfolding by names
  pub unfolded-says : (k i d : ℕ) → Assigns assigning lo hi i → i < lo + k → lo + k ≤ hi → i < d → names.unfolded (scope_of say lo k) (name i) ≡ map say (unfolded r d i)
  unfolded-says zero i d a h l f = absurd (let z : ⊥ = omega (arith, a.low) in z)
  unfolded-says (suc k) i zero a h l f = absurd (not-suc-le-zero f)
  unfolded-says (suc k) i (suc d) a h l f =
      at (ℕ_discrete i (lo + k)) (unfolded-says k i (suc d) a) (λ j q. unfolded-says k j d (referred i j a.low a.high q))
    where
      here : List Statement
      here = flat (names.unfolded (scope_of say lo k)) (refers (say (lo + k))) ++ (say (lo + k) ∷ [])

      at : Dec (i ≡ lo + k) → (i < lo + k → lo + k ≤ hi → i < suc d → names.unfolded (scope_of say lo k) (name i) ≡ map say (unfolded r (suc d) i))
          → ((j : ℕ) → Mem j (r i) → j < lo + k → lo + k ≤ hi → j < d → names.unfolded (scope_of say lo k) (name j) ≡ map say (unfolded r d j))
          → cond (names.assigns (name i) (say (lo + k))) here (names.unfolded (scope_of say lo k) (name i)) ≡ map say (unfolded r (suc d) i)
      at (yes e) g w =
          let yes_so : names.assigns (name i) (say (lo + k)) ≡ true = subst (λ (n : ℕ). names.assigns (name i) (say n) ≡ true) e (assigns_own i a) in
          ap (λ (b : Bool). cond b here (names.unfolded (scope_of say lo k) (name i))) yes_so
          ∙ sym (ap (λ (n : ℕ). flat (names.unfolded (scope_of say lo k)) (refers (say n)) ++ (say n ∷ [])) e)
          ∙ ap (λ (l : List Statement). l ++ (say i ∷ []))
          (ap (flat (names.unfolded (scope_of say lo k))) (says i a.low a.high).by_name
          ∙ flat_map name (names.unfolded (scope_of say lo k)) (r i)
          ∙ flat_cong (λ j. names.unfolded (scope_of say lo k) (name j)) (λ j. map say (unfolded r d j)) (r i)
          (λ j q. w j q (omega (arith, below r down i j q)) (omega arith) (omega (arith, below r down i j q)))
          ∙ sym (map-flat say (unfolded r d) (r i)))
          ∙ sym (map_join say (flat (unfolded r d) (r i)) (i ∷ []))
      at (no n) g w =
          ap (λ (b : Bool). cond b here (names.unfolded (scope_of say lo k) (name i))) (assigns-other i (lo + k) a (omega arith) (omega arith) n)
          ∙ g (omega arith) (omega arith) f

  -- all of it assigns
  unfolded-assigns : (d x y : ℕ) → Assigns assigning lo hi x → Mem y (unfolded r d x) → Assigns assigning lo hi y
  unfolded-assigns zero x y a q = absurd q
  unfolded-assigns (suc d) x y a q =
      ⊎_elim
      (λ (u : (j : ℕ) × Mem j (r x) × Mem y (unfolded r d j)). unfolded-assigns d u.0 y (referred x u.0 a.low a.high u.1) u.2)
      (λ (e : y ≡ x). subst (Assigns assigning lo hi) (sym e) a)
      (unfolded_cases r down d x y q)

  -- ---- first occurrences
  alike_mark : (m : Marks) (t : List Statement) (x : ℕ) → Assigns assigning lo hi x → Alike name assigning lo hi m t → Alike name assigning lo hi (mark m x) (say x ∷ t)
  alike_mark m t x a f i b = at (ℕ_discrete i x)
    where
      at : Dec (i ≡ x) → mark m x i ≡ (names.assigns (name i) (say x) || names.has (name i) t)
      at (yes e) =
          ap (mark m x) e ∙ mark_same m x
          ∙ sym (ap (λ (c : Bool). c || names.has (name i) t) (subst (λ (n : ℕ). names.assigns (name n) (say x) ≡ true) (sym e) (assigns_own x a)))
      at (no n) =
          mark-other m x i n ∙ f i b
          ∙ sym (ap (λ (c : Bool). c || names.has (name i) t) (assigns-other i x b a.low a.high n))

  pub alike_marked : (l : List ℕ) (m : Marks) (t : List Statement) → All (Assigns assigning lo hi) l → Alike name assigning lo hi m t
      → Alike name assigning lo hi (marked m l) (onto (map say l) t)
  alike_marked [] m t a f = f
  alike_marked (x ∷ l) m t a f = alike_marked l (mark m x) (say x ∷ t) a.1 (alike_mark m t x a.0 f)

  firsts_say : (l : List ℕ) (m : Marks) (t : List Statement) → All (Assigns assigning lo hi) l → Alike name assigning lo hi m t → names.firsts t (map say l) ≡ map say (firsts m l)
  firsts_say [] m t a f = refl
  firsts_say (x ∷ l) m t a f =
      ap (λ (c : Bool). cond c (names.firsts t (map say l)) (say x ∷ names.firsts (say x ∷ t) (map say l))) ((says x a.0.low a.0.high).among a.0.so t ∙ sym (f x a.0))
      ∙ by_cases (m x)
      (λ e.
      ap (λ (c : Bool). cond c (names.firsts t (map say l)) (say x ∷ names.firsts (say x ∷ t) (map say l))) e
      ∙ firsts_say l m t a.1 f ∙ ap (map say) (sym (firsts_old m x l e)))
      (λ e.
      ap (λ (c : Bool). cond c (names.firsts t (map say l)) (say x ∷ names.firsts (say x ∷ t) (map say l))) e
      ∙ ap (λ (l : List Statement). say x ∷ l) (firsts_say l (mark m x) (say x ∷ t) a.1 (alike_mark m t x a.0 f)) ∙ ap (map say) (sym (firsts_new m x l e)))

  -- ---- the listing
  module _ (s k : ℕ) (past : hi ≤ s) (all : lo + k ≡ hi) where
    unfoldings_assign : (roots : List ℕ) → All (Assigns assigning lo hi) roots → All (Assigns assigning lo hi) (flat (unfolded r s) roots)
    unfoldings_assign roots a =
        all_of (Assigns assigning lo hi) (flat (unfolded r s) roots)
        (λ y q.
        let g : (x : ℕ) × Mem x roots × Mem y (unfolded r s x) = flat_mem (unfolded r s) y roots q in
        unfolded-assigns s g.0 y (all_at (Assigns assigning lo hi) roots a g.0 g.1) g.2)

    pub listing-says : (m : Marks) (t : List Statement) (roots : List ℕ) → All (Assigns assigning lo hi) roots → Alike name assigning lo hi m t
        → names.listing (scope_of say lo k) t (map name roots) ≡ map say (listing r s m roots)
    listing-says m t roots a f =
        ap (names.firsts t)
        (flat_map name (names.unfolded (scope_of say lo k)) roots
        ∙ flat_cong (λ j. names.unfolded (scope_of say lo k) (name j)) (λ j. map say (unfolded r s j)) roots
        (λ j q.
        let b : Assigns assigning lo hi j = all_at (Assigns assigning lo hi) roots a j q in
        unfolded-says k j s b (omega (arith, b.high)) (omega arith) (omega (arith, b.high)))
        ∙ sym (map-flat say (unfolded r s) roots))
        ∙ firsts_say (flat (unfolded r s) roots) m t (unfoldings_assign roots a) f

    -- what is listed assigns, and the marks after it say the same as the statements
    pub listing-assigns : (m : Marks) (roots : List ℕ) → All (Assigns assigning lo hi) roots → All (Assigns assigning lo hi) (listing r s m roots)
    listing-assigns m roots a =
        all_of (Assigns assigning lo hi) (listing r s m roots)
        (λ y q. all_at (Assigns assigning lo hi) (flat (unfolded r s) roots) (unfoldings_assign roots a) y (firsts-only (flat (unfolded r s) roots) m y q).0)

    pub listing_alike : (m : Marks) (t : List Statement) (roots : List ℕ) → All (Assigns assigning lo hi) roots → Alike name assigning lo hi m t
        → Alike name assigning lo hi (marked m (listing r s m roots)) (onto (map say (listing r s m roots)) t)
    listing_alike m t roots a f = alike_marked (listing r s m roots) m t (listing-assigns m roots a) f
