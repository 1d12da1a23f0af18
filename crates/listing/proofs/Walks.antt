-- For whoever walks: what is still to come from one call to the next, and the rows of one item among those of others.
-- Assumes nothing.
use mathlib.Core.Path.{◌≡◌, refl, ap, ◌∙◌, subst}
use mathlib.Core.Logic.{◌⊎◌, ⊎_elim}
use mathlib.Core.Bool.{Bool, true, ◌||◌}
use mathlib.Core.List.{List, [], ◌∷◌, ◌++◌}
use Prim.Native.Nat.{ℕ, zero, suc, ◌≤◌, ◌<◌}
use native.Mathlib.Omega.{arith}
use lib.Dec.{eqb}
use lib.ListN.{length}
use Rattle.rules.specs.Meaning.{Mem, All}
use Rattle.rules.specs.Syntax.{flat}
use Rattle.laws.proofs.Members.{all_at, all_of, flat_mem}
use Rattle.listing.specs.Listing.{Marks, mark, marked, unfolded, listing}
use Rattle.listing.specs.References.{refers, Sound}
use Rattle.listing.specs.Machine.{Run}
use Rattle.listing.specs.Work.{marks_of, to_come, Ready, Begun, Listed, Ended}
use Rattle.listing.proofs.Marking.{mark-other, firsts_agree, firsts-only}
use Rattle.listing.proofs.Unfolding.{unfolded_cases, unfolded-below, below}
use Rattle.listing.proofs.Orders.{Ordered, ordered_at}
use Rattle.listing.proofs.Listings.{listing_ordered}
use Rattle.listing.proofs.Lengths.{listing-length}
use Rattle.listing.proofs.Steps.{refers-earlier}

-- ---- from call to call
module _ (statements operands : List ℕ) (s : ℕ) (w : List ℕ) where
  -- the rows still to come, the marks after them, and the listing of a root
  abbrev pub coming : ℕ → List ℕ
  coming t = (to_come statements operands s w t).listed

  abbrev pub marks_after : ℕ → Marks
  marks_after t = (to_come statements operands s w t).marks

  abbrev pub listing_of : ℕ → List ℕ
  listing_of root = listing (refers statements operands s) s (marks_of w s) (root ∷ [])

module _ {statements operands : List ℕ} {s : ℕ} {w : List ℕ} {root : ℕ} {w' : List ℕ} {t : ℕ} (b : Begun statements operands s w root w' t) where
  pub begun_coming : coming statements operands s w' t ≡ listing_of statements operands s w root
  begun_coming = ap (λ (o : Run). o.listed) b.whole

  -- at most as many as are counted
  pub begun-length : Sound statements operands s → root < s → length (coming statements operands s w' t) ≤ s
  begun-length so h =
      omega (arith, ap length begun_coming, listing-length (refers statements operands s) (refers-earlier statements operands s so) s (marks_of w s) (root ∷ []) (h, tt))

  pub begun-marks : marks_after statements operands s w' t ≡ marked (marks_of w s) (listing_of statements operands s w root)
  begun-marks = ap (λ (o : Run). o.marks) b.whole

module _ {statements operands : List ℕ} {s : ℕ} {w : List ℕ} {t : ℕ} {w' : List ℕ} {row t' : ℕ} (n : Listed statements operands s w t w' row t') where
  pub listed_coming : coming statements operands s w t ≡ row ∷ coming statements operands s w' t'
  listed_coming = ap (λ (o : Run). o.listed) n.next

  pub listed-marks : marks_after statements operands s w t ≡ marks_after statements operands s w' t'
  listed-marks = ap (λ (o : Run). o.marks) n.next

  -- a measure for a loop over advance
  pub listed-less : length (coming statements operands s w' t') < length (coming statements operands s w t)
  listed-less = omega (arith, ap length listed_coming)

module _ {statements operands : List ℕ} {s : ℕ} {w : List ℕ} {t : ℕ} {w' : List ℕ} (n : Ended statements operands s w t w') where
  pub ended_coming : coming statements operands s w t ≡ []
  ended_coming = ap (λ (o : Run). o.listed) n.nothing

  pub ended-marks : marks_after statements operands s w t ≡ marks_of w' s
  ended-marks = ap (λ (o : Run). o.marks) n.nothing

module _ (statements operands : List ℕ) (s : ℕ) (w : List ℕ) where
  -- all that the next row refers to is listed before it, or was before the walk
  pub listed-after : Sound statements operands s → (root : ℕ) → root < s → (front : List ℕ) (row : ℕ) (rest : List ℕ) → listing_of statements operands s w root ≡ front ++ row ∷ rest
      → (j : ℕ) → Mem j (refers statements operands s row) → (marks_of w s j ≡ true) ⊎ Mem j front
  listed-after so root h front row rest e j q =
      ordered_at (refers statements operands s) front row rest (λ y. marks_of w s y ≡ true)
      (subst (Ordered (refers statements operands s) (λ y. marks_of w s y ≡ true)) e
      (listing_ordered (refers statements operands s) (refers-earlier statements operands s so) s (marks_of w s) (root ∷ []) (h, tt))) j q

-- ---- what a loop over advance keeps of where it began, at w with t words on the stack
pub record Walking (statements operands : List ℕ) (s : ℕ) (w : List ℕ) (t : ℕ) (w' : List ℕ) (t' : ℕ) : Type 0 where
  pub ready : Ready statements operands s w' t'
  pub marks : marks_after statements operands s w t ≡ marks_after statements operands s w' t'
  pub long : length w' ≡ length w

pub walking_from : {statements operands : List ℕ} {s : ℕ} {w : List ℕ} {t : ℕ} → Ready statements operands s w t → Walking statements operands s w t w t
walking_from rd = record { ready = rd; marks = refl; long = refl }

module _ {statements operands : List ℕ} {s : ℕ} {w : List ℕ} {t : ℕ} {w' : List ℕ} {t' : ℕ} (g : Walking statements operands s w t w' t') where
  pub walking_listed : {w'' : List ℕ} {row t'' : ℕ} → Listed statements operands s w' t' w'' row t'' → length w'' ≡ length w' → Walking statements operands s w t w'' t''
  walking_listed n e = record { ready = n.ready; marks = g.marks ∙ listed-marks n; long = e ∙ g.long }

  pub walking_ended : {w'' : List ℕ} → Ended statements operands s w' t' w'' → marks_after statements operands s w t ≡ marks_of w'' s
  walking_ended n = g.marks ∙ ended-marks n

-- ---- marks that agree from a row on
abbrev pub AgreeFrom : ℕ → Marks → Marks → Type 0
AgreeFrom lo m n = (j : ℕ) → lo ≤ j → m j ≡ n j

pub marked_agree : (lo : ℕ) (l : List ℕ) (m n : Marks) → AgreeFrom lo m n → AgreeFrom lo (marked m l) (marked n l)
marked_agree lo [] m n a = a
marked_agree lo (x ∷ l) m n a = marked_agree lo l (mark m x) (mark n x) (λ j h. ap (λ (b : Bool). eqb j x || b) (a j h))

-- marks at rows before hi leave those from hi on as they are
pub marked-past : (hi : ℕ) (l : List ℕ) (m : Marks) → All (λ j. j < hi) l → AgreeFrom hi (marked m l) m
marked-past hi [] m a j h = refl
marked-past hi (x ∷ l) m a j h = marked-past hi l (mark m x) a.1 j h ∙ mark-other m x j (λ e. omega (arith, a.0))

-- ---- the rows from lo up to hi refer to rows from lo on alone, as an item's do: what is listed before them does not matter
module _ (r : ℕ → List ℕ) (down : (i : ℕ) → All (λ j. j < i) (r i)) (lo hi : ℕ) (own : (i : ℕ) → lo ≤ i → i < hi → All (λ j. lo ≤ j) (r i)) where
  pub unfolded_own : (d x y : ℕ) → lo ≤ x → x < hi → Mem y (unfolded r d x) → lo ≤ y
  unfolded_own zero x y l h q = absurd q
  unfolded_own (suc d) x y l h q =
      ⊎_elim
      (λ (u : (j : ℕ) × Mem j (r x) × Mem y (unfolded r d j)).
      unfolded_own d u.0 y (all_at (λ j. lo ≤ j) (r x) (own x l h) u.0 u.1) (omega (arith, below r down x u.0 u.1)) u.2)
      (λ (e : y ≡ x). omega arith)
      (unfolded_cases r down d x y q)

  module _ (s : ℕ) (m n : Marks) (roots : List ℕ) (within : All (λ x. (lo ≤ x) × (x < hi)) roots) where
    pub listing_agree : AgreeFrom lo m n → listing r s m roots ≡ listing r s n roots
    listing_agree a =
        firsts_agree (flat (unfolded r s) roots) m n
        (all_of (λ y. m y ≡ n y) (flat (unfolded r s) roots)
        (λ y q.
        let g : (x : ℕ) × Mem x roots × Mem y (unfolded r s x) = flat_mem (unfolded r s) y roots q in
        let p : (lo ≤ g.0) × (g.0 < hi) = all_at (λ x. (lo ≤ x) × (x < hi)) roots within g.0 g.1 in
        a y (unfolded_own s g.0 y p.0 p.1 g.2)))

  -- and they are rows of the item themselves
  pub listing_own : (s : ℕ) (m : Marks) (roots : List ℕ) → All (λ x. (lo ≤ x) × (x < hi)) roots → All (λ y. (lo ≤ y) × (y < hi)) (listing r s m roots)
  listing_own s m roots within =
      all_of (λ y. (lo ≤ y) × (y < hi)) (listing r s m roots)
      (λ y q.
      let g : (x : ℕ) × Mem x roots × Mem y (unfolded r s x) = flat_mem (unfolded r s) y roots (firsts-only (flat (unfolded r s) roots) m y q).0 in
      let p : (lo ≤ g.0) × (g.0 < hi) = all_at (λ x. (lo ≤ x) × (x < hi)) roots within g.0 g.1 in
      (unfolded_own s g.0 y p.0 p.1 g.2, omega (arith, unfolded-below r down s g.0 y g.2)))
