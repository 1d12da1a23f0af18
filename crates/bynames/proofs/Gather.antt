-- First occurrences, gathered into a scope: it is well formed, has each that is gathered, and no other.
-- Assumes nothing.
use mathlib.Core.Path.{◌≡◌, refl, sym, ap, ◌∙◌, subst}
use mathlib.Core.Logic.{◌⊎◌, inl, inr, ⊎_elim}
use mathlib.Core.Bool.{Bool, true, false, cond, false≢true, ◌||◌}
use mathlib.Core.List.{List, [], ◌∷◌, ◌++◌}
use lib.ListN.{length}
use Rattle.rules.specs.Syntax.{Name, RightSide, var, block, phi, reservedinst, reservedconst, instruction, Statement, assignment, pc, blockpc, flat, onto, of_side, refers}
use Rattle.rules.specs.Meaning.{Mem}
use Rattle.rules.specs.Listing.{assigns, has, among, unfolded, firsts}
use Rattle.rules.specs.Grammar.{side_in, side_of}
use Rattle.laws.proofs.Same.{by_cond, same_refl}
use Rattle.bynames.proofs.Members.{Within}
use Rattle.bynames.proofs.WellFormed.{Known, is_block, block_size, SideFits, BlockFits, Fits, Wf}
use Rattle.bynames.proofs.Names.{Assigned, has_member, member_has, has_older, among_has, assigned_once}

-- a scope with one more, unless it is among them; with those of a list, one after another
abbrev pub with1 : Statement → List Statement → List Statement
with1 s t = cond (among t s) t (s ∷ t)

abbrev pub gather : List Statement → List Statement → List Statement
gather t [] = t
gather t (s ∷ l) = gather (with1 s t) l

pub onto-firsts : (t l : List Statement) → onto (firsts t l) t ≡ gather t l
onto-firsts t [] = refl
onto-firsts t (s ∷ l) = pick (among t s) (onto-firsts t l) (onto-firsts (s ∷ t) l)
  where
    pick : (b : Bool) → onto (firsts t l) t ≡ gather t l → onto (firsts (s ∷ t) l) (s ∷ t) ≡ gather (s ∷ t) l
        → onto (cond b (firsts t l) (s ∷ firsts (s ∷ t) l)) t ≡ gather (cond b t (s ∷ t)) l
    pick true p q = p
    pick false p q = q

pub gather_append : (t xs ys : List Statement) → gather t (xs ++ ys) ≡ gather (gather t xs) ys
gather_append t [] ys = refl
gather_append t (x ∷ xs) ys = gather_append (with1 x t) xs ys

-- ---- members
pub gather_keeps : (b : Statement) (t l : List Statement) → Mem b t → Mem b (gather t l)
gather_keeps b t [] h = h
gather_keeps b t (s ∷ l) h = gather_keeps b (with1 s t) l (by_cond (Mem b) (among t s) t (s ∷ t) (λ e. h) (λ e. inr h))

pub gather_only : (b : Statement) (t l : List Statement) → Mem b (gather t l) → Mem b t ⊎ Mem b l
gather_only b t [] h = inl h
gather_only b t (s ∷ l) h =
    ⊎_elim (λ (q : Mem b (with1 s t)). one (among t s) q) (λ (q : Mem b l). inr (inr q)) (gather_only b (with1 s t) l h)
  where
    one : (x : Bool) → Mem b (cond x t (s ∷ t)) → Mem b t ⊎ Mem b (s ∷ l)
    one true q = inl q
    one false (inl e) = inr (inl e)
    one false (inr q) = inl q

-- of a statement that is among some of one scope: it is one of them
pub among_member : (S : List Statement) → Wf S → (s : Statement) → Mem s S → (t : List Statement) → Within t S → among t s ≡ true → Mem s t
among_member S w (assignment a) h t f q =
    let k : Assigned a.name t = has_member a.name t q in
    subst (λ (z : Statement). Mem z t) (assigned_once a.name S w k.by (assignment a) (f k.by k.member) h k.assigning (same_refl a.name)) k.member
among_member S w (pc x y) h t f q = absurd (false≢true q)
among_member S w (blockpc b k x y) h t f q = absurd (false≢true q)

-- of statements of one scope, each that is gathered is there
pub gather_has : (S : List Statement) → Wf S → (b : Statement) (t l : List Statement) → Within t S → Within l S → Mem b l → Mem b (gather t l)
gather_has S w b t [] f g h = absurd h
gather_has S w b t (s ∷ l) f g (inl e) =
    gather_keeps b (with1 s t) l
    (by_cond (Mem b) (among t s) t (s ∷ t)
    (λ q. subst (λ (z : Statement). Mem z t) (sym e) (among_member S w s (g s (inl refl)) t f q)) (λ q. inl e))
gather_has S w b t (s ∷ l) f g (inr h) =
    gather_has S w b (with1 s t) l
    (λ c. by_cond (λ (z : List Statement). Mem c z → Mem c S) (among t s) t (s ∷ t) (λ e q. f c q) (λ e. ⊎_elim (λ (p : c ≡ s). g c (inl p)) (λ (p : Mem c t). f c p)))
    (λ c q. g c (inr q)) h

-- ---- the right side of a name is the same in two parts of one scope
pub record SideAt (n : Name) (t : List Statement) : Type 0 where
  pub by : Statement
  pub member : Mem by t
  pub assigning : assigns n by ≡ true
  pub is : side_of n t ≡ side_in by

pub side_at : (n : Name) (t : List Statement) → has n t ≡ true → SideAt n t
side_at n [] h = absurd (false≢true h)
side_at n (s ∷ t) h = pick (assigns n s) refl (side_at n t) h
  where
    pick : (b : Bool) → assigns n s ≡ b → (has n t ≡ true → SideAt n t) → (b || has n t) ≡ true → SideAt n (s ∷ t)
    pick true e f q = record { by = s; member = inl refl; assigning = e; is = rw e }
    pick false e f q = let g : SideAt n t = f q in record { by = g.by; member = inr g.member; assigning = g.assigning; is = rw e g.is }

module _ (S : List Statement) (W : Wf S) where
  pub side_same : (s u : List Statement) → Within s S → Within u S → (n : Name) → has n s ≡ true → has n u ≡ true → side_of n s ≡ side_of n u
  side_same s u f g n h k =
      let a : SideAt n s = side_at n s h in
      let c : SideAt n u = side_at n u k in
      a.is ∙ ap side_in (assigned_once n S W a.by c.by (f a.by a.member) (g c.by c.member) a.assigning c.assigning) ∙ sym c.is

  side_moves : (s u : List Statement) → Within s S → Within u S → (r : RightSide) → Known s (of_side r) → Known u (of_side r) → SideFits s r → SideFits u r
  side_moves s u f g var h k p = tt
  side_moves s u f g (block n) h k p = tt
  side_moves s u f g (phi b l) h k p =
      subst (λ (z : RightSide). (is_block z ≡ true) × (length l ≡ block_size z)) (side_same s u f g b h.0 k.0) p
  side_moves s u f g reservedinst h k p = tt
  side_moves s u f g reservedconst h k p = tt
  side_moves s u f g (instruction i l) h k p = tt

  blocks_move : (s u : List Statement) → Within s S → Within u S → (a : Statement) → Known s (refers a) → Known u (refers a) → BlockFits s a → BlockFits u a
  blocks_move s u f g (assignment a) h k p = side_moves s u f g a.side h k p
  blocks_move s u f g (pc x y) h k p = tt
  blocks_move s u f g (blockpc b i x y) h k p = subst (λ (z : RightSide). is_block z ≡ true) (side_same s u f g b h.0 k.0) p

  -- ---- what is gathered is well formed, and has the names
  pub record Adds (t t' : List Statement) (ns : List Name) : Type 0 where
    pub wf : Wf t'
    pub within : Within t' S
    pub keeps : (m : Name) → has m t ≡ true → has m t' ≡ true
    pub all : Known t' ns

  abbrev Adding : List Statement → Type 0
  Adding s = (n : Name) → has n s ≡ true → (t : List Statement) → Wf t → Within t S → Adds t (gather t (unfolded s n)) (n ∷ [])

  pub gather_flat : (s : List Statement) → Adding s → (ns : List Name) → Known s ns → (t : List Statement) → Wf t → Within t S → Adds t (gather t (flat (unfolded s) ns)) ns
  gather_flat s ih [] a t v i = record { wf = v; within = i; keeps = λ m h. h; all = tt }
  gather_flat s ih (n ∷ ns) a t v i =
      let f : Adds t (gather t (unfolded s n)) (n ∷ []) = ih n a.0 t v i in
      subst (λ (z : List Statement). Adds t z (n ∷ ns)) (sym (gather_append t (unfolded s n) (flat (unfolded s) ns)))
      (both f (gather_flat s ih ns a.1 (gather t (unfolded s n)) f.wf f.within))
    where
      both : {u z : List Statement} → Adds t u (n ∷ []) → Adds u z ns → Adds t z (n ∷ ns)
      both f g = record { wf = g.wf; within = g.within; keeps = λ m h. g.keeps m (f.keeps m h); all = (g.keeps n f.all.0, g.all) }

  -- one more, all of whose names are there
  add_one : (s t u : List Statement) (a : Statement) (n : Name) → assigns n a ≡ true → Within s S → Mem a S → Fits s a → Adds t u (refers a) → Adds t (with1 a u) (n ∷ [])
  add_one s t u a n q i h f d =
      by_cond (λ (z : List Statement). Adds t z (n ∷ [])) (among u a) u (a ∷ u)
      (λ e. record { wf = d.wf; within = d.within; keeps = d.keeps; all = (sym (among_has n a u q) ∙ e, tt) })
      (λ e.
      record {
        wf = (record { ok = f.ok; fresh = e; known = d.all; blocks = blocks_move s u i d.within a f.known d.all f.blocks }, d.wf);
        within = λ c. ⊎_elim (λ (p : c ≡ a). subst (λ (z : Statement). Mem z S) (sym p) h) (λ (p : Mem c u). d.within c p);
        keeps = λ m h. has_older m a u (d.keeps m h);
        all = (member_has n a (a ∷ u) (inl refl) q, tt);
      })

  pub gather_unfolded : (s : List Statement) → Wf s → Within s S → Adding s
  gather_unfolded [] w j n h t v i = absurd (false≢true h)
  gather_unfolded (a ∷ s) w j n h t v i = pick (assigns n a) refl (gather_unfolded s w.1 (λ c q. j c (inr q))) h
    where
      pick : (b : Bool) → assigns n a ≡ b → Adding s → (b || has n s) ≡ true → Adds t (gather t (cond b (flat (unfolded s) (refers a) ++ (a ∷ [])) (unfolded s n))) (n ∷ [])
      pick true e ih q =
          subst (λ (z : List Statement). Adds t z (n ∷ [])) (sym (gather_append t (flat (unfolded s) (refers a)) (a ∷ [])))
          (add_one s t (gather t (flat (unfolded s) (refers a))) a n e (λ c q. j c (inr q)) (j a (inl refl)) w.0 (gather_flat s ih (refers a) w.0.known t v i))
      pick false e ih q = ih n q t v i
