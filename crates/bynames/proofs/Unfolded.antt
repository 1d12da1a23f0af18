-- The unfolding of a name: what it reaches, and that it depends on that alone.
-- Assumes nothing.
use mathlib.Core.Path.{◌≡◌, refl, sym, ap, ◌∙◌, subst}
use mathlib.Core.Logic.{inl, inr, ⊎_elim}
use mathlib.Core.Bool.{Bool, true, false, cond, false≢true, ◌||◌}
use mathlib.Core.List.{List, [], ◌∷◌, ◌++◌}
use Rattle.rules.specs.Bytes.{same}
use Rattle.rules.specs.Syntax.{Name, Assignment, Statement, assignment, pc, blockpc, flat, refers}
use Rattle.rules.specs.Meaning.{Mem, Reach, here, there}
use Rattle.rules.specs.Listing.{assigns, has, among, unfolded}
use Rattle.laws.proofs.Same.{same_true}
use Rattle.laws.proofs.Members.{all_at, mem_left, mem_right, mem_split, mem_one, mem_flat, flat_mem, flat_cong}
use Rattle.bynames.proofs.Members.{Within}
use Rattle.bynames.proofs.WellFormed.{Wf}
use Rattle.bynames.proofs.Names.{member_has, differs, own_name, known_in}

-- a newer statement changes no older unfolding
pub unfolded_older : (n : Name) (s : Statement) (t : List Statement) → among t s ≡ false → has n t ≡ true → unfolded (s ∷ t) n ≡ unfolded t n
unfolded_older n s t f h = ap (λ (b : Bool). cond b (flat (unfolded t) (refers s) ++ (s ∷ [])) (unfolded t n)) (differs n s t f h)

-- of a statement of the scope: the unfoldings of what it refers to, and itself
pub unfolded_at : (t : List Statement) → Wf t → (s : Statement) → Mem s t → (n : Name) → assigns n s ≡ true
    → unfolded t n ≡ flat (unfolded t) (refers s) ++ (s ∷ [])
unfolded_at [] w s h n q = absurd h
unfolded_at (c ∷ t) w s (inl e) n q =
    subst (λ (z : Statement). unfolded (c ∷ t) n ≡ flat (unfolded (c ∷ t)) (refers z) ++ (z ∷ [])) (sym e)
    (ap (λ (b : Bool). cond b (flat (unfolded t) (refers c) ++ (c ∷ [])) (unfolded t n)) (subst (λ (z : Statement). assigns n z ≡ true) e q)
    ∙ ap (λ (l : List Statement). l ++ (c ∷ []))
    (flat_cong (unfolded t) (unfolded (c ∷ t)) (refers c)
    (λ m r. sym (unfolded_older m c t w.0.fresh (all_at (λ k. has k t ≡ true) (refers c) w.0.known m r)))))
unfolded_at (c ∷ t) w s (inr h) n q =
    unfolded_older n c t w.0.fresh (member_has n s t h q) ∙ unfolded_at t w.1 s h n q
    ∙ ap (λ (l : List Statement). l ++ (s ∷ []))
    (flat_cong (unfolded t) (unfolded (c ∷ t)) (refers s) (λ m r. sym (unfolded_older m c t w.0.fresh (known_in t w.1 s h m r))))

-- where a second scope has all that a name unfolds to in the first, it unfolds to the same there
pub agree : (s : List Statement) → Wf s → (t : List Statement) → Wf t → (n : Name) → has n s ≡ true → Within (unfolded s n) t → unfolded s n ≡ unfolded t n
agree [] w t v n h sub = absurd (false≢true h)
agree (a ∷ s) w t v n h sub = pick (assigns n a) refl (λ m. agree s w.1 t v m) h sub
  where
    pick : (b : Bool) → assigns n a ≡ b → ((m : Name) → has m s ≡ true → Within (unfolded s m) t → unfolded s m ≡ unfolded t m)
        → (b || has n s) ≡ true → Within (cond b (flat (unfolded s) (refers a) ++ (a ∷ [])) (unfolded s n)) t
        → cond b (flat (unfolded s) (refers a) ++ (a ∷ [])) (unfolded s n) ≡ unfolded t n
    pick true e ih q f =
        ap (λ (l : List Statement). l ++ (a ∷ []))
        (flat_cong (unfolded s) (unfolded t) (refers a)
        (λ m r. ih m (all_at (λ k. has k s ≡ true) (refers a) w.0.known m r) (λ b p. f b (mem_left b (flat (unfolded s) (refers a)) (a ∷ []) (mem_flat (unfolded s) b m (refers a) r p)))))
        ∙ sym (unfolded_at t v a (f a (mem_right a (flat (unfolded s) (refers a)) (a ∷ []) (inl refl))) n e)
    pick false e ih q f = ih n q f

-- ---- what a name reaches is what it unfolds to
pub reach_unfolded : (t : List Statement) → Wf t → (b : Assignment) {n : Name} → Reach t b n → Mem (assignment b) (unfolded t n)
reach_unfolded t w b {n} (here h e) =
    subst (Mem (assignment b)) (sym (unfolded_at t w (assignment b) h n (own_name b e)))
    (mem_right (assignment b) (flat (unfolded t) (refers (assignment b))) (assignment b ∷ []) (inl refl))
reach_unfolded t w b {n} (there {m = m} a h e q r) =
    subst (Mem (assignment b)) (sym (unfolded_at t w (assignment a) h n (own_name a e)))
    (mem_left (assignment b) (flat (unfolded t) (refers (assignment a))) (assignment a ∷ []) (mem_flat (unfolded t) (assignment b) m (refers (assignment a)) q (reach_unfolded t w b r)))

-- only assignments unfold
abbrev pub IsAssignment : Statement → Type 0
IsAssignment s = (a : Assignment) × (s ≡ assignment a)

-- in a scope, a statement is an assignment that is reached from a name
abbrev pub ReachedAs : List Statement → Name → Statement → Type 0
ReachedAs t n s = (b : Assignment) × (s ≡ assignment b) × Reach t b n

pub unfolded_reach : (T t : List Statement) → Within t T → (s : Statement) (n : Name) → Mem s (unfolded t n) → ReachedAs T n s
unfolded_reach T [] sub s n h = absurd h
unfolded_reach T (assignment a ∷ t) sub s n h = pick (same a.name n) refl (λ m. unfolded_reach T t (λ c q. sub c (inr q)) s m) h
  where
    via : (m : Name) → a.name ≡ n → Mem m (refers (assignment a)) → ReachedAs T m s → ReachedAs T n s
    via m e q r = (r.0, r.1, there a (sub (assignment a) (inl refl)) e q r.2)

    pick : (x : Bool) → same a.name n ≡ x → ((m : Name) → Mem s (unfolded t m) → ReachedAs T m s)
        → Mem s (cond x (flat (unfolded t) (refers (assignment a)) ++ (assignment a ∷ [])) (unfolded t n)) → ReachedAs T n s
    pick true e ih q =
        ⊎_elim
        (λ (l : Mem s (flat (unfolded t) (refers (assignment a)))).
        let g : (m : Name) × Mem m (refers (assignment a)) × Mem s (unfolded t m) = flat_mem (unfolded t) s (refers (assignment a)) l in
        via g.0 (same_true a.name n e) g.1 (ih g.0 g.2))
        (λ (l : Mem s (assignment a ∷ [])). (a, mem_one s (assignment a) l, here (sub (assignment a) (inl refl)) (same_true a.name n e)))
        (mem_split s (flat (unfolded t) (refers (assignment a))) (assignment a ∷ []) q)
    pick false e ih q = ih n q
unfolded_reach T (pc x y ∷ t) sub s n h = unfolded_reach T t (λ c q. sub c (inr q)) s n h
unfolded_reach T (blockpc b k x y ∷ t) sub s n h = unfolded_reach T t (λ c q. sub c (inr q)) s n h

reach_member : (t : List Statement) (b : Assignment) {n : Name} → Reach t b n → Mem (assignment b) t
reach_member t b (here q e) = q
reach_member t b (there a q e p r) = reach_member t b r

pub unfolded-within : (t : List Statement) (n : Name) → Within (unfolded t n) t
unfolded-within t n s h =
    let r : ReachedAs t n s = unfolded_reach t t (λ a q. q) s n h in
    subst (λ (z : Statement). Mem z t) (sym r.1) (reach_member t r.0 r.2)
