-- The item that a print says: its listings for its statements. Meaning decides it, and it decides meaning.
-- Assumes nothing.
use mathlib.Core.Path.{◌≡◌, refl, sym, ap, ◌∙◌, subst}
use mathlib.Core.Logic.{⊎_elim, ◌↔◌}
use mathlib.Core.Bool.{true}
use mathlib.Core.List.{List, [], ◌++◌}
use Rattle.rules.specs.Syntax.{Name, Assignment, Statement, assignment, Closing, Item, flat, onto, scope, first_roots, second_roots}
use Rattle.rules.specs.Meaning.{Mem, Reachable, SameMeaning}
use Rattle.rules.specs.Listing.{has, unfolded, firsts, listed_before, listed_between}
use Rattle.laws.proofs.Members.{all_at, all_left, all_right, mem_left, mem_right, mem_flat, flat_mem, flat_cong, flat_append}
use Rattle.bynames.proofs.Members.{Within}
use Rattle.bynames.proofs.WellFormed.{Known, Wf, WfItem}
use Rattle.bynames.proofs.Unfolded.{agree, ReachedAs, unfolded_reach, reach_unfolded, unfolded-within}
use Rattle.bynames.proofs.Gather.{gather, onto-firsts, Adds, gather_flat, gather_unfolded, gather_only, gather_has, gather_append}

abbrev pub canon : Item → Item
canon x = record { before = listed_before x; between = listed_between x; closing = x.closing }

-- the unfoldings of names in a second scope that has all of them
agree_flat : (S : List Statement) → Wf S → (T : List Statement) → Wf T → (ns : List Name) → Known S ns → Within (flat (unfolded S) ns) T
    → flat (unfolded S) ns ≡ flat (unfolded T) ns
agree_flat S w T v ns a sub =
    flat_cong (unfolded S) (unfolded T) ns (λ n h. agree S w T v n (all_at (λ m. has m S ≡ true) ns a n h) (λ b q. sub b (mem_flat (unfolded S) b n ns h q)))

module _ (x : Item) where
  abbrev S : List Statement
  S = scope x

  abbrev A : List Name
  A = first_roots x.closing

  abbrev B : List Name
  B = second_roots x.closing

  -- the unfoldings of all roots
  abbrev pub all : List Statement
  all = flat (unfolded S) (A ++ B)

  flat-within : (ns : List Name) → Within (flat (unfolded S) ns) S
  flat-within ns b h = let g : (n : Name) × Mem n ns × Mem b (unfolded S n) = flat_mem (unfolded S) b ns h in unfolded-within S g.0 b g.2

  pub first-scope : onto (listed_before x) [] ≡ gather [] (flat (unfolded S) A)
  unfolding listed_before
  first-scope = onto-firsts [] (flat (unfolded S) A)

  pub canon_scope : scope (canon x) ≡ gather [] all
  unfolding listed_between
  canon_scope =
      onto-firsts (onto (listed_before x) []) (flat (unfolded S) B)
      ∙ ap (λ (t : List Statement). gather t (flat (unfolded S) B)) first-scope
      ∙ sym (gather_append [] (flat (unfolded S) A) (flat (unfolded S) B))
      ∙ ap (gather []) (sym (flat_append (unfolded S) A B))

  -- a statement of the canon is one that unfolds
  pub canon_unfolds : (s : Statement) → Mem s (scope (canon x)) → Mem s all
  canon_unfolds s h = ⊎_elim (λ (n : ⊥). absurd n) (λ (q : Mem s all). q) (gather_only s [] all (subst (Mem s) canon_scope h))

  -- and an assignment that can be reached
  pub canon_reached : (s : Statement) → Mem s (scope (canon x)) → (b : Assignment) × (s ≡ assignment b) × Reachable x b
  canon_reached s h =
      let g : (n : Name) × Mem n (A ++ B) × Mem s (unfolded S n) = flat_mem (unfolded S) s (A ++ B) (canon_unfolds s h) in
      let r : ReachedAs S g.0 s = unfolded_reach S S (λ a q. q) s g.0 g.2 in
      (r.0, r.1, (g.0, g.1, r.2))

module _ (x : Item) (w : WfItem x) where
  canon_has : Within (all x) (scope (canon x))
  canon_has b h = subst (Mem b) (sym (canon_scope x)) (gather_has (S x) w.wf b [] (all x) (λ c n. absurd n) (flat-within x (A x ++ B x)) h)

  reachable_unfolds : (b : Assignment) → Reachable x b → Mem (assignment b) (all x)
  reachable_unfolds b r = mem_flat (unfolded (S x)) (assignment b) r.0 (A x ++ B x) r.1 (reach_unfolded (S x) w.wf b r.2)

  -- the canon has each assignment that can be reached, and no other statement
  pub canon_reach : (b : Assignment) → Mem (assignment b) (scope (canon x)) ↔ Reachable x b
  canon_reach b = (
    λ h. own (canon_reached x (assignment b) h),
    λ r. canon_has (assignment b) (reachable_unfolds b r),
  )
    where
      own : (c : Assignment) × (assignment b ≡ assignment c) × Reachable x c → Reachable x b
      own r = let e : b ≡ r.0 = cc r.1 in subst (Reachable x) (sym e) r.2

  adding : (ns : List Name) → Known (S x) ns → Adds (S x) w.wf [] (gather [] (flat (unfolded (S x)) ns)) ns
  adding ns a = gather_flat (S x) w.wf (S x) (gather_unfolded (S x) w.wf (S x) w.wf (λ c q. q)) ns a [] tt (λ c n. absurd n)

  -- each once, after all that it refers to
  pub canon_wf : WfItem (canon x)
  canon_wf = record {
    wf = subst Wf (sym (canon_scope x)) (adding (A x ++ B x) w.known).wf;
    ok = w.ok;
    known = subst (λ (z : List Statement). Known z (A x ++ B x)) (sym (canon_scope x)) (adding (A x ++ B x) w.known).all;
  }

  first-known : Known (S x) (A x)
  first-known = all_left (λ m. has m (S x) ≡ true) (A x) (B x) w.known

  -- the first roots are listed before the first closing line
  pub before-known : Known (onto (listed_before x) []) (A x)
  before-known = subst (λ (z : List Statement). Known z (A x)) (sym (first-scope x)) (adding (A x) first-known).all

-- a second item with equal closing lines whose scope has all that the first unfolds to is listed alike
module _ (x y : Item) (w : WfItem x) (v : WfItem y) (c : x.closing ≡ y.closing) (f : Within (all x) (scope y)) where
  first_alike : flat (unfolded (S x)) (A x) ≡ flat (unfolded (S y)) (A y)
  first_alike =
      agree_flat (S x) w.wf (S y) v.wf (A x) (all_left (λ m. has m (S x) ≡ true) (A x) (B x) w.known)
      (λ b h. f b (subst (Mem b) (sym (flat_append (unfolded (S x)) (A x) (B x))) (mem_left b (flat (unfolded (S x)) (A x)) (flat (unfolded (S x)) (B x)) h)))
      ∙ ap (λ (z : Closing). flat (unfolded (S y)) (first_roots z)) c

  second_alike : flat (unfolded (S x)) (B x) ≡ flat (unfolded (S y)) (B y)
  second_alike =
      agree_flat (S x) w.wf (S y) v.wf (B x) (all_right (λ m. has m (S x) ≡ true) (A x) (B x) w.known)
      (λ b h. f b (subst (Mem b) (sym (flat_append (unfolded (S x)) (A x) (B x))) (mem_right b (flat (unfolded (S x)) (A x)) (flat (unfolded (S x)) (B x)) h)))
      ∙ ap (λ (z : Closing). flat (unfolded (S y)) (second_roots z)) c

  pub same_before : listed_before x ≡ listed_before y
  unfolding listed_before
  same_before = ap (firsts []) first_alike

  pub same_between : listed_between x ≡ listed_between y
  unfolding listed_between
  same_between = λ i. firsts (onto (same_before i) []) (second_alike i)

  pub same_canon : canon x ≡ canon y
  same_canon = λ i. record { before = same_before i; between = same_between i; closing = c i }

module _ (x y : Item) (w : WfItem x) (v : WfItem y) where
  -- equal meaning: equal canons
  pub meaning_canon : SameMeaning x y → canon x ≡ canon y
  meaning_canon m = same_canon x y w v m.closing there
    where
      there : Within (all x) (scope y)
      there s h =
          let r : (b : Assignment) × (s ≡ assignment b) × Reachable x b = canon_reached x s (canon_has x w s h) in
          flat-within y (A y ++ B y) s (subst (λ (z : Statement). Mem z (all y)) (sym r.1) (reachable_unfolds y v r.0 ((m.reachable r.0).0 r.2)))

  -- equal canons: equal meaning
  pub canon_same : canon x ≡ canon y → SameMeaning x y
  canon_same e =
      let s : scope (canon x) ≡ scope (canon y) = ap scope e in
      record {
        closing = ap (λ (z : Item). z.closing) e;
        reachable = λ b. (
          λ h. (canon_reach y v b).0 (subst (Mem (assignment b)) s ((canon_reach x w b).1 h)),
          λ h. (canon_reach x w b).0 (subst (Mem (assignment b)) (sym s) ((canon_reach y v b).1 h)),
        );
      }

-- the canon is its own canon, and means what the item means
module _ (x : Item) (w : WfItem x) where
  pub canon_canon : canon x ≡ canon (canon x)
  canon_canon = same_canon x (canon x) w (canon_wf x w) refl (canon_has x w)

  pub canon_meaning : SameMeaning x (canon x)
  canon_meaning = canon_same x (canon x) w (canon_wf x w) canon_canon
