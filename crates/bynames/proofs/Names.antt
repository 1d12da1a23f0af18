-- Which statement of a scope a name is assigned by.
-- Assumes nothing.
use mathlib.Core.Path.{◌≡◌, refl, sym, ap, ◌∙◌, subst}
use mathlib.Core.Logic.{inl, inr}
use mathlib.Core.Bool.{Bool, true, false, false≢true, ◌||◌}
use mathlib.Core.List.{List, [], ◌∷◌}
use Rattle.rules.specs.Syntax.{Name, Assignment, Statement, assignment, pc, blockpc, refers}
use Rattle.rules.specs.Meaning.{Mem}
use Rattle.rules.specs.Listing.{assigns, has, among}
use Rattle.laws.proofs.Same.{not_both, same_true, eq_same}
use Rattle.laws.proofs.Members.{all_at}
use Rattle.bynames.proofs.WellFormed.{Known, Wf}

-- one of a scope assigns a name
pub record Assigned (n : Name) (t : List Statement) : Type 0 where
  pub by : Statement
  pub member : Mem by t
  pub assigning : assigns n by ≡ true

pub has_member : (n : Name) (t : List Statement) → has n t ≡ true → Assigned n t
has_member n [] h = absurd (false≢true h)
has_member n (s ∷ t) h = pick (assigns n s) refl (has_member n t) h
  where
    older : Assigned n t → Assigned n (s ∷ t)
    older f = record { by = f.by; member = inr f.member; assigning = f.assigning }

    pick : (b : Bool) → assigns n s ≡ b → (has n t ≡ true → Assigned n t) → (b || has n t) ≡ true → Assigned n (s ∷ t)
    pick true e f q = record { by = s; member = inl refl; assigning = e }
    pick false e f q = older (f q)

pub has_older : (n : Name) (s : Statement) (t : List Statement) → has n t ≡ true → has n (s ∷ t) ≡ true
has_older n s t h = pick (assigns n s)
  where
    pick : (b : Bool) → (b || has n t) ≡ true
    pick true = refl
    pick false = h

pub member_has : (n : Name) (s : Statement) (t : List Statement) → Mem s t → assigns n s ≡ true → has n t ≡ true
member_has n s [] h e = absurd h
member_has n s (c ∷ t) (inl p) e = let q : assigns n c ≡ true = subst (λ (z : Statement). assigns n z ≡ true) p e in rw q
member_has n s (c ∷ t) (inr h) e = has_older n c t (member_has n s t h e)

pub known_older : (s : Statement) (t : List Statement) (l : List Name) → Known t l → Known (s ∷ t) l
known_older s t [] k = tt
known_older s t (n ∷ l) k = (has_older n s t k.0, known_older s t l k.1)

-- a statement is among others exactly where its name is assigned there
pub among_has : (n : Name) (s : Statement) (t : List Statement) → assigns n s ≡ true → among t s ≡ has n t
among_has n (assignment a) t e = ap (λ (k : Name). has k t) (same_true a.name n e)
among_has n (pc x y) t e = absurd (false≢true e)
among_has n (blockpc b k x y) t e = absurd (false≢true e)

pub fresh_has : (n : Name) (s : Statement) (t : List Statement) → among t s ≡ false → assigns n s ≡ true → has n t ≡ false
fresh_has n s t f e = sym (among_has n s t e) ∙ f

-- a statement that is not among others assigns none of their names
pub differs : (n : Name) (s : Statement) (t : List Statement) → among t s ≡ false → has n t ≡ true → assigns n s ≡ false
differs n s t f h = pick (assigns n s) refl
  where
    pick : (b : Bool) → assigns n s ≡ b → b ≡ false
    pick true e = absurd (not_both h (fresh_has n s t f e))
    pick false e = refl

pub own_name : (a : Assignment) {n : Name} → a.name ≡ n → assigns n (assignment a) ≡ true
own_name a {n} e = eq_same a.name n e

-- what a statement of a scope refers to is assigned in the scope
pub known_in : (t : List Statement) → Wf t → (s : Statement) → Mem s t → (m : Name) → Mem m (refers s) → has m t ≡ true
known_in [] w s h m q = absurd h
known_in (c ∷ t) w s (inl e) m q =
    has_older m c t (all_at (λ k. has k t ≡ true) (refers c) w.0.known m (subst (λ (z : Statement). Mem m (refers z)) e q))
known_in (c ∷ t) w s (inr h) m q = has_older m c t (known_in t w.1 s h m q)

-- a name is assigned once in a scope
pub assigned_once : (n : Name) (t : List Statement) → Wf t → (s c : Statement) → Mem s t → Mem c t → assigns n s ≡ true → assigns n c ≡ true → s ≡ c
assigned_once n [] w s c h q d e = absurd h
assigned_once n (x ∷ t) w s c (inl p) (inl q) d e = p ∙ sym q
assigned_once n (x ∷ t) w s c (inl p) (inr q) d e =
    absurd (not_both (member_has n c t q e) (fresh_has n x t w.0.fresh (subst (λ (z : Statement). assigns n z ≡ true) p d)))
assigned_once n (x ∷ t) w s c (inr p) (inl q) d e =
    absurd (not_both (member_has n s t p d) (fresh_has n x t w.0.fresh (subst (λ (z : Statement). assigns n z ≡ true) q e)))
assigned_once n (x ∷ t) w s c (inr p) (inr q) d e = assigned_once n t w.1 s c p q d e
