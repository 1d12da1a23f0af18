-- Demand 3, what a print lists: each assignment that can be reached from the item's roots once, after all that it refers to, and no other statement.
-- Assumes nothing.
use mathlib.Core.Path.{◌≡◌, refl, subst}
use mathlib.Core.Bool.{true, false≢true}
use mathlib.Core.Logic.{⊎_elim}
use mathlib.Core.List.{List, [], ◌∷◌, ◌++◌}
use Prim.Native.Nat.{ℕ}
use Rattle.rules.specs.Syntax.{Name, Assignment, Statement, assignment, pc, blockpc, Item, onto, scope, refers, first_roots, second_roots, roots}
use Rattle.rules.specs.Meaning.{Mem, Reachable, All}
use Rattle.rules.specs.Listing.{assigns, has, listed_before, listed_between}
use Rattle.rules.specs.Order.{Assigns, InOrder}
use Rattle.laws.proofs.Same.{not_both, same_true, same_refl}
use Rattle.laws.proofs.Members.{all_at, mem_left, mem_right, mem_split}
use Rattle.bynames.proofs.Members.{mem_onto, mem_below, onto_mem}
use Rattle.bynames.proofs.WellFormed.{Fits, Wf, WfItem}
use Rattle.bynames.proofs.Names.{Assigned, has_member, member_has}
use Rattle.bynames.proofs.Canon.{canon, canon_reached, canon_reach, canon_wf, before-known}
use Rattle.bynames.proofs.Reader.{Entry, reading, accepted}
use Rattle.bynames.proofs.BackLines.{Plain, wf_below}
use Rattle.bynames.proofs.BackLists.{Readable, plain_before, plain_between_lem}
use Rattle.bynames.proofs.AcceptedItems.{accepted_readable}

-- the lines of a print, without the closing lines
abbrev pub listed : Item → List Statement
listed x = listed_before x ++ listed_between x

pub record Lists (x : Item) : Type 0 where
  pub each : (b : Assignment) → Reachable x b → Mem (assignment b) (listed x)
  pub other : (s : Statement) → Mem s (listed x) → (b : Assignment) × (s ≡ assignment b) × Reachable x b
  pub order : InOrder [] (listed x)
  -- and closing lines stand behind all that they refer to
  pub first : (m : Name) → Mem m (first_roots x.closing) → Assigns m (listed_before x)
  pub second : (m : Name) → Mem m (second_roots x.closing) → Assigns m (listed x)

-- ---- one that assigns a name is an assignment
assigning : (n : Name) (s : Statement) → assigns n s ≡ true → (a : Assignment) × (s ≡ assignment a) × (a.name ≡ n)
assigning n (assignment a) e = (a, refl, same_true a.name n e)
assigning n (pc x y) e = absurd (false≢true e)
assigning n (blockpc b k x y) e = absurd (false≢true e)

has_assigns : (n : Name) (t : List Statement) → has n t ≡ true → Assigns n t
has_assigns n t h =
    let k : Assigned n t = has_member n t h in
    let g : (a : Assignment) × (k.by ≡ assignment a) × (a.name ≡ n) = assigning n k.by k.assigning in
    (g.0, subst (λ (z : Statement). Mem z t) g.1 k.member, g.2)

-- ---- a well-formed scope stands in order
not_member : (t : List Statement) (s : Statement) → Plain s → Fits t s → Mem s t → ⊥
not_member t (assignment a) p f h = not_both (member_has a.name (assignment a) t h (same_refl a.name)) f.fresh
not_member t (pc x y) p f h = p
not_member t (blockpc b k x y) p f h = p

in_order_lem : (l t : List Statement) → All Plain l → Wf (onto l t) → InOrder t l
in_order_lem [] t p w = tt
in_order_lem (s ∷ l) t p w =
    let f : Fits t s = (wf_below l (s ∷ t) w).0 in
    (not_member t s p.0 f, λ m h. has_assigns m t (all_at (λ k. has k t ≡ true) (refers s) f.known m h), in_order_lem l (s ∷ t) p.1 w)

order-append : (l u t : List Statement) → InOrder t l → InOrder (onto l t) u → InOrder t (l ++ u)
order-append [] u t h k = k
order-append (s ∷ l) u t h k = (h.0, h.1, order-append l u (s ∷ t) h.2 k)

-- ---- what is listed, and the scope that it makes
module _ (x : Item) where
  abbrev A : List Statement
  A = listed_before x

  abbrev B : List Statement
  B = listed_between x

  listed-scope : (s : Statement) → Mem s (listed x) → Mem s (scope (canon x))
  listed-scope s h = ⊎_elim (λ (l : Mem s A). mem_below s B (onto A []) (mem_onto s A [] l)) (λ (l : Mem s B). mem_onto s B (onto A []) l) (mem_split s A B h)

  first-listed : (s : Statement) → Mem s (onto A []) → Mem s A
  first-listed s h = ⊎_elim (λ (l : Mem s A). l) (λ (n : ⊥). absurd n) (onto_mem s A [] h)

  scope-listed : (s : Statement) → Mem s (scope (canon x)) → Mem s (listed x)
  scope-listed s h = ⊎_elim (λ (l : Mem s B). mem_right s A B l) (λ (l : Mem s (onto A [])). mem_left s A B (first-listed s l)) (onto_mem s B (onto A []) h)

  lists : WfItem x → Lists x
  lists w =
      record {
        each = λ b r. scope-listed (assignment b) ((canon_reach x w b).1 r);
        other = λ s h. canon_reached x s (listed-scope s h);
        order = order-append A B [] (in_order_lem A [] (plain_before x w) (wf_below B (onto A []) (canon_wf x w).wf)) (in_order_lem B (onto A []) (plain_between_lem x w) (canon_wf x w).wf);
        first = λ m h. moved m (onto A []) A first-listed (has_assigns m (onto A []) (all_at (λ k. has k (onto A []) ≡ true) (first_roots x.closing) (before-known x w) m h));
        second = λ m h. moved m (scope (canon x)) (listed x) scope-listed
            (has_assigns m (scope (canon x)) (all_at (λ k. has k (scope (canon x)) ≡ true) (roots x.closing) (canon_wf x w).known m (mem_right m (first_roots x.closing) (second_roots x.closing) h)));
      }
    where
      moved : (m : Name) (t l : List Statement) → ((s : Statement) → Mem s t → Mem s l) → Assigns m t → Assigns m l
      moved m t l f a = (a.0, f (assignment a.0) a.1, a.2)

-- the promise
pub print_lists : (e : Entry) (text : List ℕ) (xs : List Item) → reading e text ≡ accepted xs → (x : Item) → Mem x xs → Lists x
print_lists e text xs p x h = lists x (all_at (Readable e) xs (accepted_readable e text xs p) x h).wf
