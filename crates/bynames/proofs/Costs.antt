-- Whatever a statement costs, what is listed of an item costs no more than all its statements do: each is listed once at most.
-- Assumes nothing.
use mathlib.Core.Path.{◌≡◌, refl, sym, ap, ◌∙◌, subst}
use mathlib.Core.Logic.{inl, inr}
use mathlib.Core.List.{List, [], ◌∷◌, ◌++◌}
use Prim.Native.Nat.{ℕ, ◌+◌, ◌≤◌}
use native.Mathlib.Omega.{arith}
use Rattle.rules.specs.Syntax.{Name, Assignment, Statement, assignment, Item, onto, scope}
use Rattle.rules.specs.Meaning.{Mem, Reach, here, there}
use Rattle.rules.specs.Listing.{listed_before, listed_between}
use Rattle.rules.specs.Order.{InOrder}
use Rattle.bynames.proofs.Listed.{listed, Lists}

-- ---- a list of statements without one of them
without : (x : Statement) (t : List Statement) → Mem x t → List Statement
without x [] h = []
without x (y ∷ t) (inl e) = t
without x (y ∷ t) (inr h) = y ∷ without x t h

without_mem : (x : Statement) (t : List Statement) (h : Mem x t) (z : Statement) → Mem z t → (z ≡ x → ⊥) → Mem z (without x t h)
unfolding without
without_mem x [] h z k n = absurd h
without_mem x (y ∷ t) (inl e) z (inl q) n = absurd (n (q ∙ sym e))
without_mem x (y ∷ t) (inl e) z (inr k) n = k
without_mem x (y ∷ t) (inr h) z (inl q) n = inl q
without_mem x (y ∷ t) (inr h) z (inr k) n = inr (without_mem x t h z k n)

-- what stands in order behind others is none of them
order_apart : (l t : List Statement) → InOrder t l → (z : Statement) → Mem z l → Mem z t → ⊥
order_apart [] t o z h k = h
order_apart (x ∷ l) t o z (inl e) k = o.0 (subst (λ (y : Statement). Mem y t) e k)
order_apart (x ∷ l) t o z (inr h) k = order_apart l (x ∷ t) o.2 z h (inr k)

reach_mem : {l : List Statement} {b : Assignment} {n : Name} → Reach l b n → Mem (assignment b) l
reach_mem (here h e) = h
reach_mem (there a h e m r) = reach_mem r

module _ (cost : Statement → ℕ) where
  abbrev pub costs : List Statement → ℕ
  costs [] = 0
  costs (x ∷ l) = cost x + costs l

  costs_append : (l u : List Statement) → costs (l ++ u) ≡ costs l + costs u
  costs_append [] u = omega arith
  costs_append (x ∷ l) u = omega (arith, costs_append l u)

  costs_onto : (l u : List Statement) → costs (onto l u) ≡ costs l + costs u
  costs_onto [] u = omega arith
  costs_onto (x ∷ l) u = omega (arith, costs_onto l (x ∷ u))

  without_cost : (x : Statement) (t : List Statement) (h : Mem x t) → costs t ≡ cost x + costs (without x t h)
  unfolding without
  without_cost x [] h = absurd h
  without_cost x (y ∷ t) (inl e) = ap (λ (z : Statement). cost z + costs t) (sym e)
  without_cost x (y ∷ t) (inr h) = omega (arith, without_cost x t h)

  order_cost : (l t u : List Statement) → InOrder t l → ((z : Statement) → Mem z l → Mem z u) → costs l ≤ costs u
  order_cost [] t u o f = omega arith
  order_cost (x ∷ l) t u o f =
      let h : Mem x u = f x (inl refl) in
      let ih = order_cost l (x ∷ t) (without x u h) o.2 (λ z k. without_mem x u h z (f z (inr k)) (λ e. order_apart l (x ∷ t) o.2 z k (inl e))) in
      omega (arith, without_cost x u h)

  module _ (x : Item) (lists : Lists x) where
    listed-scope : (z : Statement) → Mem z (listed x) → Mem z (scope x)
    listed-scope z h = let g = lists.other z h in subst (λ (y : Statement). Mem y (scope x)) (sym g.1) (reach_mem g.2.2)

    pub listed_cost : costs (listed_before x) + costs (listed_between x) ≤ costs x.before + costs x.between
    listed_cost = omega (arith, order_cost (listed x) [] (scope x) lists.order listed-scope, costs_append (listed_before x) (listed_between x), costs_onto x.between (onto x.before []), costs_onto x.before [])
