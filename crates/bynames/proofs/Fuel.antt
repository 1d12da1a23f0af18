-- Fuel beyond what is ahead changes nothing: a list that is read with more of it reads the same.
-- Assumes nothing.
use mathlib.Core.Path.{◌≡◌, refl, sym, ap, ◌∙◌}
use mathlib.Core.Bool.{Bool, true, false, cond}
use mathlib.Core.List.{List, [], ◌∷◌}
use Prim.Native.Nat.{ℕ, zero, suc, ◌<◌}
use native.Mathlib.Omega.{arith}
use lib.Dec.{eqb, ltb}
use borrow.Author.Tests.{ltb-true, ltb-false}
use Rattle.rules.specs.Bytes.{bytes}
use Rattle.rules.specs.Tokens as T
use Rattle.rules.specs.Syntax.{Statement}
use Rattle.bynames.proofs.Reader as R
use Rattle.bynames.proofs.Reader.{State, Res, go, stop, P, bind, ahead, fuel_of, Entry, item_of}
use Rattle.bynames.proofs.AcceptedParts.{Ok}
use Rattle.bynames.proofs.Moves.{Some, Within, Takes, look_keeps}
use Rattle.bynames.proofs.MovesRules.{assigned_takes, condition-takes, block-condition-takes, item_takes}

-- ---- two readings that go the same way
bind_same : {A B : Type 0} (Q : A → State → Type 0) (m : Res A) (f g : A → P B) → Ok Q m → ((a : A) (w : State) → Q a w → f a w ≡ g a w) → bind m f ≡ bind m g
bind_same Q (go a w) f g h k = k a w h
bind_same Q stop f g h k = refl

if-same : {A : Type 0} (b : Bool) (p q x y : P A) (w : State) → p w ≡ x w → q w ≡ y w → cond b p q w ≡ cond b x y w
if-same true p q x y w h k = h
if-same false p q x y w h k = k

-- what one unit of fuel more does not change, no fuel changes
steady : {X : Type 0} (F : ℕ → X) (n : ℕ) → ((f : ℕ) → n < f → F f ≡ F (suc f)) → (f : ℕ) → n < f → F f ≡ F (suc n)
steady F n k zero h = absurd (let z : ⊥ = omega arith in z)
steady F n k (suc f) h = pick (ltb n f) refl (steady F n k f)
  where
    pick : (b : Bool) → ltb n f ≡ b → (n < f → F f ≡ F (suc n)) → F (suc f) ≡ F (suc n)
    pick true e ih = let q : n < f = ltb-true n f e in sym (k f q) ∙ ih q
    pick false e ih = let q : f ≡ n = omega (arith, ltb-false n f e) in ap (λ (z : ℕ). F (suc z)) q

-- ---- attributes
module _ {A : Type 0} (one : P A) (k : Takes one) where
  attributes_more : (f : ℕ) (w : State) → Some w.next → ahead w.next < f → R.attributes one f w ≡ R.attributes one (suc f) w
  unfolding R.attributes
  attributes_more zero w s h = absurd (let z : ⊥ = omega arith in z)
  attributes_more (suc f) w s h =
      bind_same (Within (suc f)) (R.look w) _ _ (look_keeps.by (suc f) w s h)
      (λ t w₁ i.
      if-same (eqb t.kind T.open_paren) _ _ _ _ w₁
      (bind_same (Within f) (one w₁) _ _ (k.by f w₁ i.0 i.1) (λ a w₂ j. ap (λ m. bind m (λ l. R.give (a ∷ l))) (attributes_more f w₂ j.0 j.1))) refl)

  pub attributes-fuel : (f : ℕ) (w : State) → Some w.next → ahead w.next < f → R.attributes one f w ≡ R.attributes_here one w
  attributes-fuel f w s h = steady (λ g. R.attributes one g w) (ahead w.next) (λ g q. attributes_more g w s q) f h

-- ---- statements
abbrev one_more : P Statement → P (List Statement) → P (List Statement)
one_more p more = R.◌>>=◌ p (λ a. R.◌>>=◌ more (λ l. R.give (a ∷ l)))

more_same : (p : P Statement) → Takes p → (f : ℕ) (x y : P (List Statement)) → ((w : State) → Some w.next → ahead w.next < f → x w ≡ y w)
    → (w : State) → Some w.next → ahead w.next < suc f → one_more p x w ≡ one_more p y w
more_same p k f x y ih w s h = bind_same (Within f) (p w) _ _ (k.by f w s h) (λ a w₁ i. ap (λ m. bind m (λ l. R.give (a ∷ l))) (ih w₁ i.0 i.1))

statements_more : (f : ℕ) (w : State) → Some w.next → ahead w.next < f → R.statements f w ≡ R.statements (suc f) w
unfolding R.statements
statements_more zero w s h = absurd (let z : ⊥ = omega arith in z)
statements_more (suc f) w s h =
    bind_same (Within (suc f)) (R.look w) _ _ (look_keeps.by (suc f) w s h)
    (λ t w₁ i.
    if-same (eqb t.kind T.val_name) _ _ _ _ w₁ (more_same R.assigned assigned_takes f (R.statements f) (R.statements (suc f)) (statements_more f) w₁ i.0 i.1)
    (if-same (R.is (bytes "pc") t) _ _ _ _ w₁ (more_same R.condition condition-takes f (R.statements f) (R.statements (suc f)) (statements_more f) w₁ i.0 i.1)
    (if-same (R.is (bytes "blockpc") t) _ _ _ _ w₁ (more_same R.block_condition block-condition-takes f (R.statements f) (R.statements (suc f)) (statements_more f) w₁ i.0 i.1) refl)))

pub statements-fuel : (f : ℕ) (w : State) → Some w.next → ahead w.next < f → R.statements f w ≡ R.statements_here w
statements-fuel f w s h = steady (λ g. R.statements g w) (ahead w.next) (λ g q. statements_more g w s q) f h

-- ---- items
list_more : (e : Entry) (f : ℕ) (w : State) → Some w.next → ahead w.next < f → R.list e f w ≡ R.list e (suc f) w
unfolding R.list
list_more e zero w s h = absurd (let z : ⊥ = omega arith in z)
list_more e (suc f) w s h =
    bind_same (Within (suc f)) (R.look w) _ _ (look_keeps.by (suc f) w s h)
    (λ t w₁ i.
    if-same (eqb t.kind 0) _ _ _ _ w₁ refl
    (bind_same (Within f) (R.new_item (item_of e) w₁) _ _ ((item_takes e).by f (record { scope = []; next = w₁.next }) i.0 i.1) (λ x w₂ j. ap (λ m. bind m (λ l. R.give (x ∷ l))) (list_more e f w₂ j.0 j.1))))

pub list_fuel : (e : Entry) (f : ℕ) (w : State) → Some w.next → ahead w.next < f → R.list e f w ≡ R.list e (fuel_of w) w
list_fuel e f w s h = steady (λ g. R.list e g w) (ahead w.next) (λ g q. list_more e g w s q) f h
