-- Consecutive spans, one list of them behind another.
-- Assumes nothing.
use Prim.Native.Nat.{ℕ, zero, suc, ◌+◌, ◌-◌, ◌≤◌}
use mathlib.Core.Path.{◌≡◌, refl, sym, ap, ◌∙◌, subst}
use mathlib.Core.Bool.{true, ◌&&◌}
use mathlib.Core.List.{List, [], ◌∷◌, ◌++◌}
use native.Mathlib.Omega.{arith}
use borrow.Author.Tests.{eq-eqb, le-leb, eqb-true}
use lib.Dec.{eqb, leb}
use Rattle.rules.specs.declared.Span.{Span}
use Rattle.rules.specs.Rows.{◌up_to◌}
use Rattle.rules.specs.View.{each, along}
use Rattle.rules.specs.WellFormed.{consecutive}
use Rattle.laws.proofs.Tests.{and_left, and_right}
use Rattle.accepted.proofs.Padding.{and_both}

-- a span, and those behind it
pub first-span : (a b c : ℕ) (s : Span) (l : List Span) → s ≡ a up_to b → a ≤ b → consecutive b c l ≡ true → consecutive a c (s ∷ l) ≡ true
first-span a b c s l e h k =
    let whole : consecutive a c ((a up_to b) ∷ l) ≡ true = and_both (eq-eqb a a refl) (and_both (le-leb a b h) k) in
    subst (λ (x : Span). consecutive a c (x ∷ l) ≡ true) (sym e) whole

pub no_span_lem : (a : ℕ) → consecutive a a [] ≡ true
no_span_lem a = eq-eqb a a refl

pub join : (a b c : ℕ) (l m : List Span) → consecutive a b l ≡ true → consecutive b c m ≡ true → consecutive a c (l ++ m) ≡ true
join a b c [] m h k = subst (λ (x : ℕ). consecutive x c m ≡ true) (sym (eqb-true a b h)) k
join a b c (s ∷ l) m h k =
    let r = and_right (eqb s.first a) (leb a s.past && consecutive s.past b l) h in
    and_both (and_left (eqb s.first a) (leb a s.past && consecutive s.past b l) h)
    (and_both (and_left (leb a s.past) (consecutive s.past b l) r) (join s.past b c l m (and_right (leb a s.past) (consecutive s.past b l) r) k))

pub each_split : {A : Type 0} (F : ℕ → A) (a n m : ℕ) → each F a (n + m) ≡ each F a n ++ each F (a + n) m
each_split F a zero m = let e : zero + m ≡ m = omega arith in let d : a + zero ≡ a = omega arith in rw (e, d) refl
each_split F a (suc n) m =
    let e : suc n + m ≡ suc (n + m) = omega arith in
    let d : a + suc n ≡ a + 1 + n = omega arith in
    rw (e, d) (ap (λ l. F a ∷ l) (each_split F (a + 1) n m))

pub no_rows : (F : ℕ → Span) (o m p : ℕ) → p ≡ m → consecutive o o (each F m (p - m)) ≡ true
no_rows F o m p e = let z : p - m ≡ 0 = omega arith in rw z (no_span_lem o)

-- the spans of an item: those of its statements up to the middle and from it on, and its own behind or between them
module _ (F : ℕ → Span) (f m p : ℕ) (h : f ≤ m) (k : m ≤ p) where
  pub own_behind : (o₀ o₁ o₂ o₃ : ℕ) → consecutive o₀ o₁ (each F f (m - f)) ≡ true → consecutive o₁ o₂ (each F m (p - m)) ≡ true → o₂ ≤ o₃ → consecutive o₀ o₃ (along F (f up_to p) ++ ((o₂ up_to o₃) ∷ [])) ≡ true
  own_behind o₀ o₁ o₂ o₃ x y z =
      let e : p - f ≡ (m - f) + (p - m) = omega arith in
      let d : f + (m - f) ≡ m = omega arith in
      let rows : each F f (p - f) ≡ each F f (m - f) ++ each F m (p - m) = ap (each F f) e ∙ each_split F f (m - f) (p - m) ∙ ap (λ (i : ℕ). each F f (m - f) ++ each F i (p - m)) d in
      let both : consecutive o₀ o₂ (each F f (p - f)) ≡ true = subst (λ (l : List Span). consecutive o₀ o₂ l ≡ true) (sym rows) (join o₀ o₁ o₂ (each F f (m - f)) (each F m (p - m)) x y) in
      join o₀ o₂ o₃ (each F f (p - f)) ((o₂ up_to o₃) ∷ []) both (first-span o₂ o₃ o₃ (o₂ up_to o₃) [] refl z (no_span_lem o₃))

  pub own_between : (a₀ a₁ a₂ a₃ : ℕ) → consecutive a₀ a₁ (each F f (m - f)) ≡ true → a₁ ≤ a₂ → consecutive a₂ a₃ (each F m (p - m)) ≡ true → consecutive a₀ a₃ (along F (f up_to m) ++ ((a₁ up_to a₂) ∷ along F (m up_to p))) ≡ true
  own_between a₀ a₁ a₂ a₃ x z y = join a₀ a₁ a₃ (each F f (m - f)) ((a₁ up_to a₂) ∷ each F m (p - m)) x (first-span a₁ a₂ a₃ (a₁ up_to a₂) (each F m (p - m)) refl z y)
