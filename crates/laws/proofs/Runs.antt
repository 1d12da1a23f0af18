-- Laws of `count`, `far`, `same`, `in_any` at the rest of a list from i on, which is where a loop stands; and that a lent part up to the end is that rest.
-- Assumes nothing.
use mathlib.Core.Path.{◌≡◌, refl, sym, ap, ◌∙◌}
use mathlib.Core.Bool.{Bool, true, false, cond, ◌&&◌, ◌||◌}
use mathlib.Core.List.{List, [], ◌∷◌}
use Prim.Native.Nat.{ℕ, zero, suc, ◌+◌, ◌-◌, ◌≤◌, ◌<◌}
use native.Mathlib.Nat.{zero-add, suc-add, le_of_suc-le-suc, not-suc-le-zero, le_refl}
use native.Mathlib.Numerals.{add-one, one-add}
use native.Mathlib.Omega.{arith}
use lib.Dec.{eqb, eqb-suc-zero}
use lib.ListN.{length, get_or, drop, take, drop_of_length-le, length-drop}
use lib.Seq.{drop-cons, drop-drop, take_all}
use Rattle.rules.specs.Bytes.{count, far, same, inside}
use Rattle.rules.specs.declared.Range.{Range}
use Rattle.rules.specs.Space.{in_any}

module _ (s : List ℕ) (i : ℕ) where
  -- `&s[i..]`
  pub rest : take (length s - i) (drop i s) ≡ drop i s
  rest = take_all (length s - i) (drop i s) (simp length-drop (le_refl _))

module _ (p : ℕ → Bool) (s : List ℕ) (i : ℕ) where
  pub count_more : i < length s → p (get_or s i 0) ≡ true → count p (drop i s) ≡ 1 + count p (drop (i + 1) s)
  count_more h e = rw (add-one, one-add, drop-cons s i 0, e)

  pub count-stop : i < length s → p (get_or s i 0) ≡ false → count p (drop i s) ≡ 0
  count-stop h e = rw (drop-cons s i 0, e)

  pub count-end : length s ≤ i → count p (drop i s) ≡ 0
  count-end h = rw (drop_of_length-le s h)

count_le_if : (t : Bool) {m n : ℕ} → m ≤ n → cond t (suc m) 0 ≤ suc n
count_le_if true h = omega arith
count_le_if false h = omega arith

pub count-le : (p : ℕ → Bool) (s : List ℕ) → count p s ≤ length s
count-le p [] = omega arith
count-le p (x ∷ s) = count_le_if (p x) (count-le p s)

-- n is what a scanner counted of the rest that was lent
module _ (p : ℕ → Bool) (s : List ℕ) (i : ℕ) {n : ℕ} (e : n ≡ count p (take (length s - i) (drop i s))) where
  pub rest-count : n ≡ count p (drop i s)
  rest-count = e ∙ ap (count p) (rest s i)

  pub rest-fits : n ≤ length s - i
  rest-fits = rw (rest-count, ← length-drop i s) (count-le p (drop i s))

module _ (f : List ℕ → ℕ) where
  far_skip : (k : ℕ) (l : List ℕ) → k ≤ length l → far f k l ≡ k + far f 0 (drop k l)
  far_skip zero l h = sym (zero-add _)
  far_skip (suc k) [] h = absurd (not-suc-le-zero h)
  far_skip (suc k) (x ∷ l) h = ap suc (far_skip k l (le_of_suc-le-suc h)) ∙ sym (suc-add k _)

  far_by : (n : ℕ) (l : List ℕ) → f l ≡ n → 1 ≤ n → n ≤ length l → far f 0 l ≡ n + far f 0 (drop n l)
  far_by zero l e h k = absurd (not-suc-le-zero h)
  far_by (suc n) [] e h k = absurd (not-suc-le-zero k)
  far_by (suc n) (x ∷ l) e h k =
      let m : suc n - 1 ≡ n = omega arith in
      rw (e, eqb-suc-zero n, m) (ap suc (far_skip n l (le_of_suc-le-suc k)) ∙ sym (suc-add n _))

  far_none : (l : List ℕ) → f l ≡ 0 → far f 0 l ≡ 0
  far_none [] e = refl
  far_none (x ∷ l) e = rw e

  -- a loop stands at i, and n is what f says of the rest that was lent
  module _ (within : (l : List ℕ) → f l ≤ length l) (s : List ℕ) (i n : ℕ) where
    pub far-end : length s ≤ i → far f 0 (drop i s) ≡ 0
    far-end h = rw (drop_of_length-le s h)

    module _ (e : n ≡ f (take (length s - i) (drop i s))) where
      here : f (drop i s) ≡ n
      here = sym (e ∙ ap f (rest s i))

      pub far-stop : n ≡ 0 → far f 0 (drop i s) ≡ 0
      far-stop z = far_none (drop i s) (here ∙ z)

      pub far-fits : n ≤ length s - i
      far-fits = rw (← length-drop i s, ← here) (within (drop i s))

      pub far_more : 1 ≤ n → far f 0 (drop i s) ≡ n + far f 0 (drop (i + n) s)
      far_more h = rw (← drop-drop n i s) (far_by n (drop i s) here h (rw length-drop far-fits))

module _ (a b : List ℕ) (i : ℕ) where
  pub same_more : i < length a → i < length b → same (drop i a) (drop i b) ≡ (eqb (get_or a i 0) (get_or b i 0) && same (drop (i + 1) a) (drop (i + 1) b))
  unfolding same
  same_more h k = rw (add-one, drop-cons a i 0, drop-cons b i 0)

  pub same_end : length a ≤ i → length b ≤ i → same (drop i a) (drop i b) ≡ true
  unfolding same
  same_end h k = rw (drop_of_length-le a h, drop_of_length-le b k)

pub in_more : (a : List Range) (i : ℕ) (d : Range) (c : ℕ) → i < length a → in_any (drop i a) c ≡ (inside (get_or a i d).lo (get_or a i d).hi c || in_any (drop (i + 1) a) c)
in_more a i d c h = rw (add-one, drop-cons a i d)

and_no : (t : Bool) {b : Bool} → b ≡ false → (t && b) ≡ false
and_no true e = e
and_no false e = refl

pub same_long : (a b : List ℕ) → (length a ≡ length b → ⊥) → same a b ≡ false
unfolding same
same_long [] [] h = absurd (h refl)
same_long [] (y ∷ b) h = refl
same_long (x ∷ a) [] h = refl
same_long (x ∷ a) (y ∷ b) h = and_no (eqb x y) (same_long a b (λ e. h (ap suc e)))

pub empty : (s : List ℕ) → length s < 1 → s ≡ []
empty [] h = refl
empty (x ∷ s) h = absurd (not-suc-le-zero (le_of_suc-le-suc h))
