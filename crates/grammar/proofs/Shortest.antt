-- A number prints no longer than it was written.
-- Assumes nothing.
use mathlib.Core.Path.{◌≡◌, refl, sym, ap, ◌∙◌, subst}
use mathlib.Core.Bool.{Bool, true, false, cond}
use mathlib.Core.List.{List, [], ◌∷◌, ◌++◌}
use Prim.Native.Nat.{ℕ, zero, suc, ◌+◌, ◌-◌, ◌*◌, ◌/◌, ◌%◌, ◌^◌, ◌≤◌, ◌<◌, suc-le-suc}
use native.Mathlib.Nat.{le_refl, le_trans, mul-le-mul_right, mul_assoc, mul_comm, one-mul, pow-suc}
use native.Mathlib.Omega.{arith}
use lib.Dec.{eqb, leb, ltb}
use lib.ListN.{length, length-append}
use borrow.Author.Tests.{eqb-true, eqb-false, ltb-true, ltb-false, leb-true, le-leb, ne_eqb}
use Rattle.rules.specs.Bytes.{inside, digit}
use Rattle.rules.specs.Integers.{Read, number, refused, behind, unsigned, below, fits, opposite, minus, integer, positive, type_width, spell, digits, decimal}
use Rattle.laws.proofs.Same.{by_cond}
use Rattle.laws.proofs.Cases.{by_cases}
use Rattle.laws.proofs.Tests.{and_right}
use Rattle.bynames.proofs.Decimals.{decimal-digits}

-- ---- digits
spell-short : (f n k : ℕ) → n < 10 ^ k → 1 ≤ k → length (spell f n) ≤ k
spell-short zero n k h i = omega arith
spell-short (suc f) n zero h i = absurd (let z : ⊥ = omega arith in z)
spell-short (suc f) n (suc zero) h i = by_cond (λ (l : List ℕ). length l ≤ 1) (ltb n 10) ((48 + n) ∷ []) (spell f (n / 10) ++ ((48 + n % 10) ∷ [])) (λ e. omega arith) (λ e. absurd (let q = ltb-false n 10 e in let z : ⊥ = omega arith in z))
spell-short (suc f) n (suc (suc k)) h i =
    by_cond (λ (l : List ℕ). length l ≤ suc (suc k)) (ltb n 10) ((48 + n) ∷ []) (spell f (n / 10) ++ ((48 + n % 10) ∷ [])) (λ e. omega arith)
    (λ e. let less : n / 10 < 10 ^ suc k = omega arith in let ih = spell-short f (n / 10) (suc k) less (omega arith) in simp length-append (omega arith))

digit_value : (b : ℕ) → digit b ≡ true → b - 48 < 10
unfolding digit inside
digit_value b e = let h : b ≤ 57 = leb-true b 57 (and_right (leb 48 b) (leb b 57) e) in omega arith

-- what is read is below the power of ten of its digits
behind-below : (l : List ℕ) (a v : ℕ) → behind a l ≡ number v → v < suc a * 10 ^ length l
behind-below [] a v e = let same : a ≡ v = cc in omega arith
behind-below (b ∷ l) a v e = by (digit b) refl e (behind-below l (a * 10 + (b - 48)) v)
  where
    by : (t : Bool) → digit b ≡ t → cond t (behind (a * 10 + (b - 48)) l) refused ≡ number v → (behind (a * 10 + (b - 48)) l ≡ number v → v < suc (a * 10 + (b - 48)) * 10 ^ length l) → v < suc a * 10 ^ suc (length l)
    by true d e ih =
        let low : b - 48 < 10 = digit_value b d in
        let up : suc (a * 10 + (b - 48)) * 10 ^ length l ≤ suc a * 10 * 10 ^ length l = mul-le-mul_right (10 ^ length l) (omega arith) in
        let same : suc a * 10 * 10 ^ length l ≡ suc a * 10 ^ suc (length l) = mul_assoc (suc a) 10 (10 ^ length l) ∙ ap (λ (z : ℕ). suc a * z) (mul_comm 10 (10 ^ length l) ∙ sym (pow-suc 10 (length l))) in
        subst (λ (z : ℕ). v < z) same (le_trans (ih e) up)
    by false d e ih = absurd (let z : ◌≡◌ {A = ℕ} 0 1 = cc in let n : ⊥ = omega arith in n)

digits-short : (l : List ℕ) (v : ℕ) → unsigned l ≡ number v → length (digits v) ≤ length l
unfolding digits
digits-short [] v e = absurd (let z : ◌≡◌ {A = ℕ} 0 1 = cc in let n : ⊥ = omega arith in n)
digits-short (b ∷ l) v e = let h : v < 10 ^ length (b ∷ l) = subst (λ (z : ℕ). v < z) (one-mul (10 ^ length (b ∷ l))) (behind-below (b ∷ l) 0 v e) in spell-short 39 v (length (b ∷ l)) h (omega arith)

-- ---- what is below a bound is what was read
below-read : (n : ℕ) (r : Read) (v : ℕ) → below n r ≡ number v → (r ≡ number v) × (v < n)
below-read n (number u) v e = by (ltb u n) refl e
  where
    by : (t : Bool) → ltb u n ≡ t → cond t (number u) refused ≡ number v → (number u ≡ number v) × (v < n)
    by true h e = let same : u ≡ v = cc in (e, subst (λ (z : ℕ). z < n) same (ltb-true u n h))
    by false h e = absurd (let z : ◌≡◌ {A = ℕ} 0 1 = cc in let n : ⊥ = omega arith in n)
below-read n refused v e = absurd (let z : ◌≡◌ {A = ℕ} 0 1 = cc in let n : ⊥ = omega arith in n)

-- ---- integers
unsigned-short : (w : List ℕ) (c : ℕ) → below (2 ^ 127) (unsigned w) ≡ number c → length (decimal c) ≤ length w
unsigned-short w c e = let b = below-read (2 ^ 127) (unsigned w) c e in rw (decimal-digits c b.1) (digits-short w c b.0)

-- what is left to M, where T is its half
record Rest (M T v : ℕ) : Type 0 where
  half : T ≤ M - v
  twice : M - (M - v) ≡ v
  some : 0 < M - v

rest : (M T v : ℕ) → M ≡ T + T → 0 < T → v < T + 1 → Rest M T v
rest M T v e z h = record { half = omega arith; twice = omega arith; some = omega arith }

opposite_some : (v : ℕ) → (v ≡ 0 → ⊥) → opposite v ≡ 2 ^ 128 - v
opposite_some v n = rw (ne_eqb v 0 n)

negative-decimal : (c v : ℕ) → 2 ^ 127 ≤ c → opposite c ≡ v → decimal c ≡ 45 ∷ digits v
unfolding decimal
negative-decimal c v h e = rw (le-leb (2 ^ 127) c h) (ap (λ (z : ℕ). 45 ∷ digits z) e)

zero-opposite : length (decimal (opposite 0)) ≤ suc (length (digits 0))
unfolding decimal
zero-opposite = omega arith

decimal-opposite : (v : ℕ) → v < 2 ^ 127 + 1 → length (decimal (opposite v)) ≤ suc (length (digits v))
decimal-opposite v h = by_cases (eqb v 0) (λ e. none (eqb-true v 0 e)) (λ e. some (eqb-false v 0 e))
  where
    none : v ≡ 0 → length (decimal (opposite v)) ≤ suc (length (digits v))
    none e = subst (λ (z : ℕ). length (decimal (opposite z)) ≤ suc (length (digits z))) (sym e) zero-opposite

    apart : (m : ℕ) → 0 < m → m ≡ 0 → ⊥
    apart m k e = omega arith

    some : (v ≡ 0 → ⊥) → length (decimal (opposite v)) ≤ suc (length (digits v))
    some n =
        let r = rest (2 ^ 128) (2 ^ 127) v refl (leb-true 1 (2 ^ 127) refl) h in
        let e : decimal (opposite v) ≡ 45 ∷ digits v = ap decimal (opposite_some v n) ∙ negative-decimal (2 ^ 128 - v) v r.half (opposite_some (2 ^ 128 - v) (apart (2 ^ 128 - v) r.some) ∙ r.twice) in
        subst (λ (z : List ℕ). length z ≤ suc (length (digits v))) (sym e) (le_refl (suc (length (digits v))))

minus-short : (l : List ℕ) (r : Read) (c : ℕ) → ((v : ℕ) → r ≡ number v → (length (digits v) ≤ length l) × (v < 2 ^ 127 + 1)) → minus r ≡ number c → length (decimal c) ≤ suc (length l)
minus-short l (number v) c f e =
    let same : opposite v ≡ c = cc in
    let g = f v refl in
    subst (λ (z : ℕ). length (decimal z) ≤ suc (length l)) same (le_trans (decimal-opposite v g.1) (suc-le-suc g.0))
minus-short l refused c f e = absurd (let z : ◌≡◌ {A = ℕ} 0 1 = cc in let n : ⊥ = omega arith in n)

pub integer-short : (w : List ℕ) (c : ℕ) → integer w ≡ number c → length (decimal c) ≤ length w
unfolding integer
integer-short [] c e = unsigned-short [] c e
integer-short (b ∷ l) c e = by (eqb b 45) e
  where
    by : (t : Bool) → cond t (minus (below (2 ^ 127 + 1) (unsigned l))) (below (2 ^ 127) (unsigned (b ∷ l))) ≡ number c → length (decimal c) ≤ suc (length l)
    by true e = minus-short l (below (2 ^ 127 + 1) (unsigned l)) c (λ v q. let g = below-read (2 ^ 127 + 1) (unsigned l) v q in (digits-short l v g.0, g.1)) e
    by false e = unsigned-short (b ∷ l) c e

pub field-short : (width : ℕ) (w : List ℕ) (c : ℕ) → fits width (integer w) ≡ number c → length (decimal c) ≤ length w
field-short width w c e = integer-short w c (below-read (2 ^ width) (integer w) c e).0

-- ---- the width of a type, without its 'i'
positive-read : (r : Read) (c : ℕ) → positive r ≡ number c → r ≡ number c
positive-read (number v) c e = by (eqb v 0) e
  where
    by : (t : Bool) → cond t refused (number v) ≡ number c → number v ≡ number c
    by true e = absurd (let z : ◌≡◌ {A = ℕ} 0 1 = cc in let n : ⊥ = omega arith in n)
    by false e = e
positive-read refused c e = e

pub width_short : (w : List ℕ) (c : ℕ) → type_width w ≡ number c → suc (length (decimal c)) ≤ length w
unfolding type_width
width_short [] c e = absurd (let z : ◌≡◌ {A = ℕ} 0 1 = cc in let n : ⊥ = omega arith in n)
width_short (b ∷ l) c e = by (eqb b 105) e
  where
    by : (t : Bool) → cond t (positive (fits 16 (unsigned l))) refused ≡ number c → suc (length (decimal c)) ≤ suc (length l)
    by true e =
        let g = below-read (2 ^ 16) (unsigned l) c (positive-read (fits 16 (unsigned l)) c e) in
        rw (decimal-digits c (le_trans g.1 (leb-true (2 ^ 16) (2 ^ 127) refl))) (suc-le-suc (digits-short l c g.0))
    by false e = absurd (let z : ◌≡◌ {A = ℕ} 0 1 = cc in let n : ⊥ = omega arith in n)
