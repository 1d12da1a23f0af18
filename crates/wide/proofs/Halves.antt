-- Numbers of two halves, over the base B of a half.
-- Assumes nothing.
use mathlib.Core.Path.{◌≡◌, sym, ap, ◌∙◌}
use Prim.Native.Nat.{ℕ, suc, ◌+◌, ◌-◌, ◌*◌, ◌/◌, ◌%◌, ◌^◌, ◌≤◌, ◌<◌}
use native.Mathlib.Omega.{arith}
use native.Mathlib.Nat.{mul-le-mul_right, mod-eq_of_lt, add-mod_right, mod-lt, div-add-mod'}
use lib.Dec.{eqb, leb, ltb}
use borrow.Author.Tests.{eq-eqb, leb-true, leb-false}
use Rattle.rules.specs.Integers.{opposite}
use Rattle.wide.specs.declared.Wide.{Wide}
use Rattle.rules.specs.declared.Words.{Words}
use Rattle.rules.specs.Rows.{words_of, bits_of}
use Rattle.wide.specs.Wide.{bits}
use Rattle.laws.proofs.Cases.{by_cases, leb_iff, eqb_iff}
use Rattle.laws.proofs.Opposite.{opposite_is}

module _ (B : ℕ) where
  pub lt_high : {h k : ℕ} (l m : ℕ) → h < k → l < B → h * B + l < k * B + m
  lt_high l m a b = omega (arith, mul-le-mul_right B a)

  pub le_high : {h k : ℕ} (m : ℕ) → h ≤ k → h * B ≤ k * B + m
  le_high m a = omega (arith, mul-le-mul_right B a)

  -- a test of the high half alone
  pub leb_high : (s h l : ℕ) → l < B → leb s h ≡ leb (s * B) (h * B + l)
  leb_high s h l b =
      leb_iff s h (s * B) (h * B + l) (le_high l)
      (λ k. by_cases (leb s h) (leb-true s h) (λ e. let w : h * B + l < s * B + 0 = lt_high l 0 (leb-false s h e) b in omega arith))

  -- both halves are the same
  pub same_halves : (h l k m : ℕ) → l < B → m < B → h * B + l ≡ k * B + m → h ≡ k
  same_halves h l k m a b e =
      let up : h ≤ k = by_cases (leb h k) (leb-true h k) (λ f. let w : k * B + m < h * B + l = lt_high m l (leb-false h k f) b in omega arith) in
      let down : k ≤ h = by_cases (leb k h) (leb-true k h) (λ f. let w : h * B + l < k * B + m = lt_high l m (leb-false k h f) a in omega arith) in
      omega arith

  pub only-low : {h : ℕ} (l : ℕ) → h ≡ 0 → h * B + l ≡ l
  only-low l e = omega (arith, ap (λ (x : ℕ). x * B) e)

  pub some_high : {h : ℕ} (l n : ℕ) → (h ≡ 0 → ⊥) → n ≤ B → n ≤ h * B + l
  some_high {h} l n a b = let k : 1 ≤ h = omega arith in let w : 1 * B ≤ h * B + l = le_high l k in omega arith

  pub ltb-low : {h k : ℕ} (l m : ℕ) → h ≡ k → ltb l m ≡ ltb (h * B + l) (k * B + m)
  ltb-low {h} {k} l m e = let g : h * B ≡ k * B = ap (λ (x : ℕ). x * B) e in leb_iff (suc l) m (suc (h * B + l)) (k * B + m) (omega arith) (omega arith)

  pub eqb-low : {h k : ℕ} (l m : ℕ) → h ≡ k → eqb l m ≡ eqb (h * B + l) (k * B + m)
  eqb-low {h} {k} l m e = let g : h * B ≡ k * B = ap (λ (x : ℕ). x * B) e in eqb_iff l m (h * B + l) (k * B + m) (omega arith) (omega arith)

  -- what is left to B * B
  pub rest-low : (h h' l l' : ℕ) → h' + h + 1 ≡ B → l' + l ≡ B → h' * B + l' ≡ B * B - (h * B + l)
  rest-low h h' l l' e f = let g : (h' + h + 1) * B ≡ B * B = ap (λ (x : ℕ). x * B) e in omega arith

  pub rest_high : (h h' l : ℕ) → h' + h ≡ B → l ≡ 0 → h' * B + 0 ≡ B * B - (h * B + l)
  rest_high h h' l e z = let g : (h' + h) * B ≡ B * B = ap (λ (x : ℕ). x * B) e in omega arith

  -- ten times, where c is carried to the high half
  pub ten_high : (h l d c x : ℕ) → c * B + x ≡ l * 10 + d → (h * 10 + c) * B + x ≡ (h * B + l) * 10 + d
  ten_high h l d c x e = omega arith

  -- the sign is flipped
  pub flip_up : (s h l : ℕ) → s + s ≡ B → h < s → l < B → (h + s) * B + l ≡ (h * B + l + s * B) % (B * B)
  flip_up s h l e a b =
      let w : (h + s) * B + l < B * B + 0 = lt_high l 0 (omega arith) b in
      let v : (h + s) * B + l ≡ h * B + l + s * B = omega arith in
      v ∙ sym (mod-eq_of_lt (omega arith))

  pub flip_down : (s h l : ℕ) → s + s ≡ B → s ≤ h → h < B → l < B → (h - s) * B + l ≡ (h * B + l + s * B) % (B * B)
  flip_down s h l e a k b =
      let g : (s + s) * B ≡ B * B = ap (λ (x : ℕ). x * B) e in
      let f : (h - s + s) * B ≡ h * B = ap (λ (x : ℕ). x * B) (omega arith) in
      let w : (h - s) * B + l < B * B + 0 = lt_high l 0 (omega arith) b in
      let v : (h - s) * B + l + B * B ≡ h * B + l + s * B = omega arith in
      sym (mod-eq_of_lt (omega arith)) ∙ sym (add-mod_right ((h - s) * B + l) (B * B)) ∙ ap (λ (x : ℕ). x % (B * B)) v

pub wide_below : (h l : ℕ) → h < 2 ^ 64 → l < 2 ^ 64 → h * 2 ^ 64 + l < 2 ^ 128
wide_below h l a b = lt_high (2 ^ 64) l 0 a b

-- the bits tell both halves, and all four words: there is one integer of given bits, and one row
pub halves_told : (B h l k m : ℕ) → l < B → m < B → h * B + l ≡ k * B + m → (h ≡ k) × (l ≡ m)
halves_told B h l k m a b e =
    let f : h ≡ k = same_halves B h l k m a b e in
    let g : h * B ≡ k * B = ap (λ (x : ℕ). x * B) f in
    (f, omega arith)

pub bits_told : (v w : Wide) → v.lo < 2 ^ 64 → w.lo < 2 ^ 64 → bits v ≡ bits w → (v.hi ≡ w.hi) × (v.lo ≡ w.lo)
bits_told v w a b e = halves_told (2 ^ 64) v.hi v.lo w.hi w.lo a b e

pub record InWords (w : Words) : Type 0 where
  pub b_fits : w.b < 2 ^ 32
  pub c_fits : w.c < 2 ^ 32
  pub d_fits : w.d < 2 ^ 32

pub words_told : (v w : Words) → InWords v → InWords w → bits_of v ≡ bits_of w → ((v.a ≡ w.a) × (v.b ≡ w.b)) × ((v.c ≡ w.c) × (v.d ≡ w.d))
words_told v w f g e =
    let low : (x : Words) → InWords x → x.c * 2 ^ 32 + x.d < 2 ^ 64 = λ x h. lt_high (2 ^ 32) x.d 0 h.c_fits h.d_fits in
    let both = halves_told (2 ^ 64) (v.a * 2 ^ 32 + v.b) (v.c * 2 ^ 32 + v.d) (w.a * 2 ^ 32 + w.b) (w.c * 2 ^ 32 + w.d) (low v f) (low w g) e in
    (halves_told (2 ^ 32) v.a v.b w.a w.b f.b_fits g.b_fits both.0, halves_told (2 ^ 32) v.c v.d w.c w.d f.d_fits g.d_fits both.1)

-- minus a number, in two's complement
pub opposite-zero : (b : ℕ) → b ≡ 0 → b ≡ opposite b
opposite-zero b e = e ∙ sym (rw (eq-eqb b 0 e))

pub opposite_some : (b r : ℕ) → 0 < b → r ≡ 2 ^ 128 - b → r ≡ opposite b
opposite_some b r h e = e ∙ sym (opposite_is b h)

-- the high half and the low half of a number
pub high_half : (B h l : ℕ) → l < B → (h * B + l) / B ≡ h
high_half B h l b = same_halves B ((h * B + l) / B) ((h * B + l) % B) h l (mod-lt (h * B + l) (omega arith)) b (div-add-mod' (h * B + l) B)

pub low_half : (B h l : ℕ) → l < B → (h * B + l) % B ≡ l
low_half B h l b = (halves_told B ((h * B + l) / B) ((h * B + l) % B) h l (mod-lt (h * B + l) (omega arith)) b (div-add-mod' (h * B + l) B)).1

pub words_of_lem : (w : Wide) → w.lo < 2 ^ 64 → record { a = w.hi / 2 ^ 32; b = w.hi % 2 ^ 32; c = w.lo / 2 ^ 32; d = w.lo % 2 ^ 32 } ≡ words_of (bits w)
words_of_lem w f = rw (high_half (2 ^ 64) w.hi w.lo f, low_half (2 ^ 64) w.hi w.lo f)
