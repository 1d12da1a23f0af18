-- What a store in the work area does to its marks and to its stack.
-- Assumes nothing.
use mathlib.Core.Path.{◌≡◌, refl, sym, ap, ◌∙◌, fun_ext}
use mathlib.Core.Bool.{Bool, false, cond, not, ◌&&◌}
use mathlib.Core.List.{List, ◌∷◌}
use Prim.Native.Nat.{ℕ, zero, suc, ◌+◌, ◌*◌, ◌/◌, ◌%◌, ◌≤◌, ◌<◌}
use native.Mathlib.Decide.{ℕ_discrete, dec_lt}
use native.Mathlib.Omega.{arith}
use lib.Dec.{eqb}
use lib.ListN.{length, get_or, set, take, length-set}
use lib.Seq.{get_or-set_same, get_or-set_other, get_or-take}
use borrow.Author.Tests.{lt-ltb, le-ltb}
use Rattle.listing.specs.Listing.{none, mark}
use Rattle.listing.specs.Machine.{Entry, trace, finished}
use Rattle.listing.specs.Work.{has_mark, with_mark, marks_of, entry_of, stack_of}
use Rattle.listing.proofs.Marking.{mark_same, mark-other}

-- ---- entries
pub entry_trace : (i : ℕ) → entry_of (2 * i) ≡ trace i
unfolding entry_of
entry_trace i =
    let e : 2 * i % 2 ≡ 0 = omega arith in
    let h : 2 * i / 2 ≡ i = omega arith in
    ap (λ (n : ℕ). cond (eqb n 1) (finished (2 * i / 2)) (trace (2 * i / 2))) e ∙ ap trace h

pub entry_finished : (i : ℕ) → entry_of (2 * i + 1) ≡ finished i
unfolding entry_of
entry_finished i =
    let e : (2 * i + 1) % 2 ≡ 1 = omega arith in
    let h : (2 * i + 1) / 2 ≡ i = omega arith in
    ap (λ (n : ℕ). cond (eqb n 1) (finished ((2 * i + 1) / 2)) (trace ((2 * i + 1) / 2))) e ∙ ap finished h

-- ---- the stack
-- a store before the stack, or at its top or above, leaves it as it is
pub stack_set : (w : List ℕ) (s j v t : ℕ) → s + t ≤ j → stack_of (set w j v) s t ≡ stack_of w s t
stack_set w s j v zero h = refl
stack_set w s j v (suc t) h =
    ap (λ (x : ℕ). entry_of x ∷ stack_of (set w j v) s t) (get_or-set_other w j (s + t) v 0 (λ e. omega arith))
    ∙ ap (λ (l : List Entry). entry_of (get_or w (s + t) 0) ∷ l) (stack_set w s j v t (omega arith))

pub stack-mark : (w : List ℕ) (s i t : ℕ) → i < s → stack_of (with_mark w i) s t ≡ stack_of w s t
unfolding with_mark
stack-mark w s i zero h = refl
stack-mark w s i (suc t) h =
    ap (λ (x : ℕ). entry_of x ∷ stack_of (set w i 1) s t) (get_or-set_other w i (s + t) 1 0 (λ e. omega arith))
    ∙ ap (λ (l : List Entry). entry_of (get_or w (s + t) 0) ∷ l) (stack-mark w s i t h)

pub stack_push : (w : List ℕ) (s t v : ℕ) → s + t < length w → stack_of (set w (s + t) v) s (suc t) ≡ entry_of v ∷ stack_of w s t
stack_push w s t v h =
    ap (λ (x : ℕ). entry_of x ∷ stack_of (set w (s + t) v) s t) (get_or-set_same w (s + t) v 0 h)
    ∙ ap (λ (l : List Entry). entry_of v ∷ l) (stack_set w s (s + t) v t (omega arith))

-- ---- marks
pub marks_at : (w : List ℕ) (s i : ℕ) → i < s → marks_of w s i ≡ has_mark w i
unfolding marks_of
marks_at w s i h = ap (λ (b : Bool). b && has_mark w i) (lt-ltb i s h)

marks-past : (w : List ℕ) (s i : ℕ) → s ≤ i → marks_of w s i ≡ false
unfolding marks_of
marks-past w s i h = ap (λ (b : Bool). b && has_mark w i) (le-ltb i s h)

-- marks are equal where each of the s rows has the same
marks_equal : (w v : List ℕ) (s : ℕ) → ((i : ℕ) → i < s → has_mark w i ≡ has_mark v i) → marks_of w s ≡ marks_of v s
marks_equal w v s f = fun_ext (λ i. at i (dec_lt i s))
  where
    at : (i : ℕ) → Dec (i < s) → marks_of w s i ≡ marks_of v s i
    at i (yes h) = marks_at w s i h ∙ f i h ∙ sym (marks_at v s i h)
    at i (no n) = marks-past w s i (omega arith) ∙ sym (marks-past v s i (omega arith))

pub marks-take : (w v : List ℕ) (s : ℕ) → take s w ≡ take s v → marks_of w s ≡ marks_of v s
unfolding has_mark
marks-take w v s e =
    marks_equal w v s
    (λ i h. ap (λ (n : ℕ). not (eqb n 0)) (sym (get_or-take s w i 0 h) ∙ ap (λ (l : List ℕ). get_or l i 0) e ∙ get_or-take s v i 0 h))

pub marks-set : (w : List ℕ) (s j v : ℕ) → s ≤ j → marks_of (set w j v) s ≡ marks_of w s
unfolding has_mark
marks-set w s j v h = marks_equal (set w j v) w s (λ i l. ap (λ (n : ℕ). not (eqb n 0)) (get_or-set_other w j i v 0 (λ e. omega arith)))

pub length-mark : (w : List ℕ) (i : ℕ) → length (with_mark w i) ≡ length w
unfolding with_mark
length-mark w i = length-set w i 1

pub marks-mark : (w : List ℕ) (s i : ℕ) → i < s → i < length w → marks_of (with_mark w i) s ≡ mark (marks_of w s) i
unfolding has_mark with_mark
marks-mark w s i h l = fun_ext (λ j. at j (ℕ_discrete j i) (dec_lt j s))
  where
    at : (j : ℕ) → Dec (j ≡ i) → Dec (j < s) → marks_of (set w i 1) s j ≡ mark (marks_of w s) i j
    at j (yes e) d =
        ap (marks_of (set w i 1) s) e
        ∙ marks_at (set w i 1) s i h
        ∙ ap (λ (n : ℕ). not (eqb n 0)) (get_or-set_same w i 1 0 l)
        ∙ sym (ap (mark (marks_of w s) i) e ∙ mark_same (marks_of w s) i)
    at j (no n) (yes k) =
        marks_at (set w i 1) s j k
        ∙ ap (λ (n : ℕ). not (eqb n 0)) (get_or-set_other w i j 1 0 n)
        ∙ sym (mark-other (marks_of w s) i j n ∙ marks_at w s j k)
    at j (no n) (no k) = marks-past (set w i 1) s j (omega arith) ∙ sym (mark-other (marks_of w s) i j n ∙ marks-past w s j (omega arith))

-- ---- what the loop of clear_marks keeps
pub record Clearing (w₀ : List ℕ) (s : ℕ) (w : List ℕ) (i : ℕ) : Type 0 where
  pub low : i ≤ s
  pub long : length w ≡ length w₀
  pub zeros : (j : ℕ) → j < i → get_or w j 0 ≡ 0

pub clearing_more : (w₀ : List ℕ) (s : ℕ) (w : List ℕ) (i : ℕ) → Clearing w₀ s w i → i < s → s ≤ length w₀ → Clearing w₀ s (set w i 0) (i + 1)
clearing_more w₀ s w i c l h =
    record { low = omega arith; long = length-set w i 0 ∙ c.long; zeros = λ j k. at j k (ℕ_discrete j i) }
  where
    at : (j : ℕ) → j < i + 1 → Dec (j ≡ i) → get_or (set w i 0) j 0 ≡ 0
    at j k (yes e) = ap (λ (n : ℕ). get_or (set w i 0) n 0) e ∙ get_or-set_same w i 0 0 (omega (arith, c.long))
    at j k (no n) = get_or-set_other w i j 0 0 n ∙ c.zeros j (omega arith)

pub clearing_done : (w₀ : List ℕ) (s : ℕ) (w : List ℕ) (i : ℕ) → Clearing w₀ s w i → s ≤ i → marks_of w s ≡ none
unfolding has_mark
clearing_done w₀ s w i c h = fun_ext (λ j. at j (dec_lt j s))
  where
    at : (j : ℕ) → Dec (j < s) → marks_of w s j ≡ false
    at j (yes k) = marks_at w s j k ∙ ap (λ (n : ℕ). not (eqb n 0)) (c.zeros j (omega arith))
    at j (no n) = marks-past w s j (omega arith)
