-- The place of refusal 2 is the first byte of the first bad sequence: it is in the text, the text before it is well-formed UTF-8, and no well-formed sequence stands there.
-- Assumes nothing.
use Prim.Native.Nat.{ℕ, zero, suc, ◌-◌, ◌≤◌, ◌<◌}
use mathlib.Core.Path.{◌≡◌, refl, sym, ap, ◌∙◌}
use mathlib.Core.Bool.{true, true≢false}
use mathlib.Core.List.{List, [], ◌∷◌}
use native.Mathlib.Nat.{le_of_suc-le-suc, not-suc-le-zero}
use native.Mathlib.Omega.{arith}
use borrow.Author.Tests.{eqb-true, eqb-false, eq-eqb}
use lib.Dec.{eqb}
use lib.ListN.{length, take, drop, length-take}
use Rattle.rules.specs.declared.Range.{Range}
use Rattle.std.specs.Prelude.{Ok, Err}
use Rattle.rules.specs.Bytes.{inside, far}
use Rattle.rules.specs.Utf8.{sequences, lies, longest, seq_len, Checked, checked, bad_at}
use Rattle.promises.specs.Sequences.{FirstBad}
use Rattle.laws.proofs.Cases.{by_cases}
use Rattle.laws.proofs.Spaces.{far-le}
use Rattle.laws.proofs.Tests.{and_left, and_right}
use Rattle.laws.proofs.Within.{seq_len-le}

-- ---- a sequence is known by its own bytes: a cut behind it changes nothing
lies_more : (rs : List Range) (m : ℕ) (s : List ℕ) → lies rs (take m s) ≡ true → lies rs s ≡ true
lies_more [] m s h = refl
lies_more (r ∷ rs) zero s h = absurd (true≢false (sym h))
lies_more (r ∷ rs) (suc m) [] h = absurd (true≢false (sym h))
lies_more (r ∷ rs) (suc m) (b ∷ s) h =
    rw (and_left (inside r.lo r.hi b) (lies rs (take m s)) h) (lies_more rs m s (and_right (inside r.lo r.hi b) (lies rs (take m s)) h))

lies-cut : (rs : List Range) (m : ℕ) (s : List ℕ) → length rs ≤ m → lies rs s ≡ true → lies rs (take m s) ≡ true
lies-cut [] m s l h = refl
lies-cut (r ∷ rs) zero s l h = absurd (not-suc-le-zero l)
lies-cut (r ∷ rs) (suc m) [] l h = absurd (true≢false (sym h))
lies-cut (r ∷ rs) (suc m) (b ∷ s) l h =
    rw (and_left (inside r.lo r.hi b) (lies rs s) h) (lies-cut rs m s (le_of_suc-le-suc l) (and_right (inside r.lo r.hi b) (lies rs s) h))

longest-cut : (rows : List (List Range)) (m : ℕ) (s : List ℕ) → 1 ≤ longest rows s → longest rows s ≤ m → longest rows (take m s) ≡ longest rows s
longest-cut [] m s = λ some l. refl
longest-cut (r ∷ rows) m s =
    by_cases (lies r s)
    (λ h. rw h (λ some l. rw (lies-cut r m s l h) refl))
    (λ h.
    rw h
    (λ some l.
    by_cases (lies r (take m s))
    (λ k. absurd (true≢false (sym (lies_more r m s k) ∙ h)))
    (λ k. rw k (longest-cut rows m s some l))))

sequence_cut : (m : ℕ) (s : List ℕ) → 1 ≤ seq_len s → seq_len s ≤ m → seq_len (take m s) ≡ seq_len s
unfolding seq_len
sequence_cut m s = longest-cut sequences m s

-- ---- how far whole sequences go
-- at least past the elements that are passed over
far-past : (k : ℕ) (s : List ℕ) → k ≤ length s → k ≤ far seq_len k s
far-past zero s h = omega arith
far-past (suc k) [] h = absurd (not-suc-le-zero h)
far-past (suc k) (x ∷ s) h = omega (arith, far-past k s (le_of_suc-le-suc h))

-- where they end no sequence stands
far_stops : (k : ℕ) (s : List ℕ) → far seq_len k s < length s → seq_len (drop (far seq_len k s) s) ≡ 0
far_stops k [] = λ h. absurd (not-suc-le-zero h)
far_stops (suc k) (x ∷ s) = λ h. far_stops k s (le_of_suc-le-suc h)
far_stops zero (x ∷ s) =
    by_cases (eqb (seq_len (x ∷ s)) 0)
    (λ t. rw t (λ h. eqb-true (seq_len (x ∷ s)) 0 t))
    (λ t. rw t (λ h. far_stops (seq_len (x ∷ s) - 1) s (le_of_suc-le-suc h)))

-- and up to there they go as far in the text cut there
far-cut : (k : ℕ) (s : List ℕ) → k ≤ length s → far seq_len k (take (far seq_len k s) s) ≡ far seq_len k s
far-cut zero [] l = refl
far-cut (suc k) [] l = absurd (not-suc-le-zero l)
far-cut (suc k) (x ∷ s) l = ap suc (far-cut k s (le_of_suc-le-suc l))
far-cut zero (x ∷ s) l =
    by_cases (eqb (seq_len (x ∷ s)) 0)
    (λ t. rw t refl)
    (λ t.
    let some = eqb-false (seq_len (x ∷ s)) 0 t in
    let fits = seq_len-le (x ∷ s) in
    let n : ℕ = seq_len (x ∷ s) - 1 in
    let on = far-past n s (omega arith) in
    let cut : seq_len (x ∷ take (far seq_len n s) s) ≡ seq_len (x ∷ s) = sequence_cut (suc (far seq_len n s)) (x ∷ s) (omega arith) (omega arith) in
    rw t (rw cut (rw t (ap suc (far-cut n s (omega arith))))))

whole-checked : (s : List ℕ) → far seq_len 0 s ≡ length s → checked s ≡ Ok tt
whole-checked s h = rw (eq-eqb (far seq_len 0 s) (length s) h) refl

-- the place that a refusal names
abbrev place : Checked → ℕ
place (Ok u) = 0
place (Err e) = e.at

pub same_place : {p q : ℕ} → bad_at p ≡ bad_at q → p ≡ q
same_place h = ap place h

pub first_bad : (text : List ℕ) (p : ℕ) → checked text ≡ bad_at p → FirstBad text p
first_bad text p =
    by_cases (eqb (far seq_len 0 text) (length text))
    (λ t. rw t (λ q. absurd (let z : ◌≡◌ {A = ℕ} 0 1 = cc in let n : ⊥ = omega arith in n)))
    (λ t. rw t (λ q. let same : far seq_len 0 text ≡ p = same_place q in rw (← same) (at_far (eqb-false (far seq_len 0 text) (length text) t))))
  where
    at_far : (far seq_len 0 text ≡ length text → ⊥) → FirstBad text (far seq_len 0 text)
    at_far ne =
        let n : ℕ = far seq_len 0 text in
        let low : n ≤ length text = far-le seq_len 0 text in
        let long : length (take n text) ≡ n = (let c = length-take n text in omega arith) in
        record {
          within = omega arith;
          before = whole-checked (take n text) (far-cut 0 text (omega arith) ∙ sym long);
          there = far_stops 0 text (omega arith);
        }
