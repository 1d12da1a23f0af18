-- Marks taken away in a part of the work area.
-- Assumes nothing.
use mathlib.Core.Path.{◌≡◌, sym, ap, ◌∙◌, fun_ext}
use mathlib.Core.Logic.{⊎_elim}
use mathlib.Core.Bool.{Bool, true, false, false≢true, not, ◌&&◌}
use mathlib.Core.List.{List, ◌++◌}
use Prim.Native.Nat.{ℕ, ◌+◌, ◌-◌, ◌≤◌, ◌<◌}
use native.Mathlib.Decide.{dec_lt}
use native.Mathlib.Omega.{arith}
use borrow.Author.Tests.{lt-ltb, le-ltb}
use borrow.Rule.Slice.PartMut.{mid_of, post_of, put_mid}
use lib.Dec.{eqb, ltb}
use lib.ListN.{length, get_or, take, drop, length-drop, get_or-append}
use lib.Seq.{get_or-append-add, get_or-take, get_or-drop, length-take-le}
use Rattle.rules.specs.declared.Span.{Span}
use Rattle.rules.specs.Meaning.{Mem, All}
use Rattle.laws.proofs.Cases.{by_cases}
use Rattle.laws.proofs.Members.{all_at}
use Rattle.listing.specs.Listing.{Marks, none, marked}
use Rattle.listing.specs.Work.{has_mark, marks_of}
use Rattle.listing.proofs.Marking.{marked-only}
use Rattle.listing.proofs.Words.{marks_at}
use Rattle.printer.specs.Contract.{Within, Cleared}

-- words of a list with a part put anew: before the part, in it, and behind it
module _ (w y : List ℕ) (at n : ℕ) (fits : at + n ≤ length w) (long : length y ≡ n) where
  front : length (take at w) ≡ at
  front = length-take-le at w (omega arith)

  word-before : (i : ℕ) → i < at → get_or (put_mid at n w y) i 0 ≡ get_or w i 0
  word-before i h =
      get_or-append (take at w) (y ++ post_of at n w) 0 i (omega (arith, front)) ∙ get_or-take at w i 0 h

  word-behind : (j : ℕ) → get_or (put_mid at n w y) (at + j) 0 ≡ get_or (y ++ post_of at n w) j 0
  word-behind j =
      ap (λ (k : ℕ). get_or (put_mid at n w y) (k + j) 0) (sym front) ∙ get_or-append-add (take at w) (y ++ post_of at n w) j 0

  word-inside : (j : ℕ) → j < n → get_or (put_mid at n w y) (at + j) 0 ≡ get_or y j 0
  word-inside j h = word-behind j ∙ get_or-append y (post_of at n w) 0 j (omega arith)

  word_after : (k : ℕ) → get_or (put_mid at n w y) (at + (n + k)) 0 ≡ get_or w (at + (n + k)) 0
  word_after k =
      word-behind (n + k)
      ∙ ap (λ (m : ℕ). get_or (y ++ post_of at n w) (m + k) 0) (sym long)
      ∙ get_or-append-add y (post_of at n w) k 0
      ∙ get_or-drop n (drop at w) k 0
      ∙ get_or-drop at w (n + k) 0

  pub word_in : (i : ℕ) → at ≤ i → i < at + n → get_or (put_mid at n w y) i 0 ≡ get_or y (i - at) 0
  word_in i h k = let e : i ≡ at + (i - at) = omega arith in ap (λ (m : ℕ). get_or (put_mid at n w y) m 0) e ∙ word-inside (i - at) (omega arith)

  pub word-past : (i : ℕ) → at + n ≤ i → get_or (put_mid at n w y) i 0 ≡ get_or w i 0
  word-past i h =
      let e : i ≡ at + (n + (i - (at + n))) = omega arith in
      ap (λ (m : ℕ). get_or (put_mid at n w y) m 0) e ∙ word_after (i - (at + n)) ∙ ap (λ (m : ℕ). get_or w m 0) (sym e)

-- a row is one of a span's, or not
within? : (span : Span) (i : ℕ) → Dec (Within span i)
within? span i = at (dec_lt i span.first) (dec_lt i span.past)
  where
    at : Dec (i < span.first) → Dec (i < span.past) → Dec (Within span i)
    at (yes h) d = no (λ w. omega (arith, w.0))
    at (no n) (yes k) = yes (omega arith, k)
    at (no n) (no k) = no (λ w. k w.1)

-- no row has a mark
marks_none : (w : List ℕ) (s : ℕ) → ((i : ℕ) → i < s → has_mark w i ≡ false) → marks_of w s ≡ none
unfolding marks_of
marks_none w s f = fun_ext (λ i. at i (dec_lt i s))
  where
    at : (i : ℕ) → Dec (i < s) → (ltb i s && has_mark w i) ≡ false
    at i (yes h) = ap (λ (b : Bool). b && has_mark w i) (lt-ltb i s h) ∙ f i h
    at i (no n) = ap (λ (b : Bool). b && has_mark w i) (le-ltb i s (omega arith))

-- the marks of a part are gone
pub cleared : (span : Span) (w y : List ℕ) → span.first ≤ span.past → span.past ≤ length w → length y ≡ span.past - span.first → marks_of y (span.past - span.first) ≡ none
    → Cleared span w (put_mid span.first (span.past - span.first) w y)
unfolding has_mark
cleared span w y h fits long e = record { inside = in_part; outside = λ i n. out-part i n (dec_lt i span.first) (dec_lt i span.past) }
  where
    within : span.first + (span.past - span.first) ≤ length w
    within = omega arith

    in_part : (i : ℕ) → Within span i → not (eqb (get_or (put_mid span.first (span.past - span.first) w y) i 0) 0) ≡ false
    in_part i q =
        ap (λ (x : ℕ). not (eqb x 0)) (word_in w y span.first (span.past - span.first) within long i q.0 (omega (arith, q.1)))
        ∙ sym (marks_at y (span.past - span.first) (i - span.first) (omega (arith, q.1, q.0)))
        ∙ ap (λ (m : Marks). m (i - span.first)) e

    out-part : (i : ℕ) → (Within span i → ⊥) → Dec (i < span.first) → Dec (i < span.past)
        → not (eqb (get_or (put_mid span.first (span.past - span.first) w y) i 0) 0) ≡ not (eqb (get_or w i 0) 0)
    out-part i n (yes k) d = ap (λ (x : ℕ). not (eqb x 0)) (word-before w y span.first (span.past - span.first) within long i k)
    out-part i n (no k) (yes l) = absurd (n (omega arith, l))
    out-part i n (no k) (no l) = ap (λ (x : ℕ). not (eqb x 0)) (word-past w y span.first (span.past - span.first) within long i (omega arith))

-- marks of a span's rows alone, taken away
pub clean : (span : Span) (s : ℕ) (w w' xs ys : List ℕ) → marks_of w s ≡ marked (marked none xs) ys → All (Within span) xs → All (Within span) ys → Cleared span w w' → marks_of w' s ≡ none
clean span s w w' xs ys e a b c = marks_none w' s (λ i h. at i h (within? span i))
  where
    old : (i : ℕ) → marked (marked none xs) ys i ≡ true → Within span i
    old i t =
        ⊎_elim
        (λ (q : marked none xs i ≡ true). ⊎_elim (λ (z : none i ≡ true). absurd (false≢true z)) (λ (m : Mem i xs). all_at (Within span) xs a i m) (marked-only xs none i q))
        (λ (m : Mem i ys). all_at (Within span) ys b i m)
        (marked-only ys (marked none xs) i t)

    at : (i : ℕ) → i < s → Dec (Within span i) → has_mark w' i ≡ false
    at i h (yes q) = c.inside i q
    at i h (no n) =
        c.outside i n
        ∙ sym (marks_at w s i h)
        ∙ ap (λ (m : Marks). m i) e
        ∙ by_cases (marked (marked none xs) ys i) (λ t. absurd (n (old i t))) (λ f. f)

-- as many words come back as were lent
pub part-long : (span : Span) (w y : List ℕ) → span.first ≤ span.past → span.past ≤ length w → length y ≡ length (mid_of span.first (span.past - span.first) w) → length y ≡ span.past - span.first
part-long span w y h fits e = e ∙ length-take-le (span.past - span.first) (drop span.first w) (rw (length-drop span.first w) (omega arith))
