-- Runs of ASCII: blocks whose greatest byte is at most 7F, and a run as a loop finds it, by the block and by the byte.
-- Assumes nothing.
use Prim.Native.Nat.{ℕ, zero, suc, ◌+◌, ◌-◌, ◌≤◌, ◌<◌, max}
use native.Mathlib.Nat.{zero-add, suc-add, le_of_suc-le-suc, not-suc-le-zero}
use native.Mathlib.Numerals.{add-one}
use native.Mathlib.Omega.{arith}
use mathlib.Core.Path.{◌≡◌, refl, sym, ap, ◌∙◌}
use mathlib.Core.Bool.{Bool, true, false, ◌&&◌}
use mathlib.Core.List.{List, [], ◌∷◌}
use lib.Dec.{leb}
use lib.ListN.{length, get_or, drop, take, drop_of_length-le, length-drop}
use lib.Seq.{drop-cons, drop-drop}
use borrow.Author.Tests.{leb-true, leb-false, le-leb, lt-leb}
use Rattle.std.specs.List.{fold}
use Rattle.rules.specs.Bytes.{count}
use Rattle.laws.proofs.Tests.{and_left, and_right}
use Rattle.laws.proofs.Runs.{count_more, count-stop, count-end}
use Rattle.utf8.specs.Ascii.{ascii, all_ascii, Begins}

-- the greater of two numbers passes where both do
module _ (m b k : ℕ) where
  by_tests : (t u : Bool) → leb m k ≡ t → leb b k ≡ u → leb (max m b) k ≡ (t && u)
  by_tests true true p q = le-leb (max m b) k (omega (arith, leb-true m k p, leb-true b k q))
  by_tests true false p q = lt-leb (max m b) k (omega (arith, leb-false b k q))
  by_tests false u p q = lt-leb (max m b) k (omega (arith, leb-false m k p))

  leb-max : leb (max m b) k ≡ (leb m k && leb b k)
  leb-max = by_tests (leb m k) (leb b k) refl refl

and_yes : (t : Bool) → (t && true) ≡ t
and_yes true = refl
and_yes false = refl

and_join : (t u v : Bool) → (t && (u && v)) ≡ ((t && u) && v)
and_join true u v = refl
and_join false u v = refl

-- the greatest byte so far and the rest from i on tell whether all is ASCII
pub all_more : (s : List ℕ) (i m : ℕ) → i < length s → (leb m 0x7F && all_ascii (drop i s)) ≡ (leb (max m (get_or s i 0)) 0x7F && all_ascii (drop (i + 1) s))
unfolding ascii
all_more s i m h = rw (add-one, drop-cons s i 0 h, leb-max m (get_or s i 0) 0x7F) (and_join (leb m 0x7F) (leb (get_or s i 0) 0x7F) (all_ascii (drop (suc i) s)))

pub all_end : (s : List ℕ) (i m : ℕ) → length s ≤ i → (leb m 0x7F && all_ascii (drop i s)) ≡ leb m 0x7F
all_end s i m h = rw (drop_of_length-le s h) (and_yes (leb m 0x7F))

-- the greatest byte of all tells whether all is ASCII
pub all_greatest : (m : ℕ) (s : List ℕ) → leb (fold max m s) 0x7F ≡ (leb m 0x7F && all_ascii s)
unfolding ascii
all_greatest m [] = sym (and_yes (leb m 0x7F))
all_greatest m (b ∷ s) =
    all_greatest (max m b) s
    ∙ ap (λ (t : Bool). t && all_ascii s) (leb-max m b 0x7F)
    ∙ sym (and_join (leb m 0x7F) (leb b 0x7F) (all_ascii s))

-- a block that is ASCII is a part of the run
pub count-block : (n : ℕ) (s : List ℕ) → n ≤ length s → all_ascii (take n s) ≡ true → count ascii s ≡ n + count ascii (drop n s)
count-block zero s h e = sym (zero-add _)
count-block (suc n) [] h e = absurd (not-suc-le-zero h)
count-block (suc n) (b ∷ s) h e =
    rw (and_left (ascii b) (all_ascii (take n s)) e)
    (ap suc (count-block n s (le_of_suc-le-suc h) (and_right (ascii b) (all_ascii (take n s)) e)) ∙ sym (suc-add n _))

-- a run stands at i: nothing yet, a block more, a byte more, and its end
pub begins_none : (s : List ℕ) → Begins s 0
begins_none s = record { within = omega arith; onward = sym (zero-add _) }

module _ {s : List ℕ} {i : ℕ} (b : Begins s i) where
  pub begins-block : (n : ℕ) → n ≤ length s - i → all_ascii (take (i + n - i) (drop i s)) ≡ true → Begins s (i + n)
  begins-block n h e =
      let w = b.within in
      let m : i + n - i ≡ n = omega arith in
      let k = count-block n (drop i s) (simp length-drop h) (rw m at e) in
      record { within = omega arith; onward = rw (← drop-drop n i s) (omega (arith, b.onward)) }

  pub begins-byte : i < length s → ascii (get_or s i 0) ≡ true → Begins s (i + 1)
  begins-byte h e = record { within = omega arith; onward = omega (arith, b.onward, count_more ascii s i h e) }

  pub begins-stop : i < length s → ascii (get_or s i 0) ≡ false → i ≡ count ascii s
  begins-stop h e = omega (arith, b.onward, count-stop ascii s i h e)

  pub begins-end : length s ≤ i → i ≡ count ascii s
  begins-end h = omega (arith, b.onward, count-end ascii s i h)
