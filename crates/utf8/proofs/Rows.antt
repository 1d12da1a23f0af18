-- Table 3-7 read as the code reads it: the first byte alone picks the row, since the rows' first bytes stand in order; then one byte after the other is looked at.
-- Assumes nothing.
use Prim.Native.Nat.{ℕ, zero, suc, ◌+◌, ◌≤◌, ◌<◌}
use native.Mathlib.Nat.{lt_of_lt_of_le, lt_of_le_of_lt, le_of_suc-le-suc, not-suc-le-zero}
use native.Mathlib.Numerals.{add-one}
use native.Mathlib.Omega.{arith}
use mathlib.Core.Path.{◌≡◌, refl, ap, ◌∙◌}
use mathlib.Core.Bool.{Bool, true, false, cond, false≢true, ◌&&◌}
use mathlib.Core.List.{List, [], ◌∷◌, ◌++◌}
use lib.Dec.{ltb}
use lib.ListN.{length, get_or, drop, take, length-drop}
use lib.Seq.{drop-cons}
use borrow.Author.Tests.{ltb-true}
use Rattle.rules.specs.declared.Range.{Range}
use Rattle.rules.specs.Bytes.{inside}
use Rattle.rules.specs.Utf8.{◌to◌, sequences, lies, longest, seq_len}
use Rattle.laws.proofs.Tests.{and_left, and_right}
use Rattle.std.specs.List.{list_all}
use Rattle.std.specs.Prelude.{unwrap_or}
use Rattle.std.specs.Bool.{then_some}
use Rattle.utf8.specs.Sequences.{going_on}
use Rattle.laws.proofs.Ranges.{inside_yes, inside_under, inside_over}
use Rattle.laws.proofs.Within.{lies-le}

-- the first bytes of all the rows are less than a number, or greater
abbrev less : ℕ → List (List Range) → Bool
less m [] = true
less m ([] ∷ rows) = false
less m ((r ∷ rs) ∷ rows) = ltb r.hi m && less m rows

abbrev greater : ℕ → List (List Range) → Bool
greater m [] = true
greater m ([] ∷ rows) = false
greater m ((r ∷ rs) ∷ rows) = ltb m r.lo && greater m rows

module _ (b : ℕ) (s : List ℕ) where
  -- rows of lesser first bytes are passed over; rows of greater ones have nothing
  skip : (m : ℕ) (rows more : List (List Range)) → less m rows ≡ true → m ≤ b → longest (rows ++ more) (b ∷ s) ≡ longest more (b ∷ s)
  skip m [] more e h = refl
  skip m ([] ∷ rows) more e h = absurd (false≢true e)
  skip m ((r ∷ rs) ∷ rows) more e h =
      rw (inside_over r.lo r.hi b (lt_of_lt_of_le (ltb-true r.hi m (and_left (ltb r.hi m) _ e)) h))
      (skip m rows more (and_right (ltb r.hi m) _ e) h)

  none : (m : ℕ) (rows : List (List Range)) → greater m rows ≡ true → b ≤ m → longest rows (b ∷ s) ≡ 0
  none m [] e h = refl
  none m ([] ∷ rows) e h = absurd (false≢true e)
  none m ((r ∷ rs) ∷ rows) e h =
      rw (inside_under r.lo r.hi b (lt_of_le_of_lt h (ltb-true m r.lo (and_left (ltb m r.lo) _ e))))
      (none m rows (and_right (ltb m r.lo) _ e) h)

module _ (s : List ℕ) (h : 1 ≤ length s) where
  parted : s ≡ get_or s 0 0 ∷ drop 1 s
  parted = drop-cons s 0 0 h

-- the first byte is from lo to hi, the first range of row k: only that row is asked
pub in_row :
    (k lo hi : ℕ) (rs : List Range) (s : List ℕ)
    → sequences ≡ take k sequences ++ ((lo to hi ∷ rs) ∷ drop (suc k) sequences)
    → less lo (take k sequences) ≡ true
    → greater hi (drop (suc k) sequences) ≡ true
    → 1 ≤ length s
    → lo ≤ get_or s 0 0
    → get_or s 0 0 ≤ hi
    → seq_len s ≡ cond (lies rs (drop 1 s)) (suc (length rs)) 0
unfolding seq_len
in_row k lo hi rs s e l g h a z =
    let b = get_or s 0 0 in
    let t = drop 1 s in
    let rows = drop (suc k) sequences in
    ap (longest sequences) (parted s h)
    ∙ ap (λ (rows : List (List Range)). longest rows (b ∷ t)) e
    ∙ skip b t lo (take k sequences) ((lo to hi ∷ rs) ∷ rows) l a
    ∙ rw (inside_yes lo hi b a z, none b t hi rows g z)

-- the first byte is from lo to hi, between the first k rows and the others: no row has it
pub in_no_row :
    (k lo hi : ℕ) (s : List ℕ)
    → sequences ≡ take k sequences ++ drop k sequences
    → less lo (take k sequences) ≡ true
    → greater hi (drop k sequences) ≡ true
    → 1 ≤ length s
    → lo ≤ get_or s 0 0
    → get_or s 0 0 ≤ hi
    → seq_len s ≡ 0
unfolding seq_len
in_no_row k lo hi s e l g h a z =
    let b = get_or s 0 0 in
    let t = drop 1 s in
    ap (longest sequences) (parted s h)
    ∙ ap (λ (rows : List (List Range)). longest rows (b ∷ t)) e
    ∙ skip b t lo (take k sequences) (drop k sequences) l a
    ∙ none b t hi (drop k sequences) g z

no_if : (t : Bool) → (t ≡ true → ⊥) → t ≡ false
no_if true h = absurd (h refl)
no_if false h = refl

-- a row of n bytes, of which those before place i lie in their ranges, and the byte at i has the range from lo to hi, those after it have the ranges rs:
-- the text is too short for them, or that byte misses its range, or it hits it
module _ (n : ℕ) (s : List ℕ) (i lo hi : ℕ) (rs : List Range) where
  pub short : length s ≤ i + length rs → 0 ≡ cond (lies (lo to hi ∷ rs) (drop i s)) n 0
  short h = rw (no_if (lies (lo to hi ∷ rs) (drop i s)) (λ e. omega (arith, simp length-drop at (lies-le (lo to hi ∷ rs) (drop i s) e))))

  pub misses : i < length s → inside lo hi (get_or s i 0) ≡ false → 0 ≡ cond (lies (lo to hi ∷ rs) (drop i s)) n 0
  misses h e = rw (drop-cons s i 0 h, e)

  pub hits : {m : ℕ} → i < length s → inside lo hi (get_or s i 0) ≡ true → m ≡ cond (lies rs (drop (i + 1) s)) n 0 → m ≡ cond (lies (lo to hi ∷ rs) (drop i s)) n 0
  hits h e r = rw (drop-cons s i 0 h, e, ← add-one i) r

-- k bytes that go on a sequence, looked at one after the other
pub length-going_on : (k : ℕ) → length (going_on k) ≡ k
length-going_on zero = refl
length-going_on (suc k) = ap suc (length-going_on k)

pub goes_on : (k : ℕ) (s : List ℕ) → k ≤ length s → list_all (inside 0x80 0xBF) (take k s) ≡ lies (going_on k) s
goes_on zero s h = refl
goes_on (suc k) [] h = absurd (not-suc-le-zero h)
goes_on (suc k) (b ∷ s) h = ap (λ (t : Bool). inside 0x80 0xBF b && t) (goes_on k s (le_of_suc-le-suc h))
