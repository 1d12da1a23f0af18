-- What a byte says of the gap that it stands in front of.
-- Assumes nothing.
use mathlib.Core.Path.{◌≡◌, refl, sym, ap, ◌∙◌}
use mathlib.Core.Bool.{Bool, true, false, ◌&&◌, ◌||◌, false≢true}
use mathlib.Core.List.{List, [], ◌∷◌}
use Prim.Native.Nat.{ℕ, suc, ◌+◌, ◌≤◌, ◌<◌, suc-le-suc}
use native.Mathlib.Nat.{zero-add, suc-add}
use native.Mathlib.Numerals.{one-add}
use native.Mathlib.Omega.{arith}
use borrow.Author.Tests.{leb-true, eqb-true}
use lib.Dec.{eqb, leb}
use lib.ListN.{length, get_or, drop}
use lib.Seq.{drop-cons}
use Rattle.rules.specs.Bytes.{byte, inside, count}
use Rattle.rules.specs.Space.{white, in_any, skip_len, gap}
use Rattle.std.specs.List.{list_any}
use Rattle.rules.specs.declared.Range.{Range}
use Rattle.laws.proofs.Cases.{by_cases}
use Rattle.laws.proofs.Tests.{and_right, cond-true, cond-false}
use Rattle.laws.proofs.Runs.{rest, far_more, far-stop}
use Rattle.laws.proofs.Spaces.{white-ascii, skip_len-ascii, skip_len-le}
use Rattle.lexer.specs.Blank.{blank, Blanks}

-- a blank is ASCII, and an ASCII byte is white where it is a blank
low_if : (b : ℕ) (t u : Bool) → (leb 9 b && leb b 13) ≡ t → eqb b 32 ≡ u → (t || u) ≡ true → b ≤ 127
low_if b true u p q e = let h = leb-true b 13 (and_right (leb 9 b) (leb b 13) p) in omega arith
low_if b false true p q e = let h = eqb-true b 32 q in omega arith
low_if b false false p q e = absurd (false≢true e)

pub low : (b : ℕ) → blank b ≡ true → b ≤ 127
unfolding blank inside
low b e = low_if b (leb 9 b && leb b 13) (eqb b 32) refl refl e

pub white-blank : (b : ℕ) → b ≤ 127 → white b ≡ blank b
unfolding blank
white-blank b h = white-ascii b h

module _ (s : List ℕ) (i : ℕ) (h : i < length s) where
  pub blank_more : blank (get_or s i 0) ≡ true → gap (drop i s) ≡ 1 + gap (drop (i + 1) s)
  blank_more e =
      let k : skip_len (drop i s) ≡ 1 =
      ap skip_len (drop-cons s i 0 h)
      ∙ skip_len-ascii (get_or s i 0 ∷ drop (suc i) s) (omega arith) (low (get_or s i 0) e)
      ∙ cond-true _ _ _ (white-blank (get_or s i 0) (low (get_or s i 0) e) ∙ e) in
      far_more skip_len skip_len-le s i 1 (sym (ap skip_len (rest s i) ∙ k)) (omega arith)

  -- an ASCII byte that neither is a blank nor starts a comment
  pub no_gap : get_or s i 0 ≤ 127 → blank (get_or s i 0) ≡ false → eqb (get_or s i 0) (byte ";") ≡ false → gap (drop i s) ≡ 0
  no_gap l e f =
      let k : skip_len (drop i s) ≡ 0 =
      ap skip_len (drop-cons s i 0 h)
      ∙ skip_len-ascii (get_or s i 0 ∷ drop (suc i) s) (omega arith) l
      ∙ cond-false _ _ _ (white-blank (get_or s i 0) l ∙ e)
      ∙ cond-false _ _ _ f in
      far-stop skip_len skip_len-le s i 0 (sym (ap skip_len (rest s i) ∙ k)) refl

none_blank : blank 0 ≡ false
unfolding blank inside
none_blank = refl

-- the blanks at the front, as many as they are
blanks_by : (s : List ℕ) → Blanks s (count blank s)
blanks_by [] = record { within = omega arith; onward = refl; ends = none_blank }
blanks_by (b ∷ s) =
    let e = blanks_by s in
    by_cases (blank b)
    (λ t. rw t (record { within = suc-le-suc e.within; onward = blank_more (b ∷ s) 0 (omega arith) t ∙ one-add _ ∙ ap suc e.onward ∙ sym (suc-add _ _); ends = e.ends }))
    (λ t. rw t (record { within = omega arith; onward = sym (zero-add _); ends = t }))

pub blanks : (s : List ℕ) {n : ℕ} → n ≡ count blank s → Blanks s n
blanks s e = rw e (blanks_by s)

-- the table, asked as the code asks it
pub in-table : (rs : List Range) (c : ℕ) → list_any (λ (r : Range). inside r.lo r.hi c) rs ≡ in_any rs c
in-table [] c = refl
in-table (r ∷ rs) c = ap (λ (t : Bool). inside r.lo r.hi c || t) (in-table rs c)
