-- What a word means among candidates is what it means among those of its length and first letter: a word is the same only as a word that is alike wherever one
-- looks. Where no candidate is alike, it is none of them.
-- Assumes nothing.
use mathlib.Core.Path.{◌≡◌, refl, sym, ap, subst, ◌∙◌}
use mathlib.Core.Bool.{Bool, true, false, cond, false≢true, ◌&&◌, ◌||◌}
use mathlib.Core.List.{List, [], ◌∷◌}
use Prim.Native.Nat.{ℕ, suc, ◌+◌, ◌<◌}
use native.Mathlib.Nat.{zero-add, add-zero, suc-add, add-suc}
use lib.Dec.{eqb, ltb}
use lib.ListN.{length}
use borrow.Author.Tests.{eq-eqb, eqb-true, ltb-true}
use Rattle.std.specs.Prelude.{Option, Some, None, unwrap_or}
use Rattle.rules.specs.declared.keyword.Keyword.{Keyword}
use Rattle.rules.specs.Bytes.{same}
use Rattle.rules.specs.Instructions.{place_of, instruction_of, keyword_of}
use Rattle.rules.specs.Keywords.{keyword_number}
use Rattle.laws.proofs.Tests.{and_left, and_right}
use Rattle.laws.proofs.Places.{same_eq}
use Rattle.instructions.specs.Candidates.{Candidate, placed, among, those, letter, all_instructions, all_keywords, keywords_of}

module _ {T : Type 0} where
  -- among those that have what the word has where f looks, a word means the same
  among-those : (f : List ℕ → ℕ) (w : List ℕ) (l : List (Candidate T)) (k : ℕ) → f w ≡ k → among w (those f k l) ≡ among w l
  among-those f w [] k e = refl
  among-those f w (c ∷ l) k e = step (eqb (f c.word) k) (same w c.word) refl refl (among-those f w l k e)
    where
      step : (t s : Bool) → eqb (f c.word) k ≡ t → same w c.word ≡ s → among w (those f k l) ≡ among w l
          → among w (cond t (c ∷ those f k l) (those f k l)) ≡ cond s (Some c.meaning) (among w l)
      step true s alike is rest = rw (is, rest)
      step false false alike is rest = rest
      step false true alike is rest = absurd (false≢true (sym alike ∙ eq-eqb _ _ (ap f (sym (same_eq w c.word is)) ∙ e)))

  pub among_length : (w : List ℕ) (l : List (Candidate T)) (n : ℕ) → length w ≡ n → among w (those length n l) ≡ among w l
  among_length w l n e = among-those length w l n e

  pub by_letter : (i : ℕ) (w : List ℕ) (l : List (Candidate T)) (b : ℕ) → letter i w ≡ b → among w (those (letter i) b l) ≡ among w l
  by_letter i = among-those (letter i)

-- a word's place in a list is its place among the list's words, all of them candidates
placed-place : (w : List ℕ) (l : List (List ℕ)) (k : ℕ) → k + place_of w l ≡ unwrap_or (among w (placed k l)) (k + length l)
placed-place w [] k = refl
placed-place w (x ∷ l) k = step (same w x) (placed-place w l (suc k))
  where
    step : (t : Bool) → suc k + place_of w l ≡ unwrap_or (among w (placed (suc k) l)) (suc k + length l)
        → k + cond t 0 (suc (place_of w l)) ≡ unwrap_or (cond t (Some k) (among w (placed (suc k) l))) (k + suc (length l))
    step true rest = add-zero k
    step false rest = simp add-suc (simp suc-add at rest)

module _ (w : List ℕ) (l : List (List ℕ)) where
  pub all_placed : unwrap_or (among w (placed 0 l)) (length l) ≡ place_of w l
  all_placed = sym (simp zero-add at (placed-place w l 0))

  -- the place of a word of n letters is its place among the list's words of n letters
  pub by_length : (n : ℕ) → length w ≡ n → unwrap_or (among w (those length n (placed 0 l))) (length l) ≡ place_of w l
  by_length n e = ap (λ (o : Option ℕ). unwrap_or o (length l)) (among_length w (placed 0 l) n e) ∙ all_placed

-- whether a number is one of some
abbrev pub has : List ℕ → ℕ → Bool
has [] n = false
has (k ∷ l) n = eqb n k || has l n

-- whether each candidate has one of some numbers where f looks
abbrev pub within : {T : Type 0} → (List ℕ → ℕ) → List ℕ → List (Candidate T) → Bool
within f keys [] = true
within f keys (c ∷ l) = has keys (f c.word) && within f keys l

-- a word that has none of them is no candidate
pub no_candidate : {T : Type 0} (f : List ℕ → ℕ) (keys w : List ℕ) (l : List (Candidate T)) → within f keys l ≡ true → has keys (f w) ≡ false → among w l ≡ None
no_candidate f keys w [] all e = refl
no_candidate f keys w (c ∷ l) all e = step (same w c.word) refl (no_candidate f keys w l (and_right (has keys (f c.word)) (within f keys l) all) e)
  where
    step : (s : Bool) → same w c.word ≡ s → among w l ≡ None → cond s (Some c.meaning) (among w l) ≡ None
    step false is rest = rest
    step true is rest =
        absurd (false≢true (sym e ∙ (ap (λ (x : List ℕ). has keys (f x)) (same_eq w c.word is) ∙ and_left (has keys (f c.word)) (within f keys l) all)))

-- the words of candidates
abbrev words : {T : Type 0} → List (Candidate T) → List (List ℕ)
words [] = []
words (c ∷ l) = c.word ∷ words l

-- whether the meanings have numbers by their places, the first k, and nothing the number past the last
abbrev numbered : {T : Type 0} → (Option T → ℕ) → ℕ → List (Candidate T) → Bool
numbered number k [] = eqb (number None) k
numbered number k (c ∷ l) = eqb (number (Some c.meaning)) k && numbered number (suc k) l

-- then the number of what a word means is its place among the words
number-among : {T : Type 0} (number : Option T → ℕ) (w : List ℕ) (l : List (Candidate T)) (k : ℕ) → numbered number k l ≡ true → number (among w l) ≡ k + place_of w (words l)
number-among number w [] k t = eqb-true (number None) k t ∙ sym (add-zero k)
number-among number w (c ∷ l) k t = step (same w c.word) (number-among number w l (suc k) (and_right (eqb (number (Some c.meaning)) k) _ t))
  where
    step : (s : Bool) → number (among w l) ≡ suc k + place_of w (words l) → number (cond s (Some c.meaning) (among w l)) ≡ k + cond s 0 (suc (place_of w (words l)))
    step true rest = eqb-true (number (Some c.meaning)) k (and_left (eqb (number (Some c.meaning)) k) (numbered number (suc k) l) t) ∙ sym (add-zero k)
    step false rest = rest ∙ simp (suc-add, add-suc)

pub keywords_numbered : (w : List ℕ) → keyword_number (among w all_keywords) ≡ keyword_of w
unfolding keyword_of
keywords_numbered w = number-among keyword_number w all_keywords 0 refl ∙ zero-add _

-- a keyword that is found among those of the word's length
pub keyword_found : (w : List ℕ) {n : ℕ} {r : Option Keyword} → length w ≡ n → r ≡ among w (keywords_of n) → keyword_number r ≡ keyword_of w
keyword_found w {n} e h = ap keyword_number (h ∙ among_length w all_keywords n e) ∙ keywords_numbered w

-- a number, where there is one, is below a bound
abbrev Below : ℕ → Option ℕ → Type 0
Below n None = Unit {0}
Below n (Some k) = k < n

abbrev all_below : ℕ → List (Candidate ℕ) → Bool
all_below n [] = true
all_below n (c ∷ l) = ltb c.meaning n && all_below n l

among-below : (n : ℕ) (w : List ℕ) (l : List (Candidate ℕ)) → all_below n l ≡ true → Below n (among w l)
among-below n w [] t = tt
among-below n w (c ∷ l) t = step (same w c.word) (among-below n w l (and_right (ltb c.meaning n) _ t))
  where
    step : (s : Bool) → Below n (among w l) → Below n (cond s (Some c.meaning) (among w l))
    step true rest = ltb-true c.meaning n (and_left (ltb c.meaning n) (all_below n l) t)
    step false rest = rest

-- the place of an instruction, or past the table
abbrev place_or_past : Option ℕ → ℕ
place_or_past None = 59
place_or_past (Some k) = k

module _ (w : List ℕ) {r : Option ℕ} (e : r ≡ among w all_instructions) where
  instructions_numbered : place_or_past r ≡ instruction_of w
  unfolding instruction_of
  instructions_numbered = ap place_or_past e ∙ number-among place_or_past w all_instructions 0 refl ∙ zero-add _

  pub missed : r ≡ None → 59 ≡ instruction_of w
  missed h = sym (ap place_or_past h) ∙ instructions_numbered

  pub found : {k : ℕ} → r ≡ Some k → k ≡ instruction_of w
  found h = sym (ap place_or_past h) ∙ instructions_numbered

  -- every place that is found is one of the table
  pub found-below : {k : ℕ} → r ≡ Some k → k < 59
  found-below h = subst (Below 59) (sym e ∙ h) (among-below 59 w all_instructions refl)
