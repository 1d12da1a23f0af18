-- The next token of the rest of a text, with its bytes; and that what is printed lexes to its token, given the byte behind it.
-- Assumes nothing.
use mathlib.Core.Path.{◌≡◌, refl, ap, ◌∙◌}
use mathlib.Core.Bool.{Bool, true, false, cond, not, ◌&&◌, ◌||◌, false≢true}
use mathlib.Core.List.{List, [], ◌∷◌, ◌++◌}
use Prim.Native.Nat.{ℕ, zero, suc, ◌+◌, ◌≤◌, ◌<◌}
use native.Mathlib.Omega.{arith}
use lib.Dec.{eqb, leb, leb-zero}
use lib.ListN.{length, drop, take}
use lib.Seq.{take-append_seam, drop-append_seam}
use borrow.Author.Tests.{leb-true, eqb-true, eqb-false, not-true}
use Rattle.rules.specs.Bytes.{inside, digit, letter, name_byte, count}
use Rattle.rules.specs.Utf8.{seq_len, code_point}
use Rattle.rules.specs.Space.{white, space_len, comment_len, skip_len, gap}
use Rattle.rules.specs.declared.Front.{Front}
use Rattle.rules.specs.declared.Front.TheVariants.{Spelt, Fault, Nothing}
use Rattle.rules.specs.Tokens.{int, single, int_start, word, start, front}
use Rattle.rules.specs.Meaning.{Each}
use Rattle.laws.proofs.Tests.{and_left, and_right}

-- nothing, no token, or a token's kind and bytes and the text behind it
pub data Next : Type 0 where
  end : Next
  bad : Next
  found : ℕ → List ℕ → List ℕ → Next

abbrev pub cut : List ℕ → Front → Next
cut s (Spelt k n) = found k (take n s) (drop n s)
cut s (Fault n) = bad
cut s Nothing = end

unfoldable pub token : List ℕ → Next
token text = cut (drop (gap text) text) (front (drop (gap text) text))

-- ---- white space
pub token-space : (r : List ℕ) → token (32 ∷ r) ≡ token r
unfolding token skip_len space_len seq_len code_point white inside
token-space r = refl

pub token-feed : (r : List ℕ) → token (10 ∷ r) ≡ token r
unfolding token skip_len space_len seq_len code_point white inside
token-feed r = refl

-- ---- bytes, by trying all
abbrev every : (ℕ → Bool) → ℕ → Bool
every p zero = true
every p (suc n) = p n && every p n

every_at : (p : ℕ → Bool) (n b : ℕ) → every p n ≡ true → b < n → p b ≡ true
every_at p zero b e h = absurd (let z : ⊥ = omega arith in z)
every_at p (suc n) b e h = step (eqb b n) refl (every_at p n b (and_right (p n) (every p n) e))
  where
    step : (t : Bool) → eqb b n ≡ t → (b < n → p b ≡ true) → p b ≡ true
    step true q r = rw (eqb-true b n q) (and_left (p n) (every p n) e)
    step false q r = r (omega (arith, eqb-false b n q))

-- an ASCII byte with which neither white space nor a comment begins
unfoldable pub solid : ℕ → Bool
solid b = leb b 127 && (not (white b) && not (eqb b 59))

-- one that is no token by itself and no '%'
unfoldable pub plain : ℕ → Bool
plain b = solid b && (eqb (single b) 0 && not (eqb b 37))

unfoldable letter_plain : ℕ → Bool
letter_plain b = not (letter b) || plain b

unfoldable int_plain : ℕ → Bool
int_plain b = not (int_start b) || (plain b && not (letter b))

letters_plain : every letter_plain 128 ≡ true
unfolding letter_plain plain solid letter inside white single
letters_plain = refl

ints_plain : every int_plain 128 ≡ true
unfolding int_plain plain solid letter inside white single int_start digit
ints_plain = refl

pub implied : (t u : Bool) → (not t || u) ≡ true → t ≡ true → u ≡ true
implied true u e h = e
implied false u e h = absurd (false≢true h)

pub or_cases : (t u : Bool) {P : Type 0} → (t || u) ≡ true → (t ≡ true → P) → (u ≡ true → P) → P
or_cases true u e f g = f refl
or_cases false u e f g = g e

inside-le : (lo hi b : ℕ) → inside lo hi b ≡ true → b ≤ hi
unfolding inside
inside-le lo hi b e = leb-true b hi (and_right (leb lo b) (leb b hi) e)

letter_small : (b : ℕ) → letter b ≡ true → b < 128
unfolding letter
letter_small b e = or_cases (inside 65 90 b) (inside 97 122 b) e (λ h. omega (arith, inside-le 65 90 b h)) (λ h. omega (arith, inside-le 97 122 b h))

int_small : (b : ℕ) → int_start b ≡ true → b < 128
unfolding int_start digit
int_small b e = or_cases (eqb b 45) (inside 48 57 b) e (λ h. omega (arith, eqb-true b 45 h)) (λ h. omega (arith, inside-le 48 57 b h))

pub letter_is_plain : (b : ℕ) → letter b ≡ true → plain b ≡ true
unfolding letter_plain
letter_is_plain b h = implied (letter b) _ (every_at letter_plain 128 b letters_plain (letter_small b h)) h

pub int_is_plain : (b : ℕ) → int_start b ≡ true → (plain b && not (letter b)) ≡ true
unfolding int_plain
int_is_plain b h = implied (int_start b) _ (every_at int_plain 128 b ints_plain (int_small b h)) h

-- ---- the first byte of a token
gap_none : (b : ℕ) (s : List ℕ) → solid b ≡ true → gap (b ∷ s) ≡ 0
unfolding solid skip_len space_len seq_len code_point comment_len inside
gap_none b s h =
    let small = and_left (leb b 127) _ h in
    let rest = and_right (leb b 127) _ h in
    let dark = not-true (white b) (and_left (not (white b)) _ rest) in
    let code = not-true (eqb b 59) (and_right (not (white b)) _ rest) in
    rw (leb-zero, small, dark, code)

pub token-first : (b : ℕ) (s : List ℕ) → solid b ≡ true → token (b ∷ s) ≡ cut (b ∷ s) (start b s)
unfolding token
token-first b s h = rw (gap_none b s h)

module _ (b : ℕ) (s : List ℕ) (h : plain b ≡ true) where
  pub token_plain : token (b ∷ s) ≡ cut (b ∷ s) (cond (letter b) (word b s (count name_byte s)) (cond (int_start b) (Spelt int (1 + count digit s)) (Fault 0)))
  unfolding plain start
  token_plain =
      let rest = and_right (solid b) _ h in
      let own = eqb-true (single b) 0 (and_left (eqb (single b) 0) _ rest) in
      let percent = not-true (eqb b 37) (and_right (eqb (single b) 0) _ rest) in
      token-first b s (and_left (solid b) _ h) ∙ rw (own, percent)

-- ---- runs of bytes
abbrev pub Stops : (ℕ → Bool) → List ℕ → Type 0
Stops p r = count p r ≡ 0

pub run : (p : ℕ → Bool) (w r : List ℕ) → Each p w → Stops p r → count p (w ++ r) ≡ length w
run p [] r a s = s
run p (x ∷ w) r a s = rw a.0 (ap suc (run p w r a.1 s))

pub cut_seam : (k : ℕ) (w r : List ℕ) → cut (w ++ r) (Spelt k (length w)) ≡ found k w r
cut_seam k w r = rw (take-append_seam w r, drop-append_seam w r)
