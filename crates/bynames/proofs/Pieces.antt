-- What is printed lexes to its token, given the byte behind it.
-- Assumes nothing.
use mathlib.Core.Path.{◌≡◌, refl, sym, ◌∙◌, subst}
use mathlib.Core.Bool.{Bool, true, false, not, ◌&&◌, false≢true}
use mathlib.Core.List.{List, [], ◌∷◌, ◌++◌}
use Prim.Native.Nat.{ℕ, zero, suc, ◌+◌, ◌<◌}
use native.Mathlib.Nat.{le_of_suc-le-suc, not-suc-le-zero}
use native.Mathlib.Numerals.{one-add}
use native.Mathlib.Omega.{arith}
use lib.Dec.{eqb-suc-zero}
use lib.ListN.{length, get_or}
use lib.Seq.{take-append_seam}
use borrow.Author.Tests.{not-true}
use Rattle.rules.specs.Bytes.{bytes, inside, digit, letter, name_byte, pattern_byte, same}
use Rattle.rules.specs.Space.{white}
use Rattle.rules.specs.Tokens.{ident, val_name, known_bits, int, comma, colon, equals, open_paren, close_paren, open_bracket, single, int_start, pattern, word, start}
use Rattle.rules.specs.Instructions.{Instruction, instructions, instruction_name}
use Rattle.rules.specs.Meaning.{Each}
use Rattle.laws.proofs.Tests.{and_left, and_right}
use Rattle.bynames.proofs.WellFormed.{IsName, IsPattern}
use Rattle.bynames.proofs.Tokens.{found, token, solid, plain, token-first, token_plain, letter_is_plain, int_is_plain, Stops, run, cut_seam}

-- '%' and name bytes
pub name-token : (n r : List ℕ) → IsName n → Stops name_byte r → token (n ++ r) ≡ found val_name n r
unfolding solid white inside single start
name-token n r h s =
    let l : List ℕ = h.first ∷ h.rest in
    subst (λ (z : List ℕ). token (z ++ r) ≡ found val_name z r) (sym h.spelt)
    (token-first 37 (l ++ r) refl ∙ rw (run name_byte l r h.each s, eqb-suc-zero, one-add) (cut_seam val_name (37 ∷ l) r))

-- a letter and name bytes that are not knownBits
pub word-token : (b : ℕ) (w r : List ℕ) → letter b ≡ true → Each name_byte w → same (b ∷ w) (bytes "knownBits") ≡ false → Stops name_byte r
    → token (b ∷ w ++ r) ≡ found ident (b ∷ w) r
unfolding word
word-token b w r h a k s =
    token_plain b (w ++ r) (letter_is_plain b h) ∙ rw (h, run name_byte w r a s, take-append_seam w r, k, one-add) (cut_seam ident (b ∷ w) r)

-- a digit or '-', and digits
pub record IsInt (w : List ℕ) : Type 0 where
  pub first : ℕ
  pub rest : List ℕ
  pub spelt : w ≡ first ∷ rest
  pub starts : int_start first ≡ true
  pub each : Each digit rest

pub int-token : (w r : List ℕ) → IsInt w → Stops digit r → token (w ++ r) ≡ found int w r
int-token w r h s =
    let p = int_is_plain h.first h.starts in
    let l = not-true (letter h.first) (and_right (plain h.first) (not (letter h.first)) p) in
    subst (λ (z : List ℕ). token (z ++ r) ≡ found int z r) (sym h.spelt)
    (token_plain h.first (h.rest ++ r) (and_left (plain h.first) (not (letter h.first)) p) ∙ rw (l, h.starts, run digit h.rest r h.each s, one-add) (cut_seam int (h.first ∷ h.rest) r))

-- knownBits, '=' and a pattern
pub pattern-token : (p r : List ℕ) → IsPattern pattern_byte p → Stops pattern_byte r → token (bytes "knownBits=" ++ (p ++ r)) ≡ found known_bits (bytes "knownBits=" ++ p) r
unfolding word pattern letter name_byte digit inside same
pattern-token p r h s =
    let l : List ℕ = h.first ∷ h.rest in
    let e : 10 + suc (length h.rest) ≡ length (bytes "knownBits=" ++ l) = omega arith in
    subst (λ (z : List ℕ). token (bytes "knownBits=" ++ (z ++ r)) ≡ found known_bits (bytes "knownBits=" ++ z) r) (sym h.spelt)
    (token_plain 107 (bytes "nownBits=" ++ (l ++ r)) (letter_is_plain 107 refl)
    ∙ rw (run pattern_byte l r h.each s, eqb-suc-zero, e) (cut_seam known_bits (bytes "knownBits=" ++ l) r))

-- ---- tokens of one byte
module _ (r : List ℕ) where
  pub comma-token : token (bytes "," ++ r) ≡ found comma (bytes ",") r
  unfolding solid white inside single start
  comma-token = token-first 44 r refl

  pub colon-token : token (bytes ":" ++ r) ≡ found colon (bytes ":") r
  unfolding solid white inside single start
  colon-token = token-first 58 r refl

  pub equals-token : token (bytes "=" ++ r) ≡ found equals (bytes "=") r
  unfolding solid white inside single start
  equals-token = token-first 61 r refl

  pub open_token : token (bytes "(" ++ r) ≡ found open_paren (bytes "(") r
  unfolding solid white inside single start
  open_token = token-first 40 r refl

  pub close_token : token (bytes ")" ++ r) ≡ found close_paren (bytes ")") r
  unfolding solid white inside single start
  close_token = token-first 41 r refl

  pub bracket_token : token (bytes "[" ++ r) ≡ found open_bracket (bytes "[") r
  unfolding solid white inside single start
  bracket_token = token-first 91 r refl

-- ---- words, as a computed test
abbrev each_of : (ℕ → Bool) → List ℕ → Bool
each_of p [] = true
each_of p (b ∷ w) = p b && each_of p w

each_of_lem : (p : ℕ → Bool) (w : List ℕ) → each_of p w ≡ true → Each p w
each_of_lem p [] e = tt
each_of_lem p (b ∷ w) e = (and_left (p b) (each_of p w) e, each_of_lem p w (and_right (p b) (each_of p w) e))

-- a letter and name bytes, and not knownBits
unfoldable pub is_word : List ℕ → Bool
is_word [] = false
is_word (b ∷ w) = letter b && (each_of name_byte w && not (same (b ∷ w) (bytes "knownBits")))

pub is_word_lem : (w r : List ℕ) → is_word w ≡ true → Stops name_byte r → token (w ++ r) ≡ found ident w r
unfolding is_word
is_word_lem [] r h s = absurd (false≢true h)
is_word_lem (b ∷ w) r h s =
    let k = and_right (letter b) _ h in
    word-token b w r (and_left (letter b) _ h) (each_of_lem name_byte w (and_left (each_of name_byte w) _ k)) (not-true (same (b ∷ w) (bytes "knownBits")) (and_right (each_of name_byte w) _ k)) s

-- the instructions' names
abbrev all_words : List Instruction → Bool
all_words [] = true
all_words (i ∷ l) = is_word i.name && all_words l

all_words_lem : (l : List Instruction) (d : Instruction) (k : ℕ) → all_words l ≡ true → k < length l → is_word (get_or l k d).name ≡ true
all_words_lem [] d k e h = absurd (not-suc-le-zero h)
all_words_lem (i ∷ l) d zero e h = and_left (is_word i.name) (all_words l) e
all_words_lem (i ∷ l) d (suc k) e h = all_words_lem l d k (and_right (is_word i.name) (all_words l) e) (le_of_suc-le-suc h)

names_are_words : all_words instructions ≡ true
unfolding is_word letter digit name_byte inside same
names_are_words = refl

pub instruction-token : (k : ℕ) (r : List ℕ) → k < 59 → Stops name_byte r → token (instruction_name k ++ r) ≡ found ident (instruction_name k) r
unfolding instruction_name
instruction-token k r h s = is_word_lem (instruction_name k) r (all_words_lem instructions _ k names_are_words h) s
