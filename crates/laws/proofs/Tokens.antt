-- Facts about the tokens of a text: where they stand, which kinds they have, and that they depend on the text from their place on alone.
-- Assumes nothing.
use mathlib.Core.Path.{◌≡◌, refl, sym, ap, ◌∙◌}
use mathlib.Core.Bool.{Bool, true, false, cond, false≢true}
use mathlib.Core.List.{List, [], ◌∷◌}
use Prim.Native.Nat.{ℕ, suc, ◌+◌, ◌-◌, ◌≤◌, ◌<◌}
use native.Mathlib.Nat.{zero-add, add_assoc}
use native.Mathlib.Omega.{arith}
use borrow.Author.Tests.{leb-true}
use lib.Dec.{eqb, leb}
use lib.ListN.{length, get_or, drop, take, length-drop, drop_of_length-le}
use lib.Seq.{drop-drop, length-take-le}
use Rattle.rules.specs.Bytes.{bytes, byte, digit, letter, name_byte, pattern_byte, count, same}
use Rattle.rules.specs.Space.{gap}
use Rattle.rules.specs.declared.Front.{Front}
use Rattle.rules.specs.declared.Front.TheVariants.{Spelt, Fault, Nothing}
use Rattle.rules.specs.declared.Token.{Token}
use Rattle.rules.specs.declared.Lexed.{Lexed}
use Rattle.rules.specs.declared.Lexed.TheVariants.{Found, End, Refused}
use Rattle.rules.specs.Tokens.{ident, single, int_start, named, pattern, word, start, front, placed, after, token_at}
use Rattle.laws.proofs.Tests.{and_right, either_le}
use Rattle.laws.proofs.Runs.{count-le, rest}
use Rattle.laws.proofs.First.{first, take-first}
use Rattle.laws.proofs.Spaces.{rest-gap}

-- what the definitions say of a text that has a byte, told by the whole of it
pub pattern-first : (s : List ℕ) → 1 ≤ length s → pattern s ≡ pattern (get_or s 0 0 ∷ drop 1 s)
pattern-first s h = ap pattern (first s h)

pub word-whole : (s : List ℕ) (n : ℕ) → 1 ≤ length s → word (get_or s 0 0) (drop 1 s) n ≡ cond (same (take (1 + n) s) (bytes "knownBits")) (pattern (drop (1 + n) s)) (Spelt ident (1 + n))
unfolding word
word-whole s n h = rw (take-first s n h, ← drop-drop n 1 s)

pub started : (s : List ℕ) → 1 ≤ length s → {r : Front} → r ≡ start (get_or s 0 0) (drop 1 s) → r ≡ front s
started s h e = e ∙ sym (ap front (first s h))

-- what stands at the front of a text of l bytes: a token of a kind from 1 to 10 within it, or a fault within it or just past it
abbrev pub Fits : ℕ → Front → Type 0
Fits l (Spelt k n) = ((1 ≤ k) × (k ≤ 10)) × ((1 ≤ n) × (n ≤ l))
Fits l (Fault n) = (1 ≤ l) × (n ≤ l)
Fits l Nothing = Unit {0}

fits_if : (l : ℕ) (t : Bool) (x y : Front) → (t ≡ true → Fits l x) → Fits l y → Fits l (cond t x y)
fits_if l true x y h k = h refl
fits_if l false x y h k = k

single-le : (b : ℕ) → single b ≤ 10
unfolding single
single-le b =
    either_le (eqb b (byte ",")) (omega arith)
    (either_le (eqb b (byte "=")) (omega arith)
    (either_le (eqb b (byte ":")) (omega arith)
    (either_le (eqb b (byte "(")) (omega arith)
    (either_le (eqb b (byte ")")) (omega arith)
    (either_le (eqb b (byte "[")) (omega arith) (omega arith))))))

named-fits : (n l : ℕ) → n ≤ l → Fits (suc l) (named n)
named-fits n l h = fits_if (suc l) (eqb n 0) _ _ (λ e. omega arith) (omega arith)

pattern-fits : (s : List ℕ) → Fits (9 + length s) (pattern s)
unfolding pattern
pattern-fits [] = omega arith
pattern-fits (b ∷ s) =
    let h = count-le pattern_byte s in
    let l = 9 + suc (length s) in
    fits_if l (eqb b (byte "=")) _ _
    (λ e. fits_if l (eqb (count pattern_byte s) 0) _ _ (λ z. omega arith) (omega arith))
    (omega arith)

same_length : (a b : List ℕ) → same a b ≡ true → length a ≡ length b
unfolding same
same_length [] [] e = refl
same_length [] (y ∷ b) e = absurd (false≢true e)
same_length (x ∷ a) [] e = absurd (false≢true e)
same_length (x ∷ a) (y ∷ b) e = ap suc (same_length a b (and_right (eqb x y) (same a b) e))

word_fits_lem : (b : ℕ) (s : List ℕ) (n : ℕ) → n ≤ length s → Fits (suc (length s)) (word b s n)
unfolding word
word_fits_lem b s n h =
    let l = suc (length s) in
    fits_if l (same (b ∷ take n s) (bytes "knownBits")) _ _
    (λ e.
    let k : suc (length (take n s)) ≡ 9 = same_length (b ∷ take n s) (bytes "knownBits") e in
    let m : 9 + length (drop n s) ≡ suc (length s) = omega (arith, length-take-le n s h, length-drop n s) in
    rw m at (pattern-fits (drop n s)))
    (omega arith)

start_fits : (b : ℕ) (s : List ℕ) → Fits (suc (length s)) (start b s)
unfolding start
start_fits b s =
    let l = suc (length s) in
    fits_if l (leb 1 (single b)) _ _ (λ e. omega (arith, leb-true 1 (single b) e, single-le b))
    (fits_if l (eqb b (byte "%")) _ _ (λ e. named-fits (count name_byte s) (length s) (count-le name_byte s))
    (fits_if l (letter b) _ _ (λ e. word_fits_lem b s (count name_byte s) (count-le name_byte s))
    (fits_if l (int_start b) _ _ (λ e. omega (arith, count-le digit s)) (omega arith))))

pub front_fits : (s : List ℕ) → Fits (length s) (front s)
front_fits [] = tt
front_fits (b ∷ s) = start_fits b s

pub spelt_fits : (s : List ℕ) {k n : ℕ} → front s ≡ Spelt k n → n ≤ length s
spelt_fits s e = (rw e at (front_fits s)).1.1

pub fault-fits : (s : List ℕ) {n : ℕ} → front s ≡ Fault n → n ≤ length s
fault-fits s e = (rw e at (front_fits s)).1

-- what the lexer finds at or after a place of a text lies in the text: a token whole, a fault within the text or just past it
abbrev pub Lies : List ℕ → ℕ → Lexed → Type 0
Lies text at (Found t) = ((1 ≤ t.kind) × (t.kind ≤ 10)) × ((at ≤ t.first) × ((t.first < t.past) × (t.past ≤ length text)))
Lies text at End = Unit {0}
Lies text at (Refused p) = (at ≤ p) × (p ≤ length text)

placed-lies : (text : List ℕ) (at i : ℕ) (f : Front) → at ≤ i → Fits (length text - i) f → Lies text at (placed i f)
placed-lies text at i (Spelt k n) h f = omega arith
placed-lies text at i (Fault n) h f = omega arith
placed-lies text at i Nothing h f = tt

module _ (text : List ℕ) (at : ℕ) where
  pub token-lies : Lies text at (token_at text at)
  unfolding token_at
  token-lies =
      let i = after text at in
      placed-lies text at i (front (drop i text)) (omega arith) (rw length-drop at (front_fits (drop i text)))

  -- a token lies whole in the text, at or after the place
  pub found_within : {t : Token} → token_at text at ≡ Found t → (at ≤ t.first) × ((t.first < t.past) × (t.past ≤ length text))
  found_within e = (rw e at token-lies).1

  -- its kind is one of the ten
  pub found-kind : {t : Token} → token_at text at ≡ Found t → (1 ≤ t.kind) × (t.kind ≤ 10)
  found-kind e = (rw e at token-lies).0

  -- a refusal's place is at or after the place, and in the text or just past it
  pub refused-within : {p : ℕ} → token_at text at ≡ Refused p → (at ≤ p) × (p ≤ length text)
  refused-within e = rw e at token-lies

  -- from the end of the text on there is no token
  pub past_end : length text ≤ at → token_at text at ≡ End
  unfolding token_at
  past_end h =
      let k : length text ≤ after text at = omega arith in
      rw (drop_of_length-le text k)

-- g is the gap of the rest that was lent, and f what stands at the front of the rest behind it that was lent
module _ (text : List ℕ) (at : ℕ) {g : ℕ} (e : g ≡ gap (take (length text - at) (drop at text))) where
  module _ {f : Front} (d : f ≡ front (take (length text - (at + g)) (drop (at + g) text))) where
    rest-front : f ≡ front (drop (at + g) text)
    rest-front = d ∙ ap front (rest text (at + g))

    pub placed-token : {x : Front} → f ≡ x → placed (at + g) x ≡ token_at text at
    unfolding token_at
    placed-token {x} h = rw (← rest-gap text at e, ← rest-front, h)

    pub rest_spelt : {k n : ℕ} → f ≡ Spelt k n → n ≤ length text - (at + g)
    rest_spelt h = rw (← length-drop (at + g) text) (spelt_fits (drop (at + g) text) (sym rest-front ∙ h))

    pub rest-fault : {n : ℕ} → f ≡ Fault n → n ≤ length text - (at + g)
    rest-fault h = rw (← length-drop (at + g) text) (fault-fits (drop (at + g) text) (sym rest-front ∙ h))

-- an answer about a text that stands a bytes further on
unfoldable pub moved : ℕ → Lexed → Lexed
moved a (Found t) = Found (record { kind = t.kind; first = a + t.first; past = a + t.past })
moved a End = End
moved a (Refused p) = Refused (a + p)

placed_moved : (a i : ℕ) (f : Front) → placed (a + i) f ≡ moved a (placed i f)
unfolding moved
placed_moved a i (Spelt k n) = rw add_assoc
placed_moved a i (Fault n) = rw add_assoc
placed_moved a i Nothing = refl

-- lexing is local: the token at or after a place depends on the text from there on alone
pub local : (text : List ℕ) (at : ℕ) → token_at text at ≡ moved at (token_at (drop at text) 0)
unfolding token_at
local text at = rw (zero-add (gap (drop at text)), drop-drop (gap (drop at text)) at text) (placed_moved at (gap (drop at text)) (front (drop (after text at) text)))
