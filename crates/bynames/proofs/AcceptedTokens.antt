-- What tokens are made of, and within which bounds the numbers lie that are read from them.
-- Assumes nothing.
use mathlib.Core.Path.{◌≡◌, refl, sym, ap, ◌∙◌, subst}
use mathlib.Core.Bool.{Bool, true, false, cond, false≢true}
use mathlib.Core.List.{List, [], ◌∷◌, ◌++◌}
use Prim.Native.Nat.{ℕ, suc, ◌+◌, ◌-◌, ◌≤◌, ◌<◌, ◌^◌}
use native.Mathlib.Numerals.{one-add}
use native.Mathlib.Nat.{le_trans}
use native.Mathlib.Omega.{arith}
use lib.Dec.{eqb, leb, ltb}
use lib.ListN.{length, get_or, drop, take, take-append-drop}
use borrow.Author.Tests.{eqb-true, eqb-false, leb-true, ltb-true}
use Rattle.rules.specs.Bytes.{bytes, letter, digit, name_byte, pattern_byte, count, same}
use Rattle.rules.specs.Space.{gap}
use Rattle.rules.specs.declared.Front.{Front}
use Rattle.rules.specs.declared.Front.TheVariants.{Spelt, Fault}
use Rattle.rules.specs.Tokens.{ident, val_name, known_bits, int, single, int_start, named, pattern, word, start, front}
use Rattle.rules.specs.Integers.{Read, number, refused, unsigned, below, fits, opposite, minus, integer, positive, type_width}
use Rattle.rules.specs.Meaning.{Each}
use Rattle.laws.proofs.Same.{by_cond, same_true}
use Rattle.bynames.proofs.WellFormed.{IsName, IsPattern}
use Rattle.bynames.proofs.Tokens.{Next, end, bad, found, cut, token}

-- ---- numbers
apart : {v : ℕ} → refused ≡ number v → ⊥
apart e = let z : ◌≡◌ {A = ℕ} 0 1 = cc in omega arith

-- each number that is read is so
abbrev Gives : (ℕ → Type 0) → Read → Type 0
Gives Q r = (c : ℕ) → r ≡ number c → Q c

gives_number : (Q : ℕ → Type 0) (v : ℕ) → Q v → Gives Q (number v)
gives_number Q v q c e = let h : v ≡ c = cc in subst Q h q

gives_refused : (Q : ℕ → Type 0) → Gives Q refused
gives_refused Q c e = absurd (apart e)

below_gives : (n : ℕ) (r : Read) → Gives (λ c. c < n) (below n r)
below_gives n (number v) =
    by_cond (Gives (λ c. c < n)) (ltb v n) (number v) refused (λ e. gives_number (λ c. c < n) v (ltb-true v n e)) (λ e. gives_refused (λ c. c < n))
below_gives n refused = gives_refused (λ c. c < n)

opposite-below : (v : ℕ) → opposite v < 2 ^ 128
opposite-below v = by_cond (λ c. c < 2 ^ 128) (eqb v 0) 0 (2 ^ 128 - v) (λ e. leb-true 1 (2 ^ 128) refl) (λ e. less (2 ^ 128) v (leb-true 1 (2 ^ 128) refl) (eqb-false v 0 e))
  where
    less : (M v : ℕ) → 0 < M → (v ≡ 0 → ⊥) → M - v < M
    less M v h n = omega arith

minus_gives : (r : Read) → Gives (λ c. c < 2 ^ 128) (minus r)
minus_gives (number v) = gives_number (λ c. c < 2 ^ 128) (opposite v) (opposite-below v)
minus_gives refused = gives_refused (λ c. c < 2 ^ 128)

pub integer_gives : (w : List ℕ) (c : ℕ) → integer w ≡ number c → c < 2 ^ 128
unfolding integer
integer_gives w =
    by_cond (Gives (λ c. c < 2 ^ 128)) (eqb (get_or w 0 0) 45) (minus (below (2 ^ 127 + 1) (unsigned (drop 1 w)))) (below (2 ^ 127) (unsigned w))
    (λ e. minus_gives (below (2 ^ 127 + 1) (unsigned (drop 1 w))))
    (λ e c h. le_trans (below_gives (2 ^ 127) (unsigned w) c h) (leb-true (2 ^ 127) (2 ^ 128) refl))

pub fits_gives : (width : ℕ) (r : Read) (c : ℕ) → fits width r ≡ number c → c < 2 ^ width
fits_gives width r = below_gives (2 ^ width) r

positive_gives : (r : Read) → Gives (λ c. c < 2 ^ 16) r → Gives (λ c. (1 ≤ c) × (c < 2 ^ 16)) (positive r)
positive_gives (number v) f =
    by_cond (Gives (λ c. (1 ≤ c) × (c < 2 ^ 16))) (eqb v 0) refused (number v) (λ e. gives_refused (λ c. (1 ≤ c) × (c < 2 ^ 16)))
    (λ e. gives_number (λ c. (1 ≤ c) × (c < 2 ^ 16)) v (some v (eqb-false v 0 e), f v refl))
  where
    some : (v : ℕ) → (v ≡ 0 → ⊥) → 1 ≤ v
    some v n = omega arith
positive_gives refused f = gives_refused (λ c. (1 ≤ c) × (c < 2 ^ 16))

pub width_gives : (w : List ℕ) (c : ℕ) → type_width w ≡ number c → (1 ≤ c) × (c < 2 ^ 16)
unfolding type_width
width_gives w =
    by_cond (Gives (λ c. (1 ≤ c) × (c < 2 ^ 16))) (eqb (get_or w 0 0) 105) (positive (fits 16 (unsigned (drop 1 w)))) refused
    (λ e. positive_gives (fits 16 (unsigned (drop 1 w))) (fits_gives 16 (unsigned (drop 1 w)))) (λ e. gives_refused (λ c. (1 ≤ c) × (c < 2 ^ 16)))

-- ---- tokens
-- what a token's letters are, by its kind
pub record Told (k : ℕ) (l : List ℕ) : Type 0 where
  pub named : k ≡ val_name → IsName l
  pub some : k ≡ int → 1 ≤ length l
  pub pattern : k ≡ known_bits → IsPattern pattern_byte (drop 10 l)

abbrev pub Good : Next → Type 0
Good end = Unit {0}
Good bad = Unit {0}
Good (found k l r) = Told k l

pub each-taken : (p : ℕ → Bool) (s : List ℕ) → Each p (take (count p s) s)
each-taken p [] = tt
each-taken p (b ∷ s) = pick (p b) refl (each-taken p s)
  where
    pick : (x : Bool) → p b ≡ x → Each p (take (count p s) s) → Each p (take (cond x (suc (count p s)) 0) (b ∷ s))
    pick true e h = (e, h)
    pick false e h = tt

pub pattern_of_lem : (p : ℕ → Bool) (l : List ℕ) → 1 ≤ length l → Each p l → IsPattern p l
pattern_of_lem p [] h a = absurd (let z : ⊥ = omega arith in z)
pattern_of_lem p (b ∷ l) h a = record { first = b; rest = l; spelt = refl; each = a }

pub count-each : (p : ℕ → Bool) (l : List ℕ) → count p l ≡ length l → Each p l
count-each p [] e = tt
count-each p (b ∷ l) e = pick (p b) refl (count-each p l) e
  where
    pick : (x : Bool) → p b ≡ x → (count p l ≡ length l → Each p l) → cond x (suc (count p l)) 0 ≡ suc (length l) → Each p (b ∷ l)
    pick true q f e = (q, f (let z : count p l ≡ length l = cc in z))
    pick false q f e = absurd (let z : ⊥ = omega arith in z)

-- one or more of a run
run-pattern : (p : ℕ → Bool) (s : List ℕ) → eqb (count p s) 0 ≡ false → IsPattern p (take (count p s) s)
run-pattern p [] e = absurd (false≢true (sym e))
run-pattern p (b ∷ s) e = pick (p b) refl e
  where
    pick : (x : Bool) → p b ≡ x → eqb (cond x (suc (count p s)) 0) 0 ≡ false → IsPattern p (take (cond x (suc (count p s)) 0) (b ∷ s))
    pick true q e = record { first = b; rest = take (count p s) s; spelt = refl; each = (q, each-taken p s) }
    pick false q e = absurd (false≢true (sym e))

-- a token of another kind
Other : ℕ → Type 0
Other k = (k ≡ val_name → ⊥) × (k ≡ int → ⊥) × (k ≡ known_bits → ⊥)

other_told : (k : ℕ) (l : List ℕ) → Other k → Told k l
unfolding Other
other_told k l o = record { named = λ e. absurd (o.0 e); some = λ e. absurd (o.1 e); pattern = λ e. absurd (o.2 e) }

single-other : (b : ℕ) → Other (single b)
unfolding Other single
single-other b =
    by_cond Other (eqb b 44) 5 _ (λ e. omega arith)
    (λ e.
    by_cond Other (eqb b 61) 7 _ (λ e. omega arith)
    (λ e.
    by_cond Other (eqb b 58) 6 _ (λ e. omega arith)
    (λ e.
    by_cond Other (eqb b 40) 8 _ (λ e. omega arith)
    (λ e. by_cond Other (eqb b 41) 9 _ (λ e. omega arith) (λ e. by_cond Other (eqb b 91) 10 0 (λ e. omega arith) (λ e. omega arith))))))

named_told : (b : ℕ) (s : List ℕ) → b ≡ 37 → eqb (count name_byte s) 0 ≡ false → Told val_name (take (1 + count name_byte s) (b ∷ s))
named_told b s e h =
    let q = run-pattern name_byte s h in
    rw (one-add, e)
    (record {
      named = λ z. record { first = q.first; rest = q.rest; spelt = ap (λ (l : List ℕ). 37 ∷ l) q.spelt; each = q.each };
      some = λ z. absurd (let f : ⊥ = omega arith in f);
      pattern = λ z. absurd (let f : ⊥ = omega arith in f);
    })

int_told : (b : ℕ) (s : List ℕ) → Told int (take (1 + count digit s) (b ∷ s))
int_told b s =
    rw one-add
    (record { named = λ z. absurd (let f : ⊥ = omega arith in f); some = λ z. omega arith; pattern = λ z. absurd (let f : ⊥ = omega arith in f) })

-- behind the nine bytes knownBits
pattern_told : (c : ℕ) (s t : List ℕ) → t ≡ bytes "knownBits" ++ (c ∷ s) → eqb (count pattern_byte s) 0 ≡ false → Told known_bits (take (10 + count pattern_byte s) t)
pattern_told c s t e h =
    let m : 10 + count pattern_byte s ≡ suc (suc (suc (suc (suc (suc (suc (suc (suc (suc (count pattern_byte s)))))))))) = omega arith in
    rw (e, m)
    (record { named = λ z. absurd (let f : ⊥ = omega arith in f); some = λ z. absurd (let f : ⊥ = omega arith in f); pattern = λ z. run-pattern pattern_byte s h })

pattern_good : (t rest : List ℕ) → t ≡ bytes "knownBits" ++ rest → Good (cut t (pattern rest))
unfolding pattern
pattern_good t [] e = tt
pattern_good t (c ∷ s) e =
    by_cond (λ (f : Front). Good (cut t f)) (eqb c 61) (cond (eqb (count pattern_byte s) 0) (Fault 10) (Spelt known_bits (10 + count pattern_byte s))) (Fault 9)
    (λ h. by_cond (λ (f : Front). Good (cut t f)) (eqb (count pattern_byte s) 0) (Fault 10) (Spelt known_bits (10 + count pattern_byte s)) (λ k. tt) (λ k. pattern_told c s t e k))
    (λ h. tt)

word_good : (b : ℕ) (s : List ℕ) (n : ℕ) → Good (cut (b ∷ s) (word b s n))
unfolding word Other
word_good b s n =
    by_cond (λ (f : Front). Good (cut (b ∷ s) f)) (same (b ∷ take n s) (bytes "knownBits")) (pattern (drop n s)) (Spelt ident (1 + n))
    (λ h.
    pattern_good (b ∷ s) (drop n s)
    (ap (λ (l : List ℕ). b ∷ l) (sym (take-append-drop n s)) ∙ ap (λ (l : List ℕ). l ++ drop n s) (same_true (b ∷ take n s) (bytes "knownBits") h)))
    (λ h. other_told ident (take (1 + n) (b ∷ s)) (omega arith))

start_good : (b : ℕ) (s : List ℕ) → Good (cut (b ∷ s) (start b s))
unfolding start
start_good b s =
    by_cond G (leb 1 (single b)) (Spelt (single b) 1) _ (λ e. other_told (single b) (take 1 (b ∷ s)) (single-other b))
    (λ e.
    by_cond G (eqb b 37) (named (count name_byte s)) _
    (λ h. by_cond G (eqb (count name_byte s) 0) (Fault 0) (Spelt val_name (1 + count name_byte s)) (λ k. tt) (λ k. named_told b s (eqb-true b 37 h) k))
    (λ h.
    by_cond G (letter b) (word b s (count name_byte s)) _ (λ k. word_good b s (count name_byte s))
    (λ k. by_cond G (int_start b) (Spelt int (1 + count digit s)) (Fault 0) (λ i. int_told b s) (λ i. tt))))
  where
    G : Front → Type 0
    G f = Good (cut (b ∷ s) f)

front_good : (s : List ℕ) → Good (cut s (front s))
front_good [] = tt
front_good (b ∷ s) = start_good b s

pub token_good : (text : List ℕ) → Good (token text)
unfolding token
token_good text = front_good (drop (gap text) text)
