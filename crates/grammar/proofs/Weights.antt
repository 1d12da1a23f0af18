-- How many bytes the tokens of a text have, counted from what the grammar keeps of them.
-- Assumes nothing.
use mathlib.Core.Path.{◌≡◌, refl, sym, ap, subst}
use mathlib.Core.Bool.{Bool, true, false, cond}
use mathlib.Core.List.{List, [], ◌∷◌, ◌++◌}
use Prim.Native.Nat.{ℕ, ◌+◌, ◌≤◌, ◌<◌}
use native.Mathlib.Nat.{le_trans}
use native.Mathlib.Omega.{arith}
use lib.Dec.{leb}
use lib.ListN.{length, drop, length-drop}
use borrow.Author.Tests.{leb-true, leb-false}
use Rattle.bynames.proofs.WellFormed.{IsName, IsPattern}
use Rattle.bynames.proofs.Tokens.{Next, end, token}
use Rattle.bynames.proofs.AcceptedTokens.{Told, Good, token_good}
use Rattle.bynames.proofs.Reader.{ahead}
use Rattle.bynames.proofs.Moves.{Some, token_some, token-ahead}
use Rattle.rules.specs.Grammar.{Token, ident, valname, known_bits, int, comma, colon, equals, open_paren, close_paren, open_bracket, Written}
use Rattle.grammar.proofs.Leads.{Leads, here, over}

-- a number, or a bound that it is to reach
unfoldable pub at_least : ℕ → ℕ → ℕ
at_least k n = cond (leb k n) n k

pub at_least_lem : (k n : ℕ) → (k ≤ at_least k n) × (n ≤ at_least k n)
unfolding at_least
at_least_lem k n = by (leb k n) refl
  where
    by : (t : Bool) → leb k n ≡ t → (k ≤ cond t n k) × (n ≤ cond t n k)
    by true e = (leb-true k n e, omega arith)
    by false e = let h : n < k = leb-false k n e in (omega arith, omega arith)

reached : (k n m : ℕ) → k ≤ m → n ≤ m → at_least k n ≤ m
unfolding at_least
reached k n m h i = by (leb k n)
  where
    by : (t : Bool) → cond t n k ≤ m
    by true = i
    by false = h

-- a name has two bytes or more, a word and an integer one
abbrev pub weight : Token → ℕ
weight (ident w) = at_least 1 (length w)
weight (valname n) = at_least 2 (length n)
weight (known_bits p) = 10 + length p
weight (int w) = at_least 1 (length w)
weight comma = 1
weight colon = 1
weight equals = 1
weight open_paren = 1
weight close_paren = 1
weight open_bracket = 1

abbrev pub weights : List Token → ℕ
weights [] = 0
weights (x ∷ t) = weight x + weights t

pub weights_append : (t u : List Token) → weights (t ++ u) ≡ weights t + weights u
weights_append [] u = omega arith
weights_append (x ∷ t) u = omega (arith, weights_append t u)

-- ---- a token has as many bytes
name-long : (n : List ℕ) → IsName n → 2 ≤ length n
name-long n h = subst (λ (z : List ℕ). 2 ≤ length z) (sym h.spelt) (omega arith)

pattern-long : {p : ℕ → Bool} (l : List ℕ) → IsPattern p (drop 10 l) → 10 + length (drop 10 l) ≤ length l
pattern-long l h =
    let some : 1 ≤ length (drop 10 l) = subst (λ (z : List ℕ). 1 ≤ length z) (sym h.spelt) (omega arith) in
    omega (arith, length-drop 10 l)

weight_first : (x : Token) (k : ℕ) (l : List ℕ) → Written x k l → 1 ≤ length l → Told k l → weight x ≤ length l
weight_first (ident w) k l v s g = let e : l ≡ w = v.by in rw (← e) (reached 1 (length l) (length l) s (omega arith))
weight_first (valname n) k l v s g = let e : l ≡ n = v.by in rw (← e) (reached 2 (length l) (length l) (name-long l (g.named v.of)) (omega arith))
weight_first (known_bits p) k l v s g = let e : drop 10 l ≡ p = v.by in rw (← e) (pattern-long l (g.pattern v.of))
weight_first (int w) k l v s g = let e : l ≡ w = v.by in rw (← e) (reached 1 (length l) (length l) s (omega arith))
weight_first comma k l v s g = s
weight_first colon k l v s g = s
weight_first equals k l v s g = s
weight_first open_paren k l v s g = s
weight_first close_paren k l v s g = s
weight_first open_bracket k l v s g = s

leads_weigh : {t : List Token} {n m : Next} → Leads n t m → Some n → Good n → weights t ≤ ahead n
leads_weigh here s g = omega arith
leads_weigh (over {x = x} {l} {n} f p) s g =
    let first : weight x ≤ length f.letters = weight_first x f.kind f.letters f.written (subst Some f.is s) (subst Good f.is g) in
    let more : weights l ≤ ahead (token f.behind) = leads_weigh p (token_some f.behind) (token_good f.behind) in
    let is : ahead n ≡ length f.letters + length f.behind = ap ahead f.is in
    omega (arith, token-ahead f.behind)

pub text_weighs : (text : List ℕ) {t : List Token} → Leads (token text) t end → weights t ≤ length text
text_weighs text p = le_trans (leads_weigh p (token_some text) (token_good text)) (token-ahead text)
