-- Texts that have the same list of tokens have the same tokens one by one.
-- Assumes nothing.
use Prim.Native.Nat.{ℕ, zero, suc, ◌+◌, ◌≤◌}
use mathlib.Core.Path.{◌≡◌, refl, sym, ap, ◌∙◌}
use mathlib.Core.List.{List, [], ◌∷◌}
use native.Mathlib.Omega.{arith}
use lib.ListN.{length, get_or}
use Rattle.rules.specs.declared.Token.{Token}
use Rattle.rules.specs.declared.Lexed.{Lexed}
use Rattle.rules.specs.declared.Lexed.TheVariants.{Found, End, Refused}
use Rattle.rules.specs.Tokens.{token_at, next, onward, nth}
use Rattle.laws.proofs.Tokens.{Lies, token-lies}
use Rattle.spacing.specs.TokenList.{Word, token, end, fault, word_of, words_from, tokens_of}

-- two texts whose tokens are the same, one by one
abbrev pub Alike : List ℕ → List ℕ → Type 0
Alike x y = (i : ℕ) → word_of x (nth x i) ≡ word_of y (nth y i)

-- what a word is, told by numbers
unfoldable pub kind_of : Word → ℕ
kind_of (token k l) = k
kind_of end = 0
kind_of fault = 0

unfoldable pub letters_in : Word → List ℕ
letters_in (token k l) = l
letters_in end = []
letters_in fault = []

unfoldable pub sort : Word → ℕ
sort (token k l) = 0
sort end = 1
sort fault = 2

unfoldable first_of : List Word → Word
first_of [] = end
first_of (x ∷ l) = x

-- what stands first in a list, told by a number
abbrev front : List Word → ℕ
front l = sort (first_of l)

unfoldable behind : List Word → List Word
behind [] = []
behind (x ∷ l) = l

onward-next : (text : List ℕ) (l : Lexed) (i : ℕ) → onward text (next text l) i ≡ onward text l (suc i)
unfolding onward
onward-next text l zero = refl
onward-next text l (suc i) = ap (next text) (onward-next text l i)

onward-end : (text : List ℕ) (i : ℕ) → onward text End i ≡ End
unfolding onward next
onward-end text zero = refl
onward-end text (suc i) = ap (next text) (onward-end text i)

onward-refused : (text : List ℕ) (p i : ℕ) → onward text (Refused p) i ≡ Refused p
unfolding onward next
onward-refused text p zero = refl
onward-refused text p (suc i) = ap (next text) (onward-refused text p i)

-- so many words are enough to come to the last
abbrev Enough : List ℕ → ℕ → Lexed → Type 0
Enough text n (Found t) = (length text + 2 ≤ n + t.past) × (t.past ≤ length text)
Enough text n End = 1 ≤ n
Enough text n (Refused p) = 1 ≤ n

lies_enough : (text : List ℕ) (at n : ℕ) (l : Lexed) → length text + 1 ≤ n + at → 1 ≤ n → Lies text at l → Enough text n l
lies_enough text at n (Found t) h k f = omega arith
lies_enough text at n End h k f = k
lies_enough text at n (Refused p) h k f = k

enough_next : (text : List ℕ) (n : ℕ) (t : Token) → Enough text (suc n) (Found t) → Enough text n (token_at text t.past)
enough_next text n t h = lies_enough text t.past n (token_at text t.past) (omega arith) (omega arith) (token-lies text t.past)

none_left : (text : List ℕ) (l : Lexed) → Enough text 0 l → ⊥
none_left text (Found t) h = omega arith
none_left text End h = omega arith
none_left text (Refused p) h = omega arith

module _ (x y : List ℕ) where
  words-onward : (n m : ℕ) (l l' : Lexed) → Enough x n l → Enough y m l' → words_from n x l ≡ words_from m y l' → (i : ℕ) → word_of x (onward x l i) ≡ word_of y (onward y l' i)
  unfolding words_from onward first_of behind sort next word_of
  words-onward zero m l l' h k e i = absurd (none_left x l h)
  words-onward (suc n) zero l l' h k e i = absurd (none_left y l' k)
  words-onward (suc n) (suc m) (Found t) (Found t') h k e zero = ap first_of e
  words-onward (suc n) (suc m) (Found t) (Found t') h k e (suc i) =
      ap (word_of x) (sym (onward-next x (Found t) i))
      ∙ (words-onward n m (token_at x t.past) (token_at y t'.past) (enough_next x n t h) (enough_next y m t' k) (ap behind e) i ∙ ap (word_of y) (onward-next y (Found t') i))
  words-onward (suc n) (suc m) (Found t) End h k e i = absurd (let z : ◌≡◌ {A = ℕ} 0 1 = ap front e in omega arith)
  words-onward (suc n) (suc m) (Found t) (Refused p') h k e i = absurd (let z : ◌≡◌ {A = ℕ} 0 2 = ap front e in omega arith)
  words-onward (suc n) (suc m) End (Found t') h k e i = absurd (let z : ◌≡◌ {A = ℕ} 1 0 = ap front e in omega arith)
  words-onward (suc n) (suc m) End End h k e i = rw (onward-end x i, onward-end y i)
  words-onward (suc n) (suc m) End (Refused p') h k e i = absurd (let z : ◌≡◌ {A = ℕ} 1 2 = ap front e in omega arith)
  words-onward (suc n) (suc m) (Refused p) (Found t') h k e i = absurd (let z : ◌≡◌ {A = ℕ} 2 0 = ap front e in omega arith)
  words-onward (suc n) (suc m) (Refused p) End h k e i = absurd (let z : ◌≡◌ {A = ℕ} 2 1 = ap front e in omega arith)
  words-onward (suc n) (suc m) (Refused p) (Refused p') h k e i = rw (onward-refused x p i, onward-refused y p' i)

  -- Texts that have the same list of tokens have the same tokens one by one.
  pub alike : tokens_of x ≡ tokens_of y → Alike x y
  alike e =
      words-onward _ _ (token_at x 0) (token_at y 0)
      (lies_enough x 0 (suc (length x)) (token_at x 0) (omega arith) (omega arith) (token-lies x 0))
      (lies_enough y 0 (suc (length y)) (token_at y 0) (omega arith) (omega arith) (token-lies y 0))
      e

-- the kind of a token found is not 0
kind_from : (text : List ℕ) (at : ℕ) (l : Lexed) → Lies text at l → {t : Token} → l ≡ Found t → 1 ≤ t.kind
kind_from text at l h e = (rw e at h).0.0

kind-next : (text : List ℕ) (l : Lexed) → ((t : Token) → l ≡ Found t → 1 ≤ t.kind) → (t : Token) → next text l ≡ Found t → 1 ≤ t.kind
unfolding next
kind-next text (Found u) h t e = kind_from text u.past (token_at text u.past) (token-lies text u.past) e
kind-next text End h t e = h t e
kind-next text (Refused p) h t e = h t e

pub nth-kind : (text : List ℕ) (i : ℕ) (t : Token) → nth text i ≡ Found t → 1 ≤ t.kind
unfolding onward
nth-kind text zero t e = kind_from text 0 (token_at text 0) (token-lies text 0) e
nth-kind text (suc i) t e = kind-next text (nth text i) (nth-kind text i) t e

-- behind the i-th token stands the next
pub nth-next : (text : List ℕ) (i : ℕ) {t : Token} → nth text i ≡ Found t → token_at text t.past ≡ nth text (suc i)
unfolding onward next
nth-next text i e = rw e

-- a found token is neither the end nor a fault
abbrev number_of : Lexed → ℕ
number_of (Found t) = 0
number_of End = 1
number_of (Refused p) = 1

end-found : {t : Token} → End ≡ Found t → ⊥
end-found e = let z : ◌≡◌ {A = ℕ} 1 0 = ap number_of e in omega arith

refused-found : {p : ℕ} {t : Token} → Refused p ≡ Found t → ⊥
refused-found e = let z : ◌≡◌ {A = ℕ} 1 0 = ap number_of e in omega arith

-- the i-th token of a text is the i-th of its list
listed : (text : List ℕ) (n : ℕ) (l : Lexed) → Enough text n l → (i : ℕ) {t : Token} → onward text l i ≡ Found t → get_or (words_from n text l) i end ≡ word_of text (Found t)
unfolding words_from onward next
listed text zero l h i e = absurd (none_left text l h)
listed text (suc n) (Found u) h zero e = ap (word_of text) e
listed text (suc n) (Found u) h (suc i) e = listed text n (token_at text u.past) (enough_next text n u h) i (onward-next text (Found u) i ∙ e)
listed text (suc n) End h i e = absurd (end-found (sym (onward-end text i) ∙ e))
listed text (suc n) (Refused p) h i e = absurd (refused-found (sym (onward-refused text p i) ∙ e))

pub nth-listed : (text : List ℕ) (i : ℕ) {t : Token} → nth text i ≡ Found t → get_or (tokens_of text) i end ≡ word_of text (Found t)
nth-listed text i e = listed text (suc (length text)) (token_at text 0) (lies_enough text 0 (suc (length text)) (token_at text 0) (omega arith) (omega arith) (token-lies text 0)) i e
