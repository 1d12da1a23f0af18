-- Section 1 of docs/RULES.md. Tokens, one by one.
-- Assumes nothing.
use Rattle.std.specs.Prelude.{ℕ, zero, suc, ◌+◌, Bool, cond, ◌||◌, List, [], ◌∷◌, eqb, leb, drop, take}
use Rattle.rules.specs.declared.Front.{Front}
use Rattle.rules.specs.declared.Front.TheVariants.{Spelt, Fault, Nothing}
use Rattle.rules.specs.declared.Lexed.{Lexed}
use Rattle.rules.specs.declared.Lexed.TheVariants.{Found, End, Refused}
use Rattle.rules.specs.Bytes.{bytes, byte, digit, letter, name_byte, pattern_byte, count, same}
use Rattle.rules.specs.Space.{gap}

-- the kinds of tokens, as numbers
abbrev pub ident : ℕ
ident = 1

abbrev pub val_name : ℕ
val_name = 2

abbrev pub known_bits : ℕ
known_bits = 3

abbrev pub int : ℕ
int = 4

abbrev pub comma : ℕ
comma = 5

abbrev pub colon : ℕ
colon = 6

abbrev pub equals : ℕ
equals = 7

abbrev pub open_paren : ℕ
open_paren = 8

abbrev pub close_paren : ℕ
close_paren = 9

abbrev pub open_bracket : ℕ
open_bracket = 10

-- the kind of the token that a byte is by itself; 0 where it is none
unfoldable pub single : ℕ → ℕ
single b =
    cond (eqb b (byte ",")) comma
    (cond (eqb b (byte "=")) equals
    (cond (eqb b (byte ":")) colon
    (cond (eqb b (byte "(")) open_paren
    (cond (eqb b (byte ")")) close_paren
    (cond (eqb b (byte "[")) open_bracket 0)))))

-- what an integer starts with: a digit or '-'
unfoldable pub int_start : ℕ → Bool
int_start b = eqb b (byte "-") || digit b

-- '%' and n name bytes: one or more
abbrev pub named : ℕ → Front
named n = cond (eqb n 0) (Fault 0) (Spelt val_name (1 + n))

-- what follows the nine bytes knownBits: at once '=' and one or more of 0 1 x.
-- A missing '=' is refused at the character found there, at the end of text at the last byte; an empty pattern at the byte after '='
unfoldable pub pattern : List ℕ → Front
pattern [] = Fault 8
pattern (b ∷ s) =
    cond (eqb b (byte "="))
    (cond (eqb (count pattern_byte s) 0) (Fault 10) (Spelt known_bits (10 + count pattern_byte s)))
    (Fault 9)

-- a word of a letter b and n name bytes of what follows it
unfoldable pub word : ℕ → List ℕ → ℕ → Front
word b s n = cond (same (b ∷ take n s) (bytes "knownBits")) (pattern (drop n s)) (Spelt ident (1 + n))

-- the token that starts with b, before s
unfoldable pub start : ℕ → List ℕ → Front
start b s =
    cond (leb 1 (single b)) (Spelt (single b) 1)
    (cond (eqb b (byte "%")) (named (count name_byte s))
    (cond (letter b) (word b s (count name_byte s))
    (cond (int_start b) (Spelt int (1 + count digit s))
    (Fault 0))))

-- what stands at the front of a text
abbrev pub front : List ℕ → Front
front [] = Nothing
front (b ∷ s) = start b s

-- what stands at the front, told by places in the whole text; i is where the front stands
abbrev pub placed : ℕ → Front → Lexed
placed i (Spelt k n) = Found (record { kind = k; first = i; past = i + n })
placed i (Fault n) = Refused (i + n)
placed i Nothing = End

-- where the next token of a text can start, at or after a place
abbrev pub after : List ℕ → ℕ → ℕ
after text at = at + gap (drop at text)

-- the next token of a text at or after a place
unfoldable pub token_at : List ℕ → ℕ → Lexed
token_at text at = placed (after text at) (front (drop (after text at) text))

-- what comes behind a token; behind the end, or behind what is no token, nothing else comes
unfoldable pub next : List ℕ → Lexed → Lexed
next text (Found t) = token_at text t.past
next text End = End
next text (Refused p) = Refused p

-- the i-th from one on, and the i-th of a text, counted from 0
unfoldable pub onward : List ℕ → Lexed → ℕ → Lexed
onward text l zero = l
onward text l (suc i) = next text (onward text l i)

abbrev pub nth : List ℕ → ℕ → Lexed
nth text i = onward text (token_at text 0) i
