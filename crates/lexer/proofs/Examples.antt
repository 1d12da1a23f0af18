-- The sentences of docs/RULES.md on tokens, as worked examples of the definition: one table, and one statement that every answer in it is right.
-- Assumes nothing.
use mathlib.Core.Path.{◌≡◌, refl}
use mathlib.Core.List.{List, [], ◌∷◌, map}
use Prim.Native.Nat.{ℕ}
use Rattle.rules.specs.declared.Lexed.{Lexed}
use Rattle.rules.specs.declared.Lexed.TheVariants.{Found, End, Refused}
use Rattle.rules.specs.Bytes.{bytes, inside, digit, letter, name_byte, pattern_byte, line_byte, same}
use Rattle.rules.specs.Utf8.{seq_len, code_point}
use Rattle.rules.specs.Space.{white, space_len, comment_len, skip_len}
use Rattle.rules.specs.Tokens.{ident, val_name, known_bits, int, comma, open_bracket, single, int_start, pattern, word, start, token_at}

-- a text, a place in it, and what the lexer finds at or after that place
pub record Example : Type 0 where
  pub text : List ℕ
  pub at : ℕ
  pub answer : Lexed

abbrev ◌at◌gives◌ : List ℕ → ℕ → Lexed → Example
text at place gives answer = record { text = text; at = place; answer = answer }

infix 20 ◌at◌gives◌
-- a token of a kind from a place up to another
abbrev token : ℕ → ℕ → ℕ → Lexed
token kind first past = Found (record { kind = kind; first = first; past = past })

abbrev pub table : List Example
table =
    (bytes "%a = var (knownBits =0)" at 10 gives Refused 19) ∷
    (bytes "%a = var (knownBits=)" at 10 gives Refused 20) ∷
    -- at the end of text at length minus 1
    (bytes "%a = var (knownBits" at 10 gives Refused 18) ∷
    (bytes "knownBits" at 0 gives Refused 8) ∷
    (bytes "knownBits=01x)" at 0 gives token known_bits 0 13) ∷
    -- an identifier that only begins with knownBits is a plain identifier
    (bytes "knownBitsx=0" at 0 gives token ident 0 10) ∷
    (bytes "knownBits.=0" at 0 gives token ident 0 10) ∷
    (bytes "12knownBits=0" at 2 gives token known_bits 2 13) ∷
    -- a bare '%' is refused at its own offset
    (bytes "%" at 0 gives Refused 0) ∷
    (bytes "add %, 1" at 3 gives Refused 4) ∷
    (bytes "%a.b_9=" at 0 gives token val_name 0 6) ∷
    (bytes "i" at 0 gives token ident 0 1) ∷
    -- a lone '-' is a token
    (bytes "-" at 0 gives token int 0 1) ∷
    (bytes "cand - 1" at 4 gives token int 5 6) ∷
    (bytes "-12add" at 0 gives token int 0 3) ∷
    (bytes "[0,4)" at 0 gives token open_bracket 0 1) ∷
    (bytes "[0,4)" at 2 gives token comma 2 3) ∷
    (bytes "]" at 0 gives Refused 0) ∷
    -- comments run to line feed or the end
    (bytes "  ; %a" at 0 gives End) ∷
    (0x3B ∷ 0x0A ∷ bytes "; b" at 0 gives End) ∷
    (0x3B ∷ 0x61 ∷ 0x0A ∷ bytes "%b" at 0 gives token val_name 3 5) ∷
    (bytes "" at 0 gives End) ∷
    (bytes "%a" at 7 gives End) ∷
    -- U+3000 is White_Space, U+200B is not
    (0xE3 ∷ 0x80 ∷ 0x80 ∷ bytes "%x" at 0 gives token val_name 3 5) ∷
    (0xE2 ∷ 0x80 ∷ 0x8B ∷ bytes "%x" at 0 gives Refused 0) ∷ []

pub examples : map (λ (e : Example). token_at e.text e.at) table ≡ map (λ (e : Example). e.answer) table
unfolding inside digit letter name_byte pattern_byte line_byte same seq_len code_point white space_len comment_len skip_len single int_start pattern word start token_at
examples = refl
