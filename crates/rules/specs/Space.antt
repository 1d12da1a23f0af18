-- Section 1 of docs/RULES.md. White space and comments.
-- Assumes nothing.
use Rattle.std.specs.Prelude.{ℕ, suc, Bool, false, cond, ◌&&◌, ◌||◌, List, [], ◌∷◌, eqb, leb}
use Rattle.rules.specs.declared.Range.{Range}
use Rattle.rules.specs.Bytes.{byte, inside, count, far, line_byte}
use Rattle.rules.specs.Utf8.{◌to◌, seq_len, code_point}

-- White_Space, as ranges of code points
abbrev pub spaces : List Range
spaces =
    0x0009 to 0x000D ∷
    0x0020 to 0x0020 ∷
    0x0085 to 0x0085 ∷
    0x00A0 to 0x00A0 ∷
    0x1680 to 0x1680 ∷
    0x2000 to 0x200A ∷
    0x2028 to 0x2029 ∷
    0x202F to 0x202F ∷
    0x205F to 0x205F ∷
    0x3000 to 0x3000 ∷ []

-- a number in one of the ranges
abbrev pub in_any : List Range → ℕ → Bool
in_any [] c = false
in_any (r ∷ l) c = inside r.lo r.hi c || in_any l c

unfoldable pub white : ℕ → Bool
white c = in_any spaces c

-- the bytes of a white-space character at the front of a text; 0 where there is none
unfoldable pub space_len : List ℕ → ℕ
space_len s = cond (leb 1 (seq_len s) && white (code_point (seq_len s) s)) (seq_len s) 0

-- the bytes of a comment at the front, up to its line feed or the end; 0 where there is none
unfoldable pub comment_len : List ℕ → ℕ
comment_len [] = 0
comment_len (b ∷ s) = cond (eqb b (byte ";")) (suc (count line_byte s)) 0

-- the bytes of a white-space character or of a comment at the front; 0 where there is neither
unfoldable pub skip_len : List ℕ → ℕ
skip_len s = cond (leb 1 (space_len s)) (space_len s) (comment_len s)

-- the bytes of white space and comments at the front
abbrev pub gap : List ℕ → ℕ
gap s = far skip_len 0 s
