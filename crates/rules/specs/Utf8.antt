-- Section 1 of docs/RULES.md. Well-formed UTF-8, as the Unicode Standard's table 3-7 has it.
-- Assumes nothing.
use Rattle.std.specs.Prelude.{ℕ, ◌+◌, ◌*◌, ◌%◌, Bool, true, false, cond, ◌&&◌, List, [], ◌∷◌, eqb, leb, length, get_or, Result, Ok, Err}
use Rattle.rules.specs.declared.Range.{Range}
use Rattle.rules.specs.declared.IllFormed.{IllFormed}
use Rattle.rules.specs.Bytes.{inside, far}

-- the numbers from one up to and with another
abbrev pub ◌to◌ : ℕ → ℕ → Range
lo to hi = record { lo = lo; hi = hi }

infix 80 ◌to◌
-- table 3-7: a row has the ranges of a sequence's bytes, the first byte's first
abbrev pub sequences : List (List Range)
sequences =
    (0x00 to 0x7F ∷ []) ∷
    (0xC2 to 0xDF ∷ 0x80 to 0xBF ∷ []) ∷
    (0xE0 to 0xE0 ∷ 0xA0 to 0xBF ∷ 0x80 to 0xBF ∷ []) ∷
    (0xE1 to 0xEC ∷ 0x80 to 0xBF ∷ 0x80 to 0xBF ∷ []) ∷
    (0xED to 0xED ∷ 0x80 to 0x9F ∷ 0x80 to 0xBF ∷ []) ∷
    (0xEE to 0xEF ∷ 0x80 to 0xBF ∷ 0x80 to 0xBF ∷ []) ∷
    (0xF0 to 0xF0 ∷ 0x90 to 0xBF ∷ 0x80 to 0xBF ∷ 0x80 to 0xBF ∷ []) ∷
    (0xF1 to 0xF3 ∷ 0x80 to 0xBF ∷ 0x80 to 0xBF ∷ 0x80 to 0xBF ∷ []) ∷
    (0xF4 to 0xF4 ∷ 0x80 to 0x8F ∷ 0x80 to 0xBF ∷ 0x80 to 0xBF ∷ []) ∷ []

-- the bytes at the front of a text lie in a row's ranges, one after the other
abbrev pub lies : List Range → List ℕ → Bool
lies [] s = true
lies (r ∷ rs) [] = false
lies (r ∷ rs) (b ∷ s) = inside r.lo r.hi b && lies rs s

-- how long the first row is in which the front of a text lies; 0 where there is none
abbrev pub longest : List (List Range) → List ℕ → ℕ
longest [] s = 0
longest (r ∷ rs) s = cond (lies r s) (length r) (longest rs s)

-- the bytes of the well-formed sequence at the front of a text; 0 where there is none
unfoldable pub seq_len : List ℕ → ℕ
seq_len s = longest sequences s

-- what a check of a whole text finds: that it is well-formed, or that its first bad sequence starts at a place
abbrev pub Checked : Type 0
Checked = Result (Unit {0}) IllFormed

abbrev pub bad_at : ℕ → Checked
bad_at p = Err (record { at = p })

-- the whole text is made of well-formed sequences, or the first bad one starts at a place
abbrev pub checked : List ℕ → Checked
checked text = cond (eqb (far seq_len 0 text) (length text)) (Ok tt) (bad_at (far seq_len 0 text))

-- the code point of a sequence of n bytes at the front of a text (table 3-6)
abbrev pub follow : ℕ → ℕ → ℕ
follow high b = high * 64 + b % 64

unfoldable pub code_point : ℕ → List ℕ → ℕ
code_point n s =
    cond (leb n 1) (get_or s 0 0)
    (cond (leb n 2) (follow (get_or s 0 0 % 32) (get_or s 1 0))
    (cond (leb n 3) (follow (follow (get_or s 0 0 % 16) (get_or s 1 0)) (get_or s 2 0))
    (follow (follow (follow (get_or s 0 0 % 8) (get_or s 1 0)) (get_or s 2 0)) (get_or s 3 0))))
