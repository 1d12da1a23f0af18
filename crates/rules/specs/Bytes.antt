-- Section 1 of docs/RULES.md. Bytes: quoted texts as lists of numbers, tests on bytes, and how far a text goes on in one way.
-- Assumes nothing.
use Rattle.std.specs.Prelude.{ℕ, zero, suc, ◌-◌, Bool, true, false, cond, not, ◌&&◌, ◌||◌, List, [], ◌∷◌, eqb, leb, take, drop}
use Prim.Native.Char.{code}
use Prim.Native.String.{String, len, char_at}

-- k characters of a quoted ASCII text from i on
abbrev pub from : String → ℕ → ℕ → List ℕ
from s i zero = []
from s i (suc k) = code (char_at s i) ∷ from s (suc i) k

-- a quoted ASCII text as a list of bytes, and one of a single character as a byte
abbrev pub bytes : String → List ℕ
bytes s = from s 0 (len s)

abbrev pub byte : String → ℕ
byte s = code (char_at s 0)

-- a number from lo up to and with hi
unfoldable pub inside : ℕ → ℕ → ℕ → Bool
inside lo hi b = leb lo b && leb b hi

unfoldable pub digit : ℕ → Bool
digit b = inside (byte "0") (byte "9") b

unfoldable pub letter : ℕ → Bool
letter b = inside (byte "A") (byte "Z") b || inside (byte "a") (byte "z") b

-- name bytes: ASCII letters, digits, '_', '.'
unfoldable pub name_byte : ℕ → Bool
name_byte b = letter b || (digit b || (eqb b (byte "_") || eqb b (byte ".")))

-- the letters of a knownBits pattern
unfoldable pub pattern_byte : ℕ → Bool
pattern_byte b = eqb b (byte "0") || (eqb b (byte "1") || eqb b (byte "x"))

-- the letters of a demandedBits pattern
abbrev pub bit : ℕ → Bool
bit b = eqb b (byte "0") || eqb b (byte "1")

-- any byte but line feed
unfoldable pub line_byte : ℕ → Bool
line_byte b = not (eqb b 10)

-- how many elements at the front pass p
abbrev pub count : (ℕ → Bool) → List ℕ → ℕ
count p [] = 0
count p (x ∷ l) = cond (p x) (suc (count p l)) 0

-- how far one gets in a list: past k elements, then again and again past as many as f says of the rest, until that is 0
abbrev pub far : (List ℕ → ℕ) → ℕ → List ℕ → ℕ
far f k [] = 0
far f (suc k) (x ∷ l) = suc (far f k l)
far f zero (x ∷ l) = cond (eqb (f (x ∷ l)) 0) 0 (suc (far f (f (x ∷ l) - 1) l))

-- whether two lists are the same
unfoldable pub same : List ℕ → List ℕ → Bool
same [] [] = true
same [] (y ∷ b) = false
same (x ∷ a) [] = false
same (x ∷ a) (y ∷ b) = eqb x y && same a b

-- the part of a text from a place up to another
abbrev pub part : List ℕ → ℕ → ℕ → List ℕ
part text first past = take (past - first) (drop first text)
