-- Section 1 of docs/RULES.md. Integers: how decimals are read, what fits a field, and the shortest decimal.
-- A number of 128 bits is its two's complement, a number below 2^128.
-- Assumes nothing.
use Rattle.std.specs.Prelude.{ℕ, zero, suc, ◌+◌, ◌-◌, ◌*◌, ◌/◌, ◌%◌, ◌^◌, Bool, cond, List, [], ◌∷◌, ◌++◌, eqb, leb, ltb, get_or, drop}
use Rattle.rules.specs.Bytes.{byte, digit}

-- what a text reads as: a number, or nothing
pub data Read : Type 0 where
  number : ℕ → Read
  refused : Read

-- the number that v becomes as the digits of a list are put behind it
abbrev pub behind : ℕ → List ℕ → Read
behind v [] = number v
behind v (b ∷ l) = cond (digit b) (behind (v * 10 + (b - byte "0")) l) refused

-- digits, one or more
abbrev pub unsigned : List ℕ → Read
unsigned [] = refused
unsigned (b ∷ l) = behind 0 (b ∷ l)

-- a number that is below a bound
abbrev pub below : ℕ → Read → Read
below n (number v) = cond (ltb v n) (number v) refused
below n refused = refused

-- a number that fits a field of so many bits, unsigned
abbrev pub fits : ℕ → Read → Read
fits width = below (2 ^ width)

-- the two's complement of minus a number
abbrev pub opposite : ℕ → ℕ
opposite b = cond (eqb b 0) 0 (2 ^ 128 - b)

abbrev pub minus : Read → Read
minus (number v) = number (opposite v)
minus refused = refused

-- an integer from -2^127 to 2^127-1: leading zeros and '-0' are read, a lone '-' is not
unfoldable pub integer : List ℕ → Read
integer s =
    cond (eqb (get_or s 0 0) (byte "-"))
    (minus (below (2 ^ 127 + 1) (unsigned (drop 1 s))))
    (below (2 ^ 127) (unsigned s))

-- a number that is not 0
abbrev pub positive : Read → Read
positive (number v) = cond (eqb v 0) refused (number v)
positive refused = refused

-- the width of a type: 'i' and a decimal from 1 to 65535, leading zeros read
unfoldable pub type_width : List ℕ → Read
type_width s = cond (eqb (get_or s 0 0) (byte "i")) (positive (fits 16 (unsigned (drop 1 s)))) refused

-- the shortest decimal of a number of at most f digits
abbrev pub spell : ℕ → ℕ → List ℕ
spell zero n = []
spell (suc f) n = cond (ltb n 10) ((byte "0" + n) ∷ []) (spell f (n / 10) ++ ((byte "0" + n % 10) ∷ []))

-- 128 bits take at most 39 digits
unfoldable pub digits : ℕ → List ℕ
digits n = spell 39 n

-- whether two's complement bits are those of a negative number
abbrev pub negative : ℕ → Bool
negative b = leb (2 ^ 127) b

-- the shortest decimal of two's complement bits
unfoldable pub decimal : ℕ → List ℕ
decimal b = cond (negative b) (byte "-" ∷ digits (opposite b)) (digits b)

-- a number by which two's complement bits stand in the order of the integers
abbrev pub order : ℕ → ℕ
order b = (b + 2 ^ 127) % 2 ^ 128
