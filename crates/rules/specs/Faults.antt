-- Section 4 of docs/RULES.md. What can be at fault in a text, as numbers of our own. Answers says which number of the table each is.
-- Assumes nothing.
use Rattle.std.specs.Prelude.{ℕ}

abbrev pub none : ℕ
none = 0

abbrev pub lexer : ℕ
lexer = 1

abbrev pub token : ℕ
token = 2

abbrev pub end : ℕ
end = 3

abbrev pub integer : ℕ
integer = 4

abbrev pub unknown : ℕ
unknown = 5

abbrev pub redefined : ℕ
redefined = 6

abbrev pub no_block : ℕ
no_block = 7

abbrev pub no_row : ℕ
no_row = 8

-- a list that repeats without end: proved never to be
abbrev pub fuel : ℕ
fuel = 9
