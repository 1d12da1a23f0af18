-- Section 2 of docs/RULES.md. What each keyword is called: its place in the list `keywords` of Instructions.
-- Assumes nothing.
use Rattle.std.specs.Prelude.{ℕ, Option, Some, None}
use Rattle.rules.specs.declared.keyword.Keyword.{Keyword}
use Rattle.rules.specs.declared.keyword.Keyword.TheVariants as word

abbrev pub var : ℕ
var = 0

abbrev pub block : ℕ
block = 1

abbrev pub phi : ℕ
phi = 2

abbrev pub reservedinst : ℕ
reservedinst = 3

abbrev pub reservedconst : ℕ
reservedconst = 4

abbrev pub pc : ℕ
pc = 5

abbrev pub blockpc : ℕ
blockpc = 6

abbrev pub infer : ℕ
infer = 7

abbrev pub result : ℕ
result = 8

abbrev pub cand : ℕ
cand = 9

abbrev pub power_of_two : ℕ
power_of_two = 10

abbrev pub negative : ℕ
negative = 11

abbrev pub non_negative : ℕ
non_negative = 12

abbrev pub non_zero : ℕ
non_zero = 13

abbrev pub has_external_uses : ℕ
has_external_uses = 14

abbrev pub sign_bits : ℕ
sign_bits = 15

abbrev pub range : ℕ
range = 16

abbrev pub demanded_bits : ℕ
demanded_bits = 17

abbrev pub harvested_from_use : ℕ
harvested_from_use = 18

abbrev pub other : ℕ
other = 19

-- the number of a keyword, or that a word is none
abbrev pub keyword_number : Option Keyword → ℕ
keyword_number None = other
keyword_number (Some word.Var) = var
keyword_number (Some word.Block) = block
keyword_number (Some word.Phi) = phi
keyword_number (Some word.Reservedinst) = reservedinst
keyword_number (Some word.Reservedconst) = reservedconst
keyword_number (Some word.Pc) = pc
keyword_number (Some word.Blockpc) = blockpc
keyword_number (Some word.Infer) = infer
keyword_number (Some word.Result) = result
keyword_number (Some word.Cand) = cand
keyword_number (Some word.PowerOfTwo) = power_of_two
keyword_number (Some word.Negative) = negative
keyword_number (Some word.NonNegative) = non_negative
keyword_number (Some word.NonZero) = non_zero
keyword_number (Some word.HasExternalUses) = has_external_uses
keyword_number (Some word.SignBits) = sign_bits
keyword_number (Some word.Range) = range
keyword_number (Some word.DemandedBits) = demanded_bits
keyword_number (Some word.HarvestedFromUse) = harvested_from_use
