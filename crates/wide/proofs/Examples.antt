-- Worked examples of the definitions.
-- Assumes nothing.
use mathlib.Core.Path.{◌≡◌, refl}
use Prim.Native.Nat.{◌^◌, ◌-◌}
use Rattle.rules.specs.Bytes.{bytes, inside, digit}
use Rattle.rules.specs.Integers.{number, refused, integer, type_width, digits, decimal}

largest : integer (bytes "170141183460469231731687303715884105727") ≡ number (2 ^ 127 - 1)
unfolding inside digit integer
largest = refl

too_large : integer (bytes "170141183460469231731687303715884105728") ≡ refused
unfolding inside digit integer
too_large = refl

least : integer (bytes "-170141183460469231731687303715884105728") ≡ number (2 ^ 127)
unfolding inside digit integer
least = refl

too_small : integer (bytes "-170141183460469231731687303715884105729") ≡ refused
unfolding inside digit integer
too_small = refl

minus-zero : integer (bytes "-0") ≡ number 0
unfolding inside digit integer
minus-zero = refl

lone_sign : integer (bytes "-") ≡ refused
unfolding inside digit integer
lone_sign = refl

zeros : integer (bytes "-007") ≡ number (2 ^ 128 - 7)
unfolding inside digit integer
zeros = refl

prints_least : decimal (2 ^ 127) ≡ bytes "-170141183460469231731687303715884105728"
unfolding digits decimal
prints_least = refl

prints_minus_one : decimal (2 ^ 128 - 1) ≡ bytes "-1"
unfolding digits decimal
prints_minus_one = refl

type_of_eight : type_width (bytes "i08") ≡ number 8
unfolding inside digit type_width
type_of_eight = refl

type_too_wide : type_width (bytes "i65536") ≡ refused
unfolding inside digit type_width
type_too_wide = refl

type_of_none : type_width (bytes "i00") ≡ refused
unfolding inside digit type_width
type_of_none = refl
