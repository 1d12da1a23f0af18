-- What a row is seen as, by its code.
-- Assumes nothing.
use mathlib.Core.Path.{◌≡◌, refl}
use mathlib.Core.List.{List, [], ◌++◌, append-nil}
use Prim.Native.Nat.{ℕ}
use borrow.Author.Tests.{ne_eqb}
use Rattle.rules.specs.declared.Operand.{Operand}
use Rattle.rules.specs.declared.Attribute.{Attribute}
use Rattle.rules.specs.Keywords as keyword
use Rattle.rules.specs.Bytes.{bytes}
use Rattle.rules.specs.Reading.{attribute_code}
use Rattle.rules.specs.Rows.{letters_of, name_at, bits_of, operand_at, attribute_at, value_code, known_bits_code, sign_bits_code, demanded_bits_code}
use Rattle.rules.specs.Syntax as syntax
use Rattle.rules.specs.View.{typing_of, as_operand, operand_of, as_attribute, attribute_of, as_root_attribute, root_attribute_of}
use Rattle.rules.specs.Printing.{operand, attribute, root_attribute}

-- an operand's row
module _ (text S O : List ℕ) (i : ℕ) {r : Operand} (e : r ≡ operand_at O i) where
  pub value-seen : r.code ≡ value_code → operand (operand_of text S O i) [] ≡ name_at text S r.row
  unfolding operand_of as_operand
  value-seen h = rw (← e, h) (append-nil _)

  pub constant-seen : (r.code ≡ value_code → ⊥) → operand_of text S O i ≡ syntax.constant (bits_of r.bits) (typing_of r.width)
  unfolding operand_of as_operand
  constant-seen h = rw (← e, ne_eqb _ _ h)

-- an attribute's row
module _ (text A : List ℕ) (i : ℕ) {r : Attribute} (e : r ≡ attribute_at A i) where
  pub known-bits-seen : r.code ≡ known_bits_code → attribute_of text A i ≡ syntax.known_bits (letters_of text r.pattern)
  unfolding attribute_of as_attribute
  known-bits-seen h = rw (← e, h)

  pub known-bits-written : r.code ≡ known_bits_code → attribute (attribute_of text A i) [] ≡ bytes "knownBits=" ++ letters_of text r.pattern
  unfolding attribute_of as_attribute
  known-bits-written h = rw (← e, h, append-nil) refl

  pub power_of_two_seen : r.code ≡ attribute_code keyword.power_of_two → attribute_of text A i ≡ syntax.power_of_two
  unfolding attribute_of as_attribute
  power_of_two_seen h = rw (← e, h)

  pub negative-seen : r.code ≡ attribute_code keyword.negative → attribute_of text A i ≡ syntax.negative
  unfolding attribute_of as_attribute
  negative-seen h = rw (← e, h)

  pub non_negative_seen : r.code ≡ attribute_code keyword.non_negative → attribute_of text A i ≡ syntax.non_negative
  unfolding attribute_of as_attribute
  non_negative_seen h = rw (← e, h)

  pub non_zero_seen : r.code ≡ attribute_code keyword.non_zero → attribute_of text A i ≡ syntax.non_zero
  unfolding attribute_of as_attribute
  non_zero_seen h = rw (← e, h)

  pub has_external_uses_seen : r.code ≡ attribute_code keyword.has_external_uses → attribute_of text A i ≡ syntax.has_external_uses
  unfolding attribute_of as_attribute
  has_external_uses_seen h = rw (← e, h)

  pub sign_bits_seen : r.code ≡ sign_bits_code → attribute_of text A i ≡ syntax.sign_bits (bits_of r.low)
  unfolding attribute_of as_attribute
  sign_bits_seen h = rw (← e, h)

  pub range-seen : (r.code ≡ known_bits_code → ⊥) → (r.code ≡ attribute_code keyword.power_of_two → ⊥) → (r.code ≡ attribute_code keyword.negative → ⊥)
      → (r.code ≡ attribute_code keyword.non_negative → ⊥) → (r.code ≡ attribute_code keyword.non_zero → ⊥) → (r.code ≡ attribute_code keyword.has_external_uses → ⊥)
      → (r.code ≡ sign_bits_code → ⊥) → attribute_of text A i ≡ syntax.range (bits_of r.low) (bits_of r.high)
  unfolding attribute_of as_attribute
  range-seen g h j k l m n = rw (← e, ne_eqb _ _ g, ne_eqb _ _ h, ne_eqb _ _ j, ne_eqb _ _ k, ne_eqb _ _ l, ne_eqb _ _ m, ne_eqb _ _ n)

  pub demanded_bits_seen : r.code ≡ demanded_bits_code → root_attribute_of text A i ≡ syntax.demanded_bits (letters_of text r.pattern)
  unfolding root_attribute_of as_root_attribute
  demanded_bits_seen h = rw (← e, h)

  pub demanded_bits_written : r.code ≡ demanded_bits_code → root_attribute (root_attribute_of text A i) [] ≡ bytes "demandedBits=" ++ letters_of text r.pattern
  unfolding root_attribute_of as_root_attribute
  demanded_bits_written h = rw (← e, h, append-nil) refl

  pub harvested_seen : (r.code ≡ demanded_bits_code → ⊥) → root_attribute_of text A i ≡ syntax.harvested_from_use
  unfolding root_attribute_of as_root_attribute
  harvested_seen h = rw (← e, ne_eqb _ _ h)
