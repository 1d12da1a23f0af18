-- How long each piece is at most, where the text has at most 65,536 bytes and spans have at most 65,536 rows.
-- Assumes nothing.
use mathlib.Core.Path.{◌≡◌, ap, ◌∙◌}
use mathlib.Core.Bool.{Bool, true, false, cond}
use mathlib.Core.List.{List, [], ◌++◌}
use Prim.Native.Nat.{ℕ, zero, suc, ◌+◌, ◌-◌, ◌*◌, ◌^◌, ◌≤◌}
use native.Mathlib.Omega.{arith}
use lib.Dec.{eqb}
use lib.ListN.{length, length-append, length-take, length-drop}
use Rattle.rules.specs.declared.Span.{Span}
use Rattle.rules.specs.declared.Operand.{Operand}
use Rattle.rules.specs.declared.Attribute.{Attribute}
use Rattle.rules.specs.Bytes.{bytes}
use Rattle.rules.specs.Keywords as keyword
use Rattle.rules.specs.Rows.{letters_of, name_at, bits_of, statement_at, operand_at, attribute_at, value_code, known_bits_code, sign_bits_code, demanded_bits_code}
use Rattle.rules.specs.Reading.{attribute_code}
use Rattle.rules.specs.Syntax as syntax
use Rattle.rules.specs.View.{each, along, typing_of, as_operand, operand_of, as_attribute, attribute_of, as_root_attribute, root_attribute_of}
use Rattle.rules.specs.Printing.{typing, operand, further, operands, attribute, root_attribute, attributes}
use Rattle.wide.proofs.Decimals.{decimal-most}
use Rattle.pieces.specs.Bounds.{Few}
use Rattle.proof_tails.proofs.Tails.{operand-tail, attribute-tail, root_attribute_tail}

-- a choice of two is as short as both
pub either : {A : Type 0} (f : A → List ℕ) (t : Bool) (x y : A) {m : ℕ} → length (f x) ≤ m → length (f y) ≤ m → length (f (cond t x y)) ≤ m
either f true x y h k = h
either f false x y h k = k

-- a piece before a tail is as long as both
tailed : (f : List ℕ → List ℕ) → ((r : List ℕ) → f r ≡ f [] ++ r) → (r : List ℕ) → length (f r) ≡ length (f []) + length r
tailed f tail r = ap length (tail r) ∙ length-append (f []) r

pub letters-short : (text : List ℕ) (s : Span) → length (letters_of text s) ≤ length text
letters-short text s = simp (length-take, length-drop) (omega arith)

pub name-short : (text S : List ℕ) (i : ℕ) → length (name_at text S i) ≤ length text
unfolding name_at
name-short text S i = letters-short text (statement_at S i).name

pub typing-short : (t : syntax.Typing) → length (typing t []) ≤ 42
typing-short syntax.untyped = omega arith
typing-short (syntax.typed w) = simp length-append (omega (arith, decimal-most w))

pub constant-short : (c : ℕ) (t : syntax.Typing) → length (operand (syntax.constant c t) []) ≤ 82
constant-short c t = simp length-append (omega (arith, decimal-most c, typing-short t))

module _ (f : ℕ → syntax.Operand) (one : (i : ℕ) → length (operand (f i) []) ≤ 65536) where
  further-short : (i n : ℕ) → length (further (each f i n) []) ≤ 65538 * n
  further-short i zero = omega arith
  further-short i (suc n) = omega (arith, tailed (operand (f i)) (operand-tail (f i)) (further (each f (i + 1) n) []), one i, further-short (i + 1) n)

  operands_short : (i n : ℕ) → length (operands (each f i n) []) ≤ 65538 * n
  operands_short i zero = omega arith
  operands_short i (suc n) = omega (arith, tailed (operand (f i)) (operand-tail (f i)) (further (each f (i + 1) n) []), one i, further-short (i + 1) n)

-- attributes of either sort
module _ {A : Type 0} (show : A → List ℕ → List ℕ) (tail : (a : A) (r : List ℕ) → show a r ≡ show a [] ++ r) (f : ℕ → A) (one : (i : ℕ) → length (show (f i) []) ≤ 65549) where
  attributes-short : (i n : ℕ) → length (attributes show (each f i n) []) ≤ 65552 * n
  attributes-short i zero = omega arith
  attributes-short i (suc n) = omega (arith, tailed (show (f i)) (tail (f i)) (bytes ")" ++ attributes show (each f (i + 1) n) []), one i, attributes-short (i + 1) n)

-- the rows of a span
long-short : (s : Span) → Few s → s.past - s.first ≤ 65536
long-short s w = omega (arith, w.past)

module _ (text : List ℕ) (h : length text ≤ 65536) where
  pub name-most : (S : List ℕ) (i : ℕ) → length (name_at text S i) ≤ 65536
  name-most S i = omega (arith, name-short text S i)

  as_operand_short : (S : List ℕ) (r : Operand) → length (operand (as_operand text S r) []) ≤ 65536
  unfolding as_operand
  as_operand_short S r =
      either (λ (o : syntax.Operand). operand o []) (eqb r.code value_code) (syntax.value (name_at text S r.row)) (syntax.constant (bits_of r.bits) (typing_of r.width))
      (simp length-append (omega (arith, name-most S r.row)))
      (omega (arith, constant-short (bits_of r.bits) (typing_of r.width)))

  pub operand_short : (S O : List ℕ) (i : ℕ) → length (operand (operand_of text S O i) []) ≤ 65536
  unfolding operand_of
  operand_short S O i = as_operand_short S (operand_at O i)

  pub pair_short : (S O : List ℕ) (i j : ℕ) → length (operand (operand_of text S O i) (bytes " " ++ operand (operand_of text S O j) [])) ≤ 131073
  pair_short S O i j =
      omega (arith, tailed (operand (operand_of text S O i)) (operand-tail (operand_of text S O i)) (bytes " " ++ operand (operand_of text S O j) []), operand_short S O i, operand_short S O j)

  pub further-most : (S O : List ℕ) (s : Span) → Few s → length (further (along (operand_of text S O) s) []) ≤ 2 ^ 33
  further-most S O s w = omega (arith, further-short (operand_of text S O) (operand_short S O) s.first (s.past - s.first), long-short s w)

  pub operands-most : (S O : List ℕ) (s : Span) → Few s → length (operands (along (operand_of text S O) s) []) ≤ 2 ^ 33
  operands-most S O s w = omega (arith, operands_short (operand_of text S O) (operand_short S O) s.first (s.past - s.first), long-short s w)

  -- what stands between an attribute's parentheses
  as_attribute_short : (r : Attribute) → length (attribute (as_attribute text r) []) ≤ 65549
  unfolding as_attribute
  as_attribute_short r =
      let last = syntax.range (bits_of r.low) (bits_of r.high) in
      let seventh = cond (eqb r.code sign_bits_code) (syntax.sign_bits (bits_of r.low)) last in
      let sixth = cond (eqb r.code (attribute_code keyword.has_external_uses)) syntax.has_external_uses seventh in
      let fifth = cond (eqb r.code (attribute_code keyword.non_zero)) syntax.non_zero sixth in
      let fourth = cond (eqb r.code (attribute_code keyword.non_negative)) syntax.non_negative fifth in
      let third = cond (eqb r.code (attribute_code keyword.negative)) syntax.negative fourth in
      let second = cond (eqb r.code (attribute_code keyword.power_of_two)) syntax.power_of_two third in
      let f : syntax.Attribute → List ℕ = λ a. attribute a [] in
      either f (eqb r.code known_bits_code) (syntax.known_bits (letters_of text r.pattern)) second (simp length-append (omega (arith, letters-short text r.pattern)))
      (either f (eqb r.code (attribute_code keyword.power_of_two)) syntax.power_of_two third (omega arith)
      (either f (eqb r.code (attribute_code keyword.negative)) syntax.negative fourth (omega arith)
      (either f (eqb r.code (attribute_code keyword.non_negative)) syntax.non_negative fifth (omega arith)
      (either f (eqb r.code (attribute_code keyword.non_zero)) syntax.non_zero sixth (omega arith)
      (either f (eqb r.code (attribute_code keyword.has_external_uses)) syntax.has_external_uses seventh (omega arith)
      (either f (eqb r.code sign_bits_code) (syntax.sign_bits (bits_of r.low)) last (simp length-append (omega (arith, decimal-most (bits_of r.low))))
      (simp length-append (omega (arith, decimal-most (bits_of r.low), decimal-most (bits_of r.high))))))))))

  pub attribute-short : (A : List ℕ) (i : ℕ) → length (attribute (attribute_of text A i) []) ≤ 65549
  unfolding attribute_of
  attribute-short A i = as_attribute_short (attribute_at A i)

  as_root_attribute_short : (r : Attribute) → length (root_attribute (as_root_attribute text r) []) ≤ 65549
  unfolding as_root_attribute
  as_root_attribute_short r =
      either (λ (a : syntax.RootAttribute). root_attribute a []) (eqb r.code demanded_bits_code) (syntax.demanded_bits (letters_of text r.pattern)) syntax.harvested_from_use
      (simp length-append (omega (arith, letters-short text r.pattern)))
      (omega arith)

  pub root_attribute_short : (A : List ℕ) (i : ℕ) → length (root_attribute (root_attribute_of text A i) []) ≤ 65549
  unfolding root_attribute_of
  root_attribute_short A i = as_root_attribute_short (attribute_at A i)

  pub attributes-most : (A : List ℕ) (s : Span) → Few s → length (attributes attribute (along (attribute_of text A) s) []) ≤ 2 ^ 33
  attributes-most A s w =
      omega (arith, attributes-short attribute attribute-tail (attribute_of text A) (attribute-short A) s.first (s.past - s.first), long-short s w)

  pub root_attributes_most : (A : List ℕ) (s : Span) → Few s → length (attributes root_attribute (along (root_attribute_of text A) s) []) ≤ 2 ^ 33
  root_attributes_most A s w =
      omega (arith, attributes-short root_attribute root_attribute_tail (root_attribute_of text A) (root_attribute_short A) s.first (s.past - s.first), long-short s w)
