-- A reader by names: the crate's grammar over the tokens of the rest of a text. A tool of the proofs.
-- Assumes nothing.
use mathlib.Core.Bool.{Bool, cond, ◌&&◌}
use mathlib.Core.List.{List, [], ◌∷◌}
use Prim.Native.Nat.{ℕ, zero, suc}
use lib.ListN.{length, drop}
use lib.Dec.{eqb, ltb}
use Rattle.rules.specs.Bytes.{bytes, count, same, bit}
use Rattle.rules.specs.Integers.{Read, number, refused, type_width}
use Rattle.rules.specs.Instructions.{instruction_of, arity_of}
use Rattle.rules.specs.Tokens as T
use Rattle.rules.specs.Syntax.{Name, Typing, untyped, typed, Operand, value, constant, RightSide, var, block, phi, reservedinst, reservedconst, instruction, Attribute, known_bits, power_of_two, negative, non_negative, non_zero, has_external_uses, sign_bits, range, RootAttribute, demanded_bits, harvested_from_use, Statement, assignment, pc, blockpc, Closing, infer_result, cand, infer, result, Item}
pub use Rattle.bynames.proofs.Parser.{State, Token, Res, go, stop, P, bind, ◌>>=◌, ◌>>◌, refuse, give, at, seen, look, demanded, demand, read, fresh, known, blocked, enter, ahead, fuel_of}
unfoldable pub use Rattle.bynames.proofs.Parser.{expect, keyword, int, field}

-- ---- types and operands
abbrev pub width : Read → P Typing
width (number n) = give (typed n)
width refused = refuse

unfoldable pub typing : P Typing
typing = do
  t ← look
  cond (eqb t.kind T.colon) (do
    expect T.colon
    w ← expect T.ident
    width (type_width w)) (give untyped)

unfoldable pub operand : P Operand
operand = do
  t ← look
  cond (eqb t.kind T.val_name) (do
    n ← expect T.val_name
    known n
    give (value n)) (do
      c ← int
      y ← typing
      give (constant c y))

-- so many operands, each after a comma; and with commas between
unfoldable pub further : ℕ → P (List Operand)
further zero = give []
further (suc n) = do
  expect T.comma
  o ← operand
  l ← further n
  give (o ∷ l)

unfoldable pub operands : ℕ → P (List Operand)
operands zero = give []
operands (suc n) = do
  o ← operand
  l ← further n
  give (o ∷ l)

-- ---- attributes
abbrev pub closed : {A : Type 0} → A → P A
closed a = do
  expect T.close_paren
  give a

abbrev pub after_equals : {A : Type 0} → P A → P A
after_equals p = do
  expect T.equals
  p

unfoldable pub bounds : P Attribute
bounds = do
  expect T.open_bracket
  a ← int
  expect T.comma
  b ← int
  expect T.close_paren
  closed (range a b)

unfoldable pub counted : P Attribute
counted = do
  n ← field 8
  closed (sign_bits n)

-- the attribute of a word, up to its last ')'
unfoldable pub attribute_of : List ℕ → P Attribute
attribute_of w =
    cond (same w (bytes "powerOfTwo")) (closed power_of_two)
    (cond (same w (bytes "negative")) (closed negative)
    (cond (same w (bytes "nonNegative")) (closed non_negative)
    (cond (same w (bytes "nonZero")) (closed non_zero)
    (cond (same w (bytes "hasExternalUses")) (closed has_external_uses)
    (cond (same w (bytes "signBits")) (after_equals counted)
    (cond (same w (bytes "range")) (after_equals bounds) refuse))))))

unfoldable pub attribute : P Attribute
attribute = do
  expect T.open_paren
  t ← demand
  cond (eqb t.kind T.known_bits) (closed (known_bits (drop 10 t.letters)))
      (cond (eqb t.kind T.ident) (attribute_of t.letters) refuse)

unfoldable pub demanded_pattern : P RootAttribute
demanded_pattern = do
  w ← expect T.int
  cond (eqb (count bit w) (length w)) (closed (demanded_bits w)) refuse

unfoldable pub root_attribute : P RootAttribute
root_attribute = do
  expect T.open_paren
  w ← expect T.ident
  cond (same w (bytes "harvestedFromUse")) (closed harvested_from_use)
      (cond (same w (bytes "demandedBits")) (after_equals demanded_pattern) refuse)

-- attributes, as long as there is a '('
unfoldable pub attributes : {A : Type 0} → P A → ℕ → P (List A)
attributes one zero = refuse
attributes one (suc fuel) = do
  t ← look
  cond (eqb t.kind T.open_paren) (do
    a ← one
    l ← attributes one fuel
    give (a ∷ l)) (give [])

abbrev pub attributes_here : {A : Type 0} → P A → P (List A)
attributes_here one w = attributes one (fuel_of w) w

-- ---- right sides
unfoldable pub right_side : P RightSide
right_side = do
  w ← expect T.ident
  cond (same w (bytes "var")) (give var)
      (cond (same w (bytes "block")) (do
        k ← field 32
        give (block k))
      (cond (same w (bytes "phi")) (do
        b ← expect T.val_name
        n ← blocked b
        l ← further n
        give (phi b l))
      (cond (same w (bytes "reservedinst")) (give reservedinst)
      (cond (same w (bytes "reservedconst")) (give reservedconst)
      (cond (ltb (instruction_of w) 59) (do
        l ← operands (arity_of (instruction_of w))
        give (instruction (instruction_of w) l)) refuse)))))

-- ---- statements
unfoldable pub assigned : P Statement
assigned = do
  n ← expect T.val_name
  fresh n
  y ← typing
  expect T.equals
  r ← right_side
  l ← attributes_here attribute
  enter (assignment (record { name = n; typing = y; side = r; attributes = l }))

unfoldable pub condition : P Statement
condition = do
  keyword (bytes "pc")
  x ← operand
  y ← operand
  enter (pc x y)

unfoldable pub block_condition : P Statement
block_condition = do
  keyword (bytes "blockpc")
  b ← expect T.val_name
  n ← blocked b
  k ← field 32
  x ← operand
  y ← operand
  enter (blockpc b k x y)

-- a token is an identifier of these letters
abbrev pub is : List ℕ → Token → Bool
is k t = eqb t.kind T.ident && same t.letters k

unfoldable pub statements : ℕ → P (List Statement)
statements zero = refuse
statements (suc fuel) = do
  t ← look
  cond (eqb t.kind T.val_name) (do
    s ← assigned
    l ← statements fuel
    give (s ∷ l))
      (cond (is (bytes "pc") t) (do
        s ← condition
        l ← statements fuel
        give (s ∷ l))
      (cond (is (bytes "blockpc") t) (do
        s ← block_condition
        l ← statements fuel
        give (s ∷ l)) (give [])))

abbrev pub statements_here : P (List Statement)
statements_here w = statements (fuel_of w) w

-- ---- items
pub record Inferred : Type 0 where
  pub name : Name
  pub attributes : List RootAttribute

-- what stands behind 'infer'
unfoldable pub inferred : P Inferred
inferred = do
  n ← expect T.val_name
  known n
  l ← attributes_here root_attribute
  give (record { name = n; attributes = l })

abbrev pub item : List Statement → List Statement → Closing → P Item
item t u c = give (record { before = t; between = u; closing = c })

unfoldable pub candidate : List Statement → P Item
candidate t = do
  x ← operand
  y ← operand
  l ← attributes_here root_attribute
  item t [] (cand x y l)

unfoldable pub pair : List Statement → P Item
pair t = do
  i ← inferred
  u ← statements_here
  keyword (bytes "result")
  o ← operand
  item t u (infer_result i.name i.attributes o)

unfoldable pub replacement : P Item
replacement = do
  t ← statements_here
  w ← expect T.ident
  cond (same w (bytes "infer")) (pair t) (cond (same w (bytes "cand")) (candidate t) refuse)

unfoldable pub left_hand_side : P Item
left_hand_side = do
  t ← statements_here
  keyword (bytes "infer")
  i ← inferred
  item t [] (infer i.name i.attributes)

unfoldable pub right_hand_side : P Item
right_hand_side = do
  t ← statements_here
  keyword (bytes "result")
  o ← operand
  item t [] (result o)

-- the three entry points
pub data Entry : Type 0 where
  replacements : Entry
  left_hand_sides : Entry
  right_hand_sides : Entry

abbrev pub item_of : Entry → P Item
item_of replacements = replacement
item_of left_hand_sides = left_hand_side
item_of right_hand_sides = right_hand_side

-- scope ends with the item
abbrev pub new_item : {A : Type 0} → P A → P A
new_item p w = p (record { scope = []; next = w.next })

unfoldable pub list : Entry → ℕ → P (List Item)
list e zero = refuse
list e (suc fuel) = do
  t ← look
  cond (eqb t.kind 0) (give []) (do
    x ← new_item (item_of e)
    l ← list e fuel
    give (x ∷ l))

pub data Answer : Type 0 where
  accepted : List Item → Answer
  refusal : Answer

abbrev pub answer : Res (List Item) → Answer
answer (go l w) = accepted l
answer stop = refusal

unfoldable pub reading : Entry → List ℕ → Answer
reading e text = answer (list e (suc (length text)) (at [] text))
