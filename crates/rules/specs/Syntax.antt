-- Section 7 of docs/RULES.md. Items: statements and closing lines, with names for references and numbers for numbers. Meaning and printing speak of these alone.
-- A name is all its bytes, '%' included. A constant is its two's complement, a number below 2^128.
-- Assumes nothing.
use Rattle.std.specs.Prelude.{ℕ, List, [], ◌∷◌, ◌++◌}

abbrev pub Name : Type 0
Name = List ℕ

-- no type, or the type of a width
pub data Typing : Type 0 where
  untyped : Typing
  typed : ℕ → Typing

pub data Operand : Type 0 where
  value : Name → Operand
  constant : ℕ → Typing → Operand

-- what stands right of '='; an instruction is its place in `instructions`, a block's number is how many operands a phi of it has
pub data RightSide : Type 0 where
  var : RightSide
  block : ℕ → RightSide
  phi : Name → List Operand → RightSide
  reservedinst : RightSide
  reservedconst : RightSide
  instruction : ℕ → List Operand → RightSide

-- a pattern is its letters
pub data Attribute : Type 0 where
  known_bits : List ℕ → Attribute
  power_of_two : Attribute
  negative : Attribute
  non_negative : Attribute
  non_zero : Attribute
  has_external_uses : Attribute
  sign_bits : ℕ → Attribute
  range : ℕ → ℕ → Attribute

pub data RootAttribute : Type 0 where
  demanded_bits : List ℕ → RootAttribute
  harvested_from_use : RootAttribute

pub record Assignment : Type 0 where
  pub name : Name
  pub typing : Typing
  pub side : RightSide
  pub attributes : List Attribute

pub data Statement : Type 0 where
  assignment : Assignment → Statement
  pc : Operand → Operand → Statement
  blockpc : Name → ℕ → Operand → Operand → Statement

-- An item's kind and closing lines: a replacement closes with infer and result, or with cand; a left-hand side with infer; a right-hand side with result.
pub data Closing : Type 0 where
  infer_result : Name → List RootAttribute → Operand → Closing
  cand : Operand → Operand → List RootAttribute → Closing
  infer : Name → List RootAttribute → Closing
  result : Operand → Closing

-- an item: the statements before its first closing line, those between infer and result, both in reading order, and its closing lines
pub record Item : Type 0 where
  pub before : List Statement
  pub between : List Statement
  pub closing : Closing

-- the lists that f gives for the elements of a list, joined
abbrev pub flat : {A B : Type 0} → (A → List B) → List A → List B
flat f [] = []
flat f (x ∷ l) = f x ++ flat f l

-- a list put onto another, one by one
abbrev pub onto : {A : Type 0} → List A → List A → List A
onto [] t = t
onto (x ∷ l) t = onto l (x ∷ t)

-- all statements of an item, the newest first
abbrev pub scope : Item → List Statement
scope x = onto x.between (onto x.before [])

-- the names that an operand, a right side, a statement refers to: a block before operands, operands left to right
abbrev pub of_operand : Operand → List Name
of_operand (value n) = n ∷ []
of_operand (constant c t) = []

abbrev pub of_side : RightSide → List Name
of_side var = []
of_side (block k) = []
of_side (phi b l) = b ∷ flat of_operand l
of_side reservedinst = []
of_side reservedconst = []
of_side (instruction k l) = flat of_operand l

abbrev pub refers : Statement → List Name
refers (assignment a) = of_side a.side
refers (pc x y) = of_operand x ++ of_operand y
refers (blockpc b k x y) = b ∷ of_operand x ++ of_operand y

-- an item's roots: those of its first closing line, and the result's where it stands behind an infer
abbrev pub first_roots : Closing → List Name
first_roots (infer_result n l o) = n ∷ []
first_roots (cand x y l) = of_operand x ++ of_operand y
first_roots (infer n l) = n ∷ []
first_roots (result o) = of_operand o

abbrev pub second_roots : Closing → List Name
second_roots (infer_result n l o) = of_operand o
second_roots (cand x y l) = []
second_roots (infer n l) = []
second_roots (result o) = []

abbrev pub roots : Closing → List Name
roots c = first_roots c ++ second_roots c
