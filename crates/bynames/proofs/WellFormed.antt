-- What items of an accepted text are like. A scope is statements, the newest first.
-- Assumes nothing.
use mathlib.Core.Path.{◌≡◌}
use mathlib.Core.Bool.{Bool, true, false}
use mathlib.Core.List.{List, [], ◌∷◌}
use Prim.Native.Nat.{ℕ, ◌≤◌, ◌<◌, ◌^◌}
use lib.ListN.{length}
use Rattle.rules.specs.Bytes.{byte, name_byte, pattern_byte, bit}
use Rattle.rules.specs.Instructions.{arity_of}
use Rattle.rules.specs.Syntax.{Name, Typing, untyped, typed, Operand, value, constant, RightSide, var, block, phi, reservedinst, reservedconst, instruction, Attribute, known_bits, power_of_two, negative, non_negative, non_zero, has_external_uses, sign_bits, range, RootAttribute, demanded_bits, harvested_from_use, Assignment, Statement, assignment, pc, blockpc, Closing, infer_result, cand, infer, result, Item, scope, refers, roots}
use Rattle.rules.specs.Listing.{has, among}
use Rattle.rules.specs.Grammar.{side_of}
use Rattle.rules.specs.Meaning.{All, Each}

-- ---- what each part is by itself
-- '%' and one or more name bytes
pub record IsName (n : Name) : Type 0 where
  pub first : ℕ
  pub rest : List ℕ
  pub spelt : n ≡ byte "%" ∷ first ∷ rest
  pub each : Each name_byte (first ∷ rest)

-- one or more letters of a pattern
pub record IsPattern (p : ℕ → Bool) (l : List ℕ) : Type 0 where
  pub first : ℕ
  pub rest : List ℕ
  pub spelt : l ≡ first ∷ rest
  pub each : Each p (first ∷ rest)

abbrev pub TypingOk : Typing → Type 0
TypingOk untyped = Unit {0}
TypingOk (typed w) = (1 ≤ w) × (w < 2 ^ 16)

abbrev pub OperandOk : Operand → Type 0
OperandOk (value n) = IsName n
OperandOk (constant c t) = (c < 2 ^ 128) × TypingOk t

abbrev pub SideOk : RightSide → Type 0
SideOk var = Unit {0}
SideOk (block k) = k < 2 ^ 32
SideOk (phi b l) = IsName b × All OperandOk l
SideOk reservedinst = Unit {0}
SideOk reservedconst = Unit {0}
SideOk (instruction k l) = (k < 59) × (length l ≡ arity_of k) × All OperandOk l

abbrev pub AttributeOk : Attribute → Type 0
AttributeOk (known_bits l) = IsPattern pattern_byte l
AttributeOk power_of_two = Unit {0}
AttributeOk negative = Unit {0}
AttributeOk non_negative = Unit {0}
AttributeOk non_zero = Unit {0}
AttributeOk has_external_uses = Unit {0}
AttributeOk (sign_bits n) = n < 2 ^ 8
AttributeOk (range a b) = (a < 2 ^ 128) × (b < 2 ^ 128)

abbrev pub RootAttributeOk : RootAttribute → Type 0
RootAttributeOk (demanded_bits l) = IsPattern bit l
RootAttributeOk harvested_from_use = Unit {0}

pub record AssignmentOk (a : Assignment) : Type 0 where
  pub name : IsName a.name
  pub typing : TypingOk a.typing
  pub side : SideOk a.side
  pub attributes : All AttributeOk a.attributes

abbrev pub StatementOk : Statement → Type 0
StatementOk (assignment a) = AssignmentOk a
StatementOk (pc x y) = OperandOk x × OperandOk y
StatementOk (blockpc b k x y) = IsName b × (k < 2 ^ 32) × OperandOk x × OperandOk y

abbrev pub ClosingOk : Closing → Type 0
ClosingOk (infer_result n l o) = IsName n × All RootAttributeOk l × OperandOk o
ClosingOk (cand x y l) = OperandOk x × OperandOk y × All RootAttributeOk l
ClosingOk (infer n l) = IsName n × All RootAttributeOk l
ClosingOk (result o) = OperandOk o

-- ---- what each part is in its scope
abbrev pub Known : List Statement → List Name → Type 0
Known t = All (λ m. has m t ≡ true)

abbrev pub is_block : RightSide → Bool
is_block var = false
is_block (block k) = true
is_block (phi b l) = false
is_block reservedinst = false
is_block reservedconst = false
is_block (instruction k l) = false

-- a block's number
abbrev pub block_size : RightSide → ℕ
block_size var = 0
block_size (block k) = k
block_size (phi b l) = 0
block_size reservedinst = 0
block_size reservedconst = 0
block_size (instruction k l) = 0

-- a phi's block is one, and the phi has as many operands as its number; a blockpc's block is one
abbrev pub SideFits : List Statement → RightSide → Type 0
SideFits t var = Unit {0}
SideFits t (block k) = Unit {0}
SideFits t (phi b l) = (is_block (side_of b t) ≡ true) × (length l ≡ block_size (side_of b t))
SideFits t reservedinst = Unit {0}
SideFits t reservedconst = Unit {0}
SideFits t (instruction k l) = Unit {0}

abbrev pub BlockFits : List Statement → Statement → Type 0
BlockFits t (assignment a) = SideFits t a.side
BlockFits t (pc x y) = Unit {0}
BlockFits t (blockpc b k x y) = is_block (side_of b t) ≡ true

-- a statement may be the next of a scope
pub record Fits (t : List Statement) (s : Statement) : Type 0 where
  pub ok : StatementOk s
  pub fresh : among t s ≡ false
  pub known : Known t (refers s)
  pub blocks : BlockFits t s

-- each statement fits those before it
abbrev pub Wf : List Statement → Type 0
Wf [] = Unit {0}
Wf (s ∷ t) = Fits t s × Wf t

pub record WfItem (x : Item) : Type 0 where
  pub wf : Wf (scope x)
  pub ok : ClosingOk x.closing
  pub known : Known (scope x) (roots x.closing)
