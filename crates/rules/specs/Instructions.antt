-- Section 2 of docs/RULES.md. The instructions, in the order of the crate's grammar comment, and the other keywords.
-- Assumes nothing.
use Rattle.std.specs.Prelude.{ℕ, suc, cond, List, [], ◌∷◌, get_or}
use Prim.Native.String.{String}
use Rattle.rules.specs.Bytes.{bytes, same}

pub record Instruction : Type 0 where
  pub name : List ℕ
  pub arity : ℕ

-- an instruction, and how many operands it takes
abbrev pub ◌takes◌ : String → ℕ → Instruction
name takes arity = record { name = bytes name; arity = arity }

infix 80 ◌takes◌
abbrev pub instructions : List Instruction
instructions =
    "add" takes 2 ∷
    "addnsw" takes 2 ∷
    "addnuw" takes 2 ∷
    "addnw" takes 2 ∷
    "sub" takes 2 ∷
    "subnsw" takes 2 ∷
    "subnuw" takes 2 ∷
    "subnw" takes 2 ∷
    "mul" takes 2 ∷
    "mulnsw" takes 2 ∷
    "mulnuw" takes 2 ∷
    "mulnw" takes 2 ∷
    "udiv" takes 2 ∷
    "sdiv" takes 2 ∷
    "udivexact" takes 2 ∷
    "sdivexact" takes 2 ∷
    "urem" takes 2 ∷
    "srem" takes 2 ∷
    "and" takes 2 ∷
    "or" takes 2 ∷
    "xor" takes 2 ∷
    "shl" takes 2 ∷
    "shlnsw" takes 2 ∷
    "shlnuw" takes 2 ∷
    "shlnw" takes 2 ∷
    "lshr" takes 2 ∷
    "lshrexact" takes 2 ∷
    "ashr" takes 2 ∷
    "ashrexact" takes 2 ∷
    "select" takes 3 ∷
    "zext" takes 1 ∷
    "sext" takes 1 ∷
    "trunc" takes 1 ∷
    "eq" takes 2 ∷
    "ne" takes 2 ∷
    "ult" takes 2 ∷
    "slt" takes 2 ∷
    "ule" takes 2 ∷
    "sle" takes 2 ∷
    "ctpop" takes 1 ∷
    "bswap" takes 1 ∷
    "bitreverse" takes 1 ∷
    "cttz" takes 1 ∷
    "ctlz" takes 1 ∷
    "fshl" takes 3 ∷
    "fshr" takes 3 ∷
    "sadd.with.overflow" takes 2 ∷
    "uadd.with.overflow" takes 2 ∷
    "ssub.with.overflow" takes 2 ∷
    "usub.with.overflow" takes 2 ∷
    "smul.with.overflow" takes 2 ∷
    "umul.with.overflow" takes 2 ∷
    "sadd.sat" takes 2 ∷
    "uadd.sat" takes 2 ∷
    "ssub.sat" takes 2 ∷
    "usub.sat" takes 2 ∷
    "extractvalue" takes 2 ∷
    "hole" takes 0 ∷
    "freeze" takes 1 ∷ []

-- the names of a list of instructions
abbrev pub names : List Instruction → List (List ℕ)
names [] = []
names (i ∷ l) = i.name ∷ names l

-- the place of a word in a list of words; the list's length where it is none of them
abbrev pub place_of : List ℕ → List (List ℕ) → ℕ
place_of w [] = 0
place_of w (x ∷ l) = cond (same w x) 0 (suc (place_of w l))

-- the instruction that a word names, by its place; 59 where it names none
unfoldable pub instruction_of : List ℕ → ℕ
instruction_of w = place_of w (names instructions)

-- how many operands the instruction at a place takes
unfoldable pub arity_of : ℕ → ℕ
arity_of k = (get_or instructions k ("" takes 0)).arity

unfoldable pub instruction_name : ℕ → List ℕ
instruction_name k = (get_or instructions k ("" takes 0)).name

-- the other keywords; what each is called here is its place
abbrev pub keywords : List (List ℕ)
keywords =
    bytes "var" ∷
    bytes "block" ∷
    bytes "phi" ∷
    bytes "reservedinst" ∷
    bytes "reservedconst" ∷
    bytes "pc" ∷
    bytes "blockpc" ∷
    bytes "infer" ∷
    bytes "result" ∷
    bytes "cand" ∷
    bytes "powerOfTwo" ∷
    bytes "negative" ∷
    bytes "nonNegative" ∷
    bytes "nonZero" ∷
    bytes "hasExternalUses" ∷
    bytes "signBits" ∷
    bytes "range" ∷
    bytes "demandedBits" ∷
    bytes "harvestedFromUse" ∷ []

-- the keyword that a word is, by its place; 19 where it is none
unfoldable pub keyword_of : List ℕ → ℕ
keyword_of w = place_of w keywords
