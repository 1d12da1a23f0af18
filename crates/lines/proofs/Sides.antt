-- Right sides: how long each is at most, and the pieces that it is written in.
-- Assumes nothing.
use mathlib.Core.Path.{◌≡◌, refl}
use mathlib.Core.Bool.{Bool, true, cond, ◌&&◌}
use mathlib.Core.List.{List, [], ◌∷◌, append-nil}
use Prim.Native.Nat.{ℕ, zero, suc, ◌+◌, ◌-◌, ◌^◌, ◌≤◌}
use native.Mathlib.Omega.{arith}
use borrow.Author.Tests.{leb-true}
use lib.Dec.{eqb, leb}
use lib.ListN.{length, get_or, length-append}
use Rattle.laws.proofs.Tests.{and_left, and_right}
use Rattle.rules.specs.declared.Statement.{Statement}
use Rattle.rules.specs.Bytes.{bytes}
use Rattle.rules.specs.Instructions.{Instruction, ◌takes◌, instructions, instruction_name}
use Rattle.rules.specs.Keywords as keyword
use Rattle.rules.specs.Out.{joined}
use Rattle.rules.specs.Rows.{name_at, keyword_code}
use Rattle.rules.specs.Syntax as syntax
use Rattle.rules.specs.View.{along, operand_of, as_side}
use Rattle.rules.specs.Printing.{further, operands, side}
use Rattle.wide.proofs.Decimals.{decimal-most}
use Rattle.pieces.specs.Bounds.{Few}
use Rattle.pieces.proofs.Bounds.{either, name-most, further-most, operands-most}

-- the longest instruction has 18 letters
abbrev short-names : List Instruction → Bool
short-names [] = true
short-names (i ∷ l) = leb (length i.name) 18 && short-names l

short_at : (l : List Instruction) (k : ℕ) → short-names l ≡ true → length (get_or l k ("" takes 0)).name ≤ 18
short_at [] k e = omega arith
short_at (i ∷ l) zero e = leb-true (length i.name) 18 (and_left _ (short-names l) e)
short_at (i ∷ l) (suc k) e = short_at l k (and_right (leb (length i.name) 18) _ e)

pub instruction-short : (k : ℕ) → length (instruction_name k) ≤ 18
unfolding instruction_name
instruction-short k = short_at instructions k refl

module _ (text : List ℕ) (short : length text ≤ 65536) (S O : List ℕ) where
  -- a right side
  pub as_side_short : (r : Statement) → Few r.operands → length (side (as_side text S O r) []) ≤ 2 ^ 33 + 65560
  unfolding as_side
  as_side_short r w =
      let l = along (operand_of text S O) r.operands in
      let last = syntax.instruction (r.code - 1) l in
      let inst = cond (eqb r.code (keyword_code keyword.reservedconst)) syntax.reservedconst last in
      let fourth = cond (eqb r.code (keyword_code keyword.reservedinst)) syntax.reservedinst inst in
      let third = cond (eqb r.code (keyword_code keyword.phi)) (syntax.phi (name_at text S r.block) l) fourth in
      let second = cond (eqb r.code (keyword_code keyword.block)) (syntax.block r.number) third in
      let f : syntax.RightSide → List ℕ = λ s. side s [] in
      either f (eqb r.code (keyword_code keyword.var)) syntax.var second (omega arith)
      (either f (eqb r.code (keyword_code keyword.block)) (syntax.block r.number) third (simp length-append (omega (arith, decimal-most r.number)))
      (either f (eqb r.code (keyword_code keyword.phi)) (syntax.phi (name_at text S r.block) l) fourth
      (simp length-append (omega (arith, name-most text short S r.block, further-most text short S O r.operands w)))
      (either f (eqb r.code (keyword_code keyword.reservedinst)) syntax.reservedinst inst (omega arith)
      (either f (eqb r.code (keyword_code keyword.reservedconst)) syntax.reservedconst last (omega arith)
      (simp length-append (omega (arith, instruction-short (r.code - 1), operands-most text short S O r.operands w)))))))

-- right sides as the pieces that they are written in
pub phi_pieces : (n : syntax.Name) (l : List syntax.Operand) → side (syntax.phi n l) [] ≡ joined (bytes "phi " ∷ n ∷ further l [] ∷ [])
phi_pieces n l = simp append-nil

pub operation_pieces : (k : ℕ) (l : List syntax.Operand) → side (syntax.instruction k l) [] ≡ joined (instruction_name k ∷ operands l [] ∷ [])
operation_pieces k l = simp append-nil
