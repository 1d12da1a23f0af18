-- What a statement's row is seen as, by its code.
-- Assumes nothing.
use mathlib.Core.Path.{◌≡◌}
use mathlib.Core.List.{List}
use Prim.Native.Nat.{ℕ, ◌-◌, ◌+◌}
use borrow.Author.Tests.{ne_eqb}
use Rattle.rules.specs.declared.Statement.{Statement}
use Rattle.rules.specs.Keywords as keyword
use Rattle.rules.specs.Rows.{name_at, statement_at, keyword_code}
use Rattle.rules.specs.Syntax as syntax
use Rattle.rules.specs.View.{along, operand_of, as_side, as_statement, statement_of}

-- a right side
module _ (text S O : List ℕ) (r : Statement) where
  pub var-seen : r.code ≡ keyword_code keyword.var → as_side text S O r ≡ syntax.var
  unfolding as_side
  var-seen h = rw h

  pub block-seen : r.code ≡ keyword_code keyword.block → as_side text S O r ≡ syntax.block r.number
  unfolding as_side
  block-seen h = rw h

  pub phi-seen : r.code ≡ keyword_code keyword.phi → as_side text S O r ≡ syntax.phi (name_at text S r.block) (along (operand_of text S O) r.operands)
  unfolding as_side
  phi-seen h = rw h

  pub reservedinst-seen : r.code ≡ keyword_code keyword.reservedinst → as_side text S O r ≡ syntax.reservedinst
  unfolding as_side
  reservedinst-seen h = rw h

  pub reservedconst-seen : r.code ≡ keyword_code keyword.reservedconst → as_side text S O r ≡ syntax.reservedconst
  unfolding as_side
  reservedconst-seen h = rw h

  pub instruction-seen : (r.code ≡ keyword_code keyword.var → ⊥) → (r.code ≡ keyword_code keyword.block → ⊥) → (r.code ≡ keyword_code keyword.phi → ⊥)
      → (r.code ≡ keyword_code keyword.reservedinst → ⊥) → (r.code ≡ keyword_code keyword.reservedconst → ⊥)
      → as_side text S O r ≡ syntax.instruction (r.code - 1) (along (operand_of text S O) r.operands)
  unfolding as_side
  instruction-seen h j k l m = rw (ne_eqb _ _ h, ne_eqb _ _ j, ne_eqb _ _ k, ne_eqb _ _ l, ne_eqb _ _ m)

-- a statement's row
module _ (text S O A : List ℕ) (i : ℕ) {r : Statement} (e : r ≡ statement_at S i) where
  pub statement-seen : statement_of text S O A i ≡ as_statement text S O A r
  unfolding statement_of
  statement-seen = rw (← e)

  pub pc-seen : r.code ≡ keyword_code keyword.pc → statement_of text S O A i ≡ syntax.pc (operand_of text S O r.operands.first) (operand_of text S O (r.operands.first + 1))
  unfolding statement_of as_statement
  pc-seen h = rw (← e, h)

  pub blockpc-seen : r.code ≡ keyword_code keyword.blockpc
      → statement_of text S O A i ≡ syntax.blockpc (name_at text S r.block) r.number (operand_of text S O r.operands.first) (operand_of text S O (r.operands.first + 1))
  unfolding statement_of as_statement
  blockpc-seen h = rw (← e, h)
