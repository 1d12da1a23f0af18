-- What statement rows of a source are seen as.
-- Assumes nothing.
use Rattle.std.specs.Prelude.{ℕ}
use Rattle.rules.specs.declared.Statement.{Statement}
use Rattle.rules.specs.Syntax as syntax
use Rattle.rules.specs.View.{as_side, as_statement, statement_of}
use Rattle.pieces.specs.declared.Source.{Source}

-- the right side of a statement
abbrev pub side_in : Source → Statement → syntax.RightSide
side_in s r = as_side s.text.now s.statements.now s.operands.now r

-- a statement, and a statement row
abbrev pub said_in : Source → Statement → syntax.Statement
said_in s r = as_statement s.text.now s.statements.now s.operands.now s.attributes.now r

abbrev pub statement_in : Source → ℕ → syntax.Statement
statement_in s i = statement_of s.text.now s.statements.now s.operands.now s.attributes.now i
