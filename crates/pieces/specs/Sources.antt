-- What rows of a source are seen as.
-- Assumes nothing.
use Rattle.std.specs.Prelude.{ℕ}
use Rattle.rules.specs.Rows.{name_at}
use Rattle.rules.specs.Syntax.{Name, Operand, Attribute, RootAttribute}
use Rattle.rules.specs.View.{operand_of, attribute_of, root_attribute_of}
use Rattle.pieces.specs.declared.Source.{Source}

-- the name of a statement row
abbrev pub name_in : Source → ℕ → Name
name_in s i = name_at s.text.now s.statements.now i

-- an operand row
abbrev pub operand_in : Source → ℕ → Operand
operand_in s i = operand_of s.text.now s.statements.now s.operands.now i

-- an attribute row, of a statement's or of a root's
abbrev pub attribute_in : Source → ℕ → Attribute
attribute_in s i = attribute_of s.text.now s.attributes.now i

abbrev pub root_attribute_in : Source → ℕ → RootAttribute
root_attribute_in s i = root_attribute_of s.text.now s.attributes.now i
