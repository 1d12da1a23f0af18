-- Assumes nothing.
use Rattle.std.specs.Prelude.{ℕ, Option, Some, None}
use Rattle.instructions.specs.declared.table.Instruction.{Instruction}

-- the place of an instruction, or that a word names none
abbrev pub instruction_number : Option Instruction → ℕ
instruction_number None = 59
instruction_number (Some i) = i.place
