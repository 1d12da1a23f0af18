-- Each arm by the letter that it names: its candidates are those that have it. Behind the last arm none is left.
-- Assumes nothing.
use mathlib.Core.Path.{refl, sym, ◌∙◌}
use Rattle.rules.specs.Bytes.{byte, bytes}
use Rattle.laws.proofs.Tests.{nums}
use Rattle.instructions.specs.Candidates.{letter, beginning, instructions_of}
use Rattle.instructions.proofs.Candidates.{by_letter, no_candidate}
use Rattle.instructions.proofs.search.of_four_by_s.Goals as goal

pub returns-in-100 : goal.returns-in-100
returns-in-100 c = c.only.ensures ∙ by_letter 1 c.args.w.now (beginning (byte "s") (instructions_of 4)) (byte "d") c.in-100.is

pub returns-in-114 : goal.returns-in-114
returns-in-114 c = c.only-in-114.ensures ∙ by_letter 1 c.args.w.now (beginning (byte "s") (instructions_of 4)) (byte "r") c.in-114.is

pub returns-in-101 : goal.returns-in-101
returns-in-101 c = c.only-in-101.ensures ∙ by_letter 1 c.args.w.now (beginning (byte "s") (instructions_of 4)) (byte "e") c.in-101.is

pub returns-in_default : goal.returns-in_default
returns-in_default c = sym (no_candidate (letter 1) (bytes "dre") c.args.w.now (beginning (byte "s") (instructions_of 4)) refl (search nums))
