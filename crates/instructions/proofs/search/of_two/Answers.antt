-- Each arm by the letter that it names: its candidates are those that have it. Behind the last arm none is left.
-- Assumes nothing.
use mathlib.Core.Path.{refl, sym, ◌∙◌}
use Rattle.rules.specs.Bytes.{byte, bytes}
use Rattle.laws.proofs.Tests.{nums}
use Rattle.instructions.specs.Candidates.{letter, instructions_of}
use Rattle.instructions.proofs.Candidates.{by_letter, no_candidate}
use Rattle.instructions.proofs.search.of_two.Goals as goal

pub returns-in-111 : goal.returns-in-111
returns-in-111 c = c.only.ensures ∙ by_letter 0 c.args.w.now (instructions_of 2) (byte "o") c.in-111.is

pub returns-in-101 : goal.returns-in-101
returns-in-101 c = c.only-in-101.ensures ∙ by_letter 0 c.args.w.now (instructions_of 2) (byte "e") c.in-101.is

pub returns-in-110 : goal.returns-in-110
returns-in-110 c = c.only-in-110.ensures ∙ by_letter 0 c.args.w.now (instructions_of 2) (byte "n") c.in-110.is

pub returns-in_default : goal.returns-in_default
returns-in_default c = sym (no_candidate (letter 0) (bytes "oen") c.args.w.now (instructions_of 2) refl (search nums))
