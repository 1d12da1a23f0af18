-- Each arm by the letter that it names: its candidates are those that have it. Behind the last arm none is left.
-- Assumes nothing.
use mathlib.Core.Path.{refl, sym, ◌∙◌}
use Rattle.rules.specs.Bytes.{byte, bytes}
use Rattle.laws.proofs.Tests.{nums}
use Rattle.instructions.specs.Candidates.{letter, instructions_of}
use Rattle.instructions.proofs.Candidates.{by_letter, no_candidate}
use Rattle.instructions.proofs.search.of_eight.Goals as goal

pub returns-in-115 : goal.returns-in-115
returns-in-115 c = c.either.ensures ∙ by_letter 0 c.args.w.now (instructions_of 8) (byte "s") c.in-115.is

pub returns-in-117 : goal.returns-in-117
returns-in-117 c = c.either-in-117.ensures ∙ by_letter 0 c.args.w.now (instructions_of 8) (byte "u") c.in-117.is

pub returns-in_default : goal.returns-in_default
returns-in_default c = sym (no_candidate (letter 0) (bytes "su") c.args.w.now (instructions_of 8) refl (search nums))
