-- Each arm by the letter that it names: its candidates are those that have it. Behind the last arm none is left.
-- Assumes nothing.
use mathlib.Core.Path.{refl, sym, ◌∙◌}
use Rattle.rules.specs.Bytes.{byte, bytes}
use Rattle.laws.proofs.Tests.{nums}
use Rattle.instructions.specs.Candidates.{letter, beginning, instructions_of}
use Rattle.instructions.proofs.Candidates.{by_letter, no_candidate}
use Rattle.instructions.proofs.search.of_three_by_s.Goals as goal

pub returns-in-117 : goal.returns-in-117
returns-in-117 c = c.only.ensures ∙ by_letter 1 c.args.w.now (beginning (byte "s") (instructions_of 3)) (byte "u") c.in-117.is

pub returns-in-104 : goal.returns-in-104
returns-in-104 c = c.only-in-104.ensures ∙ by_letter 1 c.args.w.now (beginning (byte "s") (instructions_of 3)) (byte "h") c.in-104.is

pub returns-in-108 : goal.returns-in-108
returns-in-108 c = c.either.ensures ∙ by_letter 1 c.args.w.now (beginning (byte "s") (instructions_of 3)) (byte "l") c.in-108.is

pub returns-in_default : goal.returns-in_default
returns-in_default c = sym (no_candidate (letter 1) (bytes "uhl") c.args.w.now (beginning (byte "s") (instructions_of 3)) refl (search nums))
