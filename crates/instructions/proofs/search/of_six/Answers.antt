-- Each arm by the letter that it names: its candidates are those that have it. Behind the last arm none is left.
-- Assumes nothing.
use mathlib.Core.Path.{refl, sym, ◌∙◌}
use Rattle.rules.specs.Bytes.{byte, bytes}
use Rattle.laws.proofs.Tests.{nums}
use Rattle.instructions.specs.Candidates.{letter, instructions_of}
use Rattle.instructions.proofs.Candidates.{by_letter, no_candidate}
use Rattle.instructions.proofs.search.of_six.Goals as goal

pub returns-in-97 : goal.returns-in-97
returns-in-97 c = c.either.ensures ∙ by_letter 0 c.args.w.now (instructions_of 6) (byte "a") c.in-97.is

pub returns-in-115 : goal.returns-in-115
returns-in-115 c = c.of_six_by_s.ensures ∙ by_letter 0 c.args.w.now (instructions_of 6) (byte "s") c.in-115.is

pub returns-in-109 : goal.returns-in-109
returns-in-109 c = c.either-in-109.ensures ∙ by_letter 0 c.args.w.now (instructions_of 6) (byte "m") c.in-109.is

pub returns-in-102 : goal.returns-in-102
returns-in-102 c = c.only.ensures ∙ by_letter 0 c.args.w.now (instructions_of 6) (byte "f") c.in-102.is

pub returns-in_default : goal.returns-in_default
returns-in_default c = sym (no_candidate (letter 0) (bytes "asmf") c.args.w.now (instructions_of 6) refl (search nums))
