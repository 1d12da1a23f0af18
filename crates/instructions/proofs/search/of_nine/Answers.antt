-- Each arm by the letter that it names: its candidates are those that have it. Behind the last arm none is left.
-- Assumes nothing.
use mathlib.Core.Path.{refl, sym, ◌∙◌}
use Rattle.rules.specs.Bytes.{byte, bytes}
use Rattle.laws.proofs.Tests.{nums}
use Rattle.instructions.specs.Candidates.{letter, instructions_of}
use Rattle.instructions.proofs.Candidates.{by_letter, no_candidate}
use Rattle.instructions.proofs.search.of_nine.Goals as goal

pub returns-in-117 : goal.returns-in-117
returns-in-117 c = c.only.ensures ∙ by_letter 0 c.args.w.now (instructions_of 9) (byte "u") c.in-117.is

pub returns-in-115 : goal.returns-in-115
returns-in-115 c = c.only-in-115.ensures ∙ by_letter 0 c.args.w.now (instructions_of 9) (byte "s") c.in-115.is

pub returns-in-108 : goal.returns-in-108
returns-in-108 c = c.only-in-108.ensures ∙ by_letter 0 c.args.w.now (instructions_of 9) (byte "l") c.in-108.is

pub returns-in-97 : goal.returns-in-97
returns-in-97 c = c.only-in-97.ensures ∙ by_letter 0 c.args.w.now (instructions_of 9) (byte "a") c.in-97.is

pub returns-in_default : goal.returns-in_default
returns-in_default c = sym (no_candidate (letter 0) (bytes "usla") c.args.w.now (instructions_of 9) refl (search nums))
