-- Each arm by the letter that it names: its candidates are those that have it. Behind the last arm none is left.
-- Assumes nothing.
use mathlib.Core.Path.{refl, sym, ◌∙◌}
use Rattle.rules.specs.Bytes.{byte, bytes}
use Rattle.laws.proofs.Tests.{nums}
use Rattle.instructions.specs.Candidates.{letter, instructions_of}
use Rattle.instructions.proofs.Candidates.{by_letter, no_candidate}
use Rattle.instructions.proofs.search.of_four.Goals as goal

pub returns-in-117 : goal.returns-in-117
returns-in-117 c = c.either.ensures ∙ by_letter 0 c.args.w.now (instructions_of 4) (byte "u") c.in-117.is

pub returns-in-115 : goal.returns-in-115
returns-in-115 c = c.of_four_by_s.ensures ∙ by_letter 0 c.args.w.now (instructions_of 4) (byte "s") c.in-115.is

pub returns-in-108 : goal.returns-in-108
returns-in-108 c = c.only.ensures ∙ by_letter 0 c.args.w.now (instructions_of 4) (byte "l") c.in-108.is

pub returns-in-97 : goal.returns-in-97
returns-in-97 c = c.only-in-97.ensures ∙ by_letter 0 c.args.w.now (instructions_of 4) (byte "a") c.in-97.is

pub returns-in-122 : goal.returns-in-122
returns-in-122 c = c.only-in-122.ensures ∙ by_letter 0 c.args.w.now (instructions_of 4) (byte "z") c.in-122.is

pub returns-in-99 : goal.returns-in-99
returns-in-99 c = c.either-in-99.ensures ∙ by_letter 0 c.args.w.now (instructions_of 4) (byte "c") c.in-99.is

pub returns-in-102 : goal.returns-in-102
returns-in-102 c = c.either-in-102.ensures ∙ by_letter 0 c.args.w.now (instructions_of 4) (byte "f") c.in-102.is

pub returns-in-104 : goal.returns-in-104
returns-in-104 c = c.only-in-104.ensures ∙ by_letter 0 c.args.w.now (instructions_of 4) (byte "h") c.in-104.is

pub returns-in_default : goal.returns-in_default
returns-in_default c = sym (no_candidate (letter 0) (bytes "uslazcfh") c.args.w.now (instructions_of 4) refl (search nums))
