-- Each arm by the letter that it names: its candidates are those that have it. Behind the last arm none is left.
-- Assumes nothing.
use mathlib.Core.Path.{refl, sym, ◌∙◌}
use Rattle.rules.specs.Bytes.{byte, bytes}
use Rattle.laws.proofs.Tests.{nums}
use Rattle.instructions.specs.Candidates.{letter, instructions_of}
use Rattle.instructions.proofs.Candidates.{by_letter, no_candidate}
use Rattle.instructions.proofs.search.of_five.Goals as goal

pub returns-in-97 : goal.returns-in-97
returns-in-97 c = c.only.ensures ∙ by_letter 0 c.args.w.now (instructions_of 5) (byte "a") c.in-97.is

pub returns-in-115 : goal.returns-in-115
returns-in-115 c = c.either.ensures ∙ by_letter 0 c.args.w.now (instructions_of 5) (byte "s") c.in-115.is

pub returns-in-109 : goal.returns-in-109
returns-in-109 c = c.only-in-109.ensures ∙ by_letter 0 c.args.w.now (instructions_of 5) (byte "m") c.in-109.is

pub returns-in-116 : goal.returns-in-116
returns-in-116 c = c.only-in-116.ensures ∙ by_letter 0 c.args.w.now (instructions_of 5) (byte "t") c.in-116.is

pub returns-in-99 : goal.returns-in-99
returns-in-99 c = c.only-in-99.ensures ∙ by_letter 0 c.args.w.now (instructions_of 5) (byte "c") c.in-99.is

pub returns-in-98 : goal.returns-in-98
returns-in-98 c = c.only-in-98.ensures ∙ by_letter 0 c.args.w.now (instructions_of 5) (byte "b") c.in-98.is

pub returns-in_default : goal.returns-in_default
returns-in_default c = sym (no_candidate (letter 0) (bytes "asmtcb") c.args.w.now (instructions_of 5) refl (search nums))
