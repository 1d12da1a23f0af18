-- Each arm by the letter that it names: its candidates are those that have it. Behind the last arm none is left.
-- Assumes nothing.
use mathlib.Core.Path.{refl, sym, ◌∙◌}
use Rattle.rules.specs.Bytes.{byte, bytes}
use Rattle.laws.proofs.Tests.{nums}
use Rattle.instructions.specs.Candidates.{letter, beginning, instructions_of}
use Rattle.instructions.proofs.Candidates.{by_letter, no_candidate}
use Rattle.instructions.proofs.search.of_eighteen_by_s.Goals as goal

pub returns-in-97 : goal.returns-in-97
returns-in-97 c = c.only.ensures ∙ by_letter 1 c.args.w.now (beginning (byte "s") (instructions_of 18)) (byte "a") c.in-97.is

pub returns-in-115 : goal.returns-in-115
returns-in-115 c = c.only-in-115.ensures ∙ by_letter 1 c.args.w.now (beginning (byte "s") (instructions_of 18)) (byte "s") c.in-115.is

pub returns-in-109 : goal.returns-in-109
returns-in-109 c = c.only-in-109.ensures ∙ by_letter 1 c.args.w.now (beginning (byte "s") (instructions_of 18)) (byte "m") c.in-109.is

pub returns-in_default : goal.returns-in_default
returns-in_default c = sym (no_candidate (letter 1) (bytes "asm") c.args.w.now (beginning (byte "s") (instructions_of 18)) refl (search nums))
