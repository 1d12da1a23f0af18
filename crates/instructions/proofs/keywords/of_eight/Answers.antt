-- Each arm by the letter that it names: its candidates are those that have it. Behind the last arm none is left.
-- Assumes nothing.
use mathlib.Core.Path.{refl, sym, ◌∙◌}
use Rattle.rules.specs.Bytes.{byte, bytes}
use Rattle.laws.proofs.Tests.{nums}
use Rattle.instructions.specs.Candidates.{letter, keywords_of}
use Rattle.instructions.proofs.Candidates.{by_letter, no_candidate}
use Rattle.instructions.proofs.keywords.of_eight.Goals as goal

pub returns-in-110 : goal.returns-in-110
returns-in-110 c = c.only.ensures ∙ by_letter 0 c.args.w.now (keywords_of 8) (byte "n") c.in-110.is

pub returns-in-115 : goal.returns-in-115
returns-in-115 c = c.only-in-115.ensures ∙ by_letter 0 c.args.w.now (keywords_of 8) (byte "s") c.in-115.is

pub returns-in_default : goal.returns-in_default
returns-in_default c = sym (no_candidate (letter 0) (bytes "ns") c.args.w.now (keywords_of 8) refl (search nums))
