-- Each arm by the letter that it names: its candidates are those that have it. Behind the last arm none is left.
-- Assumes nothing.
use mathlib.Core.Path.{refl, sym, ◌∙◌}
use Rattle.rules.specs.Bytes.{byte, bytes}
use Rattle.laws.proofs.Tests.{nums}
use Rattle.instructions.specs.Candidates.{letter, keywords_of}
use Rattle.instructions.proofs.Candidates.{by_letter, no_candidate}
use Rattle.instructions.proofs.keywords.of_five.Goals as goal

pub returns-in-98 : goal.returns-in-98
returns-in-98 c = c.only.ensures ∙ by_letter 0 c.args.w.now (keywords_of 5) (byte "b") c.in-98.is

pub returns-in-105 : goal.returns-in-105
returns-in-105 c = c.only-in-105.ensures ∙ by_letter 0 c.args.w.now (keywords_of 5) (byte "i") c.in-105.is

pub returns-in-114 : goal.returns-in-114
returns-in-114 c = c.only-in-114.ensures ∙ by_letter 0 c.args.w.now (keywords_of 5) (byte "r") c.in-114.is

pub returns-in_default : goal.returns-in_default
returns-in_default c = sym (no_candidate (letter 0) (bytes "bir") c.args.w.now (keywords_of 5) refl (search nums))
