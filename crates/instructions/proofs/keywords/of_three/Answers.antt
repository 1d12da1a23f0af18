-- Each arm by the letter that it names: its candidates are those that have it. Behind the last arm none is left.
-- Assumes nothing.
use mathlib.Core.Path.{refl, sym, ◌∙◌}
use Rattle.rules.specs.Bytes.{byte, bytes}
use Rattle.laws.proofs.Tests.{nums}
use Rattle.instructions.specs.Candidates.{letter, keywords_of}
use Rattle.instructions.proofs.Candidates.{by_letter, no_candidate}
use Rattle.instructions.proofs.keywords.of_three.Goals as goal

pub returns-in-118 : goal.returns-in-118
returns-in-118 c = c.only.ensures ∙ by_letter 0 c.args.w.now (keywords_of 3) (byte "v") c.in-118.is

pub returns-in-112 : goal.returns-in-112
returns-in-112 c = c.only-in-112.ensures ∙ by_letter 0 c.args.w.now (keywords_of 3) (byte "p") c.in-112.is

pub returns-in_default : goal.returns-in_default
returns-in_default c = sym (no_candidate (letter 0) (bytes "vp") c.args.w.now (keywords_of 3) refl (search nums))
