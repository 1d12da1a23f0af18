-- `is_white` meets its contract: the table is asked range by range.
-- Assumes nothing.
use mathlib.Core.Path.{◌∙◌}
use Rattle.std.proofs.Common.{rules, tests}
use Rattle.std.proofs.lemmas.Iterator.{YieldsList-from_slice}
use Rattle.std.proofs.lemmas.Iterator.Search.{any_from_yields_List}
use Rattle.rules.specs.declared.Range.{Range}
use Rattle.rules.specs.Bytes.{inside}
use Rattle.rules.specs.Space.{white, spaces}
use Rattle.lexer.proofs.Gaps.{in-table}
use Rattle.lexer.proofs.space.is_white.Goals as goal

pub returns : goal.returns
unfolding white
returns c =
    any_from_yields_List (λ (r : Range). inside r.lo r.hi c.args.c) _ _ _ c.any.ensures.ran (YieldsList-from_slice spaces cc) (λ x b q k. search (rules, tests))
    ∙ in-table spaces c.args.c
