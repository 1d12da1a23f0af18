-- `blank_len` meets its contract: the chain counts the blanks.
-- Assumes nothing.
use mathlib.Core.Path.{◌∙◌}
use Rattle.std.proofs.Common.{rules, tests}
use Rattle.std.proofs.lemmas.Iterator.{YieldsList-from_slice}
use Rattle.std.proofs.lemmas.Iterator.Consumers.{count_from_yields_List}
use Rattle.std.proofs.lemmas.Iterator.Search.{YieldsList-from_take_while}
use Rattle.laws.proofs.Library.{count-prefix}
use Rattle.lexer.specs.Blank.{blank}
use Rattle.lexer.proofs.Gaps.{blanks}
use Rattle.lexer.proofs.space.blank_len.Goals as goal

pub returns : goal.returns
returns c =
    let s = c.args.s.now in
    blanks s
    (count_from_yields_List c.take_while.result _ c.count.ensures.ran (YieldsList-from_take_while _ blank (YieldsList-from_slice s cc) c.take_while.ensures.closure c.take_while.ensures.done (λ x b q k. search (rules, tests)))
    ∙ count-prefix blank s)
