-- `among_held` meets its contract.
-- Assumes nothing.
use mathlib.Core.Path.{sym}
use native.Mathlib.Omega.{arith}
use Rattle.index.proofs.Search.{none_left}
use borrow.Author.Rules.{rules}
use Rattle.index.proofs.among_held.Goals as goal

pub returns-then-past-first : goal.returns-then-past-first
returns-then-past-first c d = sym (none_left _ _ _ _ _ c.if-past-first.true)

pub returns : goal.returns
returns c d = c.by_links.ensures _ (omega arith) (search rules) (d (omega arith))
