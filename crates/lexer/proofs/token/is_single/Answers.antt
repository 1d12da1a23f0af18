-- `is_single` meets its contract: a kind is no 0.
-- Assumes nothing.
use mathlib.Core.Path.{ap, ◌∙◌}
use Prim.Native.Nat.{ℕ}
use lib.Dec.{leb}
use Rattle.laws.proofs.Library.{some-leb}
use Rattle.lexer.proofs.token.is_single.Goals as goal

pub returns : goal.returns
returns c =
    let kind = c.single.ensures in
    c.is_some.ensures ∙ some-leb c.single.result kind.some ∙ ap (leb 1) kind.kind
