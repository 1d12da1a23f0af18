-- `space_len` meets its contract: by what the calls answer.
-- Assumes nothing.
use mathlib.Core.Path.{◌≡◌, ap, ◌∙◌}
use mathlib.Core.Bool.{true}
use Prim.Native.Nat.{ℕ}
use lib.Dec.{leb}
use borrow.Author.Tests.{le-leb}
use Rattle.std.specs.Prelude.{Option, unwrap_or}
use Rattle.rules.specs.Space.{space_len}
use Rattle.laws.proofs.Library.{then-some}
use Rattle.lexer.proofs.space.space_len.Goals as goal

pub returns-in_err-n-clause-length : goal.returns-in_err-n-clause-length
unfolding space_len
returns-in_err-n-clause-length c =
    ap (λ (o : Option ℕ). unwrap_or o 0) c.from_residual.ensures ∙ simp (← c.in_err-n.ensures.length)

pub returns-clause-length : goal.returns-clause-length
unfolding space_len
returns-clause-length c =
    let n = c.in_ok-n.n in
    let one : leb 1 n ≡ true = le-leb 1 n c.in_ok-n.ensures.some in
    ap (λ (o : Option ℕ). unwrap_or o 0) c.then_some.ensures
    ∙ then-some c.is_white-white.result n
    ∙ simp (← c.in_ok-n.ensures.length, ← c.code_point.ensures, ← c.is_white-white.ensures, one)
