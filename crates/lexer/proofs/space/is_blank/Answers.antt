-- `is_blank` meets its contract.
-- Assumes nothing.
use Prim.Native.Nat.{ℕ, ◌<◌}
use mathlib.Core.Path.{◌≡◌, sym, ◌∙◌}
use mathlib.Core.Bool.{false}
use native.Mathlib.Omega.{arith}
use Rattle.laws.proofs.Cases.{by_cases}
use borrow.Author.Rules.{rules}
use Rattle.lexer.specs.Blank.{blank}
use Rattle.lexer.proofs.Gaps.{low, white-blank}
use Rattle.lexer.proofs.space.is_blank.Goals as goal

high : (b : ℕ) → 127 < b → false ≡ blank b
high b h = by_cases (blank b) (λ e. absurd (omega (arith, low b e))) (λ e. sym e)

pub returns-then-b-gt127 : goal.returns-then-b-gt127
returns-then-b-gt127 c = high _ (search rules)

pub returns : goal.returns
returns c = c.is_white.ensures ∙ white-blank _ (search rules)
