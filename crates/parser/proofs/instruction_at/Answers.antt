use mathlib.Core.Path.{◌∙◌}
use borrow.Author.Tests.{eq-eqb, ne_eqb}
use Rattle.rules.specs.Reading as R
use Rattle.parser.proofs.instruction_at.Goals as goal

pub returns-then-t-ne-IDENT : goal.returns-then-t-ne-IDENT
unfolding R.instruction_at
returns-then-t-ne-IDENT c = simp (ne_eqb _ _ c.if-t-ne-IDENT.true)

pub returns : goal.returns
unfolding R.instruction_at
returns c = c.instruction.ensures ∙ simp (c.letters.ensures, eq-eqb _ _ c.if-t-ne-IDENT.false)
