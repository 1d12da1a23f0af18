use mathlib.Core.Path.{◌∙◌}
use borrow.Author.Tests.{eq-eqb, ne_eqb}
use Rattle.rules.specs.Reading as R
use Rattle.parser.proofs.keyword_at.Goals as goal

pub returns-then-t-ne-IDENT : goal.returns-then-t-ne-IDENT
unfolding R.keyword_at
returns-then-t-ne-IDENT c = simp (ne_eqb _ _ c.if-t-ne-IDENT.true)

pub returns : goal.returns
unfolding R.keyword_at
returns c = c.keyword.ensures ∙ simp (c.letters.ensures, eq-eqb _ _ c.if-t-ne-IDENT.false)
