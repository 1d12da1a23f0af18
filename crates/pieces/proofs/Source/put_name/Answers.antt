-- `pieces::Source::put_name` meets its contract.
-- Assumes nothing.
use mathlib.Core.Path.{sym, ap}
use Rattle.rules.specs.declared.Span.{Span}
use Rattle.rules.specs.Rows.{letters_of, name_at}
use Rattle.output.proofs.Words.{writes_as}
use Rattle.pieces.proofs.Source.put_name.Goals as goal

pub returns : goal.returns
unfolding name_at
returns c = writes_as (ap (λ (s : Span). letters_of c.args.self.now.text.now s) (sym c.name_at-place.ensures)) c.put_letters.ensures
