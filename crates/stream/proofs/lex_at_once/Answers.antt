-- `lex_at_once` meets its contract: the state that `part` leaves is the one that the text leads to.
-- Assumes nothing.
use mathlib.Core.Path.{ap, ◌∙◌}
use Rattle.stream.specs.declared.Stream.{Stream}
use Rattle.stream.specs.Steps.{fed}
use Rattle.stream.proofs.lex_at_once.Goals as goal

pub returns : goal.returns
returns c =
    let text = c.args.text.now in
    c.end.ensures.whole text (c.part.ensures ∙ ap (λ (s : Stream). fed s text) c.start.ensures)
