-- `within` meets its contract: as `contains` says it.
-- Assumes nothing.
use Rattle.laws.proofs.Library.{contains-inside}
use Rattle.lexer.proofs.space.within.Goals as goal

pub returns : goal.returns
returns c =
    let made = c.new.ensures in
    contains-inside c.new.result _ _ _ made.start made.end made.exhausted c.contains.ensures.value
