-- `peldarox_lex_end` meets its contract.
-- Assumes nothing.
use Rattle.std.proofs.Common.{arith}
use Rattle.peldarox_c.proofs.Arriving.{few-ends, ends}
use Rattle.peldarox_c.proofs.lex_exports.peldarox_lex_end.Goals as goal

pub returns-then-state-lt-WORDS : goal.returns-then-state-lt-WORDS
returns-then-state-lt-WORDS c = few-ends _ (grind arith) c.tell_too_few.ensures

pub returns : goal.returns
returns c = ends _ (grind arith) c.tell_lexed.ensures c.end.ensures.state c.state_of.ensures
