-- `peldarox_lex_start` meets its contract.
-- Assumes nothing.
use Rattle.std.proofs.Common.{arith}
use Rattle.peldarox_c.proofs.Arriving.{few_leads, leads}
use Rattle.peldarox_c.proofs.lex_exports.peldarox_lex_start.Goals as goal

pub returns-then-state-lt-WORDS : goal.returns-then-state-lt-WORDS
returns-then-state-lt-WORDS c = few_leads _ (grind arith) c.tell_too_few.ensures _

pub returns : goal.returns
returns c = leads _ (grind arith) c.keep.ensures c.start.ensures c.tell_nothing.ensures
