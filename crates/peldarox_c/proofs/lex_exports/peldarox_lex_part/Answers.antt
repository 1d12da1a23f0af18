-- `peldarox_lex_part` meets its contract.
-- Assumes nothing.
use Rattle.std.proofs.Common.{ap, ◌∙◌, arith}
use Rattle.stream.specs.declared.Stream.{Stream}
use Rattle.stream.specs.Steps.{fed}
use Rattle.peldarox_c.proofs.Arriving.{few_leads, leads}
use Rattle.peldarox_c.proofs.lex_exports.peldarox_lex_part.Goals as goal

pub returns-then-state-lt-WORDS : goal.returns-then-state-lt-WORDS
returns-then-state-lt-WORDS c = few_leads _ (grind arith) c.tell_too_few.ensures _

pub returns : goal.returns
returns c =
    leads _ (grind arith) c.keep.ensures (c.part.ensures ∙ ap (λ (s : Stream). fed s c.args.part.now) c.state_of.ensures) c.tell_nothing.ensures
