-- `reader::attributes::all_bits` meets its contract.
-- Assumes nothing.
use mathlib.Core.Path.{sym, ◌∙◌}
use lib.ListN.{get_or}
use borrow.Author.Rules.{rules}
use Rattle.rules.specs.Bytes.{bit}
use Rattle.laws.proofs.Tests.{tests, and_true, and_false}
use Rattle.reader.proofs.Bits.{bits_more, bits-end}
use Rattle.reader.proofs.attributes.all_bits.Goals as goal

pub returns-then-not-is_bit : goal.returns-then-not-is_bit
returns-then-not-is_bit c =
    let s = c.args.s.now in
    sym (c.loop-b.invariant ∙ bits_more s c.loop-b.b-index (search rules) ∙ and_false (bit (get_or s c.loop-b.b-index 0)) _ (search tests))

pub loop-b-preserved : goal.loop-b-preserved
loop-b-preserved c =
    let s = c.args.s.now in
    c.loop-b.invariant ∙ bits_more s c.loop-b.b-index (search rules) ∙ and_true (bit (get_or s c.loop-b.b-index 0)) _ (search tests)

pub returns : goal.returns
returns c = sym (c.loop-b.invariant ∙ bits-end c.args.s.now c.loop-b.b-index (search rules))
