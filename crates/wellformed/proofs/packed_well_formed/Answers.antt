-- `packed_well_formed` meets its contract.
-- Assumes nothing.
use mathlib.Core.Path.{◌≡◌, sym, ◌∙◌}
use native.Mathlib.Omega.{arith}
use borrow.Author.Tests.{le-leb, lt-leb}
use Rattle.rules.specs.WellFormed.{well_formed, short_text, tables_ok}
use Rattle.rules.specs.Rows.{item_length, statement_length, operand_length, attribute_length}
use Rattle.laws.proofs.Tests.{said_not_not}
use Rattle.rules.specs.Stored.{in_words}
use Rattle.wellformed.specs.Parts.{rows_ok, few, rows_in, counted}
use Rattle.wellformed.proofs.Packed.{packed_tables, few_small}
use Rattle.wellformed.proofs.Clauses.{stops, goes, passed, failed}
use Rattle.wellformed.proofs.packed_well_formed.Goals as goal

pub returns-then-text-gt65536 : goal.returns-then-text-gt65536
unfolding well_formed short_text
returns-then-text-gt65536 c = stops _ _ (lt-leb _ _ c.if-text-gt65536.true)

pub returns-then-not-few : goal.returns-then-not-few
unfolding well_formed short_text
returns-then-not-few c =
    let told : let a = c.args in
    tables_ok (in_words a.items.now) (in_words a.statements.now) (in_words a.operands.now) (in_words a.attributes.now) (counted a.items.now a.statements.now a.operands.now a.attributes.now)
    ≡ few (rows_in item_length a.items.now) (rows_in statement_length a.statements.now) (rows_in operand_length a.operands.now) (rows_in attribute_length a.attributes.now) = let a = c.args in
    packed_tables a.items.now a.statements.now a.operands.now a.attributes.now
    c.requires
    (λ k. omega (arith, c.shared_slice_known-2-1.given k))
    (λ k. omega (arith, c.shared_slice_known-3-1.given k))
    (λ k. omega (arith, c.shared_slice_known-4-1.given k))
    (λ k. omega (arith, c.shared_slice_known-5-1.given k)) in
    goes _ _ (le-leb _ _ c.if-text-gt65536.false)
    (failed _ (c.few.ensures ∙ sym told) c.if-not-few.true-raw)

pub overflow_cast-of : goal.overflow_cast-of
overflow_cast-of c = omega (arith, (few_small _ _ _ _ (said_not_not c.few.ensures c.if-not-few.false-raw)).items)

pub overflow_cast-of-2 : goal.overflow_cast-of-2
overflow_cast-of-2 c = omega (arith, (few_small _ _ _ _ (said_not_not c.few.ensures c.if-not-few.false-raw)).statements)

pub overflow_cast-of-3 : goal.overflow_cast-of-3
overflow_cast-of-3 c = omega (arith, (few_small _ _ _ _ (said_not_not c.few.ensures c.if-not-few.false-raw)).operands)

pub overflow_cast-of-4 : goal.overflow_cast-of-4
overflow_cast-of-4 c = omega (arith, (few_small _ _ _ _ (said_not_not c.few.ensures c.if-not-few.false-raw)).attributes)

pub returns : goal.returns
unfolding well_formed short_text rows_ok
returns c =
    let told : let a = c.args in
    tables_ok (in_words a.items.now) (in_words a.statements.now) (in_words a.operands.now) (in_words a.attributes.now) (counted a.items.now a.statements.now a.operands.now a.attributes.now)
    ≡ few (rows_in item_length a.items.now) (rows_in statement_length a.statements.now) (rows_in operand_length a.operands.now) (rows_in attribute_length a.attributes.now) = let a = c.args in
    packed_tables a.items.now a.statements.now a.operands.now a.attributes.now
    c.requires
    (λ k. omega (arith, c.shared_slice_known-2-1.given k))
    (λ k. omega (arith, c.shared_slice_known-3-1.given k))
    (λ k. omega (arith, c.shared_slice_known-4-1.given k))
    (λ k. omega (arith, c.shared_slice_known-5-1.given k)) in
    goes _ _ (le-leb _ _ c.if-text-gt65536.false)
    (passed (c.few.ensures ∙ sym told) c.if-not-few.false-raw
    c.rows_ok.ensures)
