-- `well_formed` meets its contract.
-- Assumes nothing.
use native.Mathlib.Omega.{arith}
use borrow.Author.Tests.{le-leb, lt-leb}
use Rattle.rules.specs.WellFormed.{well_formed, short_text}
use Rattle.laws.proofs.Tests.{said_not_not}
use Rattle.wellformed.specs.Parts.{rows_ok}
use Rattle.wellformed.proofs.Places.{counts_small}
use Rattle.wellformed.proofs.Clauses.{stops, goes, passed, failed}
use Rattle.wellformed.proofs.well_formed.Goals as goal

pub returns-then-text-gt65536 : goal.returns-then-text-gt65536
unfolding well_formed short_text
returns-then-text-gt65536 c = stops _ _ (lt-leb _ _ c.if-text-gt65536.true)

pub returns-then-not-tables_ok : goal.returns-then-not-tables_ok
unfolding well_formed short_text
returns-then-not-tables_ok c =
    goes _ _ (le-leb _ _ c.if-text-gt65536.false)
    (failed _ c.tables_ok.ensures c.if-not-tables_ok.true-raw)

pub overflow_cast-of : goal.overflow_cast-of
overflow_cast-of c = omega (arith, (counts_small _ _ _ _ _ (said_not_not c.tables_ok.ensures c.if-not-tables_ok.false-raw)).items)

pub overflow_cast-of-2 : goal.overflow_cast-of-2
overflow_cast-of-2 c = omega (arith, (counts_small _ _ _ _ _ (said_not_not c.tables_ok.ensures c.if-not-tables_ok.false-raw)).statements)

pub overflow_cast-of-3 : goal.overflow_cast-of-3
overflow_cast-of-3 c = omega (arith, (counts_small _ _ _ _ _ (said_not_not c.tables_ok.ensures c.if-not-tables_ok.false-raw)).operands)

pub overflow_cast-of-4 : goal.overflow_cast-of-4
overflow_cast-of-4 c = omega (arith, (counts_small _ _ _ _ _ (said_not_not c.tables_ok.ensures c.if-not-tables_ok.false-raw)).attributes)

pub returns : goal.returns
unfolding well_formed short_text rows_ok
returns c =
    goes _ _ (le-leb _ _ c.if-text-gt65536.false)
    (passed c.tables_ok.ensures c.if-not-tables_ok.false-raw
    c.rows_ok.ensures)
