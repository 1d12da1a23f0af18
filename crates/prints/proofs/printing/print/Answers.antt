-- `prints::printing::print` meets its contract.
-- Assumes nothing.
use native.Mathlib.Omega.{arith}
use Rattle.laws.proofs.Tests.{said_not, said_not_not}
use Rattle.rules.specs.Prints.{words_needed}
use Rattle.printable.proofs.Printable.{counts_small, items-owned, tables-prepared}
use Rattle.prints.proofs.Prints as prints
use Rattle.prints.proofs.printing.print.Goals as goal

pub returns-then-not-well_formed : goal.returns-then-not-well_formed
returns-then-not-well_formed c = prints.ill_formed _ _ _ _ _ _ _ _ (said_not c.well_formed-2.ensures c.if-not-well_formed.true-raw)

pub overflow_mul-words : goal.overflow_mul-words
overflow_mul-words c = let small = counts_small _ _ _ _ _ _ (said_not_not c.well_formed-2.ensures c.if-not-well_formed.false-raw) in omega (arith, small.statements)

pub overflow_add-words : goal.overflow_add-words
overflow_add-words c = let small = counts_small _ _ _ _ _ _ (said_not_not c.well_formed-2.ensures c.if-not-well_formed.false-raw) in omega (arith, small.statements, small.operands)

pub overflow_add-words-2 : goal.overflow_add-words-2
overflow_add-words-2 c = let small = counts_small _ _ _ _ _ _ (said_not_not c.well_formed-2.ensures c.if-not-well_formed.false-raw) in omega (arith, small.statements, small.operands)

pub returns-then-work-words : goal.returns-then-work-words
unfolding words_needed
returns-then-work-words c = prints.few_words _ _ _ _ _ _ _ _ (said_not_not c.well_formed-2.ensures c.if-not-well_formed.false-raw) (omega arith) (omega arith)

pub overflow_cast-item_count : goal.overflow_cast-item_count
overflow_cast-item_count c = let small = counts_small _ _ _ _ _ _ (said_not_not c.well_formed-2.ensures c.if-not-well_formed.false-raw) in omega (arith, small.items)

pub overflow_cast-statement_count : goal.overflow_cast-statement_count
overflow_cast-statement_count c = let small = counts_small _ _ _ _ _ _ (said_not_not c.well_formed-2.ensures c.if-not-well_formed.false-raw) in omega (arith, small.statements)

pub print_items-requires : goal.print_items-requires
unfolding words_needed
print_items-requires c = record { owned = items-owned _ _ _ _ _ _ (said_not_not c.well_formed-2.ensures c.if-not-well_formed.false-raw); prepared = λ w long clear. tables-prepared _ _ _ _ _ _ (said_not_not c.well_formed-2.ensures c.if-not-well_formed.false-raw) w (omega (arith, long)) clear }

pub returns : goal.returns
unfolding words_needed
returns c = prints.enough_words _ _ _ _ _ _ _ _ (said_not_not c.well_formed-2.ensures c.if-not-well_formed.false-raw) (omega arith) c.print_items.ensures
