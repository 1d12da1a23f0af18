-- `token_len` meets its contract: each return by the tests on the first byte that led there.
-- Assumes nothing.
use native.Mathlib.Omega.{arith}
use borrow.Author.Tests.{eq-eqb, ne_eqb}
use Rattle.rules.specs.Bytes.{digit, name_byte}
use Rattle.laws.proofs.Tests.{said}
use Rattle.laws.proofs.Runs.{rest-count, rest-fits}
use Rattle.stream.proofs.Passing.{given, at_single, at_name, at_word, at_int}
use borrow.Author.Rules.{rules}
use Rattle.stream.proofs.skim.token_len.Goals as goal

pub returns-in_default-2 : goal.returns-in_default-2
returns-in_default-2 c = given _ (at_single c.args.s.now (search rules) (omega (arith, c.type_inv.s 0)) (said c.is_blank.ensures c.if-is_blank.false) (search (rules, ne_eqb)) (said c.is_single.ensures c.if-is_single.true))

pub returns-in-37 : goal.returns-in-37
returns-in-37 c = at_name c.args.s.now (search rules) (omega (arith, c.type_inv.s 0)) (said c.is_blank.ensures c.if-is_blank.false) (search (rules, ne_eqb)) (said c.is_single.ensures c.if-is_single.false) (search (rules, eq-eqb)) c.name_len.ensures

pub overflow_add-name_len : goal.overflow_add-name_len
overflow_add-name_len c = omega (arith, rest-fits name_byte c.args.s.now 1 c.name_len-in_default-3.ensures)

pub returns-in_default-3 : goal.returns-in_default-3
returns-in_default-3 c = at_word c.args.s.now (search rules) (omega (arith, c.type_inv.s 0)) (said c.is_blank.ensures c.if-is_blank.false) (search (rules, ne_eqb)) (said c.is_single.ensures c.if-is_single.false) (search (rules, ne_eqb)) (search (rules, ne_eqb)) (said c.is_letter.ensures c.if-is_letter.true) c.sure.ensures (rest-count name_byte c.args.s.now 1 c.name_len-in_default-3.ensures)

pub overflow_add-digit_len : goal.overflow_add-digit_len
overflow_add-digit_len c = omega (arith, rest-fits digit c.args.s.now 1 c.digit_len.ensures)

pub returns-in_default-4 : goal.returns-in_default-4
returns-in_default-4 c = at_int c.args.s.now (search rules) (omega (arith, c.type_inv.s 0)) (said c.is_blank.ensures c.if-is_blank.false) (search (rules, ne_eqb)) (said c.is_single.ensures c.if-is_single.false) (search (rules, ne_eqb)) (search (rules, ne_eqb)) (said c.is_letter.ensures c.if-is_letter.false) (said c.starts_int.ensures c.if-starts_int.true) c.sure-in_default-4.ensures (rest-count digit c.args.s.now 1 c.digit_len.ensures)
