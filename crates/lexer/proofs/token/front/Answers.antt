-- `front` meets its contract: each return by the tests on the first byte that led there, and what was counted in the rest that was lent.
-- Assumes nothing.
use native.Mathlib.Omega.{arith}
use Prim.Native.Nat.{◌≤◌}
use lib.ListN.{length}
use Rattle.rules.specs.Bytes.{name_byte, digit}
use Rattle.rules.specs.Tokens.{start}
use Rattle.laws.proofs.Runs.{empty, rest-count, rest-fits}
use Rattle.laws.proofs.Tests.{nums, said}
use Rattle.laws.proofs.Tokens.{started}
use borrow.Author.Rules.{rules}
use Rattle.lexer.proofs.token.front.Goals as goal

pub returns-then-is_empty : goal.returns-then-is_empty
returns-then-is_empty c = rw (empty c.args.s.now (search rules))

pub returns-in-Some : goal.returns-in-Some
unfolding start
returns-in-Some c = started c.args.s.now (search rules) (simp (← c.in-Some.ensures.kind) (search (nums, c.in-Some.ensures.some)))

pub named-requires : goal.named-requires
named-requires c =
    let some : 1 ≤ length c.args.s.now = search rules in
    omega (arith, rest-fits name_byte c.args.s.now 1 c.name_len.ensures)

pub returns-then-b-eq37 : goal.returns-then-b-eq37
unfolding start
returns-then-b-eq37 c =
    let s = c.args.s.now in
    started s (search rules)
    (simp (← c.in_default.ensures.kind, ← rest-count name_byte s 1 c.name_len.ensures) (search nums))

pub word-requires : goal.word-requires
word-requires c =
    let some : 1 ≤ length c.args.s.now = search rules in
    omega (arith, rest-fits name_byte c.args.s.now 1 c.name_len-then-is_letter.ensures)

pub returns-then-is_letter : goal.returns-then-is_letter
unfolding start
returns-then-is_letter c =
    let s = c.args.s.now in
    started s (search rules)
    (simp (← c.in_default.ensures.kind, ← rest-count name_byte s 1 c.name_len-then-is_letter.ensures)
    (search (nums, said c.is_letter.ensures c.if-is_letter.true)))

pub overflow_add-result : goal.overflow_add-result
overflow_add-result c = omega (arith, rest-fits digit c.args.s.now 1 c.digit_len.ensures)

pub returns-then-starts_int : goal.returns-then-starts_int
unfolding start
returns-then-starts_int c =
    let s = c.args.s.now in
    started s (search rules)
    (simp (← c.in_default.ensures.kind, ← rest-count digit s 1 c.digit_len.ensures)
    (search (nums, said c.is_letter.ensures c.if-is_letter.false, said c.starts_int.ensures c.if-starts_int.true)))

pub returns : goal.returns
unfolding start
returns c =
    let s = c.args.s.now in
    started s (search rules)
    (simp (← c.in_default.ensures.kind)
    (search (nums, said c.is_letter.ensures c.if-is_letter.false, said c.starts_int.ensures c.if-starts_int.false)))
