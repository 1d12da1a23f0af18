use mathlib.Core.Path.{sym, ap, ◌∙◌}
use mathlib.Core.List.{List, ◌++◌}
use Prim.Native.Nat.{ℕ}
use lib.ListN.{length, drop, length-set}
use Rattle.laws.proofs.Tests.{said}
use Rattle.wide.specs.Wide.{bits}
use Rattle.wide.proofs.Decimals.{wrote_none, wrote_all, decimal_plain, sign_some, sign_digits, sign_place, sign_room, sign_wrote}
use Rattle.wide.proofs.Wide.write_any.Goals as goal

pub returns-then-out-n : goal.returns-then-out-n
returns-then-out-n c = wrote_none c.decimal_len-n.ensures c.if-out-n.true

pub bounds-out-0 : goal.bounds-out-0
bounds-out-0 c =
    let sign = said c.is_negative.ensures c.if-is_negative.true in
    sign_place (bits c.args.self) sign c.decimal_len-n.ensures c.args.out.now c.if-out-n.false

pub overflow_sub-n : goal.overflow_sub-n
overflow_sub-n c =
    let sign = said c.is_negative.ensures c.if-is_negative.true in
    sign_some (bits c.args.self) sign c.decimal_len-n.ensures

pub slice_bounds-write_digits-count : goal.slice_bounds-write_digits-count
slice_bounds-write_digits-count c =
    let sign = said c.is_negative.ensures c.if-is_negative.true in
    simp length-set (sign_place (bits c.args.self) sign c.decimal_len-n.ensures c.args.out.now c.if-out-n.false)

pub slice_bounds-write_digits-start : goal.slice_bounds-write_digits-start
slice_bounds-write_digits-start c =
    let sign = said c.is_negative.ensures c.if-is_negative.true in
    simp length-set (sign_place (bits c.args.self) sign c.decimal_len-n.ensures c.args.out.now c.if-out-n.false)

pub write_digits-requires : goal.write_digits-requires
write_digits-requires c =
    let b = bits c.args.self in
    let sign = said c.is_negative.ensures c.if-is_negative.true in
    record { n_value = sign_digits b sign c.decimal_len-n.ensures c.negate.ensures; n_in_bounds = sign_room b sign c.decimal_len-n.ensures c.args.out.now c.if-out-n.false }

pub returns-then-is_negative : goal.returns-then-is_negative
returns-then-is_negative c =
    let b = bits c.args.self in
    let sign = said c.is_negative.ensures c.if-is_negative.true in
    let fits = c.if-out-n.false in
    wrote_all c.decimal_len-n.ensures fits (sign_wrote b sign c.decimal_len-n.ensures c.args.out.now fits c.negate.ensures c.write_digits.ensures)

pub write_digits-requires-2 : goal.write_digits-requires-2
write_digits-requires-2 c =
    let none = said c.is_negative.ensures c.if-is_negative.false in
    record { n_value = c.decimal_len-n.ensures ∙ ap length (sym (decimal_plain (bits c.args.self) none)); n_in_bounds = c.if-out-n.false }

pub returns : goal.returns
returns c =
    let none = said c.is_negative.ensures c.if-is_negative.false in
    let n = c.decimal_len-n.result in
    wrote_all c.decimal_len-n.ensures c.if-out-n.false (c.write_digits-2.ensures ∙ ap (λ (l : List ℕ). l ++ drop n c.args.out.now) (decimal_plain (bits c.args.self) none))
