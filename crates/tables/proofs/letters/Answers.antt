-- `tables::letters` meets its contract.
-- Assumes nothing.
use Prim.Native.Nat.{◌-◌, ◌≤◌}
use mathlib.Core.Path.{◌≡◌, sym, ◌∙◌}
use native.Mathlib.Omega.{arith}
use lib.ListN.{length, drop, length-drop, drop_of_length-le}
use lib.Seq.{take-nil, take_all}
use Rattle.laws.proofs.Runs.{rest}
use Rattle.tables.proofs.letters.Goals as goal

pub returns-then-b-a : goal.returns-then-b-a
returns-then-b-a c =
    let none : c.args.past - c.args.first ≡ 0 = omega arith in
    simp none

pub returns-then-a-text : goal.returns-then-a-text
returns-then-a-text c =
    let text = c.args.text.now in
    let first = c.args.first in
    let past = c.args.past in
    rest text first ∙ sym (take_all (past - first) (drop first text) (simp length-drop (omega arith)))

pub returns : goal.returns
returns c =
    let far : length c.args.text.now ≤ c.args.first = omega arith in
    simp (drop_of_length-le, take-nil)
