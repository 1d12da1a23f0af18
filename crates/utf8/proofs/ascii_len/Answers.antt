use Prim.Native.Nat.{◌-◌}
use mathlib.Core.Path.{◌∙◌}
use native.Mathlib.Omega.{arith}
use Rattle.std.proofs.Common.{rules, tests}
use Rattle.std.proofs.lemmas.Iterator.{YieldsList-from_slice}
use Rattle.std.proofs.lemmas.Iterator.Consumers.{count_from_yields_List}
use Rattle.std.proofs.lemmas.Iterator.Search.{YieldsList-from_take_while}
use lib.ListN.{length, drop, take}
use Rattle.laws.proofs.Library.{count-prefix}
use Rattle.laws.proofs.Runs.{rest-count}
use Rattle.utf8.specs.Ascii.{ascii}
use Rattle.utf8.proofs.ascii_len.Goals as goal

pub returns : goal.returns
unfolding ascii
returns c =
    let s = c.args.s.now in
    let n = c.ascii_blocks-n.result in
    let rest = take (length s - n) (drop n s) in
    let counted = count_from_yields_List c.take_while.result _ c.count.ensures.ran (YieldsList-from_take_while _ ascii (YieldsList-from_slice rest cc) c.take_while.ensures.closure c.take_while.ensures.done (λ x b q k. search (rules, tests))) in
    omega (arith, c.ascii_blocks-n.ensures.onward, rest-count ascii s n (counted ∙ count-prefix ascii rest))
