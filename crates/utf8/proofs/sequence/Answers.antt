use lib.ListN.{length, drop, take, length-drop}
use mathlib.Core.Bool.{Bool, cond}
use Rattle.std.specs.List.{list_all}
use Rattle.std.specs.Prelude.{Option, unwrap_or}
use Rattle.std.proofs.Common.{tests}
use Rattle.std.proofs.lemmas.Iterator.{YieldsList-from_slice}
use Rattle.std.proofs.lemmas.Iterator.Search.{all_from_yields_List}
use Rattle.rules.specs.Bytes.{inside}
use Prim.Native.Nat.{ℕ, ◌-◌, ◌≤◌}
use mathlib.Core.Path.{◌≡◌, ap, ◌∙◌}
use native.Mathlib.Omega.{arith}
use Rattle.laws.proofs.Library.{then-some}
use Rattle.laws.proofs.Tests.{said_not, said_not_not}
use Rattle.utf8.specs.Sequences.{going_on}
use Rattle.utf8.proofs.Rows.{short, misses, hits, goes_on, length-going_on}
use borrow.Author.Rules.{rules}
use Rattle.utf8.proofs.sequence.Goals as goal

pub returns-then-s-n-clause-length : goal.returns-then-s-n-clause-length
returns-then-s-n-clause-length c =
    let n = c.args.n in
    short n c.args.s.now 1 c.args.lo c.args.hi (going_on (n - 2)) (omega (arith, length-going_on (n - 2)))

pub returns-then-not-inside-clause-length : goal.returns-then-not-inside-clause-length
returns-then-not-inside-clause-length c =
    let n = c.args.n in
    misses n c.args.s.now 1 c.args.lo c.args.hi (going_on (n - 2)) (search rules) (said_not c.inside.ensures (search rules))

pub returns-clause-length : goal.returns-clause-length
returns-clause-length c =
    let n = c.args.n in
    let s = c.args.s.now in
    let rest = take (n - 2) (drop 2 s) in
    let far : n - 2 ≤ length (drop 2 s) = simp length-drop (omega arith) in
    let all : c.all-goes_on.result ≡ list_all (inside 0x80 0xBF) rest = all_from_yields_List _ _ _ _ c.all-goes_on.ensures.ran (YieldsList-from_slice rest cc) (λ x b q k. search (rules, tests)) in
    hits n s 1 c.args.lo c.args.hi (going_on (n - 2)) (search rules) (said_not_not c.inside.ensures (search rules))
    (ap (λ (o : Option ℕ). unwrap_or o 0) c.then_some.ensures ∙ then-some c.all-goes_on.result n ∙ ap (λ (t : Bool). cond t n 0) (all ∙ goes_on (n - 2) (drop 2 s) far))
