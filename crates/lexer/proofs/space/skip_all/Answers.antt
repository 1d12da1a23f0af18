-- `skip_all` meets its contract. The loop's invariant: the whole gap is i bytes and the gap of what follows them.
-- Assumes nothing.
use mathlib.Core.Path.{refl}
use native.Mathlib.Omega.{arith}
use Rattle.rules.specs.Space.{skip_len}
use Rattle.laws.proofs.Runs.{far_more, far-stop, far-fits}
use Rattle.laws.proofs.Spaces.{skip_len-le}
use Rattle.lexer.proofs.space.skip_all.Goals as goal

pub overflow_add-i : goal.overflow_add-i
overflow_add-i c =
    let s = c.args.s.now in
    let i = c.loop-n.i in
    let n = c.in-Some.n in
    let e = c.in-Some.ensures.length in
    omega (arith, far-fits skip_len skip_len-le s i n e)

pub loop-n-smaller : goal.loop-n-smaller
loop-n-smaller c =
    let s = c.args.s.now in
    let i = c.loop-n.i in
    let n = c.in-Some.n in
    let e = c.in-Some.ensures.length in
    omega (arith, far-fits skip_len skip_len-le s i n e, c.in-Some.ensures.some)

pub loop-n-preserved : goal.loop-n-preserved
loop-n-preserved c =
    let s = c.args.s.now in
    let i = c.loop-n.i in
    let n = c.in-Some.n in
    let e = c.in-Some.ensures.length in
    omega (arith, far-fits skip_len skip_len-le s i n e, far_more skip_len skip_len-le s i n e c.in-Some.ensures.some)

pub returns : goal.returns
returns c =
    omega (arith, far-stop skip_len skip_len-le c.args.s.now c.loop-n.i 0 c.in_default.ensures.length refl)
