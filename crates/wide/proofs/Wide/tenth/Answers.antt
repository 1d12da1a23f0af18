use native.Mathlib.Omega.{arith}
use Rattle.wide.proofs.Tens.{tenth_short, tenth_law, tenth_rest, tenth_fits}
use Rattle.wide.proofs.Wide.tenth.Goals as goal

pub returns-then-self-eq0 : goal.returns-then-self-eq0
returns-then-self-eq0 c = tenth_short c.args.self.lo c.if-self-eq0.true

pub overflow_add-a : goal.overflow_add-a
overflow_add-a c =
    let s = c.args.self in
    record { fits = tenth_fits s.hi s.lo (omega arith) }

pub returns : goal.returns
returns c =
    let s = c.args.self in
    (tenth_law s.hi s.lo, tenth_rest s.hi s.lo)
