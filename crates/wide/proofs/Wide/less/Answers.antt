use mathlib.Core.Path.{ap, ◌∙◌}
use Prim.Native.Nat.{ℕ}
use lib.Dec.{ltb}
use Rattle.rules.specs.Integers.{order}
use Rattle.wide.specs.Wide.{bits}
use Rattle.wide.proofs.Wide.less.Goals as goal

pub returns : goal.returns
returns c =
    c.under.ensures
    ∙ ap (λ (x : ℕ). ltb x (bits c.flipped-2.result)) c.flipped.ensures
    ∙ ap (λ (x : ℕ). ltb (order (bits c.args.self)) x) c.flipped-2.ensures
