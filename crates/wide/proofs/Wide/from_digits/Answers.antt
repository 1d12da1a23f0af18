use mathlib.Core.List.{List}
use mathlib.Core.Path.{ap, ◌∙◌}
use Prim.Native.Nat.{ℕ, ◌+◌, ◌^◌}
use Rattle.rules.specs.Integers.{below, minus, unsigned}
use Rattle.wide.proofs.Signed.{signed, plain}
use Rattle.wide.proofs.Wide.from_digits.Goals as goal

pub returns-in-Some : goal.returns-in-Some
returns-in-Some c =
    let h = c.in-Some.ensures.cases in
    signed c.args.s.now h.0 (c.minus.ensures ∙ ap (λ (l : List ℕ). minus (below (2 ^ 127 + 1) (unsigned l))) h.1)

pub returns-in-None : goal.returns-in-None
returns-in-None c = plain c.args.s.now c.in-None.ensures.cases c.plain.ensures
