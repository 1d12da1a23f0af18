-- The loop has read the digits before the next as `m`, so what is left reads behind `m` as the whole does behind 0.
use mathlib.Core.Path.{◌≡◌}
use Prim.Native.Nat.{◌^◌, ◌<◌}
use lib.ListN.{drop}
use Rattle.rules.specs.Integers.{behind}
use Rattle.wide.specs.Wide.{bits}
use Rattle.wide.proofs.reading.magnitude.Given as goal

abbrev pub invariant-loop-b : goal.invariant-loop-b
invariant-loop-b l = (behind 0 l.s ≡ behind (bits l.m) (drop l.b-index l.s)) × (bits l.m < 2 ^ 128)
