-- What a wide integer writes, as a piece.
-- Assumes nothing.
use mathlib.Core.Path.{◌≡◌, sym, ap}
use mathlib.Core.List.{List}
use Prim.Native.Nat.{ℕ}
use Rattle.rules.specs.Integers.{decimal}
use Rattle.rules.specs.Out.{Wrote}
use Rattle.laws.proofs.Over.{written}

pub decimal-wrote : {m n r : ℕ} {b a : List ℕ} → m ≡ n → Wrote (decimal m) b a r → Wrote (decimal n) b a r
decimal-wrote e w = written (ap decimal (sym e)) w
