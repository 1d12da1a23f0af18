use mathlib.Core.Path.{◌≡◌, ap, ◌∙◌}
use Prim.Native.Nat.{ℕ, max}
use lib.Dec.{leb}
use Rattle.std.proofs.Common.{rules, fold}
use Rattle.utf8.proofs.Ascii.{all_greatest}
use Rattle.utf8.proofs.all_ascii.Goals as goal

pub returns : goal.returns
returns c =
    let e : c.fold-greatest.result ≡ fold max 0 c.args.s.now = search rules in
    ap (λ (n : ℕ). leb n 0x7F) e ∙ all_greatest 0 c.args.s.now
