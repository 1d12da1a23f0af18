-- A token that names an instruction is no keyword.
-- Assumes nothing.
use Prim.Native.Nat.{ℕ, ◌<◌}
use mathlib.Core.Path.{◌≡◌, refl, sym, ap, ◌∙◌}
use mathlib.Core.Bool.{Bool, true, false, cond}
use mathlib.Core.List.{List}
use lib.Dec.{eqb}
use Rattle.rules.specs.declared.Spot.{Spot}
use Rattle.rules.specs.Instructions.{instruction_of, keyword_of}
use Rattle.rules.specs.Keywords as keyword
use Rattle.rules.specs.Tokens as kind
use Rattle.rules.specs.Reading as R
use Rattle.laws.proofs.Names.{instruction-named, instruction_no_keyword}

named : (t : Bool) (w : List ℕ) → cond t (instruction_of w) 59 < 59 → cond t (keyword_of w) keyword.other ≡ keyword.other
named true w h = ap keyword_of (sym (instruction-named w h)) ∙ instruction_no_keyword (instruction_of w) h
named false w h = refl

pub no_keyword : (text : List ℕ) (t : Spot) → R.instruction_at text t < 59 → R.keyword_at text t ≡ keyword.other
unfolding R.instruction_at R.keyword_at
no_keyword text t h = named (eqb t.kind kind.ident) (R.letters text t) h
