-- The next token of the rest of a text, by letters, is the token that the definition finds there, by places.
-- Assumes nothing.
use mathlib.Core.Path.{◌≡◌, refl, ap, ◌∙◌}
use mathlib.Core.List.{List}
use Prim.Native.Nat.{ℕ, ◌+◌, ◌-◌}
use native.Mathlib.Omega.{arith}
use lib.ListN.{drop, take}
use lib.Seq.{drop-drop}
use Rattle.rules.specs.Bytes.{part}
use Rattle.rules.specs.Space.{gap}
use Rattle.rules.specs.declared.Front.{Front}
use Rattle.rules.specs.declared.Front.TheVariants.{Spelt, Fault, Nothing}
use Rattle.rules.specs.declared.Lexed.{Lexed}
use Rattle.rules.specs.declared.Lexed.TheVariants.{Found, End, Refused}
use Rattle.rules.specs.Tokens.{front, placed, after, token_at}
use Rattle.bynames.proofs.Tokens.{Next, end, bad, found, cut, token}

-- what is found at places, by letters
abbrev pub spelt : List ℕ → Lexed → Next
spelt text (Found t) = found t.kind (part text t.first t.past) (drop t.past text)
spelt text End = end
spelt text (Refused p) = bad

placed-cut : (text : List ℕ) (i : ℕ) (f : Front) → cut (drop i text) f ≡ spelt text (placed i f)
placed-cut text i (Spelt k n) =
    let e : n ≡ i + n - i = omega arith in
    λ j. found k (take (e j) (drop i text)) (drop-drop n i text j)
placed-cut text i (Fault n) = refl
placed-cut text i Nothing = refl

pub located : (text : List ℕ) (at : ℕ) → token (drop at text) ≡ spelt text (token_at text at)
unfolding token token_at
located text at =
    ap (λ (s : List ℕ). cut s (front s)) (drop-drop (gap (drop at text)) at text) ∙ placed-cut text (after text at) (front (drop (after text at) text))
