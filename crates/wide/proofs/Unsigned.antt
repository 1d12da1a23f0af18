-- Laws of digits behind a number, at the rest of a list from i on, which is where a loop stands.
-- Assumes nothing.
use mathlib.Core.Path.{◌≡◌, refl, sym, ap, ◌∙◌}
use mathlib.Core.Bool.{true, false}
use mathlib.Core.List.{List, [], ◌∷◌}
use Prim.Native.Nat.{ℕ, ◌+◌, ◌-◌, ◌*◌, ◌≤◌, ◌<◌}
use native.Mathlib.Numerals.{add-one}
use native.Mathlib.Omega.{arith}
use lib.Dec.{leb}
use lib.ListN.{length, get_or, drop, drop_of_length-le}
use lib.Seq.{drop-cons}
use borrow.Author.Tests.{lt-ltb, le-ltb, le-leb, leb-true}
use Rattle.rules.specs.Bytes.{byte, inside, digit}
use Rattle.rules.specs.Integers.{Read, number, refused, behind, below, unsigned}
use Rattle.laws.proofs.Tests.{and_left, and_right}
use Rattle.laws.proofs.Cases.{by_cases}
use Rattle.wide.proofs.Fields.{below_in, below_out}

pub digit-range : (b : ℕ) → digit b ≡ true → (byte "0" ≤ b) × (b ≤ byte "9")
unfolding digit inside
digit-range b e = (leb-true (byte "0") b (and_left (leb (byte "0") b) _ e), leb-true b (byte "9") (and_right (leb (byte "0") b) _ e))

pub range-digit : (b : ℕ) → byte "0" ≤ b → b ≤ byte "9" → digit b ≡ true
unfolding digit inside
range-digit b h k = rw (le-leb (byte "0") b h, le-leb b (byte "9") k)

pub unsigned_some : (s : List ℕ) → (length s ≡ 0 → ⊥) → unsigned s ≡ behind 0 s
unsigned_some [] h = absurd (h refl)
unsigned_some (x ∷ s) h = refl

pub unsigned_none : (s : List ℕ) → length s ≡ 0 → unsigned s ≡ refused
unsigned_none [] h = refl
unsigned_none (x ∷ s) h = let w : ⊥ = omega arith in absurd w

module _ (s : List ℕ) (i v : ℕ) where
  pub behind_more : i < length s → digit (get_or s i 0) ≡ true → behind v (drop i s) ≡ behind (v * 10 + (get_or s i 0 - byte "0")) (drop (i + 1) s)
  behind_more h e = rw (add-one, drop-cons s i 0, e)

  pub behind_bad : i < length s → digit (get_or s i 0) ≡ false → behind v (drop i s) ≡ refused
  behind_bad h e = rw (drop-cons s i 0, e)

  pub behind-end : length s ≤ i → behind v (drop i s) ≡ number v
  behind-end h = rw (drop_of_length-le s h)

-- what is past the bound stays there
pub behind_over : (n v : ℕ) (l : List ℕ) → n ≤ v → below n (behind v l) ≡ refused
behind_over n v [] h = rw (le-ltb v n h)
behind_over n v (x ∷ l) h =
    by_cases (digit x)
    (λ e. rw e (behind_over n (v * 10 + (x - byte "0")) l (omega arith)))
    (λ e. rw e)

-- a loop that has read s up to i, as v
module _ (n : ℕ) (s : List ℕ) where
  pub none_read : length s ≡ 0 → refused ≡ below n (unsigned s)
  none_read h = sym (rw (unsigned_none s h))

  module _ (some : length s ≡ 0 → ⊥) (i v : ℕ) (sofar : behind 0 s ≡ behind v (drop i s)) where
    whole : {r : Read} → behind v (drop i s) ≡ r → unsigned s ≡ r
    whole e = unsigned_some s some ∙ sofar ∙ e

    pub all_read : length s ≤ i → v < n → number v ≡ below n (unsigned s)
    all_read h k = sym (rw (whole (behind-end s i v h), lt-ltb v n k))

    pub bad_read : i < length s → digit (get_or s i 0) ≡ false → refused ≡ below n (unsigned s)
    bad_read h e = sym (rw (whole (behind_bad s i v h e)))

    module _ (h : i < length s) (e : digit (get_or s i 0) ≡ true) {d : ℕ} (is : d ≡ get_or s i 0 - byte "0") where
      step : behind v (drop i s) ≡ behind (v * 10 + d) (drop (i + 1) s)
      step = rw is (behind_more s i v h e)

      pub over_read : refused ≡ below n (number (v * 10 + d)) → refused ≡ below n (unsigned s)
      over_read o = sym (rw (whole step) (behind_over n (v * 10 + d) (drop (i + 1) s) (below_out n (v * 10 + d) o)))

      pub more_read : {w : ℕ} → number w ≡ below n (number (v * 10 + d)) → (behind 0 s ≡ behind w (drop (i + 1) s)) × (w < n)
      more_read {w} o =
          let f = below_in n w (number (v * 10 + d)) o in
          let g : v * 10 + d ≡ w = (let z : number (v * 10 + d) ≡ number w = f.0 in cc) in
          (sofar ∙ step ∙ ap (λ (x : ℕ). behind x (drop (i + 1) s)) g, f.1)
