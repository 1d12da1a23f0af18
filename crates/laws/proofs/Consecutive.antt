-- Spans one behind the other: where the first stands, and that all lie within what they are consecutive in.
-- Assumes nothing.
use Prim.Native.Nat.{ℕ, ◌≤◌}
use mathlib.Core.Path.{◌≡◌, sym, subst}
use mathlib.Core.Logic.{inl, inr}
use mathlib.Core.Bool.{true, ◌&&◌}
use mathlib.Core.List.{List, [], ◌∷◌}
use native.Mathlib.Omega.{arith}
use lib.Dec.{eqb, leb}
use borrow.Author.Tests.{eqb-true, leb-true}
use Rattle.rules.specs.declared.Span.{Span}
use Rattle.rules.specs.Meaning.{Mem}
use Rattle.rules.specs.WellFormed.{consecutive}
use Rattle.laws.proofs.Tests.{and_left, and_right}

module _ (at past : ℕ) (s : Span) (l : List Span) (e : consecutive at past (s ∷ l) ≡ true) where
  pub first_at : s.first ≡ at
  first_at = eqb-true s.first at (and_left (eqb s.first at) (leb at s.past && consecutive s.past past l) e)

  others : (leb at s.past && consecutive s.past past l) ≡ true
  others = and_right (eqb s.first at) (leb at s.past && consecutive s.past past l) e

  pub past_after : at ≤ s.past
  past_after = leb-true at s.past (and_left (leb at s.past) (consecutive s.past past l) others)

  pub then : consecutive s.past past l ≡ true
  then = and_right (leb at s.past) (consecutive s.past past l) others

pub consecutive-le : (at past : ℕ) (l : List Span) → consecutive at past l ≡ true → at ≤ past
consecutive-le at past [] e = omega (arith, eqb-true at past e)
consecutive-le at past (s ∷ l) e = omega (arith, past_after at past s l e, consecutive-le s.past past l (then at past s l e))

-- a span lies from a row up to another
pub record Inside (at past : ℕ) (s : Span) : Type 0 where
  pub low : at ≤ s.first
  pub up : s.first ≤ s.past
  pub high : s.past ≤ past

pub consecutive-inside : (l : List Span) (at past : ℕ) → consecutive at past l ≡ true → (x : Span) → Mem x l → Inside at past x
consecutive-inside [] at past e x m = absurd m
consecutive-inside (s ∷ l) at past e x (inl q) =
    let f = first_at at past s l e in
    let g = past_after at past s l e in
    let h = consecutive-le s.past past l (then at past s l e) in
    subst (Inside at past) (sym q) (record { low = omega arith; up = omega arith; high = omega arith })
consecutive-inside (s ∷ l) at past e x (inr m) =
    let i = consecutive-inside l s.past past (then at past s l e) x m in
    record { low = omega (arith, past_after at past s l e, i.low); up = i.up; high = i.high }
