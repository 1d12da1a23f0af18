-- The number of a name's letters, as a loop along them goes on.
-- Assumes nothing.
use mathlib.Core.Path.{◌≡◌}
use mathlib.Core.List.{List}
use Prim.Native.Nat.{ℕ, ◌+◌, ◌*◌, ◌%◌, ◌≤◌, ◌<◌}
use native.Mathlib.Numerals.{add-one}
use lib.ListN.{length, get_or, drop, drop_of_length-le}
use lib.Seq.{drop-cons}
use Rattle.laws.proofs.First as first
use Rattle.laws.proofs.Runs.{empty}
use Rattle.rules.specs.declared.Span.{Span}
use Rattle.rules.specs.Bytes.{part}
use Rattle.rules.specs.Rows.{name_at, statement_at}
use Rattle.index.specs.Slots.{number_of, slot_of, slots_in}

module _ (h : ℕ) (s : List ℕ) (i : ℕ) where
  pub number_more : i < length s → number_of h (drop i s) ≡ number_of ((h * 37 + get_or s i 0) % 1024) (drop (i + 1) s)
  number_more l = rw (add-one, drop-cons s i 0)

  pub number-end : length s ≤ i → number_of h (drop i s) ≡ h
  number-end l = rw (drop_of_length-le s l)

-- a name that has a letter, and one that has none
pub slot_some : (s : List ℕ) → 1 ≤ length s → slot_of s ≡ number_of 0 (drop 1 s)
unfolding slot_of
slot_some s h = rw (first.first s h)

pub slot_none : (s : List ℕ) → length s < 1 → slot_of s ≡ 1024
unfolding slot_of
slot_none s h = rw (empty s h)

-- the slot of the letters at the place of a row's name
pub named-slot : (text words : List ℕ) (i : ℕ) {place : Span} {letters : List ℕ} {slot : ℕ} → place ≡ (statement_at words i).name → letters ≡ part text place.first place.past → slot ≡ slot_of letters → slots_in text words i ≡ slot
unfolding name_at
named-slot text words i e l s = rw (s, l, e)
