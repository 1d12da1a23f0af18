-- Marks in the slots of names: a name whose slot has no mark is new.
-- Assumes nothing.
use mathlib.Core.Path.{◌≡◌, sym, ap, ◌∙◌}
use mathlib.Core.Bool.{true, not}
use mathlib.Core.List.{List}
use Prim.Native.Nat.{ℕ, ◌+◌, ◌*◌, ◌%◌, ◌≤◌, ◌<◌}
use native.Mathlib.Numerals.{add-one}
use native.Mathlib.Omega.{arith}
use lib.Dec.{eqb}
use lib.ListN.{length, get_or, set, drop, drop_of_length-le, length-set}
use lib.Seq.{drop-cons, get_or-set_same, get_or-set_other}
use borrow.Author.Tests.{eqb-true, eqb-false}
use Rattle.rules.specs.declared.Statement.{Statement}
use Rattle.rules.specs.Bytes.{same}
use Rattle.rules.specs.Rows.{◌up_to◌, letters_of, name_at, statement_at}
use Rattle.rules.specs.WellFormed.{new_name}
use Rattle.laws.proofs.Cases.{by_cases}
use Rattle.laws.proofs.Places.{same_eq}
use Rattle.wellformed.specs.Slots.{number_of, slot_of}
use Rattle.wellformed.proofs.Along.{passes_along}

-- a loop along the letters stands at i
module _ (h : ℕ) (s : List ℕ) (i : ℕ) where
  pub number_more : i < length s → number_of h (drop i s) ≡ number_of ((h * 37 + get_or s i 0) % 65536) (drop (i + 1) s)
  number_more l = rw (add-one, drop-cons s i 0)

  pub number-end : length s ≤ i → number_of h (drop i s) ≡ h
  number-end l = rw (drop_of_length-le s l)

-- l has the letters of row i's name
pub slot_at :
    (text S : List ℕ) (i n : ℕ) {r : Statement} {l : List ℕ} {k : ℕ}
    → r ≡ statement_at S i
    → l ≡ letters_of text r.name
    → k ≡ slot_of n l
    → k ≡ slot_of n (name_at text S i)
unfolding name_at
slot_at text S i n e f g = g ∙ ap (slot_of n) (f ∙ ap (λ (x : Statement). letters_of text x.name) e)

-- the slots of the names of rows from first up to i have marks
pub record Marked (text S seen : List ℕ) (first i : ℕ) : Type 0 where
  pub at : (j : ℕ) → first ≤ j → j < i → get_or seen (slot_of (length seen) (name_at text S j)) 0 ≡ 1

pub none_marked : {text S seen : List ℕ} {first : ℕ} → Marked text S seen first first
none_marked = record { at = λ j a b. absurd (omega arith) }

-- k is the slot of row i's name
module _ {text S seen : List ℕ} {first i k : ℕ} (m : Marked text S seen first i) (e : k ≡ slot_of (length seen) (name_at text S i)) where
  marked_at : k < length seen → (j : ℕ) → first ≤ j → j < i + 1 → get_or (set seen k 1) (slot_of (length seen) (name_at text S j)) 0 ≡ 1
  marked_at l j a b =
      let x = slot_of (length seen) (name_at text S j) in
      by_cases (eqb x k)
      (λ t. ap (λ (y : ℕ). get_or (set seen k 1) y 0) (eqb-true x k t) ∙ get_or-set_same seen k 1 0 l)
      (λ t.
      let other = eqb-false x k t in
      let before : j ≡ i → ⊥ = λ q. other (ap (λ (y : ℕ). slot_of (length seen) (name_at text S y)) q ∙ sym e) in
      get_or-set_other seen k x 1 0 other ∙ m.at j a (omega arith))

  pub marked_more : k < length seen → Marked text S (set seen k 1) first (i + 1)
  marked_more l =
      record { at = λ j a b. ap (λ (n : ℕ). get_or (set seen k 1) (slot_of n (name_at text S j)) 0) (length-set seen k 1) ∙ marked_at l j a b }

  pub unmarked_new : eqb (get_or seen k 0) 0 ≡ true → new_name text S first i ≡ true
  unfolding new_name
  unmarked_new t =
      passes_along (λ j. not (same (name_at text S j) (name_at text S i))) (first up_to i)
      (λ j a b.
      by_cases (same (name_at text S j) (name_at text S i))
      (λ q.
      let here : slot_of (length seen) (name_at text S j) ≡ k = ap (slot_of (length seen)) (same_eq _ _ q) ∙ sym e in
      let one : get_or seen k 0 ≡ 1 = ap (λ (y : ℕ). get_or seen y 0) (sym here) ∙ m.at j a b in
      let zero = eqb-true (get_or seen k 0) 0 t in
      absurd (omega arith))
      (λ q. ap not q))
