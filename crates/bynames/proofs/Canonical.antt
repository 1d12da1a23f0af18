-- Demand 3, equal bytes: two texts that the same entry point accepts print to equal bytes exactly when their meanings are equal. And so do two lists of items of any
-- kinds, where they have the same kinds.
-- Assumes nothing.
use mathlib.Core.Path.{◌≡◌, refl, sym, ap, ◌∙◌}
use mathlib.Core.Logic.{◌↔◌}
use mathlib.Core.List.{List, [], ◌∷◌}
use Prim.Native.Nat.{ℕ}
use native.Mathlib.Omega.{arith}
use Rattle.rules.specs.Syntax.{Statement, Closing, infer_result, cand, infer, result, Item, scope}
use Rattle.rules.specs.Meaning.{SameMeanings, none, more, All}
use Rattle.rules.specs.Printing.{laid, printed, printed_all}
use Rattle.bynames.proofs.Canon.{canon, meaning_canon, canon_same}
use Rattle.bynames.proofs.WellFormed.{WfItem}
use Rattle.bynames.proofs.Reader.{State, Res, go, give, ◌>>=◌, at, Entry, replacements, left_hand_sides, right_hand_sides, new_item, item_of, reading, accepted}
use Rattle.bynames.proofs.Steps.{step}
use Rattle.bynames.proofs.BackItems.{Of}
use Rattle.bynames.proofs.BackLists.{Readable, readable_wf, canons, printed-reads, printed_shut, print_read}
use Rattle.bynames.proofs.AcceptedItems.{accepted_readable}

-- equal meanings: equal bytes, for a print goes by what it says
pub meaning_print : (xs ys : List Item) → All WfItem xs → All WfItem ys → SameMeanings xs ys → printed_all xs ≡ printed_all ys
unfolding printed
meaning_print xs ys w v none = refl
meaning_print xs ys w v (more {x = x} {y = y} {xs = xs'} {ys = ys'} m ms) =
    let c : canon x ≡ canon y = meaning_canon x y w.0 v.0 m in
    λ i. laid (c i).before (c i).between (c i).closing (meaning_print xs' ys' w.1 v.1 ms i)

-- equal readings of the prints: equal meanings
canons_meaning : (xs ys : List Item) → All WfItem xs → All WfItem ys → canons xs ≡ canons ys → SameMeanings xs ys
canons_meaning [] [] w v q = none
canons_meaning [] (y ∷ ys) w v q = absurd (let z : ◌≡◌ {A = ℕ} 0 1 = cc in let n : ⊥ = omega arith in n)
canons_meaning (x ∷ xs) [] w v q = absurd (let z : ◌≡◌ {A = ℕ} 0 1 = cc in let n : ⊥ = omega arith in n)
canons_meaning (x ∷ xs) (y ∷ ys) w v q =
    let h : canon x ≡ canon y = cc in
    more (canon_same x y w.0 v.0 h) (canons_meaning xs ys w.1 v.1 (cc))

-- ---- items of one entry point
module _ (e : Entry) where
  read_once : (xs ys : List Item) → accepted xs ≡ accepted ys → xs ≡ ys
  read_once xs ys q = cc

  pub print_meaning : (xs ys : List Item) → All (Readable e) xs → All (Readable e) ys → printed_all xs ≡ printed_all ys → SameMeanings xs ys
  print_meaning xs ys w v q = canons_meaning xs ys (readable_wf e xs w) (readable_wf e ys v) (read_once (canons xs) (canons ys) (sym (print_read e xs w) ∙ ap (reading e) q ∙ print_read e ys v))

  -- the promise
  pub canonical : (s t : List ℕ) (xs ys : List Item) → reading e s ≡ accepted xs → reading e t ≡ accepted ys → (printed_all xs ≡ printed_all ys) ↔ SameMeanings xs ys
  canonical s t xs ys p q =
      let w : All (Readable e) xs = accepted_readable e s xs p in
      let v : All (Readable e) ys = accepted_readable e t ys q in
      (print_meaning xs ys w v, meaning_print xs ys (readable_wf e xs w) (readable_wf e ys v))

-- ---- items of any kinds: each is read by an entry point of its own
abbrev pub read_by : Closing → Entry
read_by (infer_result n l o) = replacements
read_by (cand x y l) = replacements
read_by (infer n l) = left_hand_sides
read_by (result o) = right_hand_sides

abbrev pub read_all_by : List Item → List Entry
read_all_by [] = []
read_all_by (x ∷ xs) = read_by x.closing ∷ read_all_by xs

reads_own : (c : Closing) → Of (read_by c) c
reads_own (infer_result n l o) = tt
reads_own (cand x y l) = tt
reads_own (infer n l) = tt
reads_own (result o) = tt

-- an item by each entry point of a list
unfoldable read_each : List Entry → State → Res (List Item)
read_each [] = give []
read_each (e ∷ es) = do
  x ← new_item (item_of e)
  l ← read_each es
  give (x ∷ l)

each_read : (xs : List Item) → All WfItem xs → (t : List Statement) → (w : State) × (read_each (read_all_by xs) (at t (printed_all xs)) ≡ go (canons xs) w)
unfolding read_each
each_read [] v t = (at t [], refl)
each_read (x ∷ xs) v t =
    let q : (w : State) × (read_each (read_all_by xs) (at (scope (canon x)) (printed_all xs)) ≡ go (canons xs) w) = each_read xs v.1 (scope (canon x)) in
    (q.0, step _ (printed-reads x v.0 (read_by x.closing) (reads_own x.closing) (printed_all xs) (printed_shut xs v.1)) (step _ q.1 refl))

gone_once : {xs ys : List Item} {w v : State} → go xs w ≡ go ys v → xs ≡ ys
gone_once h = cc

pub print_meaning_mixed : (xs ys : List Item) → All WfItem xs → All WfItem ys → read_all_by xs ≡ read_all_by ys → printed_all xs ≡ printed_all ys → SameMeanings xs ys
print_meaning_mixed xs ys w v k q =
    canons_meaning xs ys w v (gone_once (sym (each_read xs w []).1 ∙ (λ i. read_each (k i) (at [] (q i))) ∙ (each_read ys v []).1))
