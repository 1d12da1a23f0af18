-- Demand 3, reading back: the print of an accepted text is accepted, keeps the meaning and prints the same bytes.
-- Assumes nothing.
use mathlib.Core.Path.{◌≡◌, sym}
use mathlib.Core.List.{List, [], ◌∷◌}
use Prim.Native.Nat.{ℕ}
use Rattle.rules.specs.Syntax.{Item}
use Rattle.rules.specs.Meaning.{SameMeanings, none, more, All}
use Rattle.rules.specs.Printing.{printed_all}
use Rattle.bynames.proofs.Canon.{canon_meaning}
use Rattle.bynames.proofs.Reader.{Entry, reading, accepted}
use Rattle.bynames.proofs.BackLists.{Readable, canons, print_read}
use Rattle.bynames.proofs.AcceptedItems.{accepted_readable}
use Rattle.bynames.proofs.Canonical.{canonical}

pub record ReadsBack (e : Entry) (xs ys : List Item) : Type 0 where
  pub reads : reading e (printed_all xs) ≡ accepted ys
  pub means : SameMeanings xs ys
  pub prints : printed_all ys ≡ printed_all xs

canons_mean : (e : Entry) (xs : List Item) → All (Readable e) xs → SameMeanings xs (canons xs)
canons_mean e [] w = none
canons_mean e (x ∷ xs) w = more (canon_meaning x w.0.wf) (canons_mean e xs w.1)

-- the promise
pub reading-back : (e : Entry) (text : List ℕ) (xs : List Item) → reading e text ≡ accepted xs → (ys : List Item) × ReadsBack e xs ys
reading-back e text xs p =
    let w : All (Readable e) xs = accepted_readable e text xs p in
    let m : SameMeanings xs (canons xs) = canons_mean e xs w in
    let r : reading e (printed_all xs) ≡ accepted (canons xs) = print_read e xs w in
    (canons xs, record { reads = r; means = m; prints = sym ((canonical e text (printed_all xs) xs (canons xs) p r).1 m) })
