-- Demand 3, reading back.
-- Take a text that is accepted, and the print of the items that its tables say. If the print has at most 65,536 bytes, then the same entry point accepts it,
-- with as many rows of each table as it has bytes; the items that those tables say mean the same as those of the text, and print the same bytes.
-- Assumes nothing.
use Prim.Native.Nat.{ℕ, ◌≤◌}
use mathlib.Core.Path.{◌≡◌, sym, ap, ◌∙◌, subst}
use mathlib.Core.List.{List}
use lib.ListN.{length}
use Rattle.rules.specs.declared.Entry.{Entry}
use Rattle.rules.specs.Syntax.{Item}
use Rattle.rules.specs.Meaning.{SameMeanings}
use Rattle.rules.specs.Printing.{printed_all}
use Rattle.rules.specs.World.{Tables}
use Rattle.rules.specs.Answers.{Lent, accepted, reading}
use Rattle.rules.specs.Calls.{AsManyRows}
use Rattle.bynames.proofs.Ascii.{printed-checked}
use Rattle.bynames.proofs.AcceptedItems.{accepted_readable}
use Rattle.bynames.proofs.Reader as names
use Rattle.bynames.proofs.ReadingBack as by_names
use Rattle.simulation.proofs.Said.{items_in}
use Rattle.simulation.proofs.Items.{entry_of}
use Rattle.simulation.proofs.Whole.{accepted_by_names, accepted_by_rows}

-- the print of some items, read into tables
pub record ReadsBack (e : Entry) (xs : List Item) (l : Lent) : Type 0 where
  pub tables : Tables
  pub reads : reading e (printed_all xs) l ≡ accepted tables
  pub means : SameMeanings xs (items_in (printed_all xs) tables)
  pub prints : printed_all (items_in (printed_all xs) tables) ≡ printed_all xs

same_items : (xs ys : List Item) → names.accepted xs ≡ names.accepted ys → xs ≡ ys
same_items xs ys e = cc

-- the promise
pub reading-back : (e : Entry) (text : List ℕ) (l : Lent) (t : Tables) → reading e text l ≡ accepted t → length (printed_all (items_in text t)) ≤ 65536
    → (l' : Lent) → AsManyRows (printed_all (items_in text t)) l' → ReadsBack e (items_in text t) l'
reading-back e text l t p short l' rows =
    let xs : List Item = items_in text t in
    let read = accepted_by_names e text l t p in
    let back = by_names.reading-back (entry_of e) text xs read in
    let ys : List Item = back.0 in
    let here = accepted_by_rows e (printed_all xs) l' ys back.1.reads (printed-checked (entry_of e) xs (accepted_readable (entry_of e) text xs read)) short rows in
    let same : ys ≡ items_in (printed_all xs) here.0 = same_items _ _ (sym back.1.reads ∙ accepted_by_names e (printed_all xs) l' here.0 here.1) in
    record {
      tables = here.0;
      reads = here.1;
      means = subst (SameMeanings xs) same back.1.means;
      prints = ap printed_all (sym same) ∙ back.1.prints;
    }
