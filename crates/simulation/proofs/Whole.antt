-- A text that is accepted into tables is accepted by names, and the items are those that the tables say; and the other way round, where the tables have room.
-- Assumes nothing.
use Prim.Native.Nat.{ℕ, suc, ◌≤◌}
use mathlib.Core.Path.{◌≡◌, refl, sym, ap, ◌∙◌, subst}
use mathlib.Core.List.{List, []}
use native.Mathlib.Omega.{arith}
use borrow.Author.Tests.{le-ltb}
use lib.Dec.{ltb}
use lib.ListN.{length}
use Rattle.std.specs.Prelude.{Ok, Err}
use Rattle.rules.specs.declared.Entry.{Entry}
use Rattle.rules.specs.Utf8.{checked, Checked}
use Rattle.rules.specs.Syntax as syntax
use Rattle.rules.specs.View.{each, items_of}
use Rattle.rules.specs.World.{World, Tables, Res}
use Rattle.rules.specs.Reading as rows
use Rattle.rules.specs.Answers.{Lent, start, accepted, refusal, outcome, fault_number, read_checked, reading}
use Rattle.rules.specs.Calls.{AsManyRows}
use Rattle.laws.proofs.Cases.{by_cases}
use Rattle.reading.proofs.Progress.{never_seven}
use Rattle.bynames.proofs.Reader as names
use Rattle.bynames.proofs.Reader.{State}
use Rattle.simulation.proofs.Stable.{Sized, Later, later_same, item_in}
use Rattle.simulation.proofs.Together.{Both, goes, full, halts}
use Rattle.simulation.proofs.Said.{items_in}
use Rattle.simulation.proofs.Items.{entry_of}
use Rattle.simulation.proofs.Lists.{ItemedAll, itemed_all, simulated}

-- tables as an accepted text leaves them: all later tables say the same items
pub record Saying (text : List ℕ) (t : Tables) : Type 0 where
  pub sized : Sized t
  pub says : (u : Tables) → Later t u → each (item_in text u) 0 t.items.count ≡ items_in text t

module _ (e : Entry) (text : List ℕ) (l : Lent) where
  abbrev none : Tables
  none = (start text l).tables

  said : (x : Unit {0}) (w : World) (ys : List syntax.Item) (a : State) → ItemedAll text e none x w ys a → items_in text w.tables ≡ ys
  unfolding items_of start
  said x w ys a (itemed_all s u n zs l d k c h) = let q : u.items.count ≡ n = omega arith in rw q (h.by u (later_same u))

  saying : (x : Unit {0}) (w : World) (ys : List syntax.Item) (a : State) → ItemedAll text e none x w ys a → Saying text w.tables
  unfolding items_of start
  saying x w ys a (itemed_all s u n zs l d k c h) = let q : u.items.count ≡ n = omega arith in record { sized = d; says = λ v m. rw q (h.by v m ∙ sym (h.by u (later_same u))) }

  -- the two readings end
  record Ended (n : names.Res (List syntax.Item)) (t : Tables) : Type 0 where
    accepts : names.answer n ≡ names.accepted (items_in text t)
    says : Saying text t

  ended : (m : Res (Unit {0})) (n : names.Res (List syntax.Item)) → Both (ItemedAll text e none) m n → (t : Tables) → outcome m ≡ accepted t → Ended n t
  unfolding outcome
  ended m n (goes x w ys a q) t h =
      let same : w.tables ≡ t = cc in
      subst (Ended (names.go ys a)) same (record { accepts = ap names.accepted (sym (said x w ys a q)); says = saying x w ys a q })
  ended m n (full p n') t h = absurd (let z : ◌≡◌ {A = ℕ} 0 1 = cc in omega arith)
  ended m n (halts k p) t h = absurd (let z : ◌≡◌ {A = ℕ} 0 1 = cc in omega arith)

  checked-ended : (c : Checked) (t : Tables) → read_checked c e text l ≡ accepted t → Ended (names.list (entry_of e) (suc (length text)) (names.at [] text)) t
  unfolding read_checked
  checked-ended (Ok u) t h = ended (rows.items e (start text l)) (names.list (entry_of e) (suc (length text)) (names.at [] text)) (simulated e text l) t h
  checked-ended (Err p) t h = absurd (let z : ◌≡◌ {A = ℕ} 0 1 = cc in omega arith)

  accepted-ended : (t : Tables) → reading e text l ≡ accepted t → Ended (names.list (entry_of e) (suc (length text)) (names.at [] text)) t
  unfolding reading
  accepted-ended t =
      by_cases (ltb 65536 (length text))
      (λ long. rw long (λ h. absurd (let z : ◌≡◌ {A = ℕ} 0 1 = cc in omega arith)))
      (λ short. rw short (checked-ended (checked text) t))

  -- What is accepted into tables is accepted by names, and is what the tables say.
  pub accepted_by_names : (t : Tables) → reading e text l ≡ accepted t → names.reading (entry_of e) text ≡ names.accepted (items_in text t)
  unfolding names.reading
  accepted_by_names t h = (accepted-ended t h).accepts

  pub accepted-says : (t : Tables) → reading e text l ≡ accepted t → Saying text t
  accepted-says t h = (accepted-ended t h).says

  -- tables, or a claim that was refused
  going : (m : Res (Unit {0})) (n : names.Res (List syntax.Item)) → Both (ItemedAll text e none) m n → (xs : List syntax.Item) → names.answer n ≡ names.accepted xs → ((p : ℕ) → outcome m ≡ refusal 7 p → ⊥) → (t : Tables) × (outcome m ≡ accepted t)
  unfolding outcome fault_number
  going m n (goes x w ys a q) xs h no_seven = (w.tables, refl)
  going m n (full p n') xs h no_seven = absurd (no_seven p.first refl)
  going m n (halts k p) xs h no_seven = absurd (let z : ◌≡◌ {A = ℕ} 0 1 = cc in omega arith)

  well_formed : checked text ≡ Ok tt → length text ≤ 65536 → reading e text l ≡ outcome (rows.items e (start text l))
  unfolding reading read_checked
  well_formed u s = rw (le-ltb 65536 (length text) s, u) refl

  -- What is accepted by names is accepted into tables that have as many rows as the text has bytes.
  pub accepted_by_rows : (xs : List syntax.Item) → names.reading (entry_of e) text ≡ names.accepted xs → checked text ≡ Ok tt → length text ≤ 65536 → AsManyRows text l → (t : Tables) × (reading e text l ≡ accepted t)
  unfolding names.reading
  accepted_by_rows xs h u s rows-lent =
      let same = well_formed u s in
      let g = going (rows.items e (start text l)) (names.list (entry_of e) (suc (length text)) (names.at [] text)) (simulated e text l) xs h (λ p q. never_seven e text l rows-lent.items rows-lent.statements rows-lent.operands rows-lent.attributes p (same ∙ q)) in
      (g.0, same ∙ g.1)
