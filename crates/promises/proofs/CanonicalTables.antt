-- Demand 3, equal bytes, of tables that no read left: any two tables that are well formed, as those are of which a print answers 0, whoever made them.
-- The bytes that the two prints wrote and the kinds of the items are equal exactly when the items that the tables say mean the same. Where all items are of the kinds that
-- one entry point reads, equal bytes are enough; of mixed kinds they are not: a left-hand side and a right-hand side print as one replacement does.
-- Assumes nothing.
use Prim.Native.Nat.{ℕ}
use mathlib.Core.Path.{◌≡◌, refl, sym, ap, ◌∙◌, subst}
use mathlib.Core.Bool.{true}
use mathlib.Core.Logic.{◌↔◌}
use mathlib.Core.List.{List, [], ◌∷◌, ◌++◌, map}
use native.Mathlib.Omega.{arith}
use lib.ListN.{length, drop}
use lib.Seq.{take-append_seam}
use Rattle.rules.specs.declared.Entry.{Entry}
use Rattle.rules.specs.Bytes.{bytes, same}
use Rattle.rules.specs.Integers.{digits, decimal}
use Rattle.rules.specs.Syntax.{untyped, Operand, constant, var, Statement, assignment, Closing, infer_result, cand, infer, result, Item}
use Rattle.rules.specs.Listing.{listed_before, listed_between}
use Rattle.rules.specs.Meaning.{SameMeanings, none, more, All}
use Rattle.rules.specs.Printing.{printed, printed_all}
use Rattle.rules.specs.WellFormed.{Counts, well_formed}
use Rattle.rules.specs.Answers.{print_report}
use Rattle.rules.specs.Prints.{print_of}
use Rattle.promises.specs.Ends as end
use Rattle.promises.specs.Ends.{PrintEnd}
use Rattle.promises.specs.Tables.{TablesPrint, items_in, wrote, read_by, kinds, ReadBy}
use Rattle.bynames.proofs.WellFormed.{WfItem}
use Rattle.bynames.proofs.BackItems.{Of}
use Rattle.bynames.proofs.BackLists.{Readable}
use Rattle.bynames.proofs.Canonical.{meaning_print, print_meaning, read_by as names-by, read_all_by, print_meaning_mixed}
use Rattle.simulation.proofs.Items.{entry_of}
use Rattle.proof_formed.proofs.Items.{items_wf}
use Rattle.promises.proofs.EveryCall.{every_print}

-- ---- an accepted print of tables
record Accepted (text I S O A : List ℕ) (c : Counts) (n : ℕ) (output output' : List ℕ) : Type 0 where
  formed : well_formed text I S O A c ≡ true
  long : n ≡ length (print_of text I S O A c)
  leaves : output' ≡ print_of text I S O A c ++ drop (length (print_of text I S O A c)) output

module _ {text I S O A : List ℕ} {c : Counts} where
  by_end : {work output r work' output' : List ℕ} {n : ℕ} → PrintEnd text I S O A c work output r work' output' → r ≡ print_report n → Accepted text I S O A c n output output'
  by_end (end.not_well_formed h) q = absurd (let z : ◌≡◌ {A = ℕ} 8 0 = cc in omega arith)
  by_end (end.few_words h k) q = absurd (let z : ◌≡◌ {A = ℕ} 9 0 = cc in omega arith)
  by_end (end.few_bytes h k l) q = absurd (let z : ◌≡◌ {A = ℕ} 10 0 = cc in omega arith)
  by_end {n = n} (end.printed h k l) q = let m : n ≡ length (print_of text I S O A c) = cc in record { formed = h; long = m; leaves = refl }

module _ (p : TablesPrint) where
  accepted : Accepted p.text p.I p.S p.O p.A p.counts p.bytes p.output p.output'
  accepted = by_end (every_print p.text p.I p.S p.O p.A p.counts p.prints) p.tells

  wrote-items : wrote p ≡ printed_all (items_in p)
  unfolding print_of
  wrote-items = let s : List ℕ = printed_all (items_in p) in rw (accepted.long, accepted.leaves) (take-append_seam s (drop (length s) p.output))

  wf : All WfItem (items_in p)
  wf = items_wf p.text p.I p.S p.O p.A p.counts accepted.formed

-- ---- kinds
kind-named : (c : Closing) → names-by c ≡ entry_of (read_by c)
unfolding entry_of
kind-named (infer_result n l o) = refl
kind-named (cand x y l) = refl
kind-named (infer n l) = refl
kind-named (result o) = refl

kinds-named : (xs : List Item) → read_all_by xs ≡ map entry_of (kinds xs)
kinds-named [] = refl
kinds-named (x ∷ xs) = λ i. kind-named x.closing i ∷ kinds-named xs i

meaning_kinds : {xs ys : List Item} → SameMeanings xs ys → kinds xs ≡ kinds ys
meaning_kinds none = refl
meaning_kinds (more m ms) = λ i. read_by (m.closing i) ∷ meaning_kinds ms i

of_kind_lem : (c : Closing) → Of (entry_of (read_by c)) c
unfolding entry_of
of_kind_lem (infer_result n l o) = tt
of_kind_lem (cand x y l) = tt
of_kind_lem (infer n l) = tt
of_kind_lem (result o) = tt

readable : (e : Entry) (xs : List Item) → ReadBy e xs → All WfItem xs → All (Readable (entry_of e)) xs
readable e [] k w = tt
readable e (x ∷ xs) k w = (record { wf = w.0; of = subst (λ (z : Entry). Of (entry_of z) x.closing) k.0 (of_kind_lem x.closing) }, readable e xs k.1 w.1)

-- the promises
pub canonical_tables : (p q : TablesPrint) → ((wrote p ≡ wrote q) × (kinds (items_in p) ≡ kinds (items_in q))) ↔ SameMeanings (items_in p) (items_in q)
canonical_tables p q = (
  λ h. print_meaning_mixed (items_in p) (items_in q) (wf p) (wf q) (kinds-named (items_in p) ∙ ap (map entry_of) h.1 ∙ sym (kinds-named (items_in q))) (sym (wrote-items p) ∙ h.0 ∙ wrote-items q),
  λ m. (wrote-items p ∙ meaning_print (items_in p) (items_in q) (wf p) (wf q) m ∙ sym (wrote-items q), meaning_kinds m),
)

pub canonical_tables_of : (e : Entry) (p q : TablesPrint) → ReadBy e (items_in p) → ReadBy e (items_in q) → (wrote p ≡ wrote q) ↔ SameMeanings (items_in p) (items_in q)
canonical_tables_of e p q k l = (
  λ h. print_meaning (entry_of e) (items_in p) (items_in q) (readable e (items_in p) k (wf p)) (readable e (items_in q) l (wf q)) (sym (wrote-items p) ∙ h ∙ wrote-items q),
  λ m. ((canonical_tables p q).1 m).0,
)

-- ---- kinds are to be compared: a left-hand side and a right-hand side print as a replacement does, and mean something else
abbrev assigned : List Statement
assigned = assignment (record { name = bytes "%0"; typing = untyped; side = var; attributes = [] }) ∷ []

abbrev one : Operand
one = constant 1 untyped

abbrev two_items : List Item
two_items = record { before = assigned; between = []; closing = infer (bytes "%0") [] } ∷ record { before = []; between = []; closing = result one } ∷ []

abbrev one_item : List Item
one_item = record { before = assigned; between = []; closing = infer_result (bytes "%0") [] one } ∷ []

pub kinds_needed : (xs : List Item) × (ys : List Item) × (printed_all xs ≡ printed_all ys) × (SameMeanings xs ys → ⊥)
unfolding same digits decimal listed_before listed_between printed
kinds_needed = (two_items, one_item, refl, λ m. let z : ◌≡◌ {A = ℕ} 2 1 = ap length (meaning_kinds m) in omega arith)
