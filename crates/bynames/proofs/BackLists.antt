-- Reading back: the print of a list of items reads as the items that it says.
-- Assumes nothing.
use mathlib.Core.Path.{◌≡◌, refl, sym, ap, subst}
use mathlib.Core.Bool.{true, false}
use mathlib.Core.List.{List, [], ◌∷◌, ◌++◌}
use Prim.Native.Nat.{ℕ, zero, suc, ◌+◌, ◌≤◌, ◌<◌}
use native.Mathlib.Omega.{arith}
use lib.Dec.{eqb}
use lib.ListN.{length}
use Rattle.rules.specs.Bytes.{bytes}
use Rattle.rules.specs.Syntax.{Name, Operand, RootAttribute, Assignment, Statement, assignment, pc, blockpc, Closing, infer_result, cand, infer, result, Item, onto, scope, first_roots, second_roots}
use Rattle.rules.specs.Meaning.{Mem, Reachable, All}
use Rattle.rules.specs.Listing.{has, listing, listed_before, listed_between}
use Rattle.rules.specs.Printing.{feed, operand, root_attribute, attributes, lines, infer_line, result_line, cand_line, first_closing, second_closing, printed, printed_all}
use Rattle.laws.proofs.Members.{all_of, all_right}
use Rattle.bynames.proofs.Members.{mem_onto, mem_below}
use Rattle.bynames.proofs.WellFormed.{RootAttributeOk, Wf, WfItem}
use Rattle.bynames.proofs.Canon.{canon, canon_reached, canon_wf, before-known}
use Rattle.bynames.proofs.Tokens.{token}
use Rattle.bynames.proofs.Reader as R
use Rattle.bynames.proofs.Reader.{State, go, at, Entry, item_of, reading, accepted}
use Rattle.bynames.proofs.Steps.{step, Shut}
use Rattle.bynames.proofs.BackAttributes.{app_long, attributes-long, root_sort}
use Rattle.bynames.proofs.BackLines.{Plain, closes_shut, wf_below, lines_long, operand-long, line_shut}
use Rattle.bynames.proofs.BackItems.{first-closes, Of, Halves, Laid, item_reads}

-- ---- one item
module _ (x : Item) (w : WfItem x) where
  plain_listed : (s : Statement) → Mem s (scope (canon x)) → Plain s
  plain_listed s h = let g : (b : Assignment) × (s ≡ assignment b) × Reachable x b = canon_reached x s h in subst Plain (sym g.1) tt

  pub plain_before : All Plain (listed_before x)
  plain_before = all_of Plain (listed_before x) (λ s h. plain_listed s (mem_below s (listed_between x) (onto (listed_before x) []) (mem_onto s (listed_before x) [] h)))

  pub plain_between_lem : All Plain (listed_between x)
  plain_between_lem = all_of Plain (listed_between x) (λ s h. plain_listed s (mem_onto s (listed_between x) (onto (listed_before x) []) h))

  laid_canon : Laid (listed_before x) (listed_between x) x.closing
  laid_canon =
      record {
        plain = plain_before;
        plain_between = plain_between_lem;
        wf = (canon_wf x w).wf;
        ok = w.ok;
        first = before-known x w;
        second = all_right (λ m. has m (scope (canon x)) ≡ true) (first_roots x.closing) (second_roots x.closing) (canon_wf x w).known;
      }

-- with no second roots there is no second half
none_between : (x : Item) → second_roots x.closing ≡ [] → listed_between x ≡ []
unfolding listed_between
none_between x e = ap (listing (scope x) (onto (listed_before x) [])) e

halves : (x : Item) (c : Closing) → x.closing ≡ c → Halves c (listed_between x)
halves x (infer_result n l o) e = tt
halves x (cand y z l) e = none_between x (ap second_roots e)
halves x (infer n l) e = none_between x (ap second_roots e)
halves x (result o) e = none_between x (ap second_roots e)

-- an item that an entry point reads
pub record Readable (e : Entry) (x : Item) : Type 0 where
  pub wf : WfItem x
  pub of : Of e x.closing

-- what follows an item may be an item
record Begins (r : List ℕ) : Type 0 where
  pub shut : Shut r
  pub some : eqb shut.tok.kind 0 ≡ false

lines_begin : (l t : List Statement) → All Plain l → Wf (onto l t) → (r : List ℕ) → Begins r → Begins (lines l r)
lines_begin [] t p w r b = b
lines_begin (assignment a ∷ l) t p w r b = record { shut = line_shut a (lines l r) (wf_below l (assignment a ∷ t) w).0.ok; some = refl }
lines_begin (pc x y ∷ l) t p w r b = absurd p.0
lines_begin (blockpc n k x y ∷ l) t p w r b = absurd p.0

module _ (x : Item) (w : WfItem x) where
  pub printed-reads : (e : Entry) → Of e x.closing → (r : List ℕ) → Shut r → item_of e (at [] (printed x r)) ≡ go (canon x) (at (scope (canon x)) r)
  unfolding printed
  printed-reads e of r b = item_reads e (listed_before x) (listed_between x) x.closing of (halves x x.closing refl) (laid_canon x w) r b

  printed-begins : (r : List ℕ) → Begins (printed x r)
  unfolding printed
  printed-begins r =
      let z : List ℕ = lines (listed_between x) (second_closing x.closing r) in
      lines_begin (listed_before x) [] (plain_before x w) (wf_below (listed_between x) (onto (listed_before x) []) (canon_wf x w).wf) (first_closing x.closing z)
      (record { shut = closes_shut (first_closing x.closing z) (first-closes x.closing z); some = refl })

-- ---- lists, of whatever kinds
pub printed_shut : (xs : List Item) → All WfItem xs → Shut (printed_all xs)
unfolding token
printed_shut [] v = record { tok = record { kind = 0; letters = [] }; sees = λ t. refl; colon = refl; paren = refl }
printed_shut (x ∷ xs) v = (printed-begins x v.0 (printed_all xs)).shut

pub readable_wf : (e : Entry) (xs : List Item) → All (Readable e) xs → All WfItem xs
readable_wf e [] v = tt
readable_wf e (x ∷ xs) v = (v.0.wf, readable_wf e xs v.1)

abbrev pub canons : List Item → List Item
canons [] = []
canons (x ∷ xs) = canon x ∷ canons xs

pub list_reads : (e : Entry) (xs : List Item) → All (Readable e) xs → (g : ℕ) → length xs < g → (t : List Statement) → (w : State) × (R.list e g (at t (printed_all xs)) ≡ go (canons xs) w)
unfolding R.list token
list_reads e [] v zero h t = absurd (let z : ⊥ = omega arith in z)
list_reads e (x ∷ xs) v zero h t = absurd (let z : ⊥ = omega arith in z)
list_reads e [] v (suc g) h t = (at t [], refl)
list_reads e (x ∷ xs) v (suc g) h t =
    let b : Begins (printed x (printed_all xs)) = printed-begins x v.0.wf (printed_all xs) in
    let q : (w : State) × (R.list e g (at (scope (canon x)) (printed_all xs)) ≡ go (canons xs) w) = list_reads e xs v.1 g (omega arith) (scope (canon x)) in
    (q.0, step _ (b.shut.sees t) (rw b.some (step _ (printed-reads x v.0.wf e v.0.of (printed_all xs) (printed_shut xs (readable_wf e xs v.1))) (step _ q.1 refl))))

-- ---- a print has a byte for each item
root_long : (l : List RootAttribute) (r : List ℕ) → length l + length r ≤ length (attributes root_attribute l r)
root_long = attributes-long root_attribute R.root_attribute RootAttributeOk root_sort

infer-long : (n : Name) (l : List RootAttribute) (r : List ℕ) → suc (length r) ≤ length (infer_line n l r)
infer-long n l r = omega (arith, app_long n (attributes root_attribute l (feed r)), root_long l (feed r))

result-long : (o : Operand) (r : List ℕ) → suc (length r) ≤ length (result_line o r)
result-long o r = omega (arith, operand-long o (feed r))

cand-long : (x y : Operand) (l : List RootAttribute) (r : List ℕ) → suc (length r) ≤ length (cand_line x y l r)
cand-long x y l r =
    omega (arith, operand-long x (bytes " " ++ operand y (attributes root_attribute l (feed r))), operand-long y (attributes root_attribute l (feed r)), root_long l (feed r))

first-long : (c : Closing) (r : List ℕ) → suc (length r) ≤ length (first_closing c r)
first-long (infer_result n l o) r = infer-long n l r
first-long (cand x y l) r = cand-long x y l r
first-long (infer n l) r = infer-long n l r
first-long (result o) r = result-long o r

second-long : (c : Closing) (r : List ℕ) → length r ≤ length (second_closing c r)
second-long (infer_result n l o) r = omega (arith, result-long o r)
second-long (cand x y l) r = omega arith
second-long (infer n l) r = omega arith
second-long (result o) r = omega arith

printed-count : (e : Entry) (xs : List Item) → All (Readable e) xs → length xs ≤ length (printed_all xs)
unfolding printed
printed-count e [] v = omega arith
printed-count e (x ∷ xs) v =
    let r : List ℕ = printed_all xs in
    let c : Closing = x.closing in
    omega (
      arith,
      printed-count e xs v.1,
      second-long c r,
      lines_long (listed_between x) (plain_between_lem x v.0.wf) (second_closing c r),
      first-long c (lines (listed_between x) (second_closing c r)),
      lines_long (listed_before x) (plain_before x v.0.wf) (first_closing c (lines (listed_between x) (second_closing c r))),
    )

pub print_read : (e : Entry) (xs : List Item) → All (Readable e) xs → reading e (printed_all xs) ≡ accepted (canons xs)
unfolding reading
print_read e xs v = ap R.answer (list_reads e xs v (suc (length (printed_all xs))) (omega (arith, printed-count e xs v)) []).1
