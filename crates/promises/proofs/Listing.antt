-- Demand 3, what a print lists.
-- What a print wrote of a text that is a sentence of some items is, item by item, lines: those of some statements, the first closing line, those of more statements, and the second closing line, if there is one.
-- The statements so listed are the assignments that can be reached from the item's roots, each once and after all that it refers to, and no other;
-- and closing lines stand behind all that they refer to. A line has one line feed, which is its last byte.
-- Assumes nothing.
use Prim.Native.Nat.{ℕ}
use mathlib.Core.Path.{◌≡◌, refl, sym, ap, ◌∙◌, subst}
use mathlib.Core.Logic.{inl, inr}
use mathlib.Core.List.{List, [], ◌∷◌, ◌++◌, append_assoc}
use Rattle.rules.specs.declared.Entry.{Entry}
use Rattle.rules.specs.Syntax.{Statement, assignment, pc, blockpc, Closing, infer_result, cand, infer, result, Item, onto}
use Rattle.rules.specs.Meaning.{Mem, All}
use Rattle.rules.specs.Listing.{listed_before, listed_between}
use Rattle.rules.specs.Out.{joined}
use Rattle.rules.specs.Printing.{line, lines, result_line, first_closing, second_closing, printed, printed_all}
use Rattle.rules.specs.Calls.{said_by, Print, written}
use Rattle.promises.specs.Lines.{lines_of, second_lines, IsLine, ItemLines, ItemByItem, none, more}
use Rattle.laws.proofs.Members.{all_append}
use Rattle.bynames.proofs.WellFormed.{ClosingOk, Wf, WfItem}
use Rattle.bynames.proofs.Canon.{canon_wf}
use Rattle.bynames.proofs.BackLines.{Plain, wf_below}
use Rattle.bynames.proofs.BackLists.{Readable, plain_before, plain_between_lem}
use Rattle.bynames.proofs.AcceptedItems.{accepted_readable}
use Rattle.bynames.proofs.Listed.{Lists}
use Rattle.bynames.proofs.Reader as names
use Rattle.rules.specs.Grammar.{Sentence}
use Rattle.grammar.proofs.Calls.{said_sentence}
use Rattle.simulation.proofs.Items.{entry_of}
use Rattle.simulation.proofs.Calls.{call-lists}
use Rattle.promises.proofs.Calls.{call-named, written_is}
use Rattle.promises.proofs.Lines.{Line, line-stands, assignment-line, result-line, first-line}

-- ---- lines joined
joined_over : (a b : List (List ℕ)) (r : List ℕ) → joined (a ++ b) ++ r ≡ joined a ++ (joined b ++ r)
joined_over [] b r = refl
joined_over (s ∷ a) b r = append_assoc s (joined (a ++ b)) r ∙ ap (λ (t : List ℕ). s ++ t) (joined_over a b r) ∙ sym (append_assoc s (joined a) (joined b ++ r))

lines-joined : (l : List Statement) → All (λ s. Line (line s)) l → (r : List ℕ) → lines l r ≡ joined (lines_of l) ++ r
lines-joined [] h r = refl
lines-joined (s ∷ l) h r =
    line-stands h.0 (lines l r) ∙ ap (λ (t : List ℕ). line s [] ++ t) (lines-joined l h.1 r) ∙ sym (append_assoc (line s []) (joined (lines_of l)) r)

second-joined : (c : Closing) → ClosingOk c → (r : List ℕ) → second_closing c r ≡ joined (second_lines c) ++ r
second-joined (infer_result n l o) h r = line-stands (result-line o h.2) r ∙ sym (append_assoc (result_line o []) [] r)
second-joined (cand x y l) h r = refl
second-joined (infer n l) h r = refl
second-joined (result o) h r = refl

-- ---- lines of what is accepted
lines_are : (l t : List Statement) → All Plain l → Wf (onto l t) → All (λ s. Line (line s)) l
lines_are [] t p w = tt
lines_are (assignment a ∷ l) t p w = (assignment-line a (wf_below l (assignment a ∷ t) w).0.ok, lines_are l (assignment a ∷ t) p.1 w)
lines_are (pc x y ∷ l) t p w = absurd p.0
lines_are (blockpc b n x y ∷ l) t p w = absurd p.0

is_line : {f : List ℕ → List ℕ} → Line f → IsLine (f [])
is_line l = (l.spelt, l.plain, l.puts [])

are_lines : (l : List Statement) → All (λ s. Line (line s)) l → All IsLine (lines_of l)
are_lines [] h = tt
are_lines (s ∷ l) h = (is_line h.0, are_lines l h.1)

second-lines : (c : Closing) → ClosingOk c → All IsLine (second_lines c)
second-lines (infer_result n l o) h = (is_line (result-line o h.2), tt)
second-lines (cand x y l) h = tt
second-lines (infer n l) h = tt
second-lines (result o) h = tt

module _ (x : Item) (w : WfItem x) where
  abbrev t : List Statement
  t = listed_before x

  abbrev u : List Statement
  u = listed_between x

  abbrev behind : List (List ℕ)
  behind = lines_of u ++ second_lines x.closing

  abbrev all_of : List (List ℕ)
  all_of = lines_of t ++ (first_closing x.closing [] ∷ behind)

  before-lines : All (λ s. Line (line s)) t
  before-lines = lines_are t [] (plain_before x w) (wf_below u (onto t []) (canon_wf x w).wf)

  between-lines : All (λ s. Line (line s)) u
  between-lines = lines_are u (onto t []) (plain_between_lem x w) (canon_wf x w).wf

  behind-joined : (r : List ℕ) → lines u (second_closing x.closing r) ≡ joined behind ++ r
  behind-joined r =
      lines-joined u between-lines (second_closing x.closing r) ∙ ap (λ (s : List ℕ). joined (lines_of u) ++ s) (second-joined x.closing w.ok r) ∙ sym (joined_over (lines_of u) (second_lines x.closing) r)

  item_joined : (r : List ℕ) → printed x r ≡ joined all_of ++ r
  unfolding printed
  item_joined r =
      let first : List ℕ = first_closing x.closing [] in
      lines-joined t before-lines (first_closing x.closing (lines u (second_closing x.closing r)))
      ∙ ap (λ (s : List ℕ). joined (lines_of t) ++ s)
      (line-stands (first-line x.closing w.ok) (lines u (second_closing x.closing r)) ∙ ap (λ (s : List ℕ). first ++ s) (behind-joined r) ∙ sym (append_assoc first (joined behind) r))
      ∙ sym (joined_over (lines_of t) (first ∷ behind) r)

  item_lines : Lists x → ItemLines x all_of
  item_lines l =
      record {
        before = t;
        between = u;
        lines = refl;
        fed =
            all_append IsLine (lines_of t) (first_closing x.closing [] ∷ behind) (are_lines t before-lines)
            (is_line (first-line x.closing w.ok), all_append IsLine (lines_of u) (second_lines x.closing) (are_lines u between-lines) (second-lines x.closing w.ok));
        each = l.each;
        other = l.other;
        order = l.order;
        first = l.first;
        second = l.second;
      }

items-listed : (e : names.Entry) (xs : List Item) → All (Readable e) xs → ((x : Item) → Mem x xs → Lists x) → ItemByItem xs (printed_all xs)
items-listed e [] v l = none
items-listed e (x ∷ xs) v l =
    subst (ItemByItem (x ∷ xs)) (sym (item_joined x v.0.wf (printed_all xs)))
    (more (all_of x v.0.wf) (item_lines x v.0.wf (l x (inl refl))) (items-listed e xs v.1 (λ y h. l y (inr h))))

-- the promise: xs are the items that the text is a sentence of
pub print_lists : {e : Entry} (p : Print e) (xs : List Item) → Sentence e p.call.text xs → ItemByItem xs (written p)
print_lists {e} p xs d =
    subst (λ (z : List Item). ItemByItem z (written p)) (said_sentence p.call xs d)
    (subst (ItemByItem (said_by p.call)) (sym (written_is p))
    (items-listed (entry_of e) (said_by p.call) (accepted_readable (entry_of e) p.call.text (said_by p.call) (call-named p.call)) (call-lists p.call)))
