-- Reading accepts exactly the sentences of the grammar, with the items that the grammar says.
-- By names: the reader accepts a text with some items exactly where the text's tokens are those of these items.
-- Into tables: whatever tables are lent, a text that is accepted is a sentence, and the items that its tables say are the sentence's; and a sentence is accepted, with
-- its items, or refused with 7, which it never is where as many rows of each table are lent as the text has bytes.
-- So a text is a sentence of one list of items at most.
-- Assumes nothing.
use Prim.Native.Nat.{ℕ, ◌*◌, ◌≤◌}
use mathlib.Core.Path.{◌≡◌, refl, sym, ap, ◌∙◌, subst}
use mathlib.Core.Logic.{◌↔◌, ◌⊎◌, inl, inr}
use mathlib.Core.List.{List}
use native.Mathlib.Nat.{le_refl}
use native.Mathlib.Omega.{arith}
use borrow.Author.Tests.{eqb-true, eqb-false, ltb-false}
use lib.Dec.{eqb, ltb}
use lib.ListN.{length}
use Rattle.std.specs.Prelude.{Ok, Err}
use Rattle.rules.specs.declared.Entry.{Entry}
use Rattle.rules.specs.Utf8.{checked, Checked}
use Rattle.rules.specs.Rows.{item_length, statement_length, operand_length, attribute_length}
use Rattle.rules.specs.Syntax.{Item}
use Rattle.rules.specs.World.{Tables}
use Rattle.rules.specs.Answers.{Lent, Outcome, accepted, refusal, answer_of, read_checked, reading}
use Rattle.laws.proofs.Cases.{by_cases}
use Rattle.bynames.proofs.Reader as names
use Rattle.simulation.proofs.Said.{items_in}
use Rattle.simulation.proofs.Items.{entry_of}
use Rattle.simulation.proofs.Whole.{accepted_by_names, accepted_by_rows}
use Rattle.simulation.proofs.AsManyRows.{same_answer}
use Rattle.rules.specs.Grammar.{Derives, Sentence}
use Rattle.rules.specs.Calls.{AsManyRows}
use Rattle.grammar.proofs.Leads.{lexes-lead, lead-lexes}
use Rattle.grammar.proofs.SoundItems.{accepted-sound}
use Rattle.grammar.proofs.CompleteItems.{complete}

module _ (e : Entry) (text : List ℕ) where
  derives : (xs : List Item) → names.reading (entry_of e) text ≡ names.accepted xs → Derives e text xs
  derives xs h =
      let g = accepted-sound e text xs h in
      record { tokens = g.0; lexes = lead-lexes text g.0 0 g.1; items = g.2 }

  derived : (xs : List Item) → Derives e text xs → names.reading (entry_of e) text ≡ names.accepted xs
  derived xs d = complete text (lexes-lead text d.lexes) d.items

  -- the theorem, by names
  pub accepts_by_names : (xs : List Item) → (names.reading (entry_of e) text ≡ names.accepted xs) ↔ Derives e text xs
  accepts_by_names xs = (derives xs, derived xs)

  same_items : {xs ys : List Item} → names.accepted xs ≡ names.accepted ys → xs ≡ ys
  same_items h = cc

  -- no text stands for two lists of items
  pub one_reading : {xs ys : List Item} → Derives e text xs → Derives e text ys → xs ≡ ys
  one_reading d c = same_items (sym (derived _ d) ∙ derived _ c)

-- ---- into tables
-- an accepted text is short and well formed
record Proper (text : List ℕ) : Type 0 where
  short : length text ≤ 65536
  well_formed : checked text ≡ Ok tt

module _ (e : Entry) (text : List ℕ) (l : Lent) where
  checked_well : (c : Checked) (t : Tables) → read_checked c e text l ≡ accepted t → c ≡ Ok tt
  unfolding read_checked
  checked_well (Ok u) t h = refl
  checked_well (Err p) t h = absurd (let z : ◌≡◌ {A = ℕ} 0 1 = cc in omega arith)

  proper : (t : Tables) → reading e text l ≡ accepted t → Proper text
  unfolding reading
  proper t =
      by_cases (ltb 65536 (length text))
      (λ long. rw long (λ h. absurd (let z : ◌≡◌ {A = ℕ} 0 1 = cc in omega arith)))
      (λ short. rw short (λ h. record { short = ltb-false 65536 (length text) short; well_formed = checked_well (checked text) t h }))

  -- the theorem, into tables: whatever is lent
  pub accepted-sentence : (t : Tables) → reading e text l ≡ accepted t → Sentence e text (items_in text t)
  accepted-sentence t h =
      let p = proper t h in
      record { short = p.short; well_formed = p.well_formed; derives = derives e text (items_in text t) (accepted_by_names e text l t h) }

  -- the tables that say some items
  pub record Accepts (xs : List Item) : Type 0 where
    pub tables : Tables
    pub reads : reading e text l ≡ accepted tables
    pub says : items_in text tables ≡ xs

  -- and with as many rows as the text has bytes
  pub sentence-accepted : AsManyRows text l → (xs : List Item) → Sentence e text xs → Accepts xs
  sentence-accepted rows xs d =
      let h = derived e text xs d.derives in
      let g = accepted_by_rows e text l xs h d.well_formed d.short rows in
      record { tables = g.0; reads = g.1; says = same_items e text (sym (accepted_by_names e text l g.0 g.1) ∙ h) }

  pub accepts_sentences : AsManyRows text l → (xs : List Item) → Accepts xs ↔ Sentence e text xs
  accepts_sentences rows xs = (λ a. subst (Sentence e text) a.says (accepted-sentence a.tables a.reads), sentence-accepted rows xs)

-- as many rows of each table as a text has bytes
enough : List ℕ → Lent
enough text = record { items = item_length * length text; statements = statement_length * length text; operands = operand_length * length text; attributes = attribute_length * length text }

many : (text : List ℕ) → AsManyRows text (enough text)
unfolding enough
many text = record { items = le_refl _; statements = le_refl _; operands = le_refl _; attributes = le_refl _ }

module _ (e : Entry) (text : List ℕ) (l : Lent) where
  -- and whatever is lent, a sentence is accepted or refused with 7
  pub accepted_or_seven : (xs : List Item) → Sentence e text xs → Accepts e text l xs ⊎ ((p : ℕ) × (reading e text l ≡ refusal 7 p))
  unfolding answer_of
  accepted_or_seven xs d = by (reading e text l) refl
    where
      other : (n p : ℕ) → reading e text l ≡ refusal n p → (n ≡ 7 → ⊥) → ⊥
      other n p q apart =
          let g = sentence-accepted e text (enough text) (many text) xs d in
          let same = (same_answer e text (enough text) l (many text) (λ k h. apart (let z : n ≡ 7 = cc in z))).answers in
          let told = sym (ap answer_of g.reads) ∙ (same ∙ ap answer_of q) in
          let z : ◌≡◌ {A = ℕ} 0 1 = cc in
          omega arith

      by : (o : Outcome) → reading e text l ≡ o → Accepts e text l xs ⊎ ((p : ℕ) × (reading e text l ≡ refusal 7 p))
      by (accepted t) q = inl (record { tables = t; reads = q; says = one_reading e text (accepted-sentence e text l t q).derives d.derives })
      by (refusal n p) q =
          by_cases (eqb n 7) (λ h. inr (p, q ∙ ap (λ (z : ℕ). refusal z p) (eqb-true n 7 h))) (λ h. absurd (other n p q (eqb-false n 7 h)))
