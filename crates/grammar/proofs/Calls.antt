-- Reading accepts exactly the sentences, told of the public read calls. `Reads` is what such a call ensures of its answer and of every word that it is lent.
-- A call that answers 0 was given a sentence, and the tables that it leaves say the sentence's items. A call that is given a sentence answers 0 or 7, and it answers 0
-- where it is lent as many rows of each table as the text has bytes.
-- Assumes nothing.
use Prim.Native.Nat.{ℕ}
use mathlib.Core.Path.{◌≡◌, refl, sym, ap, ◌∙◌, subst}
use mathlib.Core.Logic.{◌↔◌, ◌⊎◌, inl, inr, ⊎_elim}
use mathlib.Core.List.{List}
use Rattle.rules.specs.declared.Entry.{Entry}
use Rattle.rules.specs.Answer.{Answer}
use Rattle.rules.specs.Answer as answer
use Rattle.rules.specs.Syntax.{Item}
use Rattle.rules.specs.View.{items_of}
use Rattle.rules.specs.World.{Tables}
use Rattle.rules.specs.Answers.{lent, refusal, answer_of, Reads, reading}
use Rattle.simulation.proofs.Said.{items_in}
use Rattle.simulation.proofs.Left.{left_say}
use Rattle.simulation.proofs.Calls.{same_tables, call-reads}
use Rattle.rules.specs.Grammar.{Sentence}
use Rattle.rules.specs.Calls.{AsManyRows, Call, said_by}
use Rattle.grammar.proofs.Accepts.{one_reading, accepted-sentence, Accepts, sentence-accepted, accepted_or_seven}

-- an answer of 0, and tables that say some items
pub record Answers (text : List ℕ) (r : Answer) (I' S' O' A' : List ℕ) (xs : List Item) : Type 0 where
  pub items : ℕ
  pub statements : ℕ
  pub operands : ℕ
  pub attributes : ℕ
  pub answers : r ≡ answer.Read items statements operands attributes
  pub says : items_of text I' S' O' A' items ≡ xs

module _ (e : Entry) (text I S O A : List ℕ) (r : Answer) (I' S' O' A' : List ℕ) (reads : Reads e text I S O A r I' S' O' A') where
  -- whatever is lent
  pub call-sentence : (xs : List Item) → Answers text r I' S' O' A' xs → Sentence e text xs
  call-sentence xs a =
      let l = left_say e text I S O A I' S' O' A' a.items a.statements a.operands a.attributes (subst (λ (z : Answer). Reads e text I S O A z I' S' O' A') a.answers reads) in
      subst (Sentence e text) (sym l.says ∙ a.says) (accepted-sentence e text (lent I S O A) l.tables l.reads)

  said : (xs : List Item) → Accepts e text (lent I S O A) xs → Answers text r I' S' O' A' xs
  unfolding answer_of
  said xs g =
      let t : Tables = g.tables in
      let told : r ≡ answer.Read t.items.count t.statements.count t.operands.count t.attributes.count = reads.answers ∙ ap answer_of g.reads in
      let l = left_say e text I S O A I' S' O' A' t.items.count t.statements.count t.operands.count t.attributes.count (subst (λ (z : Answer). Reads e text I S O A z I' S' O' A') told reads) in
      record {
        items = t.items.count;
        statements = t.statements.count;
        operands = t.operands.count;
        attributes = t.attributes.count;
        answers = told;
        says = l.says ∙ (ap (items_in text) (same_tables l.tables t l.reads g.reads) ∙ g.says);
      }

  pub sentence_or_seven : (xs : List Item) → Sentence e text xs → Answers text r I' S' O' A' xs ⊎ ((p : ℕ) × (r ≡ answer.Refused 7 p))
  unfolding answer_of
  sentence_or_seven xs d =
      ⊎_elim (λ (a : Accepts e text (lent I S O A) xs). inl (said xs a)) (λ (h : (p : ℕ) × (reading e text (lent I S O A) ≡ refusal 7 p)). inr (h.0, reads.answers ∙ ap answer_of h.1))
      (accepted_or_seven e text (lent I S O A) xs d)

  -- with as many rows as the text has bytes: the theorem
  pub calls_answer_sentences : AsManyRows text (lent I S O A) → (xs : List Item) → Answers text r I' S' O' A' xs ↔ Sentence e text xs
  calls_answer_sentences rows xs = (call-sentence xs, λ d. said xs (sentence-accepted e text (lent I S O A) rows xs d))

-- the same, of a call that answered 0: its text is a sentence of the items that its tables say, and of no others
pub read-sentence : {e : Entry} (c : Call e) → Sentence e c.text (said_by c)
read-sentence {e} c =
    call-sentence e c.text c.I c.S c.O c.A (answer.Read c.items c.statements c.operands c.attributes) c.I' c.S' c.O' c.A' (call-reads c) (said_by c)
    (record { items = c.items; statements = c.statements; operands = c.operands; attributes = c.attributes; answers = refl; says = refl })

pub said_sentence : {e : Entry} (c : Call e) (xs : List Item) → Sentence e c.text xs → said_by c ≡ xs
said_sentence {e} c xs d = one_reading e c.text (read-sentence c).derives d.derives
