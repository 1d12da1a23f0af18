-- Demand 2, what is accepted: exactly the sentences of the grammar (rules, Grammar), with the items that it says.
-- Whatever tables are lent, a text that is accepted is a sentence, and the tables say the sentence's items; a sentence is accepted, with its items, or refused with 7;
-- and where as many rows of each table are lent as the text has bytes, it is accepted. No text is a sentence of two lists of items.
-- Assumes nothing.
use Prim.Native.Nat.{ℕ}
use mathlib.Core.Path.{◌≡◌, ap, ◌∙◌}
use mathlib.Core.Logic.{◌↔◌, ◌⊎◌, inl, inr, ⊎_elim}
use mathlib.Core.List.{List}
use Rattle.rules.specs.declared.Entry.{Entry}
use Rattle.rules.specs.Answer.{Answer}
use Rattle.rules.specs.Answer as answer
use Rattle.rules.specs.Syntax.{Item}
use Rattle.rules.specs.Grammar.{Sentence}
use Rattle.rules.specs.Answers.{lent, Reads, report_of, refusal_report}
use Rattle.rules.specs.Calls.{AsManyRows, Call, said_by}
use Rattle.promises.specs.Accepts.{Accepts}
use Rattle.simulation.proofs.Calls.{report_read, report_refused, answered}
use Rattle.grammar.proofs.Accepts.{one_reading}
use Rattle.grammar.proofs.Calls.{Answers, call-sentence, sentence_or_seven, calls_answer_sentences, read-sentence}

module _ (e : Entry) (text I S O A : List ℕ) {r : Answer} {I' S' O' A' : List ℕ} (h : Reads e text I S O A r I' S' O' A') (xs : List Item) where
  -- the same, by an answer and by its report
  by_report : Answers text r I' S' O' A' xs → Accepts text r I' S' O' A' xs
  by_report a =
      record {
        items = a.items;
        statements = a.statements;
        operands = a.operands;
        attributes = a.attributes;
        tells = ap report_of a.answers ∙ report_read a.items a.statements a.operands a.attributes;
        says = a.says;
      }

  by_answer : Accepts text r I' S' O' A' xs → Answers text r I' S' O' A' xs
  by_answer a =
      record {
        items = a.items;
        statements = a.statements;
        operands = a.operands;
        attributes = a.attributes;
        answers = answered e text I S O A h a.tells;
        says = a.says;
      }

  -- whatever is lent
  pub accepted-sentence : Accepts text r I' S' O' A' xs → Sentence e text xs
  accepted-sentence a = call-sentence e text I S O A r I' S' O' A' h xs (by_answer a)

  pub accepted_or_seven : Sentence e text xs → Accepts text r I' S' O' A' xs ⊎ ((p : ℕ) × (report_of r ≡ refusal_report 7 p))
  accepted_or_seven d =
      ⊎_elim (λ (a : Answers text r I' S' O' A' xs). inl (by_report a)) (λ (q : (p : ℕ) × (r ≡ answer.Refused 7 p)). inr (q.0, ap report_of q.1 ∙ report_refused 7 q.0))
      (sentence_or_seven e text I S O A r I' S' O' A' h xs d)

  -- with as many rows as the text has bytes
  pub accepts_sentences : AsManyRows text (lent I S O A) → Accepts text r I' S' O' A' xs ↔ Sentence e text xs
  accepts_sentences rows = (accepted-sentence, λ d. by_report ((calls_answer_sentences e text I S O A r I' S' O' A' h rows xs).1 d))

-- no text stands for two lists of items
pub one_sentence : (e : Entry) (text : List ℕ) {xs ys : List Item} → Sentence e text xs → Sentence e text ys → xs ≡ ys
one_sentence e text d c = one_reading e text d.derives c.derives

-- and each that is accepted stands for one: the items that its tables say
pub sentence_of : {e : Entry} (c : Call e) → Sentence e c.text (said_by c)
sentence_of c = read-sentence c
