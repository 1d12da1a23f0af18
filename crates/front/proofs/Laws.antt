-- What the contracts of a read and of a print say together.
-- Assumes nothing.
use Prim.Native.Nat.{ℕ, ◌≤◌}
use mathlib.Core.Path.{◌≡◌, refl, sym, ap, subst, ◌∙◌}
use mathlib.Core.Bool.{true}
use mathlib.Core.List.{List}
use native.Mathlib.Omega.{arith}
use borrow.Author.Tests.{le-ltb}
use lib.ListN.{length}
use Rattle.rules.specs.declared.Entry.{Entry}
use Rattle.rules.specs.Answer.{Answer}
use Rattle.rules.specs.Answer as answer
use Rattle.rules.specs.World.{Tables}
use Rattle.rules.specs.View.{items_of}
use Rattle.rules.specs.WellFormed.{counts, well_formed}
use Rattle.rules.specs.Answers.{lent, Outcome, accepted, refusal, reading, answer_of, Reads}
use Rattle.rules.specs.Prints.{words_needed, print_of, printing, print_answer, output_after, Prints}
use Rattle.reading.proofs.Progress.{accepted_bounds}
use Rattle.simulation.proofs.Left.{left_say}
use Rattle.accepted.proofs.Formed.{left_formed}
use Rattle.accepted.proofs.Whole.{accepted-short}
use Rattle.front.specs.Told.{room, print_told, answer_told, output_told, Tells}

-- as many words as a program lends
pub record Roomy (I S O A work : List ℕ) : Type 0 where
  pub items : length I ≡ 294912
  pub statements : length S ≡ 218460
  pub operands : length O ≡ 458752
  pub attributes : length A ≡ 240306
  pub words : length work ≡ 131073

module _ (e : Entry) (text I S O A work output : List ℕ) (roomy : Roomy I S O A work) where
  same_room : lent I S O A ≡ room
  same_room = rw (roomy.items, roomy.statements, roomy.operands, roomy.attributes) refl

  module _ (I' S' O' A' : List ℕ) where
    -- the counts of an answer are those of the tables that it stands for
    work_enough : (i s o a : ℕ) (t : Tables) → reading e text (lent I S O A) ≡ accepted t → answer.Read i s o a ≡ answer_of (accepted t) → words_needed (counts i s o a) ≤ length work
    unfolding answer_of words_needed
    work_enough i s o a t h told =
        let same_s : s ≡ t.statements.count = cc in
        let same-o : o ≡ t.operands.count = cc in
        let b = accepted_bounds e text (lent I S O A) t h in
        let n = accepted-short e text (lent I S O A) t h in
        omega (arith, b.0, b.1, n, roomy.words)

    printed-whole : (i s o a : ℕ) (t : Tables) → well_formed text I' S' O' A' (counts i s o a) ≡ true → words_needed (counts i s o a) ≤ length work
        → items_of text I' S' O' A' i ≡ items_of text t.items.words t.statements.words t.operands.words t.attributes.words t.items.count
        → printing text I' S' O' A' (counts i s o a) (length work) (length output) ≡ print_told text t (length output)
    unfolding printing print_of print_told
    printed-whole i s o a t formed enough says =
        rw (formed, le-ltb (length work) (words_needed (counts i s o a)) enough, says) refl

    -- a read that is accepted, and the print of what it leaves
    accepted-tells : (i s o a : ℕ) → Reads e text I S O A (answer.Read i s o a) I' S' O' A' → (r : Answer) (work' output' : List ℕ)
        → Prints text I' S' O' A' (counts i s o a) work output r work' output' → Tells e text output r output'
    unfolding answer_told output_told
    accepted-tells i s o a h r work' output' p =
        let x = left_say e text I S O A I' S' O' A' i s o a h in
        let told : answer.Read i s o a ≡ answer_of (accepted x.tables) = h.answers ∙ ap answer_of x.reads in
        let q = printed-whole i s o a x.tables (left_formed e text I S O A I' S' O' A' i s o a h) (work_enough i s o a x.tables x.reads told) x.says in
        let reads : reading e text room ≡ accepted x.tables = ap (reading e text) (sym same_room) ∙ x.reads in
        record {
          answers = rw reads (p.answers ∙ ap print_answer q);
          bytes = rw reads (p.bytes ∙ ap (λ z. output_after z output) q);
        }

    by_refusal : (o : Outcome) (n p : ℕ) → reading e text room ≡ o → answer.Refused n p ≡ answer_of o → Tells e text output (answer.Refused n p) output
    unfolding answer_of answer_told output_told
    by_refusal (accepted t) n p h told = absurd (let z : ◌≡◌ {A = ℕ} 0 1 = cc in omega arith)
    by_refusal (refusal m q) n p h told = record { answers = rw h told; bytes = rw h refl }

    -- by what a read answered
    module _ (x : Answer) (h : Reads e text I S O A x I' S' O' A') where
      pub tells_print : (i s o a : ℕ) → x ≡ answer.Read i s o a → (r : Answer) (work' output' : List ℕ) → Prints text I' S' O' A' (counts i s o a) work output r work' output' → Tells e text output r output'
      tells_print i s o a q = accepted-tells i s o a (subst (λ (z : Answer). Reads e text I S O A z I' S' O' A') q h)

      pub tells-refusal : (n p : ℕ) → x ≡ answer.Refused n p → Tells e text output (answer.Refused n p) output
      tells-refusal n p q = by_refusal (reading e text room) n p refl (sym q ∙ h.answers ∙ ap (λ l. answer_of (reading e text l)) same_room)
