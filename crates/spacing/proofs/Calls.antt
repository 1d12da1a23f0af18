-- Spacing is nothing, told of the public read calls. `Reads` is what such a call ensures of its answer and of every word that it is lent.
-- Take two calls of the same entry point, lent tables of the same sizes, on two well-formed texts of 65,536 bytes or fewer that have the same list of tokens.
-- Both answer 0 with the same counts, and the tables that they leave say the same items, which print to the same bytes; or both answer the same number, at the token
-- of the same index, or both at what is no token, or both at the end of the text.
-- Assumes nothing.
use Prim.Native.Nat.{◌≤◌}
use mathlib.Core.Path.{◌≡◌, refl, sym, ap, ◌∙◌, subst}
use lib.ListN.{length}
use Rattle.std.specs.Prelude.{Ok}
use Rattle.rules.specs.declared.Entry.{Entry}
use Rattle.rules.specs.Answer.{Answer}
use Rattle.rules.specs.Answer as answer
use Rattle.rules.specs.Utf8.{checked}
use Rattle.rules.specs.Printing.{printed_all}
use Rattle.rules.specs.World.{Tables}
use Rattle.rules.specs.Answers.{Lent, lent, Outcome, accepted, answer_of, Reads, reading, report_of, read_report}
use Rattle.spacing.specs.TokenList.{tokens_of}
use Rattle.spacing.specs.Alike.{AnyCall, said_by, SameAnswer, both_read, at_token, at_fault, at_end}
use Rattle.simulation.proofs.Said.{items_in}
use Rattle.simulation.proofs.Left.{left_say}
use Rattle.simulation.proofs.Calls.{same_tables}
use Rattle.spacing.proofs.SpacingIsNothing.{SameOutcome, both_accepted, both_at_token, both_at_fault, both_at_end, spacing_is_nothing}

module _ {e : Entry} where
  abbrev lent_to : AnyCall e → Lent
  lent_to c = lent c.I c.S c.O c.A

  abbrev outcome_of : AnyCall e → Outcome
  outcome_of c = reading e c.text (lent_to c)

  -- the tables that a call leaves say what its outcome's tables say
  left : (c : AnyCall e) (t : Tables) → outcome_of c ≡ accepted t → said_by c t.items.count ≡ items_in c.text t
  unfolding answer_of
  left c t q =
      let told : c.answer ≡ answer.Read t.items.count t.statements.count t.operands.count t.attributes.count = c.reads.answers ∙ ap answer_of q in
      let l = left_say e c.text c.I c.S c.O c.A c.I' c.S' c.O' c.A' t.items.count t.statements.count t.operands.count t.attributes.count
      (subst (λ (z : Answer). Reads e c.text c.I c.S c.O c.A z c.I' c.S' c.O' c.A') told c.reads) in
      l.says ∙ ap (items_in c.text) (same_tables l.tables t l.reads q)

  answered : (c d : AnyCall e) {o o' : Outcome} → SameOutcome c.text d.text o o' → outcome_of c ≡ o → outcome_of d ≡ o' → SameAnswer c d (report_of (answer_of o)) (report_of (answer_of o'))
  unfolding answer_of report_of
  answered c d (both_accepted t u h) p q = told
    where
      said : said_by c t.items.count ≡ said_by d t.items.count
      said = left c t p ∙ (h.says ∙ (sym (left d u q) ∙ ap (said_by d) (sym h.items)))

      told : SameAnswer c d (read_report t.items.count t.statements.count t.operands.count t.attributes.count) (read_report u.items.count u.statements.count u.operands.count u.attributes.count)
      told = rw (← h.items, ← h.statements, ← h.operands, ← h.attributes) (both_read t.items.count t.statements.count t.operands.count t.attributes.count said (ap printed_all said))
  answered c d (both_at_token n i s t h k) p q = at_token n i s t h k
  answered c d (both_at_fault i a b h k) p q = at_fault i a b h k
  answered c d (both_at_end i h k) p q = at_end i h k

  -- the theorem
  pub calls_alike : (c d : AnyCall e) → checked c.text ≡ Ok tt → checked d.text ≡ Ok tt → length c.text ≤ 65536 → length d.text ≤ 65536
      → lent_to c ≡ lent_to d → tokens_of c.text ≡ tokens_of d.text → SameAnswer c d (report_of c.answer) (report_of d.answer)
  calls_alike c d p q m n l h =
      let same : SameOutcome c.text d.text (outcome_of c) (outcome_of d) = subst (λ (z : Lent). SameOutcome c.text d.text (outcome_of c) (reading e d.text z)) l (spacing_is_nothing e c.text d.text (lent_to c) p q m n h) in
      subst (λ (z : Answer). SameAnswer c d (report_of z) (report_of d.answer)) (sym c.reads.answers)
      (subst (λ (z : Answer). SameAnswer c d (report_of (answer_of (outcome_of c))) (report_of z)) (sym d.reads.answers) (answered c d same refl refl))
