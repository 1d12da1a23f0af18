-- Demand 3, reading back.
-- A printed text of at most 65,536 bytes, read by the same entry point into tables that have as many rows as it has bytes, is accepted; it is a sentence of items that
-- mean what those of the first text mean; and every print of what that read leaves, with words and bytes enough, is accepted and writes the same bytes.
-- So it is where it is read into tables that have room for the rows that the first text took, as those have that were lent for it.
-- Assumes nothing.
use Prim.Native.Nat.{ℕ, ◌*◌, ◌≤◌}
use mathlib.Core.Path.{◌≡◌, refl, sym, ap, ◌∙◌, subst}
use mathlib.Core.List.{List}
use native.Mathlib.Nat.{le_trans}
use native.Mathlib.Omega.{arith}
use lib.ListN.{length, take, replicate, length-replicate}
use Rattle.rules.specs.declared.Entry.{Entry}
use Rattle.rules.specs.Answer.{Answer}
use Rattle.rules.specs.Answer as answer
use Rattle.rules.specs.Rows.{item_length, statement_length, operand_length, attribute_length}
use Rattle.rules.specs.Syntax.{Item}
use Rattle.rules.specs.Meaning.{SameMeanings, All}
use Rattle.rules.specs.Grammar.{Sentence}
use Rattle.rules.specs.Printing.{printed_all}
use Rattle.rules.specs.World.{Table, Tables}
use Rattle.rules.specs.Answers.{lent, Outcome, reading, answer_of, rows_of, padded, Reads, report_of, read_report, print_report}
use Rattle.rules.specs.Prints.{words_needed}
use Rattle.rules.specs.Calls.{AsManyRows, Call, said_by, counts_of, PrintsOf, Print, written}
use Rattle.promises.specs.Rows.{answer_to, RowsFit, NoShorter}
use Rattle.promises.specs.Back.{ReadsBack}
use Rattle.bynames.proofs.Reader as names
use Rattle.bynames.proofs.ReadingBack as by_names
use Rattle.bynames.proofs.BackLists.{Readable, canons, print_read}
use Rattle.bynames.proofs.AcceptedItems.{accepted_readable}
use Rattle.simulation.proofs.Items.{entry_of}
use Rattle.simulation.proofs.Calls.{call-lists, call-reads-back, report_read}
use Rattle.grammar.proofs.Calls.{read-sentence, said_sentence}
use Rattle.grammar.proofs.PrintedLength.{call-printed-length}
use Rattle.promises.proofs.Calls.{report_printed, wrote-taken, accepted-wrote, enough_accepts, call-named, written_is, bytes_is}
use Rattle.promises.proofs.AsTheCrate.{as_many_answer, fits-answer}
use Rattle.promises.proofs.Taken.{call_fits, longer_fits, RowsWithin, canons_within}

-- After a read that answered 0 there is a number of bytes with which, and with the words that are needed, every print is accepted.
pub always_prints : {e : Entry} (c : Call e) → (n : ℕ) × ((work output : List ℕ) → words_needed (counts_of c) ≤ length work → n ≤ length output
    → (r : Answer) (work' output' : List ℕ) → PrintsOf c work output r work' output' → report_of r ≡ print_report n)
always_prints c = (length (printed_all (said_by c)), λ work output h k r work' output' p. ap report_of (enough_accepts c h k p) ∙ report_printed (length (printed_all (said_by c))))

module _ {e : Entry} (p : Print e) where
  -- A print has at most twice as many bytes as the text: so that of a text of 32,768 bytes or fewer reads back.
  pub at_most_twice : p.bytes ≤ 2 * length p.call.text
  at_most_twice = rw (bytes_is p) (call-printed-length p.call)

  -- a read call on the text that p wrote, whose tables print to the same
  prints-again : (d : Call e) → printed_all (said_by d) ≡ printed_all (said_by p.call) → (work output : List ℕ) → words_needed (counts_of d) ≤ length work → length (written p) ≤ length output
      → (r : Answer) (work' output' : List ℕ) → PrintsOf d work output r work' output' → (report_of r ≡ print_report (length (written p))) × (take (length (written p)) output' ≡ written p)
  prints-again d same work output h k r work' output' q =
      let long : length (printed_all (said_by d)) ≡ length (written p) = ap length (same ∙ sym (written_is p)) in
      let told : r ≡ answer.Printed (length (written p)) = enough_accepts d h (let l = long in omega arith) q ∙ ap answer.Printed long in
      (ap report_of told ∙ report_printed (length (written p)), wrote-taken (accepted-wrote d (subst (λ (z : Answer). PrintsOf d work output z work' output') told q)) ∙ same ∙ sym (written_is p))

  -- by names, the text that p wrote reads as the items that a print says
  readable : All (Readable (entry_of e)) (said_by p.call)
  readable = accepted_readable (entry_of e) p.call.text (said_by p.call) (call-named p.call)

  back : (ys : List Item) × by_names.ReadsBack (entry_of e) (said_by p.call) ys
  back = by_names.reading-back (entry_of e) p.call.text (said_by p.call) (call-named p.call)

  same_items : {xs ys : List Item} → names.accepted xs ≡ names.accepted ys → xs ≡ ys
  same_items h = cc

  said_back : (d : Call e) → d.text ≡ written p → (ys : List Item) → names.reading (entry_of e) (printed_all (said_by p.call)) ≡ names.accepted ys → said_by d ≡ ys
  said_back d q ys h = same_items (sym (call-named d) ∙ ap (names.reading (entry_of e)) (q ∙ written_is p) ∙ h)

  -- a read of the text that p wrote
  module _ (xs : List Item) (of : Sentence e p.call.text xs) where
    module _ (I S O A : List ℕ) (r : Answer) (I' S' O' A' : List ℕ) (read : Reads e (written p) I S O A r I' S' O' A') where
      abbrev accepted-call : (i s o a : ℕ) → report_of r ≡ read_report i s o a → Call e
      accepted-call i s o a q =
          record {
            text = written p;
            I = I;
            S = S;
            O = O;
            A = A;
            items = i;
            statements = s;
            operands = o;
            attributes = a;
            I' = I';
            S' = S';
            O' = O';
            A' = A';
            answer = r;
            tells = q;
            reads = read;
          }

      -- one that is accepted, whatever is lent
      accepted-back : (i s o a : ℕ) → report_of r ≡ read_report i s o a → ReadsBack e xs (written p) r I' S' O' A'
      accepted-back i s o a q =
          let d : Call e = accepted-call i s o a q in
          let said : said_by d ≡ back.0 = said_back d refl back.0 back.1.reads in
          record {
            items = i;
            statements = s;
            operands = o;
            attributes = a;
            answers = q;
            again = said_by d;
            sentence = read-sentence d;
            means = subst (λ (z : List Item). SameMeanings z (said_by d)) (said_sentence p.call xs of) (subst (SameMeanings (said_by p.call)) (sym said) back.1.means);
            prints = prints-again d (ap printed_all said ∙ back.1.prints);
          }

      module _ (short : p.bytes ≤ 65536) where
        -- the promise: as many rows as the printed text has bytes
        pub reading-back : AsManyRows (written p) (lent I S O A) → ReadsBack e xs (written p) r I' S' O' A'
        reading-back many =
            let same : written p ≡ printed_all (said_by p.call) = written_is p in
            let few : length (printed_all (said_by p.call)) ≤ 65536 = (let l = bytes_is p in omega arith) in
            let g = call-reads-back p.call few I S O A (subst (λ (z : List ℕ). AsManyRows z (lent I S O A)) same many) r I' S' O' A' (subst (λ (z : List ℕ). Reads e z I S O A r I' S' O' A') same read) in
            accepted-back g.items g.statements g.operands g.attributes (ap report_of g.answers ∙ report_read g.items g.statements g.operands g.attributes)

    -- ---- the rows that the printed text takes
    -- tables with a row for each byte, all words 0, and a read into them
    abbrev blank : ℕ → List ℕ
    blank size = replicate (size * length (written p)) 0

    abbrev many-outcome : Outcome
    many-outcome = reading e (written p) (lent (blank item_length) (blank statement_length) (blank operand_length) (blank attribute_length))

    abbrev left : (size : ℕ) → (Tables → Table) → List ℕ
    left size of = padded (length (blank size)) (rows_of of many-outcome)

    read-many : Reads e (written p) (blank item_length) (blank statement_length) (blank operand_length) (blank attribute_length) (answer_of many-outcome)
        (left item_length (λ t. t.items)) (left statement_length (λ t. t.statements)) (left operand_length (λ t. t.operands)) (left attribute_length (λ t. t.attributes))
    read-many = record { answers = refl; leaves = record { items = refl; statements = refl; operands = refl; attributes = refl } }

    many-rows : AsManyRows (written p) (lent (blank item_length) (blank statement_length) (blank operand_length) (blank attribute_length))
    many-rows =
        record {
          items = omega (arith, length-replicate {A = ℕ} (item_length * length (written p)) 0);
          statements = omega (arith, length-replicate {A = ℕ} (statement_length * length (written p)) 0);
          operands = omega (arith, length-replicate {A = ℕ} (operand_length * length (written p)) 0);
          attributes = omega (arith, length-replicate {A = ℕ} (attribute_length * length (written p)) 0);
        }

    module _ (short : p.bytes ≤ 65536) where
      back-many : ReadsBack e xs (written p) (answer_of many-outcome) (left item_length (λ t. t.items)) (left statement_length (λ t. t.statements)) (left operand_length (λ t. t.operands)) (left attribute_length (λ t. t.attributes))
      back-many = reading-back _ _ _ _ _ _ _ _ _ read-many short many-rows

      abbrev many-call : Call e
      many-call = accepted-call _ _ _ _ _ _ _ _ _ read-many back-many.items back-many.statements back-many.operands back-many.attributes back-many.answers

      -- no more than the first text took
      fewer : RowsWithin many-call p.call
      fewer = canons_within many-call p.call (said_back many-call refl (canons (said_by p.call)) (print_read (entry_of e) (said_by p.call) readable)) (call-lists p.call)

      -- the promise: room for as many rows as the first text left, as in tables that have held it
      pub reading_back_as_held : (I S O A : List ℕ) (r : Answer) (I' S' O' A' : List ℕ) → Reads e (written p) I S O A r I' S' O' A'
          → RowsFit (lent I S O A) p.call.items p.call.statements p.call.operands p.call.attributes → ReadsBack e xs (written p) r I' S' O' A'
      reading_back_as_held I S O A r I' S' O' A' read f =
          let told : answer_to e (written p) ≡ read_report back-many.items back-many.statements back-many.operands back-many.attributes = sym (as_many_answer e (written p) read-many many-rows) ∙ back-many.answers in
          let fit : RowsFit (lent I S O A) back-many.items back-many.statements back-many.operands back-many.attributes = record {
            items = le_trans fewer.items f.items;
            statements = le_trans fewer.statements f.statements;
            operands = le_trans fewer.operands f.operands;
            attributes = le_trans fewer.attributes f.attributes;
          } in
          accepted-back I S O A r I' S' O' A' read back-many.items back-many.statements back-many.operands back-many.attributes
          (fits-answer e (written p) read back-many.items back-many.statements back-many.operands back-many.attributes told fit)

      -- so tables no shorter than those lent for the first text are enough
      pub reading_back_as_lent : (I S O A : List ℕ) (r : Answer) (I' S' O' A' : List ℕ) → Reads e (written p) I S O A r I' S' O' A'
          → NoShorter (lent p.call.I p.call.S p.call.O p.call.A) (lent I S O A) → ReadsBack e xs (written p) r I' S' O' A'
      reading_back_as_lent I S O A r I' S' O' A' read n = reading_back_as_held I S O A r I' S' O' A' read (longer_fits n (call_fits p.call))
