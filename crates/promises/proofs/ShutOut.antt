-- The wrong programs that the contracts are held to rule out (docs/PROMISES.md lists them). No program (specs/Programs) is one of these.
-- Assumes nothing.
use Prim.Native.Nat.{ℕ}
use mathlib.Core.Path.{◌≡◌, refl, sym, ap, ◌∙◌, subst}
use mathlib.Core.List.{List, [], ◌++◌}
use native.Mathlib.Omega.{arith}
use lib.ListN.{length, get_or, replicate, take, length-replicate}
use Rattle.rules.specs.declared.Entry.{Entry}
use Rattle.rules.specs.declared.Entry.TheVariants.{Replacements, LeftHandSides, RightHandSides}
use Rattle.rules.specs.Answer.{Answer}
use Rattle.rules.specs.Answer as answer
use Rattle.rules.specs.Bytes.{bytes}
use Rattle.rules.specs.Printing.{printed_all}
use Rattle.rules.specs.WellFormed.{Counts}
use Rattle.rules.specs.Answers.{lent, reading, answer_of, rows_of, padded, report_of, read_report, print_report, refusal_report}
use Rattle.rules.specs.Prints.{words_needed, print_of, printing, print_answer, work_after, output_after, Prints}
use Rattle.rules.specs.Calls.{Call, said_by, counts_of}
use Rattle.bynames.proofs.Reader as names
use Rattle.simulation.proofs.Items.{entry_of}
use Rattle.promises.specs.Programs.{Reader, IsRefused, Printer, answers_to, output_to, Writes}
use Rattle.promises.specs.Rows.{answer_to}
use Rattle.promises.specs.Ends.{PrintEnd, not_well_formed, few_words, few_bytes, printed}
use Rattle.promises.proofs.Calls.{report_printed, WroteWhole, wrote-taken, accepted-wrote, enough_accepts, call-named}
use Rattle.promises.proofs.AsTheCrate.{unless_seven}
use Rattle.promises.proofs.EveryCall.{every_print}
use Rattle.promises.proofs.Witnesses.{nothing, with_two, with_three, unreachable, one, told, call_of, shown, small_prints}

-- ---- readers
-- There is such a program.
pub a_reader : Reader
a_reader =
    record {
      answers = λ e text I S O A. answer_of (reading e text (lent I S O A));
      items = λ e text I S O A. padded (length I) (rows_of (λ t. t.items) (reading e text (lent I S O A)));
      statements = λ e text I S O A. padded (length S) (rows_of (λ t. t.statements) (reading e text (lent I S O A)));
      operands = λ e text I S O A. padded (length O) (rows_of (λ t. t.operands) (reading e text (lent I S O A)));
      attributes = λ e text I S O A. padded (length A) (rows_of (λ t. t.attributes) (reading e text (lent I S O A)));
      keeps = λ e text I S O A. record { answers = refl; leaves = record { items = refl; statements = refl; operands = refl; attributes = refl } };
    }

one_counted : (e : Entry) → (told (one e)).rows.items ≡ 1
one_counted Replacements = refl
one_counted LeftHandSides = refl
one_counted RightHandSides = refl

module _ (f : Reader) (e : Entry) where
  -- it answers as every call does
  as_call : (c : Call e) → report_of (f.answers e c.text c.I c.S c.O c.A) ≡ read_report c.items c.statements c.operands c.attributes
  as_call c = ap report_of ((f.keeps e c.text c.I c.S c.O c.A).answers ∙ sym c.reads.answers) ∙ c.tells

  -- The reader that refuses everything, at whatever entry point.
  pub refuses_everything : ((text I S O A : List ℕ) → IsRefused (f.answers e text I S O A)) → ⊥
  refuses_everything h =
      let c = call_of (one e) in
      let x = h c.text c.I c.S c.O c.A in
      let told : read_report c.items c.statements c.operands c.attributes ≡ refusal_report x.0 x.1 = sym (as_call c) ∙ x.3 in
      let zero-told : 0 ≡ x.0 = cc in
      omega (arith, x.2)

  -- The one that gives one fixed answer.
  pub one_fixed_answer : (r : List ℕ) → ((text I S O A : List ℕ) → report_of (f.answers e text I S O A) ≡ r) → ⊥
  one_fixed_answer r h =
      let c = call_of (nothing e) in
      let d = call_of (one e) in
      let none : read_report 0 0 0 0 ≡ r = sym (as_call c) ∙ h c.text c.I c.S c.O c.A in
      let some : read_report d.items d.statements d.operands d.attributes ≡ r = sym (as_call d) ∙ h d.text d.I d.S d.O d.A in
      let same : d.items ≡ 0 = cc in
      omega (arith, one_counted e)

  -- A made-up row count: what is counted is what the definition counts.
  pub made_up_row_count : (text I S O A : List ℕ) (i s o a : ℕ) → report_of (f.answers e text I S O A) ≡ read_report i s o a → answer_to e text ≡ read_report i s o a
  made_up_row_count text I S O A i s o a q =
      sym (unless_seven e text (f.keeps e text I S O A) (λ p k. no_refusal (sym q ∙ k))) ∙ q
    where
      no_refusal : {p : ℕ} → read_report i s o a ≡ refusal_report 7 p → ⊥
      no_refusal k = let z : ◌≡◌ {A = ℕ} 0 7 = cc in omega arith

-- The one that reads item one and invents the rest: behind the same item it leaves the same operands.
pub invents_the_rest : (f : Reader) → ((rest rest₁ I S O A : List ℕ) → f.operands RightHandSides (bytes "result 1" ++ rest) I S O A ≡ f.operands RightHandSides (bytes "result 1" ++ rest₁) I S O A) → ⊥
invents_the_rest f h =
    let c = call_of with_two in
    let d = call_of with_three in
    let two : f.operands RightHandSides c.text c.I c.S c.O c.A ≡ c.O' = (f.keeps RightHandSides c.text c.I c.S c.O c.A).leaves.operands ∙ sym c.reads.leaves.operands in
    let three : f.operands RightHandSides d.text d.I d.S d.O d.A ≡ d.O' = (f.keeps RightHandSides d.text d.I d.S d.O d.A).leaves.operands ∙ sym d.reads.leaves.operands in
    let same : c.O' ≡ d.O' = sym two ∙ h (bytes " result 2") (bytes " result 3") c.I c.S c.O c.A ∙ three in
    let z : ◌≡◌ {A = ℕ} 2 3 = ap (λ (l : List ℕ). get_or l 13 0) same in
    omega arith

-- And of every text: whatever tables were lent, two accepted reads say the same items, all of them.
pub nothing_invented : {e : Entry} (c d : Call e) → c.text ≡ d.text → said_by c ≡ said_by d
nothing_invented {e} c d q = same_items (sym (call-named c) ∙ ap (names.reading (entry_of e)) q ∙ call-named d)
  where
    same_items : names.accepted (said_by c) ≡ names.accepted (said_by d) → said_by c ≡ said_by d
    same_items k = cc

-- ---- printers
-- There is such a program.
pub a_printer : Printer
a_printer =
    record {
      answers = λ text I S O A c w o. print_answer (printing text I S O A c (length w) (length o));
      work = λ text I S O A c w o. work_after (printing text I S O A c (length w) (length o)) w;
      output = λ text I S O A c w o. output_after (printing text I S O A c (length w) (length o)) o;
      keeps = λ text I S O A c w o. record { answers = refl; words = refl; bytes = refl };
    }

module _ (text I S O A : List ℕ) (c : Counts) where
  told_words : {w o r w' o' : List ℕ} {n : ℕ} → PrintEnd text I S O A c w o r w' o' → r ≡ refusal_report 9 n → n ≡ words_needed c
  told_words (not_well_formed h) q = absurd (let z : ◌≡◌ {A = ℕ} 8 9 = cc in omega arith)
  told_words (few_words h k) q = cc
  told_words (few_bytes h k l) q = absurd (let z : ◌≡◌ {A = ℕ} 10 9 = cc in omega arith)
  told_words (printed h k l) q = absurd (let z : ◌≡◌ {A = ℕ} 0 9 = cc in omega arith)

  told_bytes : {w o r w' o' : List ℕ} {n : ℕ} → PrintEnd text I S O A c w o r w' o' → r ≡ refusal_report 10 n → n ≡ length (print_of text I S O A c)
  told_bytes (not_well_formed h) q = absurd (let z : ◌≡◌ {A = ℕ} 8 10 = cc in omega arith)
  told_bytes (few_words h k) q = absurd (let z : ◌≡◌ {A = ℕ} 9 10 = cc in omega arith)
  told_bytes (few_bytes h k l) q = cc
  told_bytes (printed h k l) q = absurd (let z : ◌≡◌ {A = ℕ} 0 10 = cc in omega arith)

  printed-bytes : {w o r w' o' : List ℕ} {n : ℕ} → PrintEnd text I S O A c w o r w' o' → r ≡ print_report n → n ≡ length (print_of text I S O A c)
  printed-bytes (not_well_formed h) q = absurd (let z : ◌≡◌ {A = ℕ} 8 0 = cc in omega arith)
  printed-bytes (few_words h k) q = absurd (let z : ◌≡◌ {A = ℕ} 9 0 = cc in omega arith)
  printed-bytes (few_bytes h k l) q = absurd (let z : ◌≡◌ {A = ℕ} 10 0 = cc in omega arith)
  printed-bytes (printed h k l) q = cc

  -- A made-up needed length: the words told are 3S + O + 1, and the bytes told are those that an accepted print writes.
  module _ (f : Printer) where
    pub made_up_words_needed : (w o : List ℕ) (n : ℕ) → report_of (f.answers text I S O A c w o) ≡ refusal_report 9 n → n ≡ words_needed c
    made_up_words_needed w o n q = told_words (every_print text I S O A c (f.keeps text I S O A c w o)) q

    pub made_up_bytes_needed : (w o w₁ o₁ : List ℕ) (n m : ℕ) → report_of (f.answers text I S O A c w o) ≡ refusal_report 10 n → report_of (f.answers text I S O A c w₁ o₁) ≡ print_report m → n ≡ m
    made_up_bytes_needed w o w₁ o₁ n m q k =
        told_bytes (every_print text I S O A c (f.keeps text I S O A c w o)) q ∙ sym (printed-bytes (every_print text I S O A c (f.keeps text I S O A c w₁ o₁)) k)

module _ (f : Printer) {e : Entry} (c : Call e) where
  -- words and bytes enough
  abbrev bytes_of : List ℕ
  bytes_of = printed_all (said_by c)

  abbrev w : List ℕ
  w = replicate (words_needed (counts_of c)) 0

  abbrev o : List ℕ
  o = replicate (length bytes_of) 0

  prints_them : answers_to f c w o ≡ answer.Printed (length bytes_of)
  prints_them =
      let words = length-replicate {A = ℕ} (words_needed (counts_of c)) 0 in
      let room = length-replicate {A = ℕ} (length bytes_of) 0 in
      enough_accepts c (omega arith) (omega arith) (f.keeps c.text c.I' c.S' c.O' c.A' (counts_of c) w o)

  wrote_them : WroteWhole bytes_of (length bytes_of) o (output_to f c w o)
  wrote_them = accepted-wrote c (subst (λ (r : Answer). Prints c.text c.I' c.S' c.O' c.A' (counts_of c) w o r (f.work c.text c.I' c.S' c.O' c.A' (counts_of c) w o) (output_to f c w o)) prints_them
      (f.keeps c.text c.I' c.S' c.O' c.A' (counts_of c) w o))

  -- it writes the print, and no other bytes
  pub writes_no_other : (s : List ℕ) → Writes f c s → printed_all (said_by c) ≡ s
  writes_no_other s h = sym (wrote-taken wrote_them) ∙ h w o (length bytes_of) (ap report_of prints_them ∙ report_printed (length bytes_of))

-- the text of one item is not as long as its print, which has a byte or more, and its first byte is not 0
one_spaced : (e : Entry) → length (shown (one e)) ≡ length (told (one e)).text → ⊥
one_spaced Replacements q = omega arith
one_spaced LeftHandSides q = omega arith
one_spaced RightHandSides q = omega arith

one_some : (e : Entry) → length (shown (one e)) ≡ 0 → ⊥
one_some Replacements q = omega arith
one_some LeftHandSides q = omega arith
one_some RightHandSides q = omega arith

one_begins : (e : Entry) → get_or (shown (one e)) 0 0 ≡ get_or (take (length (shown (one e))) (replicate (length (shown (one e))) 0)) 0 0 → ⊥
one_begins Replacements q = omega arith
one_begins LeftHandSides q = omega arith
one_begins RightHandSides q = omega arith

module _ (f : Printer) where
  -- A printer that copies its input: spacing differs, at whatever entry point,
  pub copies_its_input : (e : Entry) → ((c : Call e) → Writes f c c.text) → ⊥
  copies_its_input e h =
      let c = call_of (one e) in
      one_spaced e (ap length (sym (small_prints (one e)) ∙ writes_no_other f c c.text (h c)))

  -- and so do lines that are not reachable, in a text that is spaced as a print is.
  pub copies_unreachable_lines : (c : Call Replacements) → c.text ≡ bytes "%0 = var\ncand 1 1\n" → Writes f c c.text → ⊥
  copies_unreachable_lines c t h =
      let shown-so : printed_all (said_by c) ≡ shown unreachable = ap printed_all (nothing_invented c (call_of unreachable) t) ∙ small_prints unreachable in
      let q : ◌≡◌ {A = ℕ} 9 18 = ap length (sym shown-so ∙ writes_no_other f c c.text h ∙ t) in
      omega arith

  -- A printer that prints a constant.
  pub prints_a_constant : (e : Entry) (s : List ℕ) → ((c : Call e) → Writes f c s) → ⊥
  prints_a_constant e s h =
      let none : [] ≡ s = sym (small_prints (nothing e)) ∙ writes_no_other f (call_of (nothing e)) s (h (call_of (nothing e))) in
      let some : shown (one e) ≡ s = sym (small_prints (one e)) ∙ writes_no_other f (call_of (one e)) s (h (call_of (one e))) in
      one_some e (ap length (some ∙ sym none))

  -- A printer that writes nothing: the output is as it was.
  pub writes_nothing : (e : Entry) → ((c : Call e) (w o : List ℕ) → output_to f c w o ≡ o) → ⊥
  writes_nothing e h =
      let c = call_of (one e) in
      let n : ℕ = length (bytes_of f c) in
      let blank : bytes_of f c ≡ take n (replicate n 0) = sym (wrote-taken (wrote_them f c)) ∙ ap (take n) (h c (w f c) (o f c)) in
      one_begins e (ap (λ (l : List ℕ). get_or l 0 0) (subst (λ (l : List ℕ). l ≡ take (length l) (replicate (length l) 0)) (small_prints (one e)) blank))
