-- What a print call of what a read call left writes: the bytes of the items that the read left.
-- Assumes nothing.
use Prim.Native.Nat.{ℕ, ◌≤◌}
use mathlib.Core.Path.{◌≡◌, refl, sym, ap, ◌∙◌, subst}
use mathlib.Core.Bool.{Bool, true, false, cond}
use mathlib.Core.List.{List, ◌++◌}
use native.Mathlib.Omega.{arith}
use borrow.Author.Tests.{le-ltb}
use lib.Dec.{ltb}
use lib.ListN.{length, take, drop}
use lib.Seq.{take-append_seam}
use Rattle.rules.specs.declared.Entry.{Entry}
use Rattle.rules.specs.Answer.{Answer}
use Rattle.rules.specs.Answer as answer
use Rattle.rules.specs.Printing.{printed_all}
use Rattle.rules.specs.Answers.{lent, report_of, print_report}
use Rattle.rules.specs.Prints as print
use Rattle.rules.specs.Prints.{more_words, more_bytes, whole, words_needed, fitting, print_of, printing, print_answer, output_after, PrintEnds}
use Rattle.rules.specs.Calls.{Call, counts_of, said_by, PrintsOf, Print, written}
use Rattle.bynames.proofs.Reader as names
use Rattle.simulation.proofs.Left.{left_say}
use Rattle.simulation.proofs.Items.{entry_of}
use Rattle.simulation.proofs.Whole.{accepted_by_names}
use Rattle.simulation.proofs.Calls.{call-reads}
use Rattle.accepted.proofs.Formed.{call_formed}

-- a print that is neither of the first two is the third
whole-only : (a b : Bool) (k l : ℕ) (s : List ℕ) {n : ℕ} → print_answer (cond a (more_words k) (cond b (more_bytes l) (whole s))) ≡ answer.Printed n → cond a (more_words k) (cond b (more_bytes l) (whole s)) ≡ whole s
unfolding print_answer
whole-only true b k l s h = absurd (let z : ◌≡◌ {A = ℕ} 0 1 = cc in omega arith)
whole-only false true k l s h = absurd (let z : ◌≡◌ {A = ℕ} 0 1 = cc in omega arith)
whole-only false false k l s h = refl

-- what an accepted print of bytes s wrote
pub record WroteWhole (s : List ℕ) (n : ℕ) (output output' : List ℕ) : Type 0 where
  pub count : n ≡ length s
  pub leaves : output' ≡ s ++ drop (length s) output

pub wrote-taken : {s output output' : List ℕ} {n : ℕ} → WroteWhole s n output output' → take n output' ≡ s
wrote-taken {s} {output} w = rw (w.count, w.leaves) (take-append_seam s (drop (length s) output))

printed-long : (s : List ℕ) (n : ℕ) → answer.Printed n ≡ print_answer (whole s) → n ≡ length s
unfolding print_answer
printed-long s n h = cc

-- What a read left says the items that a reader by names takes from the text: all of them, and nothing else.
pub call-named : {e : Entry} (c : Call e) → names.reading (entry_of e) c.text ≡ names.accepted (said_by c)
call-named {e} c =
    let y = left_say e c.text c.I c.S c.O c.A c.I' c.S' c.O' c.A' c.items c.statements c.operands c.attributes (call-reads c) in
    accepted_by_names e c.text (lent c.I c.S c.O c.A) y.tables y.reads ∙ ap names.accepted (sym y.says)

module _ {e : Entry} (c : Call e) where
  -- what a read left is well formed, so 8 does not come: 9, 10, or the bytes of the items that it left
  call-printing : (words bytes : ℕ) → printing c.text c.I' c.S' c.O' c.A' (counts_of c) words bytes
      ≡ cond (ltb words (words_needed (counts_of c))) (more_words (words_needed (counts_of c))) (fitting (printed_all (said_by c)) bytes)
  unfolding printing print_of
  call-printing words bytes = rw (call_formed c) refl

  -- with words and bytes enough, the bytes of the items
  enough_printing : (words bytes : ℕ) → words_needed (counts_of c) ≤ words → length (printed_all (said_by c)) ≤ bytes
      → printing c.text c.I' c.S' c.O' c.A' (counts_of c) words bytes ≡ whole (printed_all (said_by c))
  unfolding fitting
  enough_printing words bytes h k = call-printing words bytes ∙ rw (le-ltb words (words_needed (counts_of c)) h, le-ltb bytes (length (printed_all (said_by c))) k) refl

  module _ {work output work' output' : List ℕ} where
    by_whole : {n : ℕ} → printing c.text c.I' c.S' c.O' c.A' (counts_of c) (length work) (length output) ≡ whole (printed_all (said_by c))
        → PrintsOf c work output (answer.Printed n) work' output' → WroteWhole (printed_all (said_by c)) n output output'
    unfolding output_after
    by_whole {n} q h = record { count = printed-long (printed_all (said_by c)) n (h.answers ∙ ap print_answer q); leaves = h.bytes ∙ ap (λ p. output_after p output) q }

    -- An accepted print wrote the bytes of the items that the read left.
    pub accepted-wrote : {n : ℕ} → PrintsOf c work output (answer.Printed n) work' output' → WroteWhole (printed_all (said_by c)) n output output'
    unfolding fitting
    accepted-wrote h =
        let q = call-printing (length work) (length output) in
        by_whole (q ∙ whole-only (ltb (length work) (words_needed (counts_of c))) (ltb (length output) (length (printed_all (said_by c)))) _ _ _ (ap print_answer (sym q) ∙ sym h.answers)) h

    -- With words and bytes enough a print is accepted.
    pub enough_accepts : {r : Answer} → words_needed (counts_of c) ≤ length work → length (printed_all (said_by c)) ≤ length output → PrintsOf c work output r work' output' → r ≡ answer.Printed (length (printed_all (said_by c)))
    unfolding print_answer
    enough_accepts h k p = p.answers ∙ ap print_answer (enough_printing (length work) (length output) h k)

-- an accepted print is told by 0, and no refusal is
told_printed : (w : print.Print) (n : ℕ) → report_of (print_answer w) ≡ print_report n → print_answer w ≡ answer.Printed n
unfolding report_of print_answer
told_printed print.malformed n z = absurd (let y : ◌≡◌ {A = ℕ} 8 0 = cc in omega arith)
told_printed (print.more_words m) n z = absurd (let y : ◌≡◌ {A = ℕ} 9 0 = cc in omega arith)
told_printed (print.more_bytes m) n z = absurd (let y : ◌≡◌ {A = ℕ} 10 0 = cc in omega arith)
told_printed (print.whole s) n z = let same : length s ≡ n = cc in rw same refl

pub report_printed : (n : ℕ) → report_of (answer.Printed n) ≡ print_report n
unfolding report_of
report_printed n = refl

print_answered : (w : print.Print) {work output : List ℕ} {r : Answer} {work' output' : List ℕ} {n : ℕ} → PrintEnds w work output r work' output' → report_of r ≡ print_report n → r ≡ answer.Printed n
print_answered w {n = n} h q = h.answers ∙ told_printed w n (ap report_of (sym h.answers) ∙ q)

module _ {e : Entry} (p : Print e) where
  accepted_print : PrintsOf p.call p.work p.output (answer.Printed p.bytes) p.work' p.output'
  accepted_print = subst (λ (z : Answer). PrintsOf p.call p.work p.output z p.work' p.output') (print_answered (printing p.call.text p.call.I' p.call.S' p.call.O' p.call.A' (counts_of p.call) (length p.work) (length p.output)) p.prints p.tells) p.prints

  -- What a print wrote: the bytes of the items that the read left, and as many as it answered.
  pub written_is : written p ≡ printed_all (said_by p.call)
  written_is = wrote-taken (accepted-wrote p.call accepted_print)

  pub bytes_is : p.bytes ≡ length (printed_all (said_by p.call))
  bytes_is = (accepted-wrote p.call accepted_print).count
