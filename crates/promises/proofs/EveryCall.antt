-- Demand 1: every call, whatever is lent, ends with an answer of the table in docs/RULES.md, with its place, and leaves lent memory as written there.
-- `ReadEnd` has the ways in which a read ends, `PrintEnd` those of a print, `NameEnd` those of a name (specs/Ends).
-- That the public calls end, and with what the contracts say, is theirs; that no two answers satisfy these is `Unique` of crate peldarox.
-- Assumes nothing.
use Prim.Native.Nat.{ℕ, zero, suc, ◌-◌, ◌*◌, ◌≤◌, ◌<◌}
use mathlib.Core.Path.{◌≡◌, refl, sym, ap, ◌∙◌}
use mathlib.Core.Bool.{true, ◌&&◌}
use mathlib.Core.List.{List, [], ◌++◌}
use native.Mathlib.Omega.{arith}
use borrow.Author.Tests.{leb-true, ltb-true, ltb-false, le-ltb}
use lib.Dec.{leb, ltb}
use lib.ListN.{length, replicate, drop, length-take}
use Rattle.std.specs.Prelude.{Ok, Err}
use Rattle.rules.specs.declared.Entry.{Entry}
use Rattle.rules.specs.declared.Token.{Token}
use Rattle.rules.specs.declared.Lexed.{Lexed}
use Rattle.rules.specs.declared.Lexed.TheVariants.{Found, End, Refused}
use Rattle.rules.specs.declared.Span.{Span}
use Rattle.rules.specs.Answer.{Answer}
use Rattle.rules.specs.Bytes.{inside}
use Rattle.rules.specs.Utf8.{checked, Checked, bad_at}
use Rattle.rules.specs.Tokens.{token_at, next, onward, nth}
use Rattle.rules.specs.Rows.{item_length, statement_length, operand_length, attribute_length, capacity, letters_of, item_at, statement_at}
use Rattle.rules.specs.World.{Tables, Res}
use Rattle.rules.specs.Reading as R
use Rattle.rules.specs.WellFormed as formed
use Rattle.rules.specs.WellFormed.{Counts, well_formed, is_assignment, name_in, is_name}
use Rattle.rules.specs.Answers.{Lent, lent, start, fault_number, Outcome, accepted, refusal, outcome, read_checked, reading, answer_of, rows_of, padded, Ends, Reads, report_of, refusal_report}
use Rattle.rules.specs.Prints.{Print, malformed, more_words, more_bytes, whole, words_needed, fitting, print_of, printing, print_answer, work_after, output_after, PrintEnds, Prints, is_named, name_part}
use Rattle.promises.specs.Ends as place
use Rattle.promises.specs.Ends.{RowsLeft, cleared, Placed, ReadEnd, read, too_long, ill_formed, refused, PrintEnd, not_well_formed, few_words, few_bytes, printed, NameEnd, named, of_no_tables, of_no_row, of_no_assignment}
use Rattle.laws.proofs.Cases.{by_cases}
use Rattle.laws.proofs.Tests.{and_left, and_right}
use Rattle.laws.proofs.Tokens.{Lies, token-lies}
use Rattle.reading.proofs.Ends as ends
use Rattle.reading.proofs.Progress as progress
use Rattle.reading.proofs.Fitting.{accepted-fits}
use Rattle.simulation.proofs.Whole.{accepted-says}
use Rattle.proof_faults.proofs.Faults.{FaultAt, no_token, wrong_token, text_ended, bad_integer, unknown-name, redefined-name, no_block_lem, no_row, AtFault, items-stop}
use Rattle.spacing.proofs.Sequence.{alike, nth-kind}
use Rattle.spacing.proofs.Twins.{token_of, Both, goes, stops, faults, ends as at_end, Equal}
use Rattle.spacing.proofs.Start.{Started, no_token as without-token, alike as both-started, started}
use Rattle.byrows.proofs.Spans.{every-each, every-along, Owner, owner}
use Rattle.byrows.proofs.Formed.{count-rows}
use Rattle.promises.proofs.FirstBad.{first_bad}

-- ---- reads
-- places: a token, what is no token, and the end of the text lie in the text or just past it
from_start : (text : List ℕ) (at : ℕ) (l : Lexed) → Lies text at l → Lies text 0 l
from_start text at (Found t) h = omega arith
from_start text at End h = tt
from_start text at (Refused p) h = omega arith

next-lies : (text : List ℕ) (l : Lexed) → Lies text 0 l → Lies text 0 (next text l)
unfolding next
next-lies text (Found t) h = from_start text t.past (token_at text t.past) (token-lies text t.past)
next-lies text End h = tt
next-lies text (Refused p) h = h

nth-lies : (text : List ℕ) (i : ℕ) → Lies text 0 (nth text i)
unfolding onward
nth-lies text zero = token-lies text 0
nth-lies text (suc i) = next-lies text (nth text i) (nth-lies text i)

abbrev PlaceIn : List ℕ → Outcome → Type 0
PlaceIn text (accepted t) = Unit {0}
PlaceIn text (refusal n p) = Placed text n p × (p ≤ length text)

-- a fault at a token of its kind, by its number
token-placed : (text : List ℕ) {n k : ℕ} → FaultAt n k → (i : ℕ) (t : Token) → nth text i ≡ Found t → t.kind ≡ k → Placed text (fault_number n) t.first
unfolding fault_number
token-placed text no_token i t h e = absurd (omega (arith, nth-kind text i t h))
token-placed text (wrong_token k) i t h e = place.wrong_token i t h
token-placed text text_ended i t h e = absurd (omega (arith, nth-kind text i t h))
token-placed text bad_integer i t h e = place.bad_integer i t h e
token-placed text unknown-name i t h e = place.bad_name i t h e
token-placed text redefined-name i t h e = place.bad_name i t h e
token-placed text no_block_lem i t h e = place.bad_name i t h e
token-placed text (no_row k) i t h e = place.no_row i t h

both_placed : (text : List ℕ) {m m' : Res (Unit {0})} → Both text text Equal m m' → ends.Ends (λ a v. Unit {0}) AtFault m → PlaceIn text (outcome m)
unfolding outcome fault_number
both_placed text (goes a a' w v e h) f = tt
both_placed text (stops n s t h) f = let l = rw h.one at (nth-lies text h.index) in (token-placed text (ends.stopped f) h.index (token_of s) h.one refl, omega arith)
both_placed text (faults i p p' h h') f = let l = rw h at (nth-lies text i) in (place.no_token i p h, omega arith)
both_placed text (at_end i h h') f = (place.text_ended i h, omega arith)

started_placed : (text : List ℕ) {l : Lent} {m m' : Res (Unit {0})} → Started text text l m m' → ends.Ends (λ a v. Unit {0}) AtFault m → PlaceIn text (outcome m)
unfolding outcome
started_placed text without-token f = tt
started_placed text (both-started m m' h) f = both_placed text h f

outcome-placed : (e : Entry) (text : List ℕ) (l : Lent) → PlaceIn text (outcome (R.items e (start text l)))
outcome-placed e text l = started_placed text (started (alike text text refl) e l) ((items-stop e).by (start text l))

-- words
padded_none : (n : ℕ) → padded n [] ≡ replicate n 0
unfolding padded
padded_none n = let z : n - 0 ≡ n = omega arith in ap (λ k. replicate k 0) z

rows_left : (size n : ℕ) (T rows left : List ℕ) → length rows ≡ n * size → n ≤ capacity size (length T) → left ≡ padded (length T) rows → RowsLeft size n T left
unfolding padded
rows_left size n T rows left l f h = record { rows = rows; long = l; fit = count-rows size n (length T) f; behind = h ∙ ap (λ k. rows ++ replicate (length T - k) 0) l }

module _ (e : Entry) (text I S O A : List ℕ) where
  abbrev l : Lent
  l = lent I S O A

  read_whole : length text ≤ 65536 → checked text ≡ Ok tt → reading e text l ≡ outcome (R.items e (start text l))
  unfolding reading read_checked
  read_whole short good = rw (le-ltb 65536 (length text) short, good) refl

  ill : (p : ℕ) → length text ≤ 65536 → checked text ≡ bad_at p → reading e text l ≡ refusal 2 p
  unfolding reading read_checked
  ill p short bad = rw (le-ltb 65536 (length text) short, bad) refl

  module _ {r : Answer} {I' S' O' A' : List ℕ} where
    -- a refusal leaves zeros
    refused_with : (n p : ℕ) → ReadEnd text I S O A (refusal_report n p) (cleared I) (cleared S) (cleared O) (cleared A) → Ends (refusal n p) I S O A r I' S' O' A' → ReadEnd text I S O A (report_of r) I' S' O' A'
    unfolding answer_of rows_of report_of
    refused_with n p x h =
        let i = h.leaves.items ∙ padded_none (length I) in
        let s = h.leaves.statements ∙ padded_none (length S) in
        let o = h.leaves.operands ∙ padded_none (length O) in
        let a = h.leaves.attributes ∙ padded_none (length A) in
        rw (h.answers, i, s, o, a) x

    -- what is accepted leaves its rows, and zeros behind them
    accepted_with : (t : Tables) → reading e text l ≡ accepted t → length text ≤ 65536 → checked text ≡ Ok tt → Ends (accepted t) I S O A r I' S' O' A' → ReadEnd text I S O A (report_of r) I' S' O' A'
    unfolding answer_of rows_of report_of
    accepted_with t q short good h =
        let z = (accepted-says e text l t q).sized in
        let f = accepted-fits e text l t q in
        rw h.answers
        (read t.items.count t.statements.count t.operands.count t.attributes.count short good (progress.accepted-within e text l t q)
        (rows_left item_length t.items.count I t.items.words I' z.items f.items h.leaves.items)
        (rows_left statement_length t.statements.count S t.statements.words S' z.statements f.statements h.leaves.statements)
        (rows_left operand_length t.operands.count O t.operands.words O' z.operands f.operands h.leaves.operands)
        (rows_left attribute_length t.attributes.count A t.attributes.words A' z.attributes f.attributes h.leaves.attributes))

    well_formed_end : length text ≤ 65536 → checked text ≡ Ok tt → (w : Outcome) → reading e text l ≡ w → Ends w I S O A r I' S' O' A' → ReadEnd text I S O A (report_of r) I' S' O' A'
    well_formed_end short good (accepted t) q h = accepted_with t q short good h
    well_formed_end short good (refusal n p) q h =
        let place = rw (sym (read_whole short good) ∙ q) at (outcome-placed e text l) in
        refused_with n p (refused n p short good place.0 place.1) h

    checked-end : length text ≤ 65536 → (c : Checked) → checked text ≡ c → Reads e text I S O A r I' S' O' A' → ReadEnd text I S O A (report_of r) I' S' O' A'
    checked-end short (Ok u) q h = well_formed_end short q (reading e text l) refl h
    checked-end short (Err p) q h = refused_with 2 p.at (ill_formed p.at short q (first_bad text p.at q)) (rw (ill p.at short q) at h)

    -- Every read ends so.
    pub every-read : Reads e text I S O A r I' S' O' A' → ReadEnd text I S O A (report_of r) I' S' O' A'
    unfolding reading
    every-read h =
        by_cases (ltb 65536 (length text))
        (λ t. refused_with 1 65536 (too_long (ltb-true 65536 (length text) t)) (rw t at h))
        (λ t. checked-end (ltb-false 65536 (length text) t) (checked text) refl h)

-- ---- prints
module _ (text I S O A : List ℕ) (c : Counts) where
  abbrev s : List ℕ
  s = print_of text I S O A c

  module _ {work output : List ℕ} {r : Answer} {work' output' : List ℕ} where
    ended : (p : Print) → PrintEnd text I S O A c work output (report_of (print_answer p)) (work_after p work) (output_after p output) → PrintEnds p work output r work' output' → PrintEnd text I S O A c work output (report_of r) work' output'
    ended p x h = rw (h.answers, h.words, h.bytes) x

    -- Every print ends so.
    pub every_print : Prints text I S O A c work output r work' output' → PrintEnd text I S O A c work output (report_of r) work' output'
    unfolding printing fitting print_answer work_after output_after report_of
    every_print h =
        by_cases (well_formed text I S O A c)
        (λ ok.
        by_cases (ltb (length work) (words_needed c))
        (λ few. ended (more_words (words_needed c)) (few_words ok (ltb-true (length work) (words_needed c) few)) (rw (ok, few) at h))
        (λ many.
        by_cases (ltb (length output) (length s))
        (λ few. ended (more_bytes (length s)) (few_bytes ok (ltb-false (length work) (words_needed c) many) (ltb-true (length output) (length s) few)) (rw (ok, many, few) at h))
        (λ room. ended (whole s) (printed ok (ltb-false (length work) (words_needed c) many) (ltb-false (length output) (length s) room)) (rw (ok, many, room) at h))))
        (λ no-good. ended malformed (not_well_formed no-good) (rw no-good at h))

  -- ---- names
  -- the letters of a name lie in the text
  record NameIn (n : Span) : Type 0 where
    some : n.first < n.past
    within : n.past ≤ length text
    spelt : is_name (letters_of text n) ≡ true

  name_in_lem : (n : Span) → name_in text n ≡ true → NameIn n
  unfolding name_in is_name
  name_in_lem n e =
      let within = leb-true n.past (length text) (and_left (leb n.past (length text)) (is_name (letters_of text n)) e) in
      let named = and_right (leb n.past (length text)) (is_name (letters_of text n)) e in
      let long = leb-true 2 (length (letters_of text n)) (and_left (leb 2 (length (letters_of text n))) _ named) in
      let cut = length-take (n.past - n.first) (drop n.first text) in
      record { some = omega arith; within = within; spelt = named }

  module _ (ok : well_formed text I S O A c ≡ true) (row : ℕ) (counted : row < c.statements) (assigns : is_assignment (statement_at S row).code ≡ true) where
    owned-known : (formed.rows_owned I S c && formed.items_ok text I S O A c.items) ≡ true
    unfolding well_formed
    owned-known = and_right (formed.tables_ok I S O A c) _ (and_right (formed.short_text text) _ ok)

    owner_of : Owner (λ i. (item_at I i).statements) 0 c.items row
    unfolding formed.rows_owned formed.statements_owned
    owner_of = owner (λ i. (item_at I i).statements) c.items 0 0 c.statements (and_left _ _ (and_left (formed.rows_owned I S c) (formed.items_ok text I S O A c.items) owned-known)) row (omega arith) counted

    abbrev k : ℕ
    k = owner_of.k

    item_known : formed.item_ok text S O A (item_at I k) ≡ true
    unfolding formed.items_ok
    item_known = every-each (λ i. formed.item_ok text S O A (item_at I i)) c.items 0 (and_right (formed.rows_owned I S c) _ owned-known) k owner_of.from owner_of.to

    row_known : formed.statement_ok text S O A (item_at I k).statements.first row (statement_at S row) ≡ true
    unfolding formed.item_ok formed.statements_ok
    row_known =
        every-along (λ i. formed.statement_ok text S O A (item_at I k).statements.first i (statement_at S i)) (item_at I k).statements
        (and_right (formed.roots_ok text A (item_at I k)) _ (and_right (formed.closing_ok S O (item_at I k)) _ (and_right (formed.infer_ok S (item_at I k)) _ item_known))) row owner_of.low owner_of.high

    name-known : name_in text (statement_at S row).name ≡ true
    unfolding formed.statement_ok formed.name_ok
    name-known =
        and_left (name_in text (statement_at S row).name) _
        (rw assigns at (and_left (formed.name_ok text S (item_at I k).statements.first row (statement_at S row)) _ (and_right (inside _ _ (statement_at S row).code) _ row_known)))

  -- Every name is so: of a counted assignment of well-formed tables a part of the text, else empty.
  pub every-name : (row : ℕ) → NameEnd text I S O A c row (name_part text I S O A c row)
  unfolding name_part is_named
  every-name row =
      by_cases (well_formed text I S O A c)
      (λ ok.
      by_cases (ltb row c.statements)
      (λ counted.
      by_cases (is_assignment (statement_at S row).code)
      (λ assigns.
      let n = name_in_lem (statement_at S row).name (name-known ok row (ltb-true row c.statements counted) assigns) in
      rw (ok, counted, assigns) (named ok (ltb-true row c.statements counted) assigns n.some n.within n.spelt))
      (λ other. rw (ok, counted, other) (of_no_assignment ok (ltb-true row c.statements counted) other)))
      (λ beyond. rw (ok, beyond) (of_no_row ok (ltb-false row c.statements beyond))))
      (λ no-good. rw no-good (of_no_tables no-good))
