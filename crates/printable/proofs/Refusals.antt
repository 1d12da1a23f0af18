-- What a print answers, by the definition of a print: of well-formed tables 9, 10 or the bytes, each where it must; of all others, and of them alone, 8.
-- Assumes nothing.
use Prim.Native.Nat.{ℕ, ◌≤◌, ◌<◌}
use mathlib.Core.Path.{◌≡◌, sym, ap, ◌∙◌, subst}
use mathlib.Core.Bool.{true, false, cond, not}
use mathlib.Core.List.{List}
use native.Mathlib.Omega.{arith}
use native.Mathlib.Decide.{dec_lt}
use lib.Dec.{ltb}
use lib.ListN.{length}
use borrow.Author.Tests.{lt-ltb, le-ltb}
use Rattle.rules.specs.Answer.{Answer}
use Rattle.rules.specs.Answer.{Read, Printed, Refused}
use Rattle.rules.specs.Prints.{Print, malformed, more_words, more_bytes, whole, words_needed, print_of, fitting, printing, print_answer}
use Rattle.rules.specs.WellFormed.{Counts, well_formed}
use Rattle.laws.proofs.Cases.{by_cases}
use Rattle.laws.proofs.Tests.{cond-true, cond-false}

-- so many words and bytes are needed, so many are lent, and this is answered
pub data Answered (needed long words bytes : ℕ) : Answer → Type 0 where
  few_words : words < needed → Answered needed long words bytes (Refused 9 needed)
  few_bytes : needed ≤ words → bytes < long → Answered needed long words bytes (Refused 10 long)
  enough : needed ≤ words → long ≤ bytes → Answered needed long words bytes (Printed long)

-- the number of a refusal, and 0 of all else
abbrev number_of : Answer → ℕ
number_of (Read i s o a) = 0
number_of (Printed n) = 0
number_of (Refused n p) = n

other_than_eight : {needed long words bytes : ℕ} {r : Answer} → Answered needed long words bytes r → number_of r ≡ 8 → ⊥
other_than_eight (few_words h) e = omega arith
other_than_eight (few_bytes h k) e = omega arith
other_than_eight (enough h k) e = omega arith

module _ (text I S O A : List ℕ) (c : Counts) (words bytes : ℕ) where
  abbrev out : List ℕ
  out = print_of text I S O A c

  abbrev told : Answer
  told = print_answer (printing text I S O A c words bytes)

  abbrev past₉ : Print
  past₉ = fitting out bytes

  abbrev past₈ : Print
  past₈ = cond (ltb words (words_needed c)) (more_words (words_needed c)) past₉

  pub malformed-refused : well_formed text I S O A c ≡ false → told ≡ Refused 8 0
  unfolding printing print_answer
  malformed-refused e = ap print_answer (cond-true (not (well_formed text I S O A c)) malformed past₈ (ap not e))

  module _ (ok : well_formed text I S O A c ≡ true) where
    past_eight : printing text I S O A c words bytes ≡ past₈
    unfolding printing
    past_eight = cond-false (not (well_formed text I S O A c)) malformed past₈ (ap not ok)

    pub words-refused : words < words_needed c → told ≡ Refused 9 (words_needed c)
    unfolding print_answer
    words-refused h = ap print_answer (past_eight ∙ cond-true (ltb words (words_needed c)) (more_words (words_needed c)) past₉ (lt-ltb words (words_needed c) h))

    fits : words_needed c ≤ words → printing text I S O A c words bytes ≡ past₉
    fits h = past_eight ∙ cond-false (ltb words (words_needed c)) (more_words (words_needed c)) past₉ (le-ltb words (words_needed c) h)

    pub bytes-refused : words_needed c ≤ words → bytes < length out → told ≡ Refused 10 (length out)
    unfolding print_answer fitting
    bytes-refused h k = ap print_answer (fits h ∙ cond-true (ltb bytes (length out)) (more_bytes (length out)) (whole out) (lt-ltb bytes (length out) k))

    pub printed-whole : words_needed c ≤ words → length out ≤ bytes → told ≡ Printed (length out)
    unfolding print_answer fitting
    printed-whole h k = ap print_answer (fits h ∙ cond-false (ltb bytes (length out)) (more_bytes (length out)) (whole out) (le-ltb bytes (length out) k))

    -- 9, 10 or the bytes
    abbrev Answers : Answer → Type 0
    Answers = Answered (words_needed c) (length out) words bytes

    pub formed_answered : Answers told
    formed_answered = by (dec_lt words (words_needed c)) (dec_lt bytes (length out))
      where
        by : Dec (words < words_needed c) → Dec (bytes < length out) → Answers told
        by (yes h) d = subst Answers (sym (words-refused h)) (few_words h)
        by (no h) (yes k) = let l : words_needed c ≤ words = omega arith in subst Answers (sym (bytes-refused l k)) (few_bytes l k)
        by (no h) (no k) =
            let l : words_needed c ≤ words = omega arith in
            let m : length out ≤ bytes = omega arith in
            subst Answers (sym (printed-whole l m)) (enough l m)

  -- 8 is for tables that are not well formed alone
  pub refused-malformed : (p : ℕ) → told ≡ Refused 8 p → well_formed text I S O A c ≡ false
  refused-malformed p e = by_cases (well_formed text I S O A c) (λ ok. absurd (other_than_eight (formed_answered ok) (ap number_of e))) (λ f. f)
