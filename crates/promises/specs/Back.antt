-- What a read of a printed text answers, and what it leaves.
-- Assumes nothing.
use Rattle.std.specs.Prelude.{ℕ, ◌≤◌, ◌≡◌, List, length, take}
use Rattle.rules.specs.declared.Entry.{Entry}
use Rattle.rules.specs.Answer.{Answer}
use Rattle.rules.specs.Syntax.{Item}
use Rattle.rules.specs.Meaning.{SameMeanings}
use Rattle.rules.specs.Grammar.{Sentence}
use Rattle.rules.specs.WellFormed.{counts}
use Rattle.rules.specs.Answers.{report_of, read_report, print_report}
use Rattle.rules.specs.Prints.{words_needed, Prints}

-- s is the printed text, and xs are the items of the text that was printed
module _ (e : Entry) (xs : List Item) (s : List ℕ) where
  -- every print of the tables, with words and bytes enough, is accepted and writes the same bytes
  abbrev pub PrintsAgain : List ℕ → List ℕ → List ℕ → List ℕ → ℕ → ℕ → ℕ → ℕ → Type 0
  PrintsAgain I S O A i s₁ o a = (work output : List ℕ) → words_needed (counts i s₁ o a) ≤ length work → length s ≤ length output
      → (r : Answer) (work' output' : List ℕ) → Prints s I S O A (counts i s₁ o a) work output r work' output' → (report_of r ≡ print_report (length s)) × (take (length s) output' ≡ s)

  -- the read is accepted; the text is a sentence, of items that mean what those of the first text mean; and it prints to itself
  pub record ReadsBack (r : Answer) (I S O A : List ℕ) : Type 0 where
    pub items : ℕ
    pub statements : ℕ
    pub operands : ℕ
    pub attributes : ℕ
    pub answers : report_of r ≡ read_report items statements operands attributes
    pub again : List Item
    pub sentence : Sentence e s again
    pub means : SameMeanings xs again
    pub prints : PrintsAgain I S O A items statements operands attributes
