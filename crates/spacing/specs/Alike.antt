-- Two read calls that answer alike: both 0 with the same counts and the same items, or both the same number at the same token.
-- Assumes nothing.
use Rattle.std.specs.Prelude.{ℕ, ◌-◌, ◌≡◌, List, length}
use Rattle.rules.specs.declared.Entry.{Entry}
use Rattle.rules.specs.declared.Token.{Token}
use Rattle.rules.specs.declared.Lexed.TheVariants.{Found, End, Refused}
use Rattle.rules.specs.Answer.{Answer}
use Rattle.rules.specs.Syntax.{Item}
use Rattle.rules.specs.Tokens.{nth}
use Rattle.rules.specs.View.{items_of}
use Rattle.rules.specs.Printing.{printed_all}
use Rattle.rules.specs.Answers.{Reads, read_report, refusal_report}

-- a read call, whatever it answered: the text, the tables lent to it, its answer, and the tables as it left them
pub record AnyCall (e : Entry) : Type 0 where
  pub text : List ℕ
  pub I : List ℕ
  pub S : List ℕ
  pub O : List ℕ
  pub A : List ℕ
  pub answer : Answer
  pub I' : List ℕ
  pub S' : List ℕ
  pub O' : List ℕ
  pub A' : List ℕ
  pub reads : Reads e text I S O A answer I' S' O' A'

-- the first n items that its tables say
abbrev pub said_by : {e : Entry} → AnyCall e → ℕ → List Item
said_by c n = items_of c.text c.I' c.S' c.O' c.A' n

-- what two calls answer, by their reports
pub data SameAnswer {e : Entry} (c d : AnyCall e) : List ℕ → List ℕ → Type 0 where
  both_read : (i s o a : ℕ) → said_by c i ≡ said_by d i → printed_all (said_by c i) ≡ printed_all (said_by d i) → SameAnswer c d (read_report i s o a) (read_report i s o a)
  at_token : (n i : ℕ) (s t : Token) → nth c.text i ≡ Found s → nth d.text i ≡ Found t → SameAnswer c d (refusal_report n s.first) (refusal_report n t.first)
  at_fault : (i p q : ℕ) → nth c.text i ≡ Refused p → nth d.text i ≡ Refused q → SameAnswer c d (refusal_report 3 p) (refusal_report 3 q)
  at_end : (i : ℕ) → nth c.text i ≡ End → nth d.text i ≡ End → SameAnswer c d (refusal_report 4 (length c.text - 1)) (refusal_report 4 (length d.text - 1))
