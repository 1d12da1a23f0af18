-- An answer of 0 to a read, and tables that say some items.
-- Assumes nothing.
use Rattle.std.specs.Prelude.{ℕ, ◌≡◌, List}
use Rattle.rules.specs.Answer.{Answer}
use Rattle.rules.specs.Syntax.{Item}
use Rattle.rules.specs.View.{items_of}
use Rattle.rules.specs.Answers.{report_of, read_report}

pub record Accepts (text : List ℕ) (r : Answer) (I' S' O' A' : List ℕ) (xs : List Item) : Type 0 where
  pub items : ℕ
  pub statements : ℕ
  pub operands : ℕ
  pub attributes : ℕ
  pub tells : report_of r ≡ read_report items statements operands attributes
  pub says : items_of text I' S' O' A' items ≡ xs
