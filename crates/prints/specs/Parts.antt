-- A part of a lent text, handed back and not copied.
-- Assumes nothing.
use Rattle.std.specs.Prelude.{ℕ, ◌+◌, ◌≡◌, List}
use Rattle.std.specs.Borrow.{Bor}
use Rattle.rules.specs.declared.Span.{Span}
use Rattle.rules.specs.Rows.{letters_of}

-- r refers to the bytes of a span of the text, where the text itself has them
pub record IsPart (text : Bor (List ℕ)) (s : Span) (r : Bor (List ℕ)) : Type 0 where
  pub block : r.ref_ptr.0 ≡ text.ref_ptr.0
  pub place : r.ref_ptr.1 ≡ text.ref_ptr.1 + s.first
  pub letters : r.now ≡ letters_of text.now s
