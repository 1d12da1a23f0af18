-- The lines of rows, and what items print as, by their pieces, and how long they are at most.
-- Assumes nothing.
use mathlib.Core.Path.{◌≡◌, refl, sym, ap, ◌∙◌}
use mathlib.Core.List.{List, [], ◌∷◌, ◌++◌, map, append-nil, append_assoc}
use Prim.Native.Nat.{ℕ, ◌*◌, ◌^◌, ◌≤◌, ◌<◌}
use native.Mathlib.Omega.{arith}
use lib.ListN.{length, length-append}
use Rattle.rules.specs.Out.{joined}
use Rattle.rules.specs.Syntax as syntax
use Rattle.rules.specs.View.{statement_of}
use Rattle.rules.specs.Printing.{line, lines, first_closing, second_closing, laid}
use Rattle.rules.specs.Meaning.{All}
use Rattle.proof_tails.proofs.Tails.{line-tail, lines-tail, first-closing-tail}
use Rattle.lines.proofs.Lines.{line-short}
use Rattle.printer.specs.Rows.{lines_of}
use Rattle.printer.specs.Contract.{Prepared}

module _ (text S O A : List ℕ) where
  -- the lines of rows are the line of the first and those of the others
  lines_of-cons : (i : ℕ) (rows : List ℕ) → lines_of text S O A (i ∷ rows) ≡ line (statement_of text S O A i) [] ++ lines_of text S O A rows
  unfolding lines_of
  lines_of-cons i rows = line-tail (statement_of text S O A i) (lines (map (statement_of text S O A) rows) [])

  lines_of_none : lines_of text S O A [] ≡ []
  unfolding lines_of
  lines_of_none = refl

  pub lines_of-joined : (rows : List ℕ) → lines_of text S O A rows ≡ joined (map (λ i. line (statement_of text S O A i) []) rows)
  lines_of-joined [] = lines_of_none
  lines_of-joined (i ∷ rows) = lines_of-cons i rows ∙ ap (λ (l : List ℕ). line (statement_of text S O A i) [] ++ l) (lines_of-joined rows)

  pub lines_of-append : (xs ys : List ℕ) → lines_of text S O A (xs ++ ys) ≡ lines_of text S O A xs ++ lines_of text S O A ys
  lines_of-append [] ys = ap (λ (l : List ℕ). l ++ lines_of text S O A ys) (sym lines_of_none)
  lines_of-append (i ∷ xs) ys =
      let one = line (statement_of text S O A i) [] in
      lines_of-cons i (xs ++ ys)
      ∙ ap (λ (l : List ℕ). one ++ l) (lines_of-append xs ys)
      ∙ sym (append_assoc one (lines_of text S O A xs) (lines_of text S O A ys))
      ∙ ap (λ (l : List ℕ). l ++ lines_of text S O A ys) (sym (lines_of-cons i xs))

  -- each line has at most 2^35 bytes
  module _ (s : ℕ) (w : List ℕ) (p : Prepared text S O s w) where
    pub lines_of-short : (rows : List ℕ) → All (λ j. j < s) rows → length (lines_of text S O A rows) ≤ 2 ^ 35 * length rows
    lines_of-short [] a = omega (arith, ap length lines_of_none)
    lines_of-short (i ∷ rows) a =
        omega (
          arith,
          ap length (lines_of-cons i rows),
          length-append (line (statement_of text S O A i) []) (lines_of text S O A rows),
          line-short text p.short S O A i (p.operands i a.0) (p.attributes i a.0),
          lines_of-short rows a.1,
        )

-- an item's text
pub laid-joined : (t u : List syntax.Statement) (c : syntax.Closing) → laid t u c [] ≡ joined (lines t [] ∷ first_closing c [] ∷ lines u [] ∷ second_closing c [] ∷ [])
laid-joined t u c =
    lines-tail t (first_closing c (lines u (second_closing c [])))
    ∙ ap (λ (l : List ℕ). lines t [] ++ l)
    (first-closing-tail c (lines u (second_closing c []))
    ∙ ap (λ (l : List ℕ). first_closing c [] ++ l) (lines-tail u (second_closing c []) ∙ ap (λ (l : List ℕ). lines u [] ++ l) (sym (append-nil (second_closing c [])))))
