-- `prints::naming::name` meets its contract.
-- Assumes nothing.
use mathlib.Core.Path.{refl, ap}
use native.Mathlib.Omega.{arith}
use Rattle.rules.specs.declared.Span.{Span}
use Rattle.rules.specs.Rows.{letters_of}
use Rattle.prints.proofs.Names.{part_lies}
use Rattle.prints.proofs.naming.name.Goals as goal

pub slice_bounds-result-count : goal.slice_bounds-result-count
slice_bounds-result-count c = let lies = part_lies _ _ _ _ _ _ _ c.name_part-part.ensures in omega (arith, lies.forth, lies.inside)

pub slice_bounds-result-start : goal.slice_bounds-result-start
slice_bounds-result-start c = let lies = part_lies _ _ _ _ _ _ _ c.name_part-part.ensures in omega (arith, lies.forth, lies.inside)

pub slice_bounds-result-end : goal.slice_bounds-result-end
slice_bounds-result-end c = let lies = part_lies _ _ _ _ _ _ _ c.name_part-part.ensures in omega (arith, lies.forth, lies.inside)

pub returns : goal.returns
returns c =
    let text = c.args.text in
    let part = c.name_part-part.ensures in
    record {
      block = refl;
      place = let first = ap (λ (s : Span). s.first) part in omega arith;
      letters = ap (letters_of text.now) part;
    }
