use mathlib.Core.List.{List}
use mathlib.Core.Path.{ap, ◌∙◌}
use Prim.Native.Nat.{ℕ}
use borrow.Author.Rules.{rules}
use Rattle.rules.specs.Integers.{fits, positive, unsigned}
use Rattle.wide.specs.Wide.{bits, as_field}
use Rattle.wide.proofs.Signed.{type-other, type_bad, type_is, kept}
use Rattle.wide.proofs.reading.type_width.Goals as goal

pub returns-in_err-digits : goal.returns-in_err-digits
returns-in_err-digits c =
    ap as_field c.from_residual.ensures ∙ type-other c.args.s.now c.in_err-digits.ensures.cases

pub returns-in_err-magnitude : goal.returns-in_err-magnitude
returns-in_err-magnitude c =
    let h = c.in_ok-digits.ensures.cases in
    ap as_field c.from_residual-in_err-magnitude.ensures
    ∙ type_bad c.args.s.now h.0 (c.in_err-magnitude.ensures ∙ ap (λ (l : List ℕ). fits 128 (unsigned l)) h.1)

pub returns : goal.returns
returns c =
    let h = c.in_ok-digits.ensures.cases in
    kept _ _ (λ x t q. search rules) c.filter.ensures ∙ ap positive c.fits-width.ensures
    ∙ type_is c.args.s.now h.0 (bits c.in_ok-magnitude.field-0) (c.in_ok-magnitude.ensures ∙ ap (λ (l : List ℕ). fits 128 (unsigned l)) h.1)
