use mathlib.Core.Path.{◌≡◌, refl, sym, ◌∙◌}
use borrow.Author.Rules.{rules}
use Rattle.std.specs.Prelude.{Err, Result}
use Rattle.rules.specs.declared.Spot.{Spot}
use Rattle.parser.specs.declared.fault.Fault.{Fault}
use Rattle.parser.specs.Stands.{world}
use Rattle.parser.proofs.Chains as chain
use Rattle.parser.proofs.Nexts.{takes-ahead, takes_token, takes_end, takes_fault}
use Rattle.parser.proofs.Parser.token.Goals as goal

pub returns-in-Some-clause-runs : goal.returns-in-Some-clause-runs
unfolding world
returns-in-Some-clause-runs c = chain.moves c.args.self.now _ (sym (takes-ahead c.args.self.now _ c.in-Some.is))

pub returns-in_err-t-clause-runs : goal.returns-in_err-t-clause-runs
returns-in_err-t-clause-runs c =
    let f = c.in_err-t.field-0.0 in
    let h : ◌≡◌ {A = Result Spot Fault} c.from_residual.result (Err f) = search rules in
    rw h (chain.stays _ (sym (takes_fault _ c.in_default.is f (sym c.lexed.ensures ∙ c.in_err-t.was))))

pub returns-in_default-2-clause-runs : goal.returns-in_default-2-clause-runs
returns-in_default-2-clause-runs c =
    let e = takes_end _ c.in_default.is (sym c.lexed.ensures ∙ c.in_ok-t.was ∙ rw c.in_default-2.is refl) in
    chain.stays _ (rw (c.new.ensures.what, c.new.ensures.at, c.last_byte.ensures) (sym e))

pub returns-clause-runs : goal.returns-clause-runs
unfolding world
returns-clause-runs c = chain.moves c.args.self.now _ (sym (takes_token c.args.self.now c.in_default.is _ (sym c.lexed.ensures ∙ c.in_ok-t.was ∙ rw c.in-Some-2.is refl)))
