use mathlib.Core.Path.{◌≡◌, refl, sym, ◌∙◌}
use Prim.Native.Nat.{◌≤◌}
use borrow.Author.Rules.{rules}
use Rattle.std.specs.Prelude.{Err, Result, Option}
use Rattle.rules.specs.declared.Spot.{Spot}
use Rattle.parser.specs.declared.fault.Fault.{Fault}
use Rattle.parser.specs.Stands.{world}
use Rattle.parser.proofs.Chains as chain
use Rattle.parser.proofs.Nexts.{kind-known, looks-ahead, looks_token, looks_end, looks_fault}
use Rattle.parser.proofs.Parser.lookahead.Goals as goal

pub returns-in-Some-clause-runs : goal.returns-in-Some-clause-runs
returns-in-Some-clause-runs c = chain.stays _ (sym (looks-ahead _ _ c.in-Some.is))

pub returns-in_err-t-clause-runs : goal.returns-in_err-t-clause-runs
returns-in_err-t-clause-runs c =
    let f = c.in_err-t.field-0.0 in
    let h : ◌≡◌ {A = Result (Option Spot) Fault} c.from_residual.result (Err f) = search rules in
    rw h (chain.stays _ (sym (looks_fault _ c.in_default.is f (sym c.lexed.ensures ∙ c.in_err-t.was))))

pub returns-in_default-2-clause-runs : goal.returns-in_default-2-clause-runs
returns-in_default-2-clause-runs c = chain.stays _ (sym (looks_end _ c.in_default.is (sym c.lexed.ensures ∙ c.in_ok-t.was ∙ rw c.in_default-2.is refl)))

pub invariant_of-self : goal.invariant_of-self
invariant_of-self c =
    let k : 1 ≤ c.in-Some-2.t.kind = kind-known _ _ _ (sym c.in_ok-t.was ∙ c.lexed.ensures) c.in-Some-2.is in
    record { seen = λ x e. let same : c.in-Some-2.t ≡ x = cc in rw (← same) k }

pub returns-clause-runs : goal.returns-clause-runs
unfolding world
returns-clause-runs c = chain.moves c.args.self.now _ (sym (looks_token c.args.self.now c.in_default.is _ (sym c.lexed.ensures ∙ c.in_ok-t.was ∙ rw c.in-Some-2.is refl)))
