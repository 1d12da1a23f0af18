use mathlib.Core.Path.{◌≡◌, refl}
use borrow.Author.Rules.{rules}
use Rattle.std.specs.Prelude.{Err, Result, ℕ}
use Rattle.parser.specs.declared.fault.Fault.{Fault}
use mathlib.Core.Bool.{Bool, cond}
use Rattle.rules.specs.World.{P, ◌>>◌, give}
use Rattle.rules.specs.Reading as R
use Rattle.parser.proofs.Chains as chain
use Rattle.parser.proofs.Parser.type_if_any.Goals as goal

-- what is done by whether ':' comes next
abbrev by_colon : Bool → P ℕ
by_colon b = cond b (R.token >> R.type) (give 0)

pub returns-in_err-is_ahead-clause-runs : goal.returns-in_err-is_ahead-clause-runs
unfolding R.type_if_any
returns-in_err-is_ahead-clause-runs c =
    let h : ◌≡◌ {A = Result ℕ Fault} c.from_residual.result (Err c.in_err-is_ahead.field-0.0) = search rules in
    chain.by_kind _ by_colon (chain.ends _ _ _ c.in_err-is_ahead.was h c.is_ahead.ensures.runs)

pub returns-in_err-token-clause-runs : goal.returns-in_err-token-clause-runs
unfolding R.type_if_any
returns-in_err-token-clause-runs c =
    let h : ◌≡◌ {A = Result ℕ Fault} c.from_residual-in_err-token.result (Err c.in_err-token.field-0.0) = search rules in
    chain.by_kind _ by_colon (chain.then _ _ c.in_ok-is_ahead.was c.is_ahead.ensures.runs (chain.yes _ c.if-branch.true (chain.ends _ _ _ c.in_err-token.was h c.token.ensures.runs)))

pub returns-then-branch-clause-runs : goal.returns-then-branch-clause-runs
unfolding R.type_if_any
returns-then-branch-clause-runs c =
    chain.by_kind _ by_colon (chain.then _ _ c.in_ok-is_ahead.was c.is_ahead.ensures.runs (chain.yes _ c.if-branch.true (chain.then _ _ c.in_ok-token.was c.token.ensures.runs c.type_width.ensures.runs)))

pub returns-clause-runs : goal.returns-clause-runs
unfolding R.type_if_any
returns-clause-runs c = chain.by_kind _ by_colon (chain.then _ _ c.in_ok-is_ahead.was c.is_ahead.ensures.runs (chain.no _ c.if-branch.false (chain.gives _ _ _ refl)))
