-- `arity` meets its contract.
-- Assumes nothing.
use mathlib.Core.Path.{ap, ◌∙◌}
use native.Mathlib.Omega.{arith}
use Rattle.rules.specs.Instructions.{arity_of}
use Rattle.rules.specs.WellFormed.{arity}
use Rattle.laws.proofs.Names.{arity-few}
use Rattle.wellformed.proofs.Clauses.{picks}
use Rattle.wellformed.proofs.Codes.{instruction-said}
use Rattle.wellformed.proofs.statement.arity.Goals as goal

pub overflow_cast-result : goal.overflow_cast-result
overflow_cast-result g c =
    let i = c.in-Some.instruction in
    omega (arith, c.arity.ensures, arity-few i.place i.in_table)

pub returns-in-Some : goal.returns-in-Some
unfolding arity
returns-in-Some g c =
    let i = c.in-Some.instruction in
    picks _ _ _ (instruction-said c.args.r.code i.place i.in_table c.in-Some.ensures) (c.arity.ensures ∙ ap arity_of (omega (arith, c.in-Some.ensures)))
