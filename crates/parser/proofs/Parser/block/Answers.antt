use mathlib.Core.Path.{refl, sym, ◌∙◌}
use Rattle.rules.specs.Reading as R
use Rattle.rules.specs.World.{give, refuse}
use Rattle.parser.proofs.Chains as chain
use Rattle.parser.proofs.Scope.{is_block_lem, no_block_lem}
use Rattle.parser.proofs.Parser.block.Goals as goal

pub returns-in_default-clause-runs : goal.returns-in_default-clause-runs
unfolding R.block R.block_at
returns-in_default-clause-runs c =
    chain.then _ _ c.in_ok-t.was c.expect.ensures.runs
    (chain.sees _ _ (sym c.in_default.is ∙ (c.in_scope.ensures (chain.ready_then c.in_ok-t.was c.expect.ensures.runs c.requires))) (chain.alike {a = refuse _ _} refl (chain.refuses _ _ _ c.new.ensures.what c.new.ensures.at)))

pub returns-then-code_of-eq-BLOCK-clause-runs : goal.returns-then-code_of-eq-BLOCK-clause-runs
unfolding R.block
returns-then-code_of-eq-BLOCK-clause-runs c =
    chain.then _ _ c.in_ok-t.was c.expect.ensures.runs
    (chain.sees _ _ (sym c.in-Some.is ∙ (c.in_scope.ensures (chain.ready_then c.in_ok-t.was c.expect.ensures.runs c.requires)))
    (chain.alike {a = give _} (is_block_lem _ _ (c.in_scope.ensures (chain.ready_then c.in_ok-t.was c.expect.ensures.runs c.requires)) c.in-Some.is c.code_of.ensures c.if-code_of-eq-BLOCK.true) (chain.gives _ _ _ refl)))

pub returns-clause-runs : goal.returns-clause-runs
unfolding R.block
returns-clause-runs c =
    chain.then _ _ c.in_ok-t.was c.expect.ensures.runs
    (chain.sees _ _ (sym c.in-Some.is ∙ (c.in_scope.ensures (chain.ready_then c.in_ok-t.was c.expect.ensures.runs c.requires)))
    (chain.alike {a = refuse _ _} (no_block_lem _ _ (c.in_scope.ensures (chain.ready_then c.in_ok-t.was c.expect.ensures.runs c.requires)) c.in-Some.is c.code_of.ensures c.if-code_of-eq-BLOCK.false) (chain.refuses _ _ _ c.new-2.ensures.what c.new-2.ensures.at)))
