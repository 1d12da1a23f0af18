-- `single` meets its contract: each arm by the byte that it names.
-- Assumes nothing.
use Rattle.rules.specs.Tokens.{single}
use Rattle.laws.proofs.Tests.{nums}
use Rattle.lexer.proofs.token.single.Goals as goal

pub returns-in-44-clause-kind : goal.returns-in-44-clause-kind
unfolding single
returns-in-44-clause-kind c = rw c.in-44.is

pub returns-in-61-clause-kind : goal.returns-in-61-clause-kind
unfolding single
returns-in-61-clause-kind c = rw c.in-61.is

pub returns-in-58-clause-kind : goal.returns-in-58-clause-kind
unfolding single
returns-in-58-clause-kind c = rw c.in-58.is

pub returns-in-40-clause-kind : goal.returns-in-40-clause-kind
unfolding single
returns-in-40-clause-kind c = rw c.in-40.is

pub returns-in-41-clause-kind : goal.returns-in-41-clause-kind
unfolding single
returns-in-41-clause-kind c = rw c.in-41.is

pub returns-in-91-clause-kind : goal.returns-in-91-clause-kind
unfolding single
returns-in-91-clause-kind c = rw c.in-91.is

pub returns-in_default-clause-kind : goal.returns-in_default-clause-kind
unfolding single
returns-in_default-clause-kind c = search nums
