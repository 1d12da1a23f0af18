-- `pieces::Source::put_attribute` meets its contract.
-- Assumes nothing.
use native.Mathlib.Omega.{arith}
use mathlib.Core.Path.{ap}
use mathlib.Core.List.{[]}
use Rattle.rules.specs.Syntax.{Attribute}
use Rattle.rules.specs.Printing.{attribute}
use Rattle.output.proofs.Words.{writes_as}
use Rattle.pieces.proofs.Seen.{known-bits-written, power_of_two_seen, negative-seen, non_negative_seen, non_zero_seen, has_external_uses_seen, sign_bits_seen, range-seen}
use Rattle.pieces.proofs.Source.put_attribute.Goals as goal

pub returns-in-1 : goal.returns-in-1
returns-in-1 c = writes_as (known-bits-written _ _ _ c.attribute_at-row.ensures c.in-1.is) c.put_pattern.ensures

pub returns-in-2 : goal.returns-in-2
returns-in-2 c = writes_as (ap (λ (a : Attribute). attribute a []) (power_of_two_seen _ _ _ c.attribute_at-row.ensures c.in-2.is)) c.put.ensures

pub returns-in-3 : goal.returns-in-3
returns-in-3 c = writes_as (ap (λ (a : Attribute). attribute a []) (negative-seen _ _ _ c.attribute_at-row.ensures c.in-3.is)) c.put-in-3.ensures

pub returns-in-4 : goal.returns-in-4
returns-in-4 c = writes_as (ap (λ (a : Attribute). attribute a []) (non_negative_seen _ _ _ c.attribute_at-row.ensures c.in-4.is)) c.put-in-4.ensures

pub returns-in-5 : goal.returns-in-5
returns-in-5 c = writes_as (ap (λ (a : Attribute). attribute a []) (non_zero_seen _ _ _ c.attribute_at-row.ensures c.in-5.is)) c.put-in-5.ensures

pub returns-in-6 : goal.returns-in-6
returns-in-6 c = writes_as (ap (λ (a : Attribute). attribute a []) (has_external_uses_seen _ _ _ c.attribute_at-row.ensures c.in-6.is)) c.put-in-6.ensures

pub returns-in-7 : goal.returns-in-7
returns-in-7 c = writes_as (ap (λ (a : Attribute). attribute a []) (sign_bits_seen _ _ _ c.attribute_at-row.ensures c.in-7.is)) c.put_sign_bits.ensures

pub returns-in_default : goal.returns-in_default
returns-in_default c = writes_as (ap (λ (a : Attribute). attribute a []) (range-seen _ _ _ c.attribute_at-row.ensures (λ e. omega (arith, e)) (λ e. omega (arith, e)) (λ e. omega (arith, e)) (λ e. omega (arith, e)) (λ e. omega (arith, e)) (λ e. omega (arith, e)) (λ e. omega (arith, e)))) c.put_range.ensures
