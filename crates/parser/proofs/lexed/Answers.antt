-- `parser::lexed` meets its contract: a place in a text of at most 65,536 bytes fits a word.
-- Assumes nothing.
use mathlib.Core.Path.{sym, ap, ◌∙◌}
use native.Mathlib.Omega.{arith}
use Rattle.laws.proofs.Tokens.{found_within, refused-within}
use Rattle.parser.specs.Next.{next_of}
use Rattle.parser.proofs.lexed.Goals as goal

pub overflow_cast-result : goal.overflow_cast-result
overflow_cast-result c =
    let within = found_within _ _ (sym c.next_token.ensures ∙ c.in-Found.is) in
    omega (arith, within.1.0, within.1.1, c.args.text.short)

pub overflow_cast-result-in-Found : goal.overflow_cast-result-in-Found
overflow_cast-result-in-Found c =
    let within = found_within _ _ (sym c.next_token.ensures ∙ c.in-Found.is) in
    omega (arith, within.1.1, c.args.text.short)

pub overflow_cast-result-in-Refused : goal.overflow_cast-result-in-Refused
overflow_cast-result-in-Refused c = omega (arith, (refused-within _ _ (sym c.next_token.ensures ∙ c.in-Refused.is)).1, c.args.text.short)

pub overflow_cast-result-in-Refused-2 : goal.overflow_cast-result-in-Refused-2
overflow_cast-result-in-Refused-2 c = omega (arith, (refused-within _ _ (sym c.next_token.ensures ∙ c.in-Refused.is)).1, c.args.text.short)

pub returns-in-Found : goal.returns-in-Found
unfolding next_of
returns-in-Found c = sym (ap next_of (sym c.next_token.ensures ∙ c.in-Found.is))

pub returns-in-End : goal.returns-in-End
unfolding next_of
returns-in-End c = sym (ap next_of (sym c.next_token.ensures ∙ c.in-End.is))

pub returns-in-Refused : goal.returns-in-Refused
unfolding next_of
returns-in-Refused c = sym (ap next_of (sym c.next_token.ensures ∙ c.in-Refused.is))
