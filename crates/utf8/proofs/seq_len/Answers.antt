use mathlib.Core.Path.{refl, sym, ◌∙◌}
use native.Mathlib.Omega.{arith}
use Rattle.rules.specs.Utf8.{seq_len}
use Rattle.laws.proofs.Runs.{empty}
use Rattle.utf8.proofs.Rows.{in_row, in_no_row}
use borrow.Author.Rules.{rules}
use Rattle.utf8.proofs.seq_len.Goals as goal

pub returns-then-is_empty-clause-length : goal.returns-then-is_empty-clause-length
unfolding seq_len
returns-then-is_empty-clause-length c = rw (empty c.args.s.now (search rules))

pub returns-in-224-clause-length : goal.returns-in-224-clause-length
returns-in-224-clause-length c = c.sequence.ensures.length ∙ sym (in_row 2 _ _ _ _ refl refl refl (search rules) (omega arith) (omega arith))

pub returns-in-237-clause-length : goal.returns-in-237-clause-length
returns-in-237-clause-length c = c.sequence-in-237.ensures.length ∙ sym (in_row 4 _ _ _ _ refl refl refl (search rules) (omega arith) (omega arith))

pub returns-in-240-clause-length : goal.returns-in-240-clause-length
returns-in-240-clause-length c = c.sequence-in-240.ensures.length ∙ sym (in_row 6 _ _ _ _ refl refl refl (search rules) (omega arith) (omega arith))

pub returns-in-244-clause-length : goal.returns-in-244-clause-length
returns-in-244-clause-length c = c.sequence-in-244.ensures.length ∙ sym (in_row 8 _ _ _ _ refl refl refl (search rules) (omega arith) (omega arith))

pub returns-in-0-to-127-clause-length : goal.returns-in-0-to-127-clause-length
returns-in-0-to-127-clause-length c = sym (in_row 0 _ _ _ _ refl refl refl (search rules) (omega arith) (omega arith))

pub returns-in-194-to-223-clause-length : goal.returns-in-194-to-223-clause-length
returns-in-194-to-223-clause-length c = c.sequence-in-194-to-223.ensures.length ∙ sym (in_row 1 _ _ _ _ refl refl refl (search rules) (omega arith) (omega arith))

pub returns-in-225-to-236-clause-length : goal.returns-in-225-to-236-clause-length
returns-in-225-to-236-clause-length c = c.sequence-in-225-to-236.ensures.length ∙ sym (in_row 3 _ _ _ _ refl refl refl (search rules) (omega arith) (omega arith))

pub returns-in-238-to-239-clause-length : goal.returns-in-238-to-239-clause-length
returns-in-238-to-239-clause-length c = c.sequence-in-238-to-239.ensures.length ∙ sym (in_row 5 _ _ _ _ refl refl refl (search rules) (omega arith) (omega arith))

pub returns-in-241-to-243-clause-length : goal.returns-in-241-to-243-clause-length
returns-in-241-to-243-clause-length c = c.sequence-in-241-to-243.ensures.length ∙ sym (in_row 7 _ _ _ _ refl refl refl (search rules) (omega arith) (omega arith))

pub returns-in_default-clause-length : goal.returns-in_default-clause-length
returns-in_default-clause-length c = sym (in_no_row 1 0x80 0xC1 _ refl refl refl (search rules) (omega arith) (omega arith))

pub returns-in_default-2-clause-length : goal.returns-in_default-2-clause-length
returns-in_default-2-clause-length c = sym (in_no_row 9 0xF5 0xFF _ refl refl refl (search rules) (omega arith) (omega (arith, c.shared_slice_known-2-1.given 0)))
