-- As many rows as the text has bytes are always enough.
-- With so many rows of each table a read never answers 7; and whatever other tables are lent, a read that does not answer 7 gives the same answer, number and place or
-- counts, and the same rows. So what a text is answered is the definition's, and the rows lent decide only whether it is 7.
-- Assumes nothing.
use Prim.Native.Nat.{ℕ}
use mathlib.Core.Path.{◌≡◌}
use mathlib.Core.List.{List}
use Rattle.rules.specs.declared.Entry.{Entry}
use Rattle.rules.specs.Answers.{Lent, refusal, reading}
use Rattle.rules.specs.Calls.{AsManyRows}
use Rattle.reading.proofs.Progress as progress
use Rattle.reading.proofs.Capacity.{NotSeven, Same, same_whatever_lent}

-- the promise
pub never_seven : (e : Entry) (text : List ℕ) (l : Lent) → AsManyRows text l → (p : ℕ) → reading e text l ≡ refusal 7 p → ⊥
never_seven e text l h = progress.never_seven e text l h.items h.statements h.operands h.attributes

pub same_answer : (e : Entry) (text : List ℕ) (l l' : Lent) → AsManyRows text l → NotSeven (reading e text l') → Same (reading e text l) (reading e text l')
same_answer e text l l' h = same_whatever_lent e text l l' (never_seven e text l h)
