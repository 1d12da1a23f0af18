-- `reader::sides::keyword_side` meets its contract.
-- Assumes nothing.
use Rattle.std.proofs.Common.{rules}
use Rattle.reader.proofs.Firsts.{no_side, no_word}
use Rattle.reader.proofs.sides.keyword_side.Goals as goal
use Rattle.reader.proofs.sides.keyword_side.Goals.{in_default-via-in-Some+in_default, in_default-via-in_default}

pub returns-in_default-clause-runs : goal.returns-in_default-clause-runs
returns-in_default-clause-runs c =
    elim c.in_default.branch [
      | in_default-via-in-Some+in_default w ↦ rw w.in_default.is (no_side c.args.p.now w.in_default.field-0 (search rules) (search rules) (search rules) (search rules) (search rules))
      | in_default-via-in_default w ↦ rw w.in_default.is (no_word c.args.p.now)
    ]
