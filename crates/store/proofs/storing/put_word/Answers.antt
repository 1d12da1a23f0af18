-- `store::storing::put_word` meets its contract.
-- Assumes nothing.
use mathlib.Core.Path.{◌∙◌}
use Rattle.store.proofs.Bytes.{word_over}
use Rattle.store.proofs.storing.put_word.Goals as goal

pub returns : goal.returns
returns c = word_over c.args.out.now c.copy_from_slice.new.self c.args.at c.args.w c.requires (c.copy_from_slice.ensures.after ∙ c.to_le_bytes-bytes.ensures)
