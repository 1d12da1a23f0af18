-- `keep` meets its contract: the words are the state's, and they are the state.
-- Assumes nothing.
use mathlib.Core.Path.{ap, ◌∙◌}
use Rattle.stream.specs.Words.{low_of, decoded}
use Rattle.stream.proofs.Kept.{state-words, state-back}
use Rattle.stream.proofs.words.keep.Goals as goal

pub returns : goal.returns
returns c =
    let s = c.args.s in
    let p = c.put.ensures in
    let a = c.counted-seen.ensures in
    let t = c.counted-tokens.ensures in
    let m = c.from-m.ensures in
    let q = c.from-q.ensures in
    record {
      words = p ∙ state-words s _ _ _ _ _ a.value t.value m.0 q.0;
      back = ap decoded p ∙ state-back s _ _ _ _ _ (ap low_of a.value ∙ a.fits) (ap low_of t.value ∙ t.fits) m.1 q.1;
    }
