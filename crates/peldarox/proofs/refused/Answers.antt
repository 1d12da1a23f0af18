use Rattle.peldarox.proofs.Endings.{zeros}
use Rattle.peldarox.proofs.refused.Goals as goal

pub returns : goal.returns
returns c = zeros _ _ (c.fill.ensures.after (λ y e. e)) (c.fill-2.ensures.after (λ y e. e)) (c.fill-3.ensures.after (λ y e. e)) (c.fill-4.ensures.after (λ y e. e))
