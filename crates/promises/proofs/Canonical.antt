-- Demand 3, equal bytes.
-- Any two texts that are read by the same entry point and accepted, whatever tables were lent, and printed, whatever work areas and outputs were lent: if xs and ys are
-- the items that the two texts are sentences of, the bytes that the two prints wrote are equal exactly when xs and ys mean the same.
-- Assumes nothing.
use mathlib.Core.Path.{◌≡◌}
use mathlib.Core.Logic.{◌↔◌}
use mathlib.Core.List.{List}
use Rattle.rules.specs.declared.Entry.{Entry}
use Rattle.rules.specs.Syntax.{Item}
use Rattle.rules.specs.Meaning.{SameMeanings}
use Rattle.rules.specs.Grammar.{Sentence}
use Rattle.rules.specs.Calls.{Print, written}
use Rattle.simulation.proofs.Calls.{calls_canonical}
use Rattle.grammar.proofs.Calls.{said_sentence}
use Rattle.promises.proofs.Calls.{written_is}

pub canonical : {e : Entry} (p q : Print e) (xs ys : List Item) → Sentence e p.call.text xs → Sentence e q.call.text ys → (written p ≡ written q) ↔ SameMeanings xs ys
canonical p q xs ys d c = rw (written_is p, written_is q, ← said_sentence p.call xs d, ← said_sentence q.call ys c) (calls_canonical p.call q.call)
