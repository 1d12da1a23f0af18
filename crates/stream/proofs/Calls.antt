-- The calls over lent words, told by their contracts: start, any parts and end report the definition of the parts joined; so any two cuts are alike, and where no
-- token is too long it is the lexing of the whole.
-- Assumes nothing.
use Prim.Native.Nat.{ℕ, ◌≤◌}
use mathlib.Core.Path.{◌≡◌, refl, sym, ap, ◌∙◌}
use mathlib.Core.List.{List, [], ◌∷◌}
use native.Mathlib.Omega.{arith}
use borrow.Author.Tests.{le-ltb}
use lib.ListN.{length}
use Rattle.rules.specs.Streamed.{found, streamed, whole, Short, joined, lex_report_of}
use Rattle.stream.specs.declared.Stream.{Stream}
use Rattle.stream.specs.Steps.{fed_all, ended}
use Rattle.stream.specs.Words.{encoded, decoded, kept, tells, Leads, Starts, Parts, end_report}
use Rattle.stream.proofs.Streams.{parts_streamed, short-whole}

-- from the words w, parts one after another lead to the words u
pub data Fed : List ℕ → List (List ℕ) → List ℕ → Type 0 where
  none : {w : List ℕ} → Fed w [] w
  more : {w v u told p : List ℕ} {ps : List (List ℕ)} → Parts p w told v → Fed v ps u → Fed w (p ∷ ps) u

enough : (s : Stream) (w : List ℕ) → 14 ≤ length w → 14 ≤ length (kept s w)
unfolding kept encoded
enough s w h = rw (le-ltb (length w) 14 h) (omega arith)

still : {s : Stream} {w told v : List ℕ} → Leads s w told v → 14 ≤ length w → 14 ≤ length v
still {s} {w} x h = rw x.words (enough s w h)

fed_calls : {w u : List ℕ} {ps : List (List ℕ)} → Fed w ps u → 14 ≤ length w → (14 ≤ length u) × (decoded u ≡ fed_all (decoded w) ps)
fed_calls none h = (h, refl)
fed_calls (more {ps = ps} x f) h =
    let r = fed_calls f (still x h) in
    (r.0, r.1 ∙ ap (λ (s : Stream). fed_all s ps) (x.back h))

end_told : (u : List ℕ) → 14 ≤ length u → end_report u ≡ lex_report_of (ended (decoded u))
unfolding end_report tells
end_told u h = rw (le-ltb (length u) 14 h)

pub calls_streamed : {w told v u r : List ℕ} (ps : List (List ℕ)) → 14 ≤ length w → Starts w told v → Fed v ps u → r ≡ end_report u → r ≡ lex_report_of (streamed (joined ps))
calls_streamed {u = u} ps h s f e =
    let q = fed_calls f (still s h) in
    e
    ∙ end_told u q.0
    ∙ ap (λ (x : Stream). lex_report_of (ended x)) (q.1 ∙ ap (λ (x : Stream). fed_all x ps) (s.back h))
    ∙ ap lex_report_of (parts_streamed ps)

-- however a text is cut, and whatever words are lent
pub calls_alike : {w t v u r w' t' v' u' r' : List ℕ} (ps qs : List (List ℕ)) → joined ps ≡ joined qs
    → 14 ≤ length w → Starts w t v → Fed v ps u → r ≡ end_report u
    → 14 ≤ length w' → Starts w' t' v' → Fed v' qs u' → r' ≡ end_report u'
    → r ≡ r'
calls_alike ps qs e h s f x h' s' f' x' =
    calls_streamed ps h s f x ∙ ap (λ (text : List ℕ). lex_report_of (streamed text)) e ∙ sym (calls_streamed qs h' s' f' x')

pub calls_whole : {w told v u r : List ℕ} (ps : List (List ℕ)) → Short (found (joined ps))
    → 14 ≤ length w → Starts w told v → Fed v ps u → r ≡ end_report u → r ≡ lex_report_of (whole (joined ps))
calls_whole ps short h s f x = calls_streamed ps h s f x ∙ ap lex_report_of (short-whole (joined ps) short)
