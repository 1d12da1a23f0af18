-- What is printed before a tail is the print alone, followed by the tail; so texts of items, one after the other, are the print of them all.
-- Assumes nothing.
use Prim.Native.Nat.{ℕ, zero, suc, ◌+◌, ◌≤◌, ◌<◌}
use mathlib.Core.Path.{◌≡◌, refl, sym, ap, ◌∙◌}
use mathlib.Core.List.{List, [], ◌++◌, append_assoc}
use native.Mathlib.Omega.{arith}
use Rattle.rules.specs.Listing.{listed_before, listed_between}
use Rattle.rules.specs.Out.{joined}
use Rattle.rules.specs.Printing.{lines, first_closing, second_closing, laid, printed, printed_all}
use Rattle.rules.specs.Syntax.{Statement, Closing, Item}
use Rattle.rules.specs.View.{each}
use Rattle.proof_tails.proofs.Tails.{lines-tail, first-closing-tail, second-closing-tail}

-- a piece before a tail is the piece alone, followed by the tail
abbrev Tailed : (List ℕ → List ℕ) → Type 0
Tailed f = (r : List ℕ) → f r ≡ f [] ++ r

-- so are two pieces, one before the other
before : (f g : List ℕ → List ℕ) → Tailed f → Tailed g → Tailed (λ r. f (g r))
before f g tail tail' r =
    tail (g r)
    ∙ ap (λ (l : List ℕ). f [] ++ l) (tail' r)
    ∙ sym (append_assoc (f []) (g []) r)
    ∙ ap (λ (l : List ℕ). l ++ r) (sym (tail (g [])))

laid-tail : (t u : List Statement) (c : Closing) → Tailed (laid t u c)
laid-tail t u c =
    before (lines t) (λ r. first_closing c (lines u (second_closing c r))) (lines-tail t)
    (before (first_closing c) (λ r. lines u (second_closing c r)) (first-closing-tail c)
    (before (lines u) (second_closing c) (lines-tail u) (second-closing-tail c)))

printed-tail : (x : Item) → Tailed (printed x)
unfolding printed
printed-tail x = laid-tail (listed_before x) (listed_between x) x.closing

-- texts that are the prints of items
pub joined-printed : (f : ℕ → List ℕ) (g : ℕ → Item) (n a : ℕ) → ((k : ℕ) → a ≤ k → k < a + n → f k ≡ printed (g k) []) → joined (each f a n) ≡ printed_all (each g a n)
joined-printed f g zero a h = refl
joined-printed f g (suc n) a h =
    ap (λ (l : List ℕ). l ++ joined (each f (a + 1) n)) (h a (omega arith) (omega arith))
    ∙ ap (λ (l : List ℕ). printed (g a) [] ++ l) (joined-printed f g n (a + 1) (λ k l u. h k (omega arith) (omega arith)))
    ∙ sym (printed-tail (g a) (printed_all (each g (a + 1) n)))
