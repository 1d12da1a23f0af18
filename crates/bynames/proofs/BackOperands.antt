-- Reading back: types and operands.
-- Assumes nothing.
use mathlib.Core.Path.{◌≡◌, refl}
use mathlib.Core.Bool.{Bool, true, false, cond, ◌||◌}
use mathlib.Core.List.{List, [], ◌∷◌}
use Prim.Native.Nat.{ℕ, suc}
use native.Mathlib.Omega.{arith}
use lib.Dec.{eqb}
use lib.ListN.{length}
use Rattle.rules.specs.Bytes.{inside, digit, letter, name_byte, count, same}
use Rattle.rules.specs.Integers.{decimal, type_width}
use Rattle.rules.specs.Tokens as T
use Rattle.rules.specs.Syntax.{Typing, untyped, typed, Operand, value, constant, Statement, flat, of_operand}
use Rattle.rules.specs.Listing.{has}
use Rattle.rules.specs.Printing.{number, typing, operand, further, operands}
use Rattle.rules.specs.Meaning.{All}
use Rattle.laws.proofs.Members.{all_left, all_right}
use Rattle.bynames.proofs.WellFormed.{TypingOk, OperandOk, Known}
use Rattle.bynames.proofs.Tokens.{Stops}
use Rattle.bynames.proofs.Pieces.{name-token, word-token, int-token, colon-token, comma-token}
use Rattle.bynames.proofs.Decimals.{decimal-printed, width_printed}
use Rattle.bynames.proofs.Reader as R
use Rattle.bynames.proofs.Reader.{go, at}
use Rattle.bynames.proofs.Steps.{step, looks, expects, over_space, int-reads, Ends, comma-ends}

-- ---- types
pub stops_digit : (r : List ℕ) → Stops name_byte r → Stops digit r
unfolding name_byte
stops_digit [] s = refl
stops_digit (b ∷ r) s = by (digit b) (letter b) s
  where
    by : (d l : Bool) → cond (l || (d || (eqb b 95 || eqb b 46))) (suc (count name_byte r)) 0 ≡ 0 → cond d (suc (count digit r)) 0 ≡ 0
    by false l e = refl
    by true true e = absurd (let z : ⊥ = omega arith in z)
    by true false e = absurd (let z : ⊥ = omega arith in z)

pub typing_stops : (y : Typing) (r : List ℕ) → Stops name_byte r → Stops name_byte (typing y r)
unfolding name_byte letter digit inside
typing_stops untyped r h = h
typing_stops (typed w) r h = refl

width_reads : (t : List Statement) (w : ℕ) (r : List ℕ) → TypingOk (typed w) → Ends r
    → R.◌>>=◌ (R.expect T.ident) (λ l. R.width (type_width l)) (at t (105 ∷ number w r)) ≡ go (typed w) (at t r)
unfolding letter inside same
width_reads t w r l b =
    let p = width_printed w l.0 l.1 in
    step _ (expects t (word-token 105 (decimal w) r refl p.each refl b.stops)) (rw p.reads)

pub typing-reads : (t : List Statement) (y : Typing) (r : List ℕ) → TypingOk y → Ends r → R.typing (at t (typing y r)) ≡ go y (at t r)
unfolding R.typing
typing-reads t untyped r l b = step _ (b.sees t) (rw b.colon)
typing-reads t (typed w) r l b = step _ (looks t (colon-token (105 ∷ number w r))) (step _ (expects t (colon-token (105 ∷ number w r))) (width_reads t w r l b))

-- ---- operands
pub operand-reads : (t : List Statement) (o : Operand) (r : List ℕ) → OperandOk o → Known t (of_operand o) → Ends r → R.operand (at t (operand o r)) ≡ go o (at t r)
unfolding R.operand
operand-reads t (value n) r l k b =
    let e = name-token n r l b.stops in
    step _ (looks t e) (step _ (expects t e) (rw k.0))
operand-reads t (constant c y) r l k b =
    let e = int-token (decimal c) (typing y r) (decimal-printed c l.0).token (stops_digit (typing y r) (typing_stops y r b.stops)) in
    step _ (looks t e)
    (step _ (int-reads t c (typing y r) l.0 (stops_digit (typing y r) (typing_stops y r b.stops))) (step _ (typing-reads t y r l.1 b) refl))

pub further-ends : (l : List Operand) (r : List ℕ) → Ends r → Ends (further l r)
further-ends [] r b = b
further-ends (o ∷ l) r b = comma-ends (operand o (further l r))

pub further-read : (t : List Statement) (l : List Operand) (r : List ℕ) → All OperandOk l → Known t (flat of_operand l) → Ends r
    → R.further (length l) (at t (further l r)) ≡ go l (at t r)
unfolding R.further
further-read t [] r a k b = refl
further-read t (o ∷ l) r a k b =
    step _ (expects t (comma-token (32 ∷ operand o (further l r))))
    (step _ (over_space R.operand t (operand o (further l r)) (operand-reads t o (further l r) a.0 (all_left (λ m. has m t ≡ true) (of_operand o) (flat of_operand l) k) (further-ends l r b)))
    (step _ (further-read t l r a.1 (all_right (λ m. has m t ≡ true) (of_operand o) (flat of_operand l) k) b) refl))

pub operands-read : (t : List Statement) (l : List Operand) (r : List ℕ) → All OperandOk l → Known t (flat of_operand l) → Ends r
    → R.operands (length l) (at t (operands l r)) ≡ go l (at t r)
unfolding R.operands
operands-read t [] r a k b = refl
operands-read t (o ∷ l) r a k b =
    step _ (over_space R.operand t (operand o (further l r)) (operand-reads t o (further l r) a.0 (all_left (λ m. has m t ≡ true) (of_operand o) (flat of_operand l) k) (further-ends l r b)))
    (step _ (further-read t l r a.1 (all_right (λ m. has m t ≡ true) (of_operand o) (flat of_operand l) k) b) refl)

pub operands-stop : (l : List Operand) (r : List ℕ) → Ends r → Stops name_byte (operands l r)
unfolding name_byte letter digit inside
operands-stop [] r b = b.stops
operands-stop (o ∷ l) r b = refl
