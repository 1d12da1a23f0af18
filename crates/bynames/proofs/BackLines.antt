-- Reading back: lines of assignments, up to the word behind them.
-- Assumes nothing.
use mathlib.Core.Path.{◌≡◌, refl, ◌∙◌}
use mathlib.Core.Bool.{false}
use mathlib.Core.List.{List, [], ◌∷◌, ◌++◌}
use Prim.Native.Nat.{ℕ, zero, suc, ◌+◌, ◌≤◌, ◌<◌}
use native.Mathlib.Omega.{arith}
use lib.ListN.{length}
use Rattle.rules.specs.Bytes.{bytes, inside, digit, letter, name_byte, same}
use Rattle.rules.specs.Integers.{decimal}
use Rattle.rules.specs.Instructions.{instruction_name}
use Rattle.rules.specs.Tokens as T
use Rattle.rules.specs.Syntax.{Typing, untyped, typed, Operand, value, constant, RightSide, var, block, phi, reservedinst, reservedconst, instruction, Assignment, Statement, assignment, pc, blockpc, onto}
use Rattle.rules.specs.Printing.{feed, typing, operand, further, operands, side, attribute, attributes, line, lines}
use Rattle.rules.specs.Meaning.{All}
use Rattle.bynames.proofs.WellFormed.{AttributeOk, AssignmentOk, Fits, Wf}
use Rattle.bynames.proofs.Tokens.{found, token, token-space}
use Rattle.bynames.proofs.Pieces.{name-token, equals-token}
use Rattle.bynames.proofs.Reader as R
use Rattle.bynames.proofs.Reader.{go, at, ahead, fuel_of}
use Rattle.bynames.proofs.Steps.{step, looks, expects, over_space, Shut, equals-ends}
use Rattle.bynames.proofs.BackOperands.{typing_stops, typing-reads}
use Rattle.bynames.proofs.BackSides.{side-reads}
use Rattle.bynames.proofs.BackAttributes.{app_long, attributes-end, attributes-long, attributes-read, own_sort}

-- ---- what stands before a text is not shorter than it
typing-long : (y : Typing) (r : List ℕ) → length r ≤ length (typing y r)
typing-long untyped r = omega arith
typing-long (typed w) r = omega (arith, app_long (decimal w) r)

pub operand-long : (o : Operand) (r : List ℕ) → length r ≤ length (operand o r)
operand-long (value n) r = omega (arith, app_long n r)
operand-long (constant c y) r = omega (arith, app_long (decimal c) (typing y r), typing-long y r)

further-long : (l : List Operand) (r : List ℕ) → length r ≤ length (further l r)
further-long [] r = omega arith
further-long (o ∷ l) r = omega (arith, operand-long o (further l r), further-long l r)

operands-long : (l : List Operand) (r : List ℕ) → length r ≤ length (operands l r)
operands-long [] r = omega arith
operands-long (o ∷ l) r = omega (arith, operand-long o (further l r), further-long l r)

side-long : (q : RightSide) (r : List ℕ) → length r ≤ length (side q r)
side-long var r = omega arith
side-long (block k) r = omega (arith, app_long (decimal k) r)
side-long (phi b l) r = omega (arith, app_long b (further l r), further-long l r)
side-long reservedinst r = omega arith
side-long reservedconst r = omega arith
side-long (instruction k l) r = omega (arith, app_long (instruction_name k) (operands l r), operands-long l r)

-- ---- a line of an assignment
module _ (a : Assignment) (r : List ℕ) where
  -- what stands behind ' = ', and behind the name
  abbrev told : List ℕ
  told = side a.side (attributes attribute a.attributes (feed r))

  abbrev behind : List ℕ
  behind = typing a.typing (bytes " = " ++ told)

  line-long : suc (length r) ≤ length behind
  line-long =
      omega (
        arith,
        typing-long a.typing (bytes " = " ++ told),
        side-long a.side (attributes attribute a.attributes (feed r)),
        attributes-long attribute R.attribute AttributeOk own_sort a.attributes (feed r),
      )

  module _ (o : AssignmentOk a) where
    pub line-token : token (line (assignment a) r) ≡ found T.val_name a.name behind
    unfolding name_byte letter digit inside
    line-token = name-token a.name behind o.name (typing_stops a.typing (bytes " = " ++ told) refl)

    abbrev pub line_shut : Shut (line (assignment a) r)
    line_shut = record { tok = record { kind = T.val_name; letters = a.name }; sees = λ t. looks t line-token; colon = refl; paren = refl }

pub assigned_reads : (t : List Statement) (a : Assignment) (r : List ℕ) → Fits t (assignment a) → Shut r → R.assigned (at t (line (assignment a) r)) ≡ go (assignment a) (at (assignment a ∷ t) r)
unfolding R.assigned
assigned_reads t a r f b =
    step _ (expects t (line-token a r f.ok))
    (rw f.fresh
    (step _ (typing-reads t a.typing (bytes " = " ++ told a r) f.ok.typing (equals-ends (told a r)))
    (step _ (expects t (token-space (bytes "= " ++ told a r) ∙ equals-token (32 ∷ told a r)))
    (step _ (over_space R.right_side t (told a r) (side-reads t a.side (attributes attribute a.attributes (feed r)) f.ok.side f.known f.blocks (attributes-end attribute R.attribute AttributeOk own_sort a.attributes r b)))
    (step _ (attributes-read attribute R.attribute AttributeOk own_sort t a.attributes r f.ok.attributes b) refl)))))

-- ---- lines, up to a word that begins no statement
abbrev pub Plain : Statement → Type 0
Plain (assignment a) = Unit {0}
Plain (pc x y) = ⊥
Plain (blockpc b k x y) = ⊥

pub record Closes (r : List ℕ) : Type 0 where
  pub word : List ℕ
  pub behind : List ℕ
  pub lexed : token r ≡ found T.ident word behind
  pub no_pc : same word (bytes "pc") ≡ false
  pub no_blockpc : same word (bytes "blockpc") ≡ false

abbrev pub closes_shut : (r : List ℕ) → Closes r → Shut r
closes_shut r c = record { tok = record { kind = T.ident; letters = c.word }; sees = λ t. looks t c.lexed; colon = refl; paren = refl }

pub wf_below : (l t : List Statement) → Wf (onto l t) → Wf t
wf_below [] t w = w
wf_below (s ∷ l) t w = (wf_below l (s ∷ t) w).1

pub lines_shut : (l t : List Statement) → All Plain l → Wf (onto l t) → (r : List ℕ) → Shut r → Shut (lines l r)
lines_shut [] t p w r b = b
lines_shut (assignment a ∷ l) t p w r b = line_shut a (lines l r) (wf_below l (assignment a ∷ t) w).0.ok
lines_shut (pc x y ∷ l) t p w r b = absurd p.0
lines_shut (blockpc n k x y ∷ l) t p w r b = absurd p.0

pub lines_long : (l : List Statement) → All Plain l → (r : List ℕ) → length l + length r ≤ length (lines l r)
lines_long [] p r = omega arith
lines_long (assignment a ∷ l) p r = omega (arith, app_long a.name (behind a (lines l r)), line-long a (lines l r), lines_long l p.1 r)
lines_long (pc x y ∷ l) p r = absurd p.0
lines_long (blockpc n k x y ∷ l) p r = absurd p.0

lines_by : (l t : List Statement) → All Plain l → Wf (onto l t) → (r : List ℕ) → Closes r → (g : ℕ) → length l < g → R.statements g (at t (lines l r)) ≡ go l (at (onto l t) r)
unfolding R.statements
lines_by [] t p w r c zero h = absurd (let z : ⊥ = omega arith in z)
lines_by (s ∷ l) t p w r c zero h = absurd (let z : ⊥ = omega arith in z)
lines_by [] t p w r c (suc g) h = step _ (looks t c.lexed) (rw (c.no_pc, c.no_blockpc))
lines_by (assignment a ∷ l) t p w r c (suc g) h =
    let f = (wf_below l (assignment a ∷ t) w).0 in
    step _ (looks t (line-token a (lines l r) f.ok))
    (step _ (assigned_reads t a (lines l r) f (lines_shut l (assignment a ∷ t) p.1 w r (closes_shut r c)))
    (step _ (lines_by l (assignment a ∷ t) p.1 w r c g (omega arith)) refl))
lines_by (pc x y ∷ l) t p w r c (suc g) h = absurd p.0
lines_by (blockpc n k x y ∷ l) t p w r c (suc g) h = absurd p.0

enough : (l t : List Statement) → All Plain l → Wf (onto l t) → (r : List ℕ) → length l ≤ ahead (token (lines l r))
enough [] t p w r = omega arith
enough (assignment a ∷ l) t p w r =
    rw (line-token a (lines l r) (wf_below l (assignment a ∷ t) w).0.ok) (omega (arith, line-long a (lines l r), lines_long l p.1 r))
enough (pc x y ∷ l) t p w r = absurd p.0
enough (blockpc n k x y ∷ l) t p w r = absurd p.0

pub lines-read : (l t : List Statement) → All Plain l → Wf (onto l t) → (r : List ℕ) → Closes r → R.statements_here (at t (lines l r)) ≡ go l (at (onto l t) r)
lines-read l t p w r c = lines_by l t p w r c (fuel_of (at t (lines l r))) (omega (arith, enough l t p w r))
