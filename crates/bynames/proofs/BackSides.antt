-- Reading back: right sides.
-- Assumes nothing.
use mathlib.Core.Path.{◌≡◌, refl, sym, ap, ◌∙◌}
use mathlib.Core.List.{List, ◌∷◌}
use Prim.Native.Nat.{ℕ, ◌<◌, ◌^◌}
use native.Mathlib.Nat.{le_trans}
use borrow.Author.Tests.{lt-ltb, leb-true}
use Rattle.rules.specs.Bytes.{bytes, inside, digit, letter, name_byte, same}
use Rattle.rules.specs.Syntax.{Name, Operand, RightSide, var, block, phi, reservedinst, reservedconst, instruction, Statement, flat, of_operand, of_side}
use Rattle.rules.specs.Printing.{name, number, further, operands, side}
use Rattle.bynames.proofs.WellFormed.{SideOk, Known, SideFits}
use Rattle.bynames.proofs.Tokens.{token-space}
use Rattle.bynames.proofs.Pieces.{name-token, is_word, is_word_lem, instruction-token}
use Rattle.bynames.proofs.InstructionWords.{instruction-word}
use Rattle.bynames.proofs.Reader as R
use Rattle.bynames.proofs.Reader.{go, at}
use Rattle.bynames.proofs.Steps.{step, expects, over_space, field-reads, Ends}
use Rattle.bynames.proofs.BackOperands.{stops_digit, further-ends, further-read, operands-read, operands-stop}

module _ (t : List Statement) (r : List ℕ) (b : Ends r) where
  var-reads : R.right_side (at t (side var r)) ≡ go var (at t r)
  unfolding R.right_side is_word letter name_byte digit inside same
  var-reads = step _ (expects t (is_word_lem (bytes "var") r refl b.stops)) refl

  reservedinst-reads : R.right_side (at t (side reservedinst r)) ≡ go reservedinst (at t r)
  unfolding R.right_side is_word letter name_byte digit inside same
  reservedinst-reads = step _ (expects t (is_word_lem (bytes "reservedinst") r refl b.stops)) refl

  reservedconst-reads : R.right_side (at t (side reservedconst r)) ≡ go reservedconst (at t r)
  unfolding R.right_side is_word letter name_byte digit inside same
  reservedconst-reads = step _ (expects t (is_word_lem (bytes "reservedconst") r refl b.stops)) refl

  block_reads : (k : ℕ) → k < 2 ^ 32 → R.right_side (at t (side (block k) r)) ≡ go (block k) (at t r)
  unfolding R.right_side is_word letter name_byte digit inside same
  block_reads k h =
      step _ (expects t (is_word_lem (bytes "block") (32 ∷ number k r) refl refl))
      (step _ (over_space (R.field 32) t (number k r) (field-reads 32 t k r refl h (le_trans h (leb-true (2 ^ 32) (2 ^ 128) refl)) (stops_digit r b.stops))) refl)

  phi-reads : (n : Name) (l : List Operand) → SideOk (phi n l) → Known t (of_side (phi n l)) → SideFits t (phi n l) → R.right_side (at t (side (phi n l) r)) ≡ go (phi n l) (at t r)
  unfolding R.right_side is_word letter name_byte digit inside same
  phi-reads n l o k f =
      step _ (expects t (is_word_lem (bytes "phi") (32 ∷ name n (further l r)) refl refl))
      (step _ (expects t (token-space (name n (further l r)) ∙ name-token n (further l r) o.0 (further-ends l r b).stops))
      (rw (k.0, f.0) (step _ (ap (λ (z : ℕ). R.further z (at t (further l r))) (sym f.1) ∙ further-read t l r o.1 k.1 b) refl)))

  instruction-reads : (i : ℕ) (l : List Operand) → SideOk (instruction i l) → Known t (flat of_operand l) → R.right_side (at t (side (instruction i l) r)) ≡ go (instruction i l) (at t r)
  unfolding R.right_side
  instruction-reads i l o k =
      let w = instruction-word i o.0 in
      step _ (expects t (instruction-token i (operands l r) o.0 (operands-stop l r b)))
      (rw (w.no_var, w.no_block, w.no_phi, w.no_inst, w.no_const, w.place, lt-ltb i 59 o.0)
      (step _ (ap (λ (z : ℕ). R.operands z (at t (operands l r))) (sym o.1) ∙ operands-read t l r o.2 k b) refl))

pub side-reads : (t : List Statement) (q : RightSide) (r : List ℕ) → SideOk q → Known t (of_side q) → SideFits t q → Ends r → R.right_side (at t (side q r)) ≡ go q (at t r)
side-reads t var r o k f b = var-reads t r b
side-reads t (block n) r o k f b = block_reads t r b n o
side-reads t (phi n l) r o k f b = phi-reads t r b n l o k f
side-reads t reservedinst r o k f b = reservedinst-reads t r b
side-reads t reservedconst r o k f b = reservedconst-reads t r b
side-reads t (instruction i l) r o k f b = instruction-reads t r b i l o k
