-- The instructions' names: each is found at its place, and is no keyword of a right side.
-- Assumes nothing.
use mathlib.Core.Path.{◌≡◌, refl, sym, ◌∙◌}
use mathlib.Core.Bool.{Bool, true, false, not, ◌&&◌}
use mathlib.Core.List.{List, [], ◌∷◌}
use Prim.Native.Nat.{ℕ, zero, suc, ◌+◌, ◌<◌}
use native.Mathlib.Nat.{le_of_suc-le-suc, not-suc-le-zero, add-zero, zero-add, suc-add, add-suc}
use lib.Dec.{eqb}
use lib.ListN.{length, get_or}
use borrow.Author.Tests.{eqb-true, not-true}
use Rattle.rules.specs.Bytes.{bytes, same}
use Rattle.rules.specs.Instructions.{Instruction, instructions, instruction_name, instruction_of, ◌takes◌}
use Rattle.laws.proofs.Tests.{and_left, and_right}

unfoldable apart : List ℕ → Bool
apart w = not (same w (bytes "var")) && (not (same w (bytes "block")) && (not (same w (bytes "phi")) && (not (same w (bytes "reservedinst")) && not (same w (bytes "reservedconst")))))

abbrev in_place : List Instruction → ℕ → Bool
in_place [] p = true
in_place (i ∷ l) p = (eqb (instruction_of i.name) p && apart i.name) && in_place l (suc p)

in_place_lem : (l : List Instruction) (p : ℕ) (d : Instruction) (k : ℕ) → in_place l p ≡ true → k < length l → (instruction_of (get_or l k d).name ≡ p + k) × (apart (get_or l k d).name ≡ true)
in_place_lem [] p d k e h = absurd (not-suc-le-zero h)
in_place_lem (i ∷ l) p d zero e h =
    let f = and_left (eqb (instruction_of i.name) p && apart i.name) (in_place l (suc p)) e in
    (eqb-true (instruction_of i.name) p (and_left (eqb (instruction_of i.name) p) (apart i.name) f) ∙ sym (add-zero p), and_right (eqb (instruction_of i.name) p) (apart i.name) f)
in_place_lem (i ∷ l) p d (suc k) e h =
    let f = in_place_lem l (suc p) d k (and_right (eqb (instruction_of i.name) p && apart i.name) (in_place l (suc p)) e) (le_of_suc-le-suc h) in
    (f.0 ∙ suc-add p k ∙ sym (add-suc p k), f.1)

all_in_place : in_place instructions 0 ≡ true
unfolding instruction_of apart same
all_in_place = refl

pub record InstructionWord (k : ℕ) (w : List ℕ) : Type 0 where
  pub place : instruction_of w ≡ k
  pub no_var : same w (bytes "var") ≡ false
  pub no_block : same w (bytes "block") ≡ false
  pub no_phi : same w (bytes "phi") ≡ false
  pub no_inst : same w (bytes "reservedinst") ≡ false
  pub no_const : same w (bytes "reservedconst") ≡ false

pub instruction-word : (k : ℕ) → k < 59 → InstructionWord k (instruction_name k)
unfolding instruction_name apart
instruction-word k h =
    let f = in_place_lem instructions 0 ("" takes 0) k all_in_place h in
    let w : List ℕ = (get_or instructions k ("" takes 0)).name in
    let a = and_right (not (same w (bytes "var"))) _ f.1 in
    let b = and_right (not (same w (bytes "block"))) _ a in
    let c = and_right (not (same w (bytes "phi"))) _ b in
    record {
      place = f.0 ∙ zero-add k;
      no_var = not-true _ (and_left (not (same w (bytes "var"))) _ f.1);
      no_block = not-true _ (and_left (not (same w (bytes "block"))) _ a);
      no_phi = not-true _ (and_left (not (same w (bytes "phi"))) _ b);
      no_inst = not-true _ (and_left (not (same w (bytes "reservedinst"))) _ c);
      no_const = not-true _ (and_right (not (same w (bytes "reservedinst"))) _ c);
    }
