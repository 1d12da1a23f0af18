-- The numbers that a text gives: integers of 128 bits, those of a field, and widths of types.
-- Assumes nothing.
use Prim.Native.Nat.{ℕ, ◌^◌, ◌≤◌, ◌<◌}
use mathlib.Core.Path.{◌≡◌, refl}
use mathlib.Core.List.{List}
use native.Mathlib.Omega.{arith}
use lib.Dec.{eqb}
use Rattle.rules.specs.declared.Spot.{Spot}
use Rattle.rules.specs.Faults as fault
use Rattle.rules.specs.Tokens as kind
use Rattle.rules.specs.Integers.{Read, number, refused, fits, integer, type_width}
use Rattle.rules.specs.World.{Stand, Tables, asks}
use Rattle.rules.specs.Reading as R
use Rattle.rules.specs.Reading.{letters}
use Rattle.bynames.proofs.AcceptedTokens.{integer_gives, fits_gives, width_gives}
use Rattle.simulation.proofs.Tokens.{world}
use Rattle.accepted.proofs.Going.{Sits, Reads, reads, refuses, read_then, read_either, look_reads, token-reads, expect-reads}

module _ {text : List ℕ} {f : ℕ} (t : Tables) where
  valued-reads : (Q : ℕ → Type 0) (r : Read) → ((c : ℕ) → r ≡ number c → Q c) → (n : ℕ) (x : Spot) (s : Stand) → Sits text s → Reads text f t Q (R.valued r n x (world text f s t))
  unfolding R.valued
  valued-reads Q (number c) h n x s z = reads c s z (h c refl)
  valued-reads Q refused h n x s z = refuses n x

  pub int-reads : (s : Stand) → Sits text s → Reads text f t (λ c. c < 2 ^ 128) (R.int (world text f s t))
  unfolding R.int asks
  int-reads s z =
      read_then _ (expect-reads t kind.int s z) (λ x v y q.
      valued-reads (λ c. c < 2 ^ 128) (integer (letters text x)) (integer_gives (letters text x)) fault.integer x v y)

  pub field-reads : (width : ℕ) (s : Stand) → Sits text s → Reads text f t (λ c. c < 2 ^ width) (R.int_field width (world text f s t))
  unfolding R.int_field asks
  field-reads width s z =
      read_then _ (int-reads s z) (λ n v y q.
      valued-reads (λ c. c < 2 ^ width) (fits width (number n)) (fits_gives width (number n)) fault.integer v.last v y)

  pub type_reads : (s : Stand) → Sits text s → Reads text f t (λ c. c ≤ 65535) (R.type (world text f s t))
  unfolding R.type asks
  type_reads s z =
      read_then _ (expect-reads t kind.ident s z) (λ x v y q.
      valued-reads (λ c. c ≤ 65535) (type_width (letters text x)) (λ c e. let h = width_gives (letters text x) c e in omega arith) fault.token x v y)

  pub typing-reads : (s : Stand) → Sits text s → Reads text f t (λ c. c ≤ 65535) (R.type_if_any (world text f s t))
  unfolding R.type_if_any
  typing-reads s z =
      read_then _ (look_reads t s z) (λ x v y q.
      read_either (eqb x.kind kind.colon) _ _ (world text f v t)
      (λ e. read_then _ (token-reads t v y) (λ x' v' y' q'. type_reads v' y'))
      (λ e. reads 0 v y (omega arith)))
