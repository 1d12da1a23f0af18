-- How the check of a whole text goes on: past a run of ASCII, each byte of which is a sequence by itself, or past one sequence.
-- Assumes nothing.
use Prim.Native.Nat.{ℕ, zero, suc, ◌+◌, ◌-◌, ◌≤◌, ◌<◌}
use native.Mathlib.Nat.{zero-add, suc-add}
use native.Mathlib.Omega.{arith}
use mathlib.Core.Path.{◌≡◌, refl, sym, ap, ◌∙◌}
use mathlib.Core.Bool.{Bool, true, false}
use mathlib.Core.List.{List, [], ◌∷◌}
use lib.ListN.{length, get_or, drop, take, length-drop}
use lib.Seq.{drop-drop}
use borrow.Author.Tests.{leb-true, le-leb, eq-eqb, ne_eqb}
use Rattle.std.specs.Prelude.{Ok}
use Rattle.rules.specs.Bytes.{count, far}
use Rattle.rules.specs.Utf8.{seq_len, checked, bad_at}
use Rattle.laws.proofs.Runs.{rest, count-le, count_more, far_more, far-stop, far-end}
use Rattle.laws.proofs.Ranges.{seq_len-ascii}
use Rattle.laws.proofs.Within.{seq_len-le}
use Rattle.utf8.specs.Ascii.{ascii, Passes}

module _ (b : ℕ) (s : List ℕ) (more : far seq_len 0 s ≡ count ascii s + far seq_len 0 (drop (count ascii s) s)) where
  far_byte : (t : Bool) → ascii b ≡ t → far seq_len 0 (b ∷ s) ≡ count ascii (b ∷ s) + far seq_len 0 (drop (count ascii (b ∷ s)) (b ∷ s))
  unfolding ascii
  far_byte true e = rw (e, seq_len-ascii b s (leb-true b 0x7F e)) (ap suc more ∙ sym (suc-add _ _))
  far_byte false e = rw e (sym (zero-add _))

far-ascii : (s : List ℕ) → far seq_len 0 s ≡ count ascii s + far seq_len 0 (drop (count ascii s) s)
far-ascii [] = sym (zero-add _)
far-ascii (b ∷ s) = far_byte b s (far-ascii s) (ascii b) refl

module _ (s : List ℕ) where
  pub passes_none : length s < 1 → Passes s 0
  passes_none h = record { within = omega arith; onward = sym (zero-add _); some = λ _. far-end seq_len seq_len-le s 0 0 (omega arith) }

  pub passes_ascii : {n : ℕ} → 1 ≤ length s → get_or s 0 0 ≤ 0x7F → n ≡ count ascii s → Passes s n
  unfolding ascii
  passes_ascii {n} h k e =
      let m = count_more ascii s 0 h (le-leb (get_or s 0 0) 0x7F k) in
      record { within = rw e (count-le ascii s); onward = rw e (far-ascii s); some = λ z. absurd (omega arith) }

  onward_by : (n : ℕ) → n ≡ seq_len s → far seq_len 0 s ≡ n + far seq_len 0 (drop n s)
  onward_by zero e = sym (zero-add _)
  onward_by (suc n) e = rw zero-add at (far_more seq_len seq_len-le s 0 (suc n) (e ∙ ap seq_len (sym (rest s 0))) (omega arith))

  pub passes_seq : {n : ℕ} → n ≡ seq_len s → Passes s n
  passes_seq {n} e = record { within = rw e (seq_len-le s); onward = onward_by n e; some = far-stop seq_len seq_len-le s 0 n (e ∙ ap seq_len (sym (rest s 0))) }

-- the check of a text stands at i, and all before is well-formed
pub record Reached (text : List ℕ) (i : ℕ) : Type 0 where
  pub within : i ≤ length text
  pub onward : far seq_len 0 text ≡ i + far seq_len 0 (drop i text)

pub reached_none : (text : List ℕ) → Reached text 0
reached_none text = record { within = omega arith; onward = sym (zero-add _) }

module _ {text : List ℕ} {i : ℕ} (r : Reached text i) where
  pub reached-end : length text ≤ i → Ok tt ≡ checked text
  reached-end h =
      let e : far seq_len 0 text ≡ length text = omega (arith, r.within, r.onward, far-end seq_len seq_len-le text i 0 h) in
      rw (e, eq-eqb (length text) (length text) refl)

  -- n bytes of the rest that was lent pass
  module _ {n : ℕ} (p : Passes (take (length text - i) (drop i text)) n) where
    here : Passes (drop i text) n
    here = rw (rest text i) at p

    pub reached-within : n ≤ length text - i
    reached-within = rw (length-drop i text) at here.within

    pub reached_more : Reached text (i + n)
    reached_more =
        record {
          within = omega (arith, reached-within, r.within);
          onward = omega (arith, r.onward, rw (drop-drop n i text) at here.onward);
        }

    pub reached_bad : i < length text → n ≡ 0 → bad_at i ≡ checked text
    reached_bad h z =
        let e : far seq_len 0 text ≡ i = omega (arith, r.onward, here.some z) in
        rw (e, ne_eqb i (length text) (λ q. omega arith))
