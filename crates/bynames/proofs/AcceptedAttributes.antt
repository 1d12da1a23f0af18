-- What the reader gives is well formed: attributes of both sorts.
-- Assumes nothing.
use mathlib.Core.Path.{refl}
use mathlib.Core.List.{List}
use Prim.Native.Nat.{ℕ, zero, suc, ◌<◌, ◌^◌}
use lib.Dec.{eqb}
use lib.ListN.{length, drop}
use borrow.Author.Tests.{eqb-true}
use Rattle.rules.specs.Bytes.{bytes, count, same, bit}
use Rattle.rules.specs.Tokens as T
use Rattle.rules.specs.Syntax.{known_bits, power_of_two, negative, non_negative, non_zero, has_external_uses, sign_bits, range, demanded_bits, harvested_from_use, Statement}
use Rattle.rules.specs.Meaning.{All}
use Rattle.bynames.proofs.WellFormed.{AttributeOk, RootAttributeOk}
use Rattle.bynames.proofs.Reader as R
use Rattle.bynames.proofs.Reader.{State, P}
use Rattle.bynames.proofs.AcceptedTokens.{Told, pattern_of_lem, count-each}
use Rattle.bynames.proofs.AcceptedParts.{Ok, seq, either, In, Seen, Gives, look_ok, demand_ok, expect-ok, int_ok, field-ok}

module _ {A : Type 0} (Q : A → Type 0) (s : List Statement) where
  closed-ok : (a : A) → Q a → (w : State) → In s w → Ok (Gives s Q) (R.closed a w)
  closed-ok a q w i = seq (Gives s (Told T.close_paren)) (Gives s Q) (R.expect T.close_paren w) _ (expect-ok T.close_paren s w i) (λ u w₁ g. (g.0, q))

  equals-ok : (p : P A) → ((w : State) → In s w → Ok (Gives s Q) (p w)) → (w : State) → In s w → Ok (Gives s Q) (R.after_equals p w)
  equals-ok p f w i = seq (Gives s (Told T.equals)) (Gives s Q) (R.expect T.equals w) _ (expect-ok T.equals s w i) (λ u w₁ g. f w₁ g.0)

  pub attributes-ok : (one : P A) → ((w : State) → In s w → Ok (Gives s Q) (one w)) → (fuel : ℕ) (w : State) → In s w → Ok (Gives s (All Q)) (R.attributes one fuel w)
  unfolding R.attributes
  attributes-ok one f zero w i = tt
  attributes-ok one f (suc fuel) w i =
      seq (Seen s) (Gives s (All Q)) (R.look w) _ (look_ok s w i)
      (λ t w₁ i₁.
      either (Gives s (All Q)) (eqb t.kind T.open_paren) _ _ w₁
      (λ e.
      seq (Gives s Q) (Gives s (All Q)) (one w₁) _ (f w₁ i₁)
      (λ a w₂ g₂. seq (Gives s (All Q)) (Gives s (All Q)) (R.attributes one fuel w₂) _ (attributes-ok one f fuel w₂ g₂.0) (λ l w₃ g₃. (g₃.0, (g₂.1, g₃.1)))))
      (λ e. (i₁, tt)))

module _ (s : List Statement) where
  counted-ok : (w : State) → In s w → Ok (Gives s AttributeOk) (R.counted w)
  unfolding R.counted
  counted-ok w i =
      seq (Gives s (λ c. c < 2 ^ 8)) (Gives s AttributeOk) (R.field 8 w) _ (field-ok 8 s w i) (λ n w₁ g. closed-ok AttributeOk s (sign_bits n) g.1 w₁ g.0)

  bounds_ok : (w : State) → In s w → Ok (Gives s AttributeOk) (R.bounds w)
  unfolding R.bounds
  bounds_ok w i =
      seq (Gives s (Told T.open_bracket)) (Gives s AttributeOk) (R.expect T.open_bracket w) _ (expect-ok T.open_bracket s w i)
      (λ u w₁ g₁.
      seq (Gives s (λ c. c < 2 ^ 128)) (Gives s AttributeOk) (R.int w₁) _ (int_ok s w₁ g₁.0)
      (λ a w₂ g₂.
      seq (Gives s (Told T.comma)) (Gives s AttributeOk) (R.expect T.comma w₂) _ (expect-ok T.comma s w₂ g₂.0)
      (λ u w₃ g₃.
      seq (Gives s (λ c. c < 2 ^ 128)) (Gives s AttributeOk) (R.int w₃) _ (int_ok s w₃ g₃.0)
      (λ b w₄ g₄.
      seq (Gives s (Told T.close_paren)) (Gives s AttributeOk) (R.expect T.close_paren w₄) _ (expect-ok T.close_paren s w₄ g₄.0)
      (λ u w₅ g₅. closed-ok AttributeOk s (range a b) (g₂.1, g₄.1) w₅ g₅.0)))))

  named_ok : (l : List ℕ) (w : State) → In s w → Ok (Gives s AttributeOk) (R.attribute_of l w)
  unfolding R.attribute_of
  named_ok l w i =
      either (Gives s AttributeOk) (same l (bytes "powerOfTwo")) _ _ w (λ e. closed-ok AttributeOk s power_of_two tt w i)
      (λ e.
      either (Gives s AttributeOk) (same l (bytes "negative")) _ _ w (λ e. closed-ok AttributeOk s negative tt w i)
      (λ e.
      either (Gives s AttributeOk) (same l (bytes "nonNegative")) _ _ w (λ e. closed-ok AttributeOk s non_negative tt w i)
      (λ e.
      either (Gives s AttributeOk) (same l (bytes "nonZero")) _ _ w (λ e. closed-ok AttributeOk s non_zero tt w i)
      (λ e.
      either (Gives s AttributeOk) (same l (bytes "hasExternalUses")) _ _ w (λ e. closed-ok AttributeOk s has_external_uses tt w i)
      (λ e.
      either (Gives s AttributeOk) (same l (bytes "signBits")) _ _ w (λ e. equals-ok AttributeOk s R.counted counted-ok w i)
      (λ e. either (Gives s AttributeOk) (same l (bytes "range")) _ _ w (λ e. equals-ok AttributeOk s R.bounds bounds_ok w i) (λ e. tt)))))))

  pub attribute-ok : (w : State) → In s w → Ok (Gives s AttributeOk) (R.attribute w)
  unfolding R.attribute
  attribute-ok w i =
      seq (Gives s (Told T.open_paren)) (Gives s AttributeOk) (R.expect T.open_paren w) _ (expect-ok T.open_paren s w i)
      (λ u w₁ g₁.
      seq (Gives s (λ t. Told t.kind t.letters)) (Gives s AttributeOk) (R.demand w₁) _ (demand_ok s w₁ g₁.0)
      (λ t w₂ g₂.
      either (Gives s AttributeOk) (eqb t.kind T.known_bits) _ _ w₂
      (λ e. closed-ok AttributeOk s (known_bits (drop 10 t.letters)) (g₂.1.pattern (eqb-true t.kind T.known_bits e)) w₂ g₂.0)
      (λ e. either (Gives s AttributeOk) (eqb t.kind T.ident) _ _ w₂ (λ e. named_ok t.letters w₂ g₂.0) (λ e. tt))))

  demanded_ok : (w : State) → In s w → Ok (Gives s RootAttributeOk) (R.demanded_pattern w)
  unfolding R.demanded_pattern
  demanded_ok w i =
      seq (Gives s (Told T.int)) (Gives s RootAttributeOk) (R.expect T.int w) _ (expect-ok T.int s w i)
      (λ l w₁ g₁.
      either (Gives s RootAttributeOk) (eqb (count bit l) (length l)) _ _ w₁
      (λ e. closed-ok RootAttributeOk s (demanded_bits l) (pattern_of_lem bit l (g₁.1.some refl) (count-each bit l (eqb-true (count bit l) (length l) e))) w₁ g₁.0)
      (λ e. tt))

  pub root_attribute_ok : (w : State) → In s w → Ok (Gives s RootAttributeOk) (R.root_attribute w)
  unfolding R.root_attribute
  root_attribute_ok w i =
      seq (Gives s (Told T.open_paren)) (Gives s RootAttributeOk) (R.expect T.open_paren w) _ (expect-ok T.open_paren s w i)
      (λ u w₁ g₁.
      seq (Gives s (Told T.ident)) (Gives s RootAttributeOk) (R.expect T.ident w₁) _ (expect-ok T.ident s w₁ g₁.0)
      (λ l w₂ g₂.
      either (Gives s RootAttributeOk) (same l (bytes "harvestedFromUse")) _ _ w₂ (λ e. closed-ok RootAttributeOk s harvested_from_use tt w₂ g₂.0)
      (λ e. either (Gives s RootAttributeOk) (same l (bytes "demandedBits")) _ _ w₂ (λ e. equals-ok RootAttributeOk s R.demanded_pattern demanded_ok w₂ g₂.0) (λ e. tt))))
