-- What the reader by names takes, the grammar says: attributes of both sorts.
-- Assumes nothing.
use mathlib.Core.Path.{◌≡◌, refl, subst}
use mathlib.Core.Bool.{true}
use mathlib.Core.List.{List, [], ◌∷◌, ◌++◌}
use Prim.Native.Nat.{ℕ, zero, suc}
use lib.Dec.{eqb}
use lib.ListN.{length, drop}
use borrow.Author.Tests.{eqb-true}
use Rattle.rules.specs.Bytes.{bytes, count, same, bit}
use Rattle.rules.specs.Integers.{fits, integer}
use Rattle.rules.specs.Tokens as T
use Rattle.rules.specs.Syntax as syntax
use Rattle.laws.proofs.Same.{same_true}
use Rattle.bynames.proofs.Tokens.{Next}
use Rattle.bynames.proofs.Reader as R
use Rattle.bynames.proofs.Reader.{State, P}
use Rattle.bynames.proofs.AcceptedTokens.{count-each}
use Rattle.bynames.proofs.AcceptedParts.{Ok, seq, either}
use Rattle.rules.specs.Grammar.{Token, ident, known_bits, int, comma, equals, open_paren, close_paren, open_bracket, word, Scope, AttributeInner, a_known_bits, power_of_two, is_negative, non_negative, non_zero, has_external_uses, sign_bits, in_range, RootAttributeInner, demanded_bits, harvested_from_use, Attributes, no_attributes, one_attribute}
use Rattle.grammar.proofs.Leads.{Leads, here, leads_on}
use Rattle.grammar.proofs.Sound.{Stays, Took, took, is_ident, is_int, is_comma, is_equals, is_open, is_close, is_bracket, seq_look, demand_sound, expect-sound, Number, int-sound, field-sound}

-- ---- an attribute: '(', what stands between, and ')'
pub record Enclosed {A : Type 0} (Inner : List Token → A → Type 0) (s : Scope) (n : Next) (a : A) (w : State) : Type 0 where
  pub scope : w.scope ≡ s
  pub inner : List Token
  pub leads : Leads n (open_paren ∷ (inner ++ (close_paren ∷ []))) w.next
  pub rule : Inner inner a

-- from a place over some tokens, and on
abbrev From : Next → List Token → State → Type 0
From n t w = (u : List Token) (m : Next) → Leads w.next u m → Leads n (t ++ u) m

module _ {A : Type 0} (Inner : List Token → A → Type 0) (s : Scope) (n : Next) where
  closed-sound : (a : A) (t : List Token) → Inner t a → (w : State) → w.scope ≡ s → From n (open_paren ∷ t) w → Ok (Enclosed Inner s n) (R.closed a w)
  closed-sound a t d w i f =
      seq (Took s w.next T.close_paren) (Enclosed Inner s n) (R.expect T.close_paren w) _ (expect-sound T.close_paren s w i)
      (λ u w₁ g. record { scope = g.scope; inner = t; leads = f (close_paren ∷ []) w₁.next (took close_paren is_close g here); rule = d })

module _ {A : Type 0} (Inner : List Token → A → Type 0) (s : Scope) (one : P A) (sound : (w : State) → w.scope ≡ s → Ok (Enclosed Inner s w.next) (one w)) where
  pub attributes-sound : (fuel : ℕ) (w : State) → w.scope ≡ s → Ok (Stays s w.next (Attributes Inner)) (R.attributes one fuel w)
  unfolding R.attributes
  attributes-sound zero w i = tt
  attributes-sound (suc fuel) w i =
      seq_look (Stays s w.next (Attributes Inner)) w _
      (λ t.
      either (Stays s w.next (Attributes Inner)) (eqb t.kind T.open_paren) _ _ w
      (λ e.
      seq (Enclosed Inner s w.next) (Stays s w.next (Attributes Inner)) (one w) _ (sound w i)
      (λ a w₁ g₁.
      seq (Stays s w₁.next (Attributes Inner)) (Stays s w.next (Attributes Inner)) (R.attributes one fuel w₁) _ (attributes-sound fuel w₁ g₁.scope)
      (λ l w₂ g₂. record {
        scope = g₂.scope;
        tokens = open_paren ∷ (g₁.inner ++ (close_paren ∷ g₂.tokens));
        leads = leads_on (open_paren ∷ g₁.inner) close_paren g₁.leads g₂.leads;
        rule = one_attribute g₁.rule g₂.rule;
      })))
      (λ e. record { scope = i; tokens = []; leads = here; rule = no_attributes }))

-- ---- behind '(' and a word
module _ (s : Scope) (n : Next) where
  abbrev Behind : List ℕ → State → Type 0
  Behind l w = From n (open_paren ∷ ident l ∷ []) w

  counted-sound : (w : State) → w.scope ≡ s → From n (open_paren ∷ word "signBits" ∷ equals ∷ []) w → Ok (Enclosed AttributeInner s n) (R.counted w)
  unfolding R.counted
  counted-sound w i f =
      seq (Number (λ l. fits 8 (integer l)) s w.next) (Enclosed AttributeInner s n) (R.field 8 w) _ (field-sound 8 s w i)
      (λ c w₁ g. closed-sound AttributeInner s n (syntax.sign_bits c) (word "signBits" ∷ equals ∷ int g.letters ∷ []) (sign_bits g.reads) w₁ g.took.scope
      (λ u m p. f (int g.letters ∷ u) m (took (int g.letters) is_int g.took p)))

  bounds-sound : (w : State) → w.scope ≡ s → From n (open_paren ∷ word "range" ∷ equals ∷ []) w → Ok (Enclosed AttributeInner s n) (R.bounds w)
  unfolding R.bounds
  bounds-sound w i f =
      seq (Took s w.next T.open_bracket) (Enclosed AttributeInner s n) (R.expect T.open_bracket w) _ (expect-sound T.open_bracket s w i)
      (λ x w₁ g₁.
      seq (Number integer s w₁.next) (Enclosed AttributeInner s n) (R.int w₁) _ (int-sound s w₁ g₁.scope)
      (λ a w₂ g₂.
      seq (Took s w₂.next T.comma) (Enclosed AttributeInner s n) (R.expect T.comma w₂) _ (expect-sound T.comma s w₂ g₂.took.scope)
      (λ x w₃ g₃.
      seq (Number integer s w₃.next) (Enclosed AttributeInner s n) (R.int w₃) _ (int-sound s w₃ g₃.scope)
      (λ b w₄ g₄.
      seq (Took s w₄.next T.close_paren) (Enclosed AttributeInner s n) (R.expect T.close_paren w₄) _ (expect-sound T.close_paren s w₄ g₄.took.scope)
      (λ x w₅ g₅.
      closed-sound AttributeInner s n (syntax.range a b) (word "range" ∷ equals ∷ open_bracket ∷ int g₂.letters ∷ comma ∷ int g₄.letters ∷ close_paren ∷ []) (in_range g₂.reads g₄.reads) w₅ g₅.scope
      (λ u m p.
      f (open_bracket ∷ int g₂.letters ∷ comma ∷ int g₄.letters ∷ close_paren ∷ u) m
      (took open_bracket is_bracket g₁ (took (int g₂.letters) is_int g₂.took (took comma is_comma g₃ (took (int g₄.letters) is_int g₄.took (took close_paren is_close g₅ p)))))))))))

  equals-sound : {A : Type 0} (Q : A → State → Type 0) (p : P A) (l : List ℕ) (w : State) → w.scope ≡ s → Behind l w
      → ((v : State) → v.scope ≡ s → From n (open_paren ∷ ident l ∷ equals ∷ []) v → Ok Q (p v)) → Ok Q (R.after_equals p w)
  equals-sound Q p l w i f k =
      seq (Took s w.next T.equals) Q (R.expect T.equals w) _ (expect-sound T.equals s w i)
      (λ x w₁ g. k w₁ g.scope (λ u m q. f (equals ∷ u) m (took equals is_equals g q)))

  -- a word alone
  alone : {A : Type 0} (Inner : List Token → A → Type 0) (a : A) (l k : List ℕ) → Inner (ident k ∷ []) a → same l k ≡ true → (w : State) → w.scope ≡ s → Behind l w → Ok (Enclosed Inner s n) (R.closed a w)
  alone Inner a l k d e w i f = closed-sound Inner s n a (ident k ∷ []) d w i (subst (λ (z : List ℕ). Behind z w) (same_true l k e) f)

  named-sound : (l : List ℕ) (w : State) → w.scope ≡ s → Behind l w → Ok (Enclosed AttributeInner s n) (R.attribute_of l w)
  unfolding R.attribute_of
  named-sound l w i f =
      either Q (same l (bytes "powerOfTwo")) _ _ w (λ e. alone AttributeInner syntax.power_of_two l (bytes "powerOfTwo") power_of_two e w i f)
      (λ e.
      either Q (same l (bytes "negative")) _ _ w (λ e. alone AttributeInner syntax.negative l (bytes "negative") is_negative e w i f)
      (λ e.
      either Q (same l (bytes "nonNegative")) _ _ w (λ e. alone AttributeInner syntax.non_negative l (bytes "nonNegative") non_negative e w i f)
      (λ e.
      either Q (same l (bytes "nonZero")) _ _ w (λ e. alone AttributeInner syntax.non_zero l (bytes "nonZero") non_zero e w i f)
      (λ e.
      either Q (same l (bytes "hasExternalUses")) _ _ w (λ e. alone AttributeInner syntax.has_external_uses l (bytes "hasExternalUses") has_external_uses e w i f)
      (λ e.
      either Q (same l (bytes "signBits")) _ _ w (λ e. equals-sound Q R.counted (bytes "signBits") w i (subst (λ (z : List ℕ). Behind z w) (same_true l (bytes "signBits") e) f) counted-sound)
      (λ e. either Q (same l (bytes "range")) _ _ w (λ e. equals-sound Q R.bounds (bytes "range") w i (subst (λ (z : List ℕ). Behind z w) (same_true l (bytes "range") e) f) bounds-sound) (λ e. tt)))))))
    where
      Q : syntax.Attribute → State → Type 0
      Q = Enclosed AttributeInner s n

  demanded_sound : (w : State) → w.scope ≡ s → From n (open_paren ∷ word "demandedBits" ∷ equals ∷ []) w → Ok (Enclosed RootAttributeInner s n) (R.demanded_pattern w)
  unfolding R.demanded_pattern
  demanded_sound w i f =
      seq (Took s w.next T.int) (Enclosed RootAttributeInner s n) (R.expect T.int w) _ (expect-sound T.int s w i)
      (λ l w₁ g.
      either (Enclosed RootAttributeInner s n) (eqb (count bit l) (length l)) _ _ w₁
      (λ e. closed-sound RootAttributeInner s n (syntax.demanded_bits l) (word "demandedBits" ∷ equals ∷ int l ∷ []) (demanded_bits (count-each bit l (eqb-true (count bit l) (length l) e))) w₁ g.scope
      (λ u m p. f (int l ∷ u) m (took (int l) is_int g p))) (λ e. tt))

pub attribute-sound : (s : Scope) (w : State) → w.scope ≡ s → Ok (Enclosed AttributeInner s w.next) (R.attribute w)
unfolding R.attribute
attribute-sound s w i =
    seq (Took s w.next T.open_paren) (Enclosed AttributeInner s w.next) (R.expect T.open_paren w) _ (expect-sound T.open_paren s w i)
    (λ x w₁ g₁.
    seq (λ t v. Took s w₁.next t.kind t.letters v) (Enclosed AttributeInner s w.next) (R.demand w₁) _ (demand_sound s w₁ g₁.scope)
    (λ t w₂ g₂.
    either (Enclosed AttributeInner s w.next) (eqb t.kind T.known_bits) _ _ w₂
    (λ e.
    closed-sound AttributeInner s w.next (syntax.known_bits (drop 10 t.letters)) (known_bits (drop 10 t.letters) ∷ []) a_known_bits w₂ g₂.scope
    (λ u m p. took open_paren is_open g₁ (took (known_bits (drop 10 t.letters)) (record { of = eqb-true t.kind T.known_bits e; by = refl }) g₂ p)))
    (λ e.
    either (Enclosed AttributeInner s w.next) (eqb t.kind T.ident) _ _ w₂
    (λ e.
    named-sound s w.next t.letters w₂ g₂.scope
    (λ u m p. took open_paren is_open g₁ (took (ident t.letters) (record { of = eqb-true t.kind T.ident e; by = refl }) g₂ p))) (λ e. tt))))

pub root_attribute_sound : (s : Scope) (w : State) → w.scope ≡ s → Ok (Enclosed RootAttributeInner s w.next) (R.root_attribute w)
unfolding R.root_attribute
root_attribute_sound s w i =
    seq (Took s w.next T.open_paren) (Enclosed RootAttributeInner s w.next) (R.expect T.open_paren w) _ (expect-sound T.open_paren s w i)
    (λ x w₁ g₁.
    seq (Took s w₁.next T.ident) (Enclosed RootAttributeInner s w.next) (R.expect T.ident w₁) _ (expect-sound T.ident s w₁ g₁.scope)
    (λ l w₂ g₂.
    either (Enclosed RootAttributeInner s w.next) (same l (bytes "harvestedFromUse")) _ _ w₂
    (λ e. alone s w.next RootAttributeInner syntax.harvested_from_use l (bytes "harvestedFromUse") harvested_from_use e w₂ g₂.scope (λ u m p. took open_paren is_open g₁ (took (ident l) is_ident g₂ p)))
    (λ e.
    either (Enclosed RootAttributeInner s w.next) (same l (bytes "demandedBits")) _ _ w₂
    (λ e.
    equals-sound s w.next (Enclosed RootAttributeInner s w.next) R.demanded_pattern (bytes "demandedBits") w₂ g₂.scope
    (λ u m p. took open_paren is_open g₁ (subst (λ (z : List ℕ). Leads w₁.next (ident z ∷ u) m) (same_true l (bytes "demandedBits") e) (took (ident l) is_ident g₂ p)))
    (demanded_sound s w.next)) (λ e. tt))))
