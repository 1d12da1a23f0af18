-- No two different reports satisfy the contract of a call that lexes as the text arrives, nor do two different contents of the words lent to it.
-- Assumes nothing.
use Prim.Native.Nat.{ℕ}
use mathlib.Core.Path.{◌≡◌, sym, ◌∙◌}
use mathlib.Core.List.{List}
use Rattle.stream.specs.declared.Stream.{Stream}
use Rattle.stream.specs.Words.{Leads, Starts, Parts, end_report}

leads_alike : {s : Stream} {w told₁ told₂ w₁ w₂ : List ℕ} → Leads s w told₁ w₁ → Leads s w told₂ w₂ → (told₁ ≡ told₂) × (w₁ ≡ w₂)
leads_alike x y = (x.reports ∙ sym y.reports, x.words ∙ sym y.words)

pub one_lex_start : {w told₁ told₂ w₁ w₂ : List ℕ} → Starts w told₁ w₁ → Starts w told₂ w₂ → (told₁ ≡ told₂) × (w₁ ≡ w₂)
one_lex_start x y = leads_alike x y

pub one_lex_part : (part : List ℕ) {w told₁ told₂ w₁ w₂ : List ℕ} → Parts part w told₁ w₁ → Parts part w told₂ w₂ → (told₁ ≡ told₂) × (w₁ ≡ w₂)
one_lex_part part x y = leads_alike x y

pub one_lex_end : (w : List ℕ) {told₁ told₂ : List ℕ} → told₁ ≡ end_report w → told₂ ≡ end_report w → told₁ ≡ told₂
one_lex_end w x y = x ∙ sym y
