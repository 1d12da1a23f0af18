-- A keyword told by its place, as the reading over rows tells it, is the keyword told by its letters.
-- Assumes nothing.
use Prim.Native.Nat.{ℕ, suc, ◌<◌}
use mathlib.Core.Path.{◌≡◌, refl, sym, ap, ◌∙◌}
use mathlib.Core.Bool.{Bool, true, false, cond, ◌&&◌}
use mathlib.Core.List.{List, [], ◌∷◌}
use native.Mathlib.Omega.{arith}
use borrow.Author.Tests.{eqb-true, eqb-false, ne_eqb}
use lib.Dec.{eqb}
use lib.ListN.{length, get_or}
use Rattle.rules.specs.Bytes.{same, count, bit}
use Rattle.rules.specs.Tokens as kind
use Rattle.rules.specs.Instructions.{keywords, keyword_of}
use Rattle.rules.specs.Reading.{keyword_at, letters, all_bits}
use Rattle.rules.specs.declared.Spot.{Spot}
use Rattle.laws.proofs.Cases.{by_cases, eqb_iff}
use Rattle.laws.proofs.Same.{eq_same, ne_same}
use Rattle.laws.proofs.Names.{keyword_place, keyword_named}

-- the keyword at a place
abbrev pub keyword_letters : ℕ → List ℕ
keyword_letters k = get_or keywords k []

module _ (k : ℕ) (h : k < 19) where
  pub keyword_same : (w : List ℕ) → eqb (keyword_of w) k ≡ same w (keyword_letters k)
  keyword_same w =
      by_cases (eqb (keyword_of w) k)
      (λ e.
      let p : keyword_of w ≡ k = eqb-true _ _ e in
      let q : w ≡ keyword_letters k = sym (keyword_named w (omega arith)) ∙ ap keyword_letters p in
      e ∙ sym (eq_same w (keyword_letters k) q))
      (λ e. e ∙ sym (ne_same w (keyword_letters k) (λ q. eqb-false _ _ e (ap keyword_of q ∙ keyword_place k h))))

  -- only an identifier is a keyword
  pub keyword_seen_lem : (text : List ℕ) (t : Spot) → eqb (keyword_at text t) k ≡ (eqb t.kind kind.ident && same (letters text t) (keyword_letters k))
  unfolding keyword_at
  keyword_seen_lem text t =
      by_cases (eqb t.kind kind.ident)
      (λ e. rw e (keyword_same (letters text t)))
      (λ e. rw e (ne_eqb 19 k (omega arith)))

  pub keyword_is : (text : List ℕ) (t : Spot) → eqb t.kind kind.ident ≡ true → eqb (keyword_at text t) k ≡ same (letters text t) (keyword_letters k)
  keyword_is text t e = keyword_seen_lem text t ∙ ap (λ (b : Bool). b && same (letters text t) (keyword_letters k)) e

  pub keyword_not : (text : List ℕ) (t : Spot) → eqb t.kind kind.ident ≡ false → eqb (keyword_at text t) k ≡ false
  keyword_not text t e = keyword_seen_lem text t ∙ ap (λ (b : Bool). b && same (letters text t) (keyword_letters k)) e

-- a pattern of demandedBits, told in two ways
pub all_bits_lem : (l : List ℕ) → all_bits l ≡ eqb (count bit l) (length l)
all_bits_lem [] = refl
all_bits_lem (b ∷ l) = by (bit b) (all_bits_lem l)
  where
    by : (t : Bool) → all_bits l ≡ eqb (count bit l) (length l) → (t && all_bits l) ≡ eqb (cond t (suc (count bit l)) 0) (suc (length l))
    by true e = e ∙ eqb_iff (count bit l) (length l) (suc (count bit l)) (suc (length l)) (λ q. ap suc q) (λ q. omega arith)
    by false e = sym (ne_eqb 0 (suc (length l)) (omega arith))
