-- Operands: each row that is claimed is an operand which refers to assignments that stand before it.
-- Assumes nothing.
use Prim.Native.Nat.{ℕ, zero, suc, ◌+◌, ◌*◌, ◌/◌, ◌%◌, ◌^◌, ◌≤◌, ◌<◌}
use mathlib.Core.Path.{◌≡◌, refl, ap, ◌∙◌, subst}
use mathlib.Core.Bool.{Bool, true}
use mathlib.Core.List.{List, [], ◌∷◌}
use native.Mathlib.Nat.{div-lt_iff_lt-mul, mod-lt}
use native.Mathlib.Omega.{arith}
use borrow.Author.Tests.{leb-true, le-leb, ltb-true, ltb-false}
use lib.Dec.{eqb, ltb}
use Rattle.rules.specs.declared.Operand.{Operand}
use Rattle.rules.specs.Tokens as kind
use Rattle.rules.specs.Rows.{words_of, operand_at, operand_words, value_code, constant_code}
use Rattle.rules.specs.WellFormed.{operand_ok, value_ok, constant_ok, width_fits, at_most}
use Rattle.rules.specs.World.{Stand, Tables, claim_operand}
use Rattle.rules.specs.Reading as R
use Rattle.laws.proofs.Cases.{by_cases}
use Rattle.simulation.proofs.Tokens.{world}
use Rattle.simulation.proofs.Stable.{Sized, Later, later_same, later_than, with_operand, operand_sized, operand_later, operand_stays, Says, says_later}
use Rattle.accepted.proofs.Padding.{and_both, Fit, fit_append}
use Rattle.accepted.proofs.Going.{Sits, Goes, goes, after, then, either, weaker, claims, look_reads, expect-reads}
use Rattle.accepted.proofs.Numbers.{int-reads, typing-reads}
use Rattle.accepted.proofs.Scope.{Rows, rows_later, value-reads}

-- tables whose words have 32 bits, and whose rows are those that they count, within the room for them
pub record Holds (t : Tables) : Type 0 where
  pub sized : Sized t
  pub items : Fit t.items.words
  pub statements : Fit t.statements.words
  pub operands : Fit t.operands.words
  pub attributes : Fit t.attributes.words
  pub statements_few : (t.statements.count ≤ t.statements.cap) × (t.statements.cap ≤ 65536)
  pub operands_few : (t.operands.count ≤ t.operands.cap) × (t.operands.cap ≤ 65536)
  pub attributes_few : (t.attributes.count ≤ t.attributes.cap) × (t.attributes.cap ≤ 65536)

-- tables with rows more, and none of them of statements or items
pub record Grown (t u : Tables) : Type 0 where
  pub later : Later t u
  pub holds : Holds u
  pub statements : u.statements.count ≡ t.statements.count
  pub items : u.items.count ≡ t.items.count

pub grown_same : {t : Tables} → Holds t → Grown t t
grown_same h = record { later = later_same _; holds = h; statements = refl; items = refl }

pub grown_more : {t u v : Tables} → Grown t u → Grown u v → Grown t v
grown_more x y = record { later = later_than x.later y.later; holds = y.holds; statements = y.statements ∙ x.statements; items = y.items ∙ x.items }

-- row j is an operand that refers to assignments from row f up to row c
abbrev pub arg_ok : ℕ → ℕ → Tables → ℕ → Bool
arg_ok f c u j = operand_ok u.statements.words f c (operand_at u.operands.words j)

-- n operands were claimed
pub record Operated (f : ℕ) (t u : Tables) (n : ℕ) : Type 0 where
  pub grown : Grown t u
  pub operands : u.operands.count ≡ t.operands.count + n
  pub attributes : u.attributes.count ≡ t.attributes.count
  pub args : (j : ℕ) → t.operands.count ≤ j → j < u.operands.count → Says (arg_ok f t.statements.count) u j true

pub none_operated : {f : ℕ} {t : Tables} → Holds t → Operated f t t 0
none_operated h = record { grown = grown_same h; operands = omega arith; attributes = refl; args = λ j a b. absurd (let z : ⊥ = omega arith in z) }

pub more_operated : {f : ℕ} {t u v : Tables} {n m k : ℕ} → Operated f t u n → Operated f u v m → k ≡ n + m → Operated f t v k
more_operated {f} {t} {u} {v} {n} {m} {k} x y e =
    let a = x.operands in
    let b = y.operands in
    record {
      grown = grown_more x.grown y.grown;
      operands = omega arith;
      attributes = y.attributes ∙ x.attributes;
      args =
          λ j h l.
          by_cases (ltb j u.operands.count)
          (λ q. says_later y.grown.later (x.args j h (ltb-true _ _ q)))
          (λ q. subst (λ (c : ℕ). Says (arg_ok f c) v j true) x.grown.statements (y.args j (ltb-false _ _ q) l));
    }

-- the words of a number of 128 bits
div_below : (x k y : ℕ) → 0 < k → x < y * k → x / k < y
div_below x k y p h = (div-lt_iff_lt-mul p).1 h

pub words-fit : (n : ℕ) → n < 2 ^ 128 → Fit ((words_of n).a ∷ (words_of n).b ∷ (words_of n).c ∷ (words_of n).d ∷ [])
words-fit n h =
    let some : 0 < 2 ^ 32 = omega arith in
    let more : 0 < 2 ^ 64 = omega arith in
    let low : n % 2 ^ 64 < 2 ^ 32 * 2 ^ 32 = mod-lt n more in
    let high : n / 2 ^ 64 < 2 ^ 32 * 2 ^ 32 = div_below n (2 ^ 64) (2 ^ 32 * 2 ^ 32) more h in
    (div_below (n / 2 ^ 64) (2 ^ 32) (2 ^ 32) some high, (mod-lt (n / 2 ^ 64) some, (div_below (n % 2 ^ 64) (2 ^ 32) (2 ^ 32) some low, (mod-lt (n % 2 ^ 64) some, tt))))

pub zero-fits : Fit ((words_of 0).a ∷ (words_of 0).b ∷ (words_of 0).c ∷ (words_of 0).d ∷ [])
zero-fits = (omega arith, (omega arith, (omega arith, (omega arith, tt))))

-- a count, a row or a place is a word
pub small_word : (n : ℕ) → n ≤ 65536 → n < 2 ^ 32
small_word n h = omega arith

constant-fits : (n width : ℕ) → n < 2 ^ 128 → width ≤ 65536 → Fit (constant_code ∷ 0 ∷ width ∷ (words_of n).a ∷ (words_of n).b ∷ (words_of n).c ∷ (words_of n).d ∷ [])
constant-fits n width h k = (small_word 2 (leb-true 2 65536 refl), (small_word 0 (leb-true 0 65536 refl), (small_word width k, words-fit n h)))

wide : (width : ℕ) → width ≤ 65535 → width ≤ 65536
wide width h = omega arith

operand-holds : (t : Tables) → Holds t → (r : Operand) → Fit (operand_words r) → t.operands.count < t.operands.cap → Holds (with_operand r t)
operand-holds t hd r fit room =
    let few = hd.operands_few in
    record {
      sized = operand_sized t hd.sized r;
      items = hd.items;
      statements = hd.statements;
      operands = fit_append t.operands.words (operand_words r) hd.operands fit;
      attributes = hd.attributes;
      statements_few = hd.statements_few;
      operands_few = (omega arith, few.1);
      attributes_few = hd.attributes_few;
    }

module _ {text : List ℕ} {f : ℕ} (t : Tables) (hd : Holds t) where
  claimed : (r : Operand) → ((v : Tables) → Later t v → operand_ok v.statements.words f t.statements.count r ≡ true) → Fit (operand_words r) → (s : Stand) → Sits text s → Goes text f (λ x u. Operated f t u 1) (claim_operand r (world text f s t))
  unfolding claim_operand
  claimed r ok fit s z =
      claims t.operands (with_operand r t) s (world text f s t) z (λ room.
      record {
        grown = record { later = operand_later t hd.sized r; holds = operand-holds t hd r fit room; statements = refl; items = refl };
        operands = refl;
        attributes = refl;
        args =
            λ j a b.
            let e : t.operands.count ≡ j = omega arith in
            subst (λ (i : ℕ). Says (arg_ok f t.statements.count) (with_operand r t) i true) e
            (record { by = λ u k. ap (operand_ok u.statements.words f t.statements.count) (operand_stays t hd.sized u r k) ∙ ok u (later_than (operand_later t hd.sized r) k) });
      })

  module _ (rs : Rows text f t) where
    pub operand_goes : (s : Stand) → Sits text s → Goes text f (λ x u. Operated f t u 1) (R.operand (world text f s t))
    unfolding R.operand R.named R.constant operand_ok value_ok constant_ok width_fits at_most operand_words
    operand_goes s z =
        let few = hd.statements_few in
        after _ (look_reads t s z) (λ x v y q.
        either (eqb x.kind kind.val_name) _ _ (world text f v t)
        (λ e.
        after _ (value-reads t rs v y) (λ r v₁ y₁ h.
        let there = h.there in
        claimed (record { code = value_code; row = r; width = 0; bits = words_of 0 }) (λ u k. and_both (h.refers u k) refl) (omega arith, (omega arith, (omega arith, zero-fits))) v₁ y₁))
        (λ e.
        after _ (int-reads t v y) (λ n v₁ y₁ h.
        after _ (typing-reads t v₁ y₁) (λ width v₂ y₂ h₂.
        claimed (record { code = constant_code; row = 0; width = width; bits = words_of n }) (λ u k. le-leb width 65535 h₂) (constant-fits n width h (wide width h₂)) v₂ y₂))))

module _ {text : List ℕ} {f : ℕ} where
  pub further_goes : (n : ℕ) (t : Tables) → Holds t → Rows text f t → (s : Stand) → Sits text s → Goes text f (λ x u. Operated f t u n) (R.further_operands n (world text f s t))
  unfolding R.further_operands
  further_goes zero t hd rs s z = goes tt s t z (none_operated hd)
  further_goes (suc n) t hd rs s z =
      after _ (expect-reads t kind.comma s z) (λ x v y h.
      then _ (operand_goes t hd rs v y) (λ x₁ v₁ u y₁ o.
      weaker (further_goes n u o.grown.holds (rows_later o.grown.later o.grown.statements rs) v₁ y₁) (λ x₂ u₂ p. more_operated o p (omega arith))))

  pub operands_goes : (n : ℕ) (t : Tables) → Holds t → Rows text f t → (s : Stand) → Sits text s → Goes text f (λ x u. Operated f t u n) (R.operands n (world text f s t))
  unfolding R.operands
  operands_goes zero t hd rs s z = goes tt s t z (none_operated hd)
  operands_goes (suc n) t hd rs s z =
      then _ (operand_goes t hd rs s z) (λ x₁ v₁ u y₁ o.
      weaker (further_goes n u o.grown.holds (rows_later o.grown.later o.grown.statements rs) v₁ y₁) (λ x₂ u₂ p. more_operated o p (omega arith)))
