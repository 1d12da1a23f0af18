-- What is pushed: the rows that operand rows name, from the last to the first, and a statement's block on top of them.
-- Assumes nothing.
use mathlib.Core.Path.{◌≡◌, refl, sym, ap, ◌∙◌, subst}
use mathlib.Core.Bool.{Bool, true, false, cond}
use mathlib.Core.List.{List, ◌∷◌}
use Prim.Native.Nat.{ℕ, zero, suc, ◌+◌, ◌-◌, ◌*◌, ◌≤◌, ◌<◌}
use native.Mathlib.Decide.{ℕ_discrete}
use native.Mathlib.Nat.{add-zero}
use native.Mathlib.Numerals.{add-one}
use native.Mathlib.Omega.{arith}
use lib.Dec.{eqb}
use lib.ListN.{length, get_or, set, take, length-set}
use lib.Seq.{take-set-le}
use borrow.Author.Tests.{eq-eqb, ne_eqb}
use Rattle.rules.specs.Rows.{value_code, operand_length, statement_length, operand_at, statement_at}
use Rattle.rules.specs.WellFormed.{has_block}
use Rattle.rules.specs.Meaning.{All}
use Rattle.laws.proofs.Cases.{by_cases}
use Rattle.listing.specs.References.{named, size, references}
use Rattle.listing.specs.Machine.{Entry, trace, traces}
use Rattle.listing.specs.Work.{stack_of, Pushed}
use Rattle.listing.proofs.Words.{entry_trace, stack_push}

-- whether an operand row is a value's, and the row that it names
abbrev is_value : List ℕ → ℕ → Bool
is_value operands k = eqb (operand_at operands k).code value_code

abbrev row_at : List ℕ → ℕ → ℕ
row_at operands k = (operand_at operands k).row

-- the tests of the first word of an operand row
is_value_lem : (operands : List ℕ) (k : ℕ) → get_or operands (k * operand_length) 0 ≡ value_code → is_value operands k ≡ true
unfolding operand_at
is_value_lem operands k e = eq-eqb (get_or operands (k * operand_length + 0) 0) value_code (rw add-zero e)

no_value : (operands : List ℕ) (k : ℕ) → (get_or operands (k * operand_length) 0 ≡ value_code → ⊥) → is_value operands k ≡ false
unfolding operand_at
no_value operands k n = ne_eqb (get_or operands (k * operand_length + 0) 0) value_code (λ e. n (rw add-zero at e))

-- ---- one operand row more, in front
module _ (operands : List ℕ) (a n : ℕ) where
  pub named-constant : is_value operands a ≡ false → named operands a (suc n) ≡ named operands (suc a) n
  named-constant e = ap (λ (b : Bool). cond b (row_at operands a ∷ named operands (suc a) n) (named operands (suc a) n)) e

  pub named_value : is_value operands a ≡ true → named operands a (suc n) ≡ row_at operands a ∷ named operands (suc a) n
  named_value e = ap (λ (b : Bool). cond b (row_at operands a ∷ named operands (suc a) n) (named operands (suc a) n)) e

-- what holds of all rows that are named holds of each
all_tail : {A : Type 0} (P : A → Type 0) (b : Bool) (x : A) (l : List A) → All P (cond b (x ∷ l) l) → All P l
all_tail P true x l h = h.1
all_tail P false x l h = h

named_at : (P : ℕ → Type 0) (operands : List ℕ) (n a k : ℕ) → All P (named operands a n) → a ≤ k → k < a + n → is_value operands k ≡ true → P (row_at operands k)
named_at P operands zero a k h l m e = absurd (let z : ⊥ = omega arith in z)
named_at P operands (suc n) a k h l m e = at (ℕ_discrete k a) (named_at P operands n (suc a) k (all_tail P (is_value operands a) (row_at operands a) (named operands (suc a) n) h))
  where
    at : Dec (k ≡ a) → (suc a ≤ k → k < suc a + n → is_value operands k ≡ true → P (row_at operands k)) → P (row_at operands k)
    at (yes q) f =
        let v : is_value operands a ≡ true = subst (λ (j : ℕ). is_value operands j ≡ true) q e in
        subst (λ (j : ℕ). P (row_at operands j)) (sym q) (subst (All P) (named_value operands a n v) h).0
    at (no d) f = f (omega arith) (omega arith) e

-- ---- what the loop of push_operands keeps: the operand rows from k on are pushed
pub record Pushing (operands w₀ : List ℕ) (s depth first past : ℕ) (w : List ℕ) (t k : ℕ) : Type 0 where
  pub low : k ≤ past
  pub parts : past - first ≡ (k - first) + (past - k)
  pub used : t + (k - first) ≤ depth + (past - first)
  pub long : length w ≡ length w₀
  pub before : take s w ≡ take s w₀
  pub stack : stack_of w s t ≡ traces (named operands k (past - k)) (stack_of w₀ s depth)

module _ (operands w₀ : List ℕ) (s depth first past : ℕ) where
  pub pushing_none : Pushing operands w₀ s depth first past w₀ depth past
  pushing_none =
      record {
        low = omega arith;
        parts = omega arith;
        used = omega arith;
        long = refl;
        before = refl;
        stack = ap (λ (j : ℕ). traces (named operands past j) (stack_of w₀ s depth)) (let z : 0 ≡ past - past = omega arith in z);
      }

  module _ (w : List ℕ) (t k : ℕ) (p : Pushing operands w₀ s depth first past w t k) where
    -- the operand row before k is a constant's, or a value's
    pub pushing_skip : first < k → (get_or operands ((k - 1) * operand_length) 0 ≡ value_code → ⊥) → Pushing operands w₀ s depth first past w t (k - 1)
    pushing_skip l n =
        let e : is_value operands (k - 1) ≡ false = no_value operands (k - 1) n in
        let a : suc (k - 1) ≡ k = omega arith in
        let b : past - (k - 1) ≡ suc (past - k) = omega (arith, p.low) in
        record {
          low = omega (arith, p.low);
          parts = omega (arith, p.parts, p.low);
          used = omega (arith, p.used);
          long = p.long;
          before = p.before;
          stack = rw (b, named-constant operands (k - 1) (past - k) e, a) p.stack;
        }

    pub pushing_keep : first < k → get_or operands ((k - 1) * operand_length) 0 ≡ value_code → s + t < length w
        → Pushing operands w₀ s depth first past (set w (s + t) (2 * get_or operands ((k - 1) * operand_length + 1) 0)) (t + 1) (k - 1)
    unfolding operand_at
    pushing_keep l q lw =
        let e : is_value operands (k - 1) ≡ true = is_value_lem operands (k - 1) q in
        let v : ℕ = row_at operands (k - 1) in
        let a : suc (k - 1) ≡ k = omega arith in
        let b : past - (k - 1) ≡ suc (past - k) = omega (arith, p.low) in
        record {
          low = omega (arith, p.low);
          parts = omega (arith, p.parts, p.low);
          used = omega (arith, p.used);
          long = length-set w (s + t) (2 * v) ∙ p.long;
          before = take-set-le s w (s + t) (2 * v) (omega arith) ∙ p.before;
          stack = rw (b, named_value operands (k - 1) (past - k) e, a, add-one t) (stack_push w s t (2 * v) lw ∙ ap (λ (x : Entry). x ∷ stack_of w s t) (entry_trace v) ∙ ap (λ (l : List Entry). trace v ∷ l) p.stack);
        }

    pub pushing_below : (n : ℕ) → All (λ j. j < n) (named operands first (past - first)) → first < k → get_or operands ((k - 1) * operand_length) 0 ≡ value_code
        → get_or operands ((k - 1) * operand_length + 1) 0 < n
    unfolding operand_at
    pushing_below n a l q =
        named_at (λ j. j < n) operands (past - first) first (k - 1) a (omega arith) (omega (arith, p.low)) (is_value_lem operands (k - 1) q)

    pub pushing_done : k ≤ first → Pushed (named operands first (past - first)) w₀ s depth (past - first) w t
    pushing_done l =
        record { fits = omega (arith, p.used); before = p.before; stack = p.stack ∙ ap (λ (rows : List ℕ). traces rows (stack_of w₀ s depth)) (whole (past - first) refl) }
      where
        whole : (n : ℕ) → past - first ≡ n → named operands k (past - k) ≡ named operands first n
        whole zero e = let z : past - k ≡ 0 = omega (arith, p.parts) in ap (named operands k) z
        whole (suc n) e =
            let q : past - k ≡ suc n = omega (arith, p.parts) in
            let j : k ≡ first = omega (arith, p.parts, p.low) in
            ap (named operands k) q ∙ ap (λ (m : ℕ). named operands m (suc n)) j

-- ---- all that a statement row refers to: the block over the operands
module _ (statements operands : List ℕ) (i : ℕ) where
  abbrev at : ℕ
  at = i * statement_length

  abbrev first : ℕ
  first = get_or statements (at + 6) 0

  abbrev past : ℕ
  past = get_or statements (at + 7) 0

  references-block : has_block (get_or statements at 0) ≡ true → references statements operands i ≡ get_or statements (at + 5) 0 ∷ named operands first (past - first)
  unfolding references statement_at size
  references-block e = rw (add-zero at, e)

  references-named : has_block (get_or statements at 0) ≡ false → references statements operands i ≡ named operands first (past - first)
  unfolding references statement_at size
  references-named e = rw (add-zero at, e)

  pub named-below : (n : ℕ) → All (λ j. j < n) (references statements operands i) → All (λ j. j < n) (named operands first (past - first))
  named-below n a =
      by_cases (has_block (get_or statements at 0)) (λ e. (subst (All (λ j. j < n)) (references-block e) a).1) (λ e. subst (All (λ j. j < n)) (references-named e) a)

  pub block-below : (n : ℕ) → All (λ j. j < n) (references statements operands i) → has_block (get_or statements at 0) ≡ true → get_or statements (at + 5) 0 < n
  block-below n a e = (subst (All (λ j. j < n)) (references-block e) a).0

  module _ (w₀ : List ℕ) (s depth : ℕ) (w : List ℕ) (t : ℕ) (p : Pushed (named operands first (past - first)) w₀ s depth (past - first) w t) where
    pub pushed_block : has_block (get_or statements at 0) ≡ true → s + t < length w
        → Pushed (references statements operands i) w₀ s depth (past - first + 1) (set w (s + t) (2 * get_or statements (at + 5) 0)) (t + 1)
    pushed_block e l =
        let b : ℕ = get_or statements (at + 5) 0 in
        record {
          fits = omega (arith, p.fits);
          before = take-set-le s w (s + t) (2 * b) (omega arith) ∙ p.before;
          stack =
              ap (stack_of (set w (s + t) (2 * b)) s) (add-one t)
              ∙ stack_push w s t (2 * b) l
              ∙ ap (λ (x : Entry). x ∷ stack_of w s t) (entry_trace b)
              ∙ ap (λ (l : List Entry). trace b ∷ l) p.stack
              ∙ ap (λ (rows : List ℕ). traces rows (stack_of w₀ s depth)) (sym (references-block e));
        }

    pub pushed_named : has_block (get_or statements at 0) ≡ false → Pushed (references statements operands i) w₀ s depth (past - first + 1) w t
    pushed_named e =
        record {
          fits = omega (arith, p.fits);
          before = p.before;
          stack = p.stack ∙ ap (λ (rows : List ℕ). traces rows (stack_of w₀ s depth)) (sym (references-named e));
        }
