-- Rows that are owned one behind the other: where a span lies, who owns a row, and how many rows there are in all.
-- Assumes nothing.
use Prim.Native.Nat.{ℕ, zero, suc, ◌+◌, ◌-◌, ◌≤◌, ◌<◌}
use mathlib.Core.Path.{◌≡◌, sym, ap, ◌∙◌}
use mathlib.Core.Logic.{inl, inr}
use mathlib.Core.Bool.{Bool, true}
use mathlib.Core.List.{List, [], ◌∷◌, ◌++◌}
use native.Mathlib.Decide.{dec_lt, ℕ_discrete}
use native.Mathlib.Numerals.{add-one}
use native.Mathlib.Omega.{arith}
use borrow.Author.Tests.{eqb-true}
use Rattle.rules.specs.declared.Span.{Span}
use Rattle.rules.specs.Meaning.{Mem}
use Rattle.rules.specs.Rows.{item_at, statement_at}
use Rattle.rules.specs.Syntax.{flat}
use Rattle.rules.specs.View.{each, along}
use Rattle.rules.specs.WellFormed.{every, long, consecutive, operand_spans}
use Rattle.laws.proofs.Tests.{and_left, and_right}
use Rattle.laws.proofs.Consecutive.{first_at, past_after, then}
use Rattle.listing.specs.References.{size, owned}

-- ---- a test of all rows says something of each
pub every-each : (f : ℕ → Bool) (n a : ℕ) → every (each f a n) ≡ true → (k : ℕ) → a ≤ k → k < a + n → f k ≡ true
every-each f zero a e k l h = absurd (let z : ⊥ = omega arith in z)
every-each f (suc n) a e k l h =
    at (ℕ_discrete k a) (every-each f n (a + 1) (and_right (f a) (every (each f (a + 1) n)) e) k)
  where
    at : Dec (k ≡ a) → (a + 1 ≤ k → k < a + 1 + n → f k ≡ true) → f k ≡ true
    at (yes q) g = ap f q ∙ and_left (f a) (every (each f (a + 1) n)) e
    at (no q) g = g (omega arith) (omega arith)

pub every-along : (f : ℕ → Bool) (s : Span) → every (along f s) ≡ true → (k : ℕ) → s.first ≤ k → k < s.past → f k ≡ true
every-along f s e k l h = every-each f (s.past - s.first) s.first e k l (omega arith)

pub mem_each : {B : Type 0} (f : ℕ → B) (n a k : ℕ) → a ≤ k → k < a + n → Mem (f k) (each f a n)
mem_each f zero a k l h = absurd (let z : ⊥ = omega arith in z)
mem_each f (suc n) a k l h = at (ℕ_discrete k a) (mem_each f n (a + 1) k)
  where
    at : Dec (k ≡ a) → (a + 1 ≤ k → k < a + 1 + n → Mem (f k) (each f (a + 1) n)) → Mem (f k) (each f a (suc n))
    at (yes q) g = inl (ap f q)
    at (no q) g = inr (g (omega arith) (omega arith))

-- ---- consecutive spans
-- the first begins where they all do, and each other where the one before it ends
pub consecutive-first : (g : ℕ → Span) (n a at past : ℕ) → consecutive at past (each g a n) ≡ true → 0 < n → (g a).first ≡ at
consecutive-first g zero a at past e h = absurd (let z : ⊥ = omega arith in z)
consecutive-first g (suc n) a at past e h = first_at at past (g a) (each g (a + 1) n) e

pub consecutive-next : (g : ℕ → Span) (n a at past : ℕ) → consecutive at past (each g a n) ≡ true → (k : ℕ) → a ≤ k → suc k < a + n → (g (suc k)).first ≡ (g k).past
consecutive-next g zero a at past e k l h = absurd (let z : ⊥ = omega arith in z)
consecutive-next g (suc n) a at past e k l h =
    by (ℕ_discrete k a) (consecutive-first g n (a + 1) (g a).past past (then at past (g a) (each g (a + 1) n) e)) (consecutive-next g n (a + 1) (g a).past past (then at past (g a) (each g (a + 1) n) e) k)
  where
    by : Dec (k ≡ a) → (0 < n → (g (a + 1)).first ≡ (g a).past) → (a + 1 ≤ k → suc k < a + 1 + n → (g (suc k)).first ≡ (g k).past) → (g (suc k)).first ≡ (g k).past
    by (yes q) f f' = ap (λ (j : ℕ). (g j).first) (let z : suc k ≡ a + 1 = omega arith in z) ∙ f (omega arith) ∙ ap (λ (j : ℕ). (g j).past) (sym q)
    by (no q) f f' = f' (omega arith) (omega arith)

-- each row has an owner
pub record Owner (g : ℕ → Span) (a n i : ℕ) : Type 0 where
  pub k : ℕ
  pub from : a ≤ k
  pub to : k < a + n
  pub low : (g k).first ≤ i
  pub high : i < (g k).past

pub owner : (g : ℕ → Span) (n a at past : ℕ) → consecutive at past (each g a n) ≡ true → (i : ℕ) → at ≤ i → i < past → Owner g a n i
owner g zero a at past e i l h = absurd (let q : at ≡ past = eqb-true at past e in let z : ⊥ = omega arith in z)
owner g (suc n) a at past e i l h =
    by (dec_lt i (g a).past) (owner g n (a + 1) (g a).past past (then at past (g a) (each g (a + 1) n) e) i)
  where
    by : Dec (i < (g a).past) → ((g a).past ≤ i → i < past → Owner g (a + 1) n i) → Owner g a (suc n) i
    by (yes d) f = record { k = a; from = omega arith; to = omega arith; low = omega (arith, first_at at past (g a) (each g (a + 1) n) e); high = d }
    by (no d) f =
        let o = f (omega arith) h in
        record { k = o.k; from = omega (arith, o.from); to = omega (arith, o.to); low = o.low; high = o.high }

-- ---- how many rows spans have in all
abbrev pub total : List Span → ℕ
total [] = 0
total (s ∷ l) = long s + total l

pub total_append : (xs ys : List Span) → total (xs ++ ys) ≡ total xs + total ys
total_append [] ys = omega arith
total_append (s ∷ xs) ys = omega (arith, total_append xs ys)

pub consecutive_total : (l : List Span) (at past : ℕ) → consecutive at past l ≡ true → at + total l ≡ past
consecutive_total [] at past e = let q : at ≡ past = eqb-true at past e in omega arith
consecutive_total (s ∷ l) at past e =
    omega (arith, first_at at past s l e, past_after at past s l e, consecutive_total l s.past past (then at past s l e))

module _ (S : List ℕ) where
  abbrev span_of : ℕ → Span
  span_of i = (statement_at S i).operands

  owned_total : (n a : ℕ) → owned S a + total (each span_of a n) ≡ owned S (a + n)
  unfolding size
  owned_total zero a = let q : a ≡ a + 0 = omega arith in (let z : owned S a + 0 ≡ owned S a = omega arith in z) ∙ ap (owned S) q
  owned_total (suc n) a =
      let q : suc a + n ≡ a + suc n = omega arith in
      (let z : owned S a + (long (span_of a) + total (each span_of (a + 1) n)) ≡ owned S (suc a) + total (each span_of (a + 1) n) = omega arith in z)
      ∙ ap (λ (b : ℕ). owned S (suc a) + total (each span_of b n)) (add-one a)
      ∙ owned_total n (suc a)
      ∙ ap (owned S) q

  module _ (I : List ℕ) where
    -- statements own no more operand rows than there are in all
    owned_spans : (n a at past : ℕ) → consecutive at past (each (λ i. (item_at I i).statements) a n) ≡ true
        → owned S past ≤ owned S at + total (flat (operand_spans S) (each (item_at I) a n))
    unfolding operand_spans
    owned_spans zero a at past e = let q : owned S at ≡ owned S past = ap (owned S) (eqb-true at past e) in omega arith
    owned_spans (suc n) a at past e =
        let x : Span = (item_at I a).statements in
        let f : x.first ≡ at = first_at at past x (each (λ i. (item_at I i).statements) (a + 1) n) e in
        let g : at ≤ x.past = past_after at past x (each (λ i. (item_at I i).statements) (a + 1) n) e in
        let rest : owned S past ≤ owned S x.past + total (flat (operand_spans S) (each (item_at I) (a + 1) n)) = owned_spans n (a + 1) x.past past (then at past x (each (λ i. (item_at I i).statements) (a + 1) n) e) in
        let mine : owned S at + total (along span_of x) ≡ owned S x.past =
        ap (λ (b : ℕ). owned S b + total (along span_of x)) (sym f) ∙ owned_total (x.past - x.first) x.first ∙ ap (owned S) (let z : x.first + (x.past - x.first) ≡ x.past = omega arith in z) in
        omega (
          arith,
          total_append (along span_of x ++ ((item_at I a).operands ∷ [])) (flat (operand_spans S) (each (item_at I) (a + 1) n)),
          total_append (along span_of x) ((item_at I a).operands ∷ []),
        )

    pub owned-most : (n s o : ℕ) → consecutive 0 s (each (λ i. (item_at I i).statements) 0 n) ≡ true → consecutive 0 o (flat (operand_spans S) (each (item_at I) 0 n)) ≡ true → owned S s ≤ o
    owned-most n s o e f = omega (arith, owned_spans n 0 0 s e, consecutive_total (flat (operand_spans S) (each (item_at I) 0 n)) 0 o f)
