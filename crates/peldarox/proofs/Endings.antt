-- From a parser at its end to an answer and every word of the tables.
-- Assumes nothing.
use Prim.Native.Nat.{ℕ, ◌≤◌, ◌<◌, ◌-◌, ◌+◌}
use mathlib.Core.Path.{◌≡◌, refl, ap, ◌∙◌}
use mathlib.Core.List.{List, []}
use borrow.Author.Tests.{lt-ltb, le-ltb, ltb-true, ltb-false}
use native.Mathlib.Omega.{arith}
use lib.Dec.{ltb}
use lib.ListN.{length, replicate, get_or, get_or-replicate, length-replicate, get_or-eq_default}
use Rattle.laws.proofs.Cases.{by_cases}
use Rattle.std.specs.Prelude.{Ok}
use Rattle.rules.specs.declared.Spot.{Spot}
use Rattle.rules.specs.declared.Entry.{Entry}
use Rattle.rules.specs.Answer.{Answer}
use Rattle.rules.specs.Answer as answer
use Rattle.rules.specs.Utf8.{checked, bad_at}
use Rattle.rules.specs.World.{World, go, stop}
use Rattle.rules.specs.Reading as R
use Rattle.rules.specs.Answers.{Outcome, refusal, outcome, answer_of, rows_of, start, lent, padded, reading, read_checked, fault_number, Ends}
use Rattle.rules.specs.declared.Counts.{Counts}
use Rattle.tables.specs.Stands.{tables, Cleared}
use Rattle.index.specs.Linked.{Holds}
use Rattle.index.proofs.Links.{zeros_linked}

-- zeros, read anywhere
pub zeros_read : (n h : ℕ) → ◌≡◌ {A = ℕ} (get_or (replicate n 0) h 0) 0
zeros_read n h =
    by_cases (ltb h n)
    (λ t. get_or-replicate n h 0 0 (ltb-true h n t))
    (λ t. get_or-eq_default (replicate n 0) 0 {n = h} (let k = ltb-false h n t in let l = length-replicate n (◌+◌ 0 0) in omega arith))

-- at the start of a text: all heads are 0, and nothing is held
pub holds_none : {text S index : List ℕ} → ((h : ℕ) → get_or index h 0 ≡ 0) → Holds text S index 0 0
holds_none z =
    let none = z 1024 in
    record { low = omega arith; within = omega arith; linked = rw none (zeros_linked (λ h l. z h)) }

zeros_alone : (n : ℕ) → replicate n 0 ≡ padded n []
unfolding padded
zeros_alone n = let e : n - 0 ≡ n = omega arith in rw e refl

module _ {I S O A I' S' O' A' : List ℕ} where
  -- tables of zeros
  pub zeros : (n p : ℕ) → I' ≡ replicate (length I) 0 → S' ≡ replicate (length S) 0 → O' ≡ replicate (length O) 0 → A' ≡ replicate (length A) 0 → Ends (refusal n p) I S O A (answer.Refused n p) I' S' O' A'
  unfolding answer_of rows_of
  zeros n p i s o a = record { answers = refl; leaves = record { items = i ∙ zeros_alone _; statements = s ∙ zeros_alone _; operands = o ∙ zeros_alone _; attributes = a ∙ zeros_alone _ } }

  -- the rows that are counted, and zeros behind them
  pub counted : (w : World) (n k : Counts) → w.tables ≡ tables n I S O A → k ≡ n → Cleared n I S O A I' S' O' A' → Ends (outcome (go tt w)) I S O A (answer.Read k.items k.statements k.operands k.attributes) I' S' O' A'
  unfolding outcome answer_of rows_of
  counted w n k e f c =
      rw (e, f)
      (record { answers = refl; leaves = record { items = c.items; statements = c.statements; operands = c.operands; attributes = c.attributes } })

  -- no row is counted: what is at fault, by its number and its place
  pub faulty : (k : ℕ) (t : Spot) (n : ℕ) → n ≡ fault_number k → Cleared (record { items = 0; statements = 0; operands = 0; attributes = 0 }) I S O A I' S' O' A' → Ends (outcome (stop k t)) I S O A (answer.Refused n t.first) I' S' O' A'
  unfolding outcome answer_of rows_of
  faulty k t n e c =
      rw e
      (record { answers = refl; leaves = record { items = c.items; statements = c.statements; operands = c.operands; attributes = c.attributes } })

-- the same outcome and the same words, of tables of the same lengths
pub same_ends : {o p : Outcome} {r : Answer} {I S O A J T P B I' S' O' A' J' T' P' B' : List ℕ} → o ≡ p → Ends o I S O A r I' S' O' A' → length I ≡ length J → length S ≡ length T → length O ≡ length P → length A ≡ length B
    → J' ≡ I' → T' ≡ S' → P' ≡ O' → B' ≡ A' → Ends p J T P B r J' T' P' B'
same_ends e h i s o a i' s' o' a' =
    record {
      answers = h.answers ∙ ap answer_of e;
      leaves =
          record {
            items = i' ∙ h.leaves.items ∙ simp (i, e);
            statements = s' ∙ h.leaves.statements ∙ simp (s, e);
            operands = o' ∙ h.leaves.operands ∙ simp (o, e);
            attributes = a' ∙ h.leaves.attributes ∙ simp (a, e);
          };
    }

module _ (e : Entry) (text I S O A : List ℕ) where
  pub too_long : 65536 < length text → refusal 1 65536 ≡ reading e text (lent I S O A)
  unfolding reading
  too_long h = simp (lt-ltb _ _ h)

  pub ill_formed : (p : ℕ) → length text ≤ 65536 → checked text ≡ bad_at p → refusal 2 p ≡ reading e text (lent I S O A)
  unfolding reading read_checked
  ill_formed p h c = simp (le-ltb _ _ h, c)

  pub well_formed : length text ≤ 65536 → checked text ≡ Ok tt → outcome (R.items e (start text (lent I S O A))) ≡ reading e text (lent I S O A)
  unfolding reading read_checked
  well_formed h c = simp (le-ltb _ _ h, c)
