-- What a well-formed item gives: it is whole, with its roots among its own assignments and its names distinct.
-- Assumes nothing.
use Prim.Native.Nat.{ℕ, ◌≤◌, ◌<◌}
use mathlib.Core.Path.{◌≡◌, sym, ap, ◌∙◌}
use mathlib.Core.Bool.{Bool, true, cond, ◌&&◌, ◌||◌}
use mathlib.Core.List.{List, [], ◌∷◌}
use native.Mathlib.Decide.{dec_lt, ℕ_discrete}
use native.Mathlib.Omega.{arith}
use lib.Dec.{eqb, leb}
use borrow.Author.Tests.{eqb-true, leb-true}
use Rattle.rules.specs.declared.Item.{Item}
use Rattle.rules.specs.Rows.{infer_result, candidate, left_hand_side, name_at, statement_at}
use Rattle.rules.specs.WellFormed.{long, middle_ok, item_ok, infer_ok, infers, closing_ok, closing_arity, statements_ok, statement_ok, operands_ok}
use Rattle.rules.specs.WellFormed as formed
use Rattle.rules.specs.Meaning.{All}
use Rattle.laws.proofs.Cases.{by_cases}
use Rattle.laws.proofs.Same.{by_cond}
use Rattle.laws.proofs.Tests.{and_left, and_right, cond-true, cond-false}
use Rattle.laws.proofs.Members.{all_map}
use Rattle.listing.specs.References.{named}
use Rattle.listing.specs.Roots.{first_roots, second_roots}
use Rattle.byrows.proofs.Names.{Assigns}
use Rattle.byrows.proofs.Views.{assigning}
use Rattle.byrows.proofs.Items.{Whole}
use Rattle.byrows.proofs.Spans.{every-along}
use Rattle.byrows.proofs.FormedRows.{picked, Refers, refers_to_lem, operands_refer, row_fit, name_new}

module _ (text S O A : List ℕ) (s : ℕ) (x : Item) (counted : x.statements.past ≤ s) (up : x.statements.first ≤ x.statements.past) (middle : middle_ok x ≡ true) (ok : item_ok text S O A x ≡ true) where
  abbrev lo : ℕ
  lo = x.statements.first

  abbrev hi : ℕ
  hi = x.statements.past

  abbrev is : ℕ → Bool
  is k = eqb x.kind k

  pub infer-known : infer_ok S x ≡ true
  unfolding item_ok
  infer-known = and_left (infer_ok S x) (closing_ok S O x && (formed.roots_ok text A x && statements_ok text S O A x.statements)) ok

  pub closing-known : closing_ok S O x ≡ true
  unfolding item_ok
  closing-known =
      and_left (closing_ok S O x) (formed.roots_ok text A x && statements_ok text S O A x.statements)
      (and_right (infer_ok S x) (closing_ok S O x && (formed.roots_ok text A x && statements_ok text S O A x.statements)) ok)

  behind-closing : (formed.roots_ok text A x && statements_ok text S O A x.statements) ≡ true
  unfolding item_ok
  behind-closing =
      and_right (closing_ok S O x) (formed.roots_ok text A x && statements_ok text S O A x.statements)
      (and_right (infer_ok S x) (closing_ok S O x && (formed.roots_ok text A x && statements_ok text S O A x.statements)) ok)

  pub roots-known : formed.roots_ok text A x ≡ true
  roots-known = and_left (formed.roots_ok text A x) (statements_ok text S O A x.statements) behind-closing

  rows-known : statements_ok text S O A x.statements ≡ true
  rows-known = and_right (formed.roots_ok text A x) (statements_ok text S O A x.statements) behind-closing

  pub row_known : (i : ℕ) → lo ≤ i → i < hi → statement_ok text S O A lo i (statement_at S i) ≡ true
  unfolding statements_ok
  row_known i l h = every-along (λ i. statement_ok text S O A lo i (statement_at S i)) x.statements rows-known i l h

  -- the middle lies among its statements
  middle_low : lo ≤ x.middle
  unfolding middle_ok
  middle_low =
      by_cases (is infer_result)
      (λ e. leb-true lo x.middle (and_left (leb lo x.middle) (leb x.middle hi) (picked _ _ _ e middle)))
      (λ e. let q : x.middle ≡ hi = eqb-true x.middle hi (sym (cond-false _ (leb lo x.middle && leb x.middle hi) (eqb x.middle hi) e) ∙ middle) in omega arith)

  middle_high : x.middle ≤ hi
  unfolding middle_ok
  middle_high =
      by_cases (is infer_result)
      (λ e. leb-true x.middle hi (and_right (leb lo x.middle) (leb x.middle hi) (picked _ _ _ e middle)))
      (λ e. let q : x.middle ≡ hi = eqb-true x.middle hi (sym (cond-false _ (leb lo x.middle && leb x.middle hi) (eqb x.middle hi) e) ∙ middle) in omega arith)

  -- its roots
  refers-assigns : (hi' j : ℕ) → hi' ≤ hi → Refers S lo hi' j → Assigns (assigning S) lo hi j
  refers-assigns hi' j l f = record { low = f.low; high = omega (arith, f.high); so = f.so }

  infer_root : infers x.kind ≡ true → All (Assigns (assigning S) lo hi) (x.infer ∷ [])
  unfolding infer_ok
  infer_root e = (refers-assigns x.middle x.infer middle_high (refers_to_lem S lo x.middle x.infer (picked _ _ _ e infer-known)), tt)

  operand-roots : (n : ℕ) → closing_arity x.kind ≡ n → All (Assigns (assigning S) lo hi) (named O x.operands.first n)
  unfolding closing_ok
  operand-roots n e =
      all_map (Refers S lo hi) (Assigns (assigning S) lo hi) (λ j f. refers-assigns hi j (omega arith) f) (named O x.operands.first n)
      (operands_refer S O lo hi x.operands (and_right (eqb (long x.operands) (closing_arity x.kind)) (operands_ok S O lo hi x.operands) closing-known) n
      (eqb-true (long x.operands) (closing_arity x.kind) (and_left (eqb (long x.operands) (closing_arity x.kind)) (operands_ok S O lo hi x.operands) closing-known) ∙ e))

  first-roots : All (Assigns (assigning S) lo hi) (first_roots O x)
  unfolding first_roots closing_arity infers
  first-roots =
      by_cond P (is infer_result) (x.infer ∷ []) (cond (is candidate) (named O at 2) (cond (is left_hand_side) (x.infer ∷ []) (named O at 1)))
      (λ e. infer_root (ap (λ (b : Bool). b || is left_hand_side) e))
      (λ e.
      by_cond P (is candidate) (named O at 2) (cond (is left_hand_side) (x.infer ∷ []) (named O at 1))
      (λ f. operand-roots 2 (cond-true _ 2 (cond (is left_hand_side) 0 1) f))
      (λ f.
      by_cond P (is left_hand_side) (x.infer ∷ []) (named O at 1)
      (λ g. infer_root (ap (λ (b : Bool). b || is left_hand_side) e ∙ g))
      (λ g. operand-roots 1 (cond-false _ 2 (cond (is left_hand_side) 0 1) f ∙ cond-false _ 0 1 g))))
    where
      P : List ℕ → Type 0
      P = All (Assigns (assigning S) lo hi)

      at : ℕ
      at = x.operands.first

  second-roots : All (Assigns (assigning S) lo hi) (second_roots O x)
  unfolding second_roots closing_arity
  second-roots =
      by_cond (All (Assigns (assigning S) lo hi)) (is infer_result) (named O x.operands.first 1) []
      (λ e. operand-roots 1 (ap closing_arity (eqb-true x.kind infer_result e))) (λ e. tt)

  -- distinct names
  names_apart : (i j : ℕ) → Assigns (assigning S) lo hi i → Assigns (assigning S) lo hi j → name_at text S i ≡ name_at text S j → i ≡ j
  names_apart i j a b q = at (ℕ_discrete i j) (dec_lt i j)
    where
      at : Dec (i ≡ j) → Dec (i < j) → i ≡ j
      at (yes e) d = e
      at (no n) (yes h) = absurd (name_new text S O A lo j (row_known j b.low b.high) b.so i a.low h q)
      at (no n) (no h) = absurd (name_new text S O A lo i (row_known i a.low a.high) a.so j b.low (omega arith) (sym q))

  pub whole : Whole text S O s x
  whole =
      record {
        counted = counted;
        begins = middle_low;
        ends = middle_high;
        rows = λ i l h. row_fit text S O A lo i (row_known i l h);
        apart = names_apart;
        firsts = first-roots;
        seconds = second-roots;
      }
