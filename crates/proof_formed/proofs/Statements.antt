-- The statements that well-formed rows of an item say: each fits those before it, in its name, its references and its block.
-- Assumes nothing.
use Prim.Native.Nat.{ℕ, zero, suc, ◌+◌, ◌-◌, ◌^◌, ◌≤◌, ◌<◌}
use mathlib.Core.Path.{◌≡◌, refl, sym, ap, ◌∙◌, subst}
use mathlib.Core.Bool.{Bool, true, false, cond, ◌&&◌, ◌||◌, false≢true}
use mathlib.Core.List.{List, [], ◌∷◌, map}
use native.Mathlib.Decide.{ℕ_discrete}
use native.Mathlib.Omega.{arith}
use lib.Dec.{eqb}
use lib.ListN.{length}
use borrow.Author.Tests.{eqb-true, eqb-false, le-leb, lt-ltb}
use Rattle.rules.specs.declared.Statement.{Statement}
use Rattle.rules.specs.Bytes.{inside, same}
use Rattle.rules.specs.Instructions.{arity_of}
use Rattle.rules.specs.Keywords as keyword
use Rattle.rules.specs.Listing.{assigns, has, among}
use Rattle.rules.specs.Grammar.{side_in, side_of}
use Rattle.rules.specs.Rows.{keyword_code, instruction_code, name_at, statement_at, known_bits_code, range_code}
use Rattle.rules.specs.Syntax as syntax
use Rattle.rules.specs.View.{along, typing_of, attribute_of, as_side, as_statement, statement_of, operand_of}
use Rattle.rules.specs.WellFormed.{long, only, word_fits, is_assignment, is_instruction, has_block, name_in, new_name, name_ok, width_ok, width_fits, no_span, refers_to_block, block_ok, operands_ok, operands_fit, arity, attributes_ok, attributes_fit, statement_ok}
use Rattle.rules.specs.WellFormed as formed
use Rattle.rules.specs.Meaning.{All}
use Rattle.laws.proofs.Same.{same_refl, ne_same}
use Rattle.laws.proofs.Tests.{and_left, and_right, cond-true, cond-false}
use Rattle.listing.specs.References.{size, references, refers}
use Rattle.byrows.proofs.Names.{Says, Assigns, scope_of}
use Rattle.byrows.proofs.Views.{is_condition, assigning, Fit, view_says}
use Rattle.byrows.proofs.FormedRows.{between, assignment_code, Refers, refers-block, code_known, name-known, width_known, block-known, operands-known, attributes-known, all_refer, name_new}
use Rattle.bynames.proofs.WellFormed.{IsName, OperandOk, SideOk, StatementOk, Known, is_block, block_size, SideFits, BlockFits, Fits, Wf}
use Rattle.proof_formed.proofs.Cases.{by_side, by_statement}
use Rattle.proof_formed.proofs.Counts.{length-each}
use Rattle.proof_formed.proofs.Parts.{word_below, name_in_lem, typing-ok, all_along, operands-ok, attributes-ok}

pub all_names : (P : ℕ → Type 0) (Q : syntax.Name → Type 0) (f : ℕ → syntax.Name) → ((j : ℕ) → P j → Q (f j)) → (l : List ℕ) → All P l → All Q (map f l)
all_names P Q f h [] a = tt
all_names P Q f h (j ∷ l) a = (h j a.0, all_names P Q f h l a.1)

-- ---- blocks
-- a block's row says a block
block_said : (text S O A : List ℕ) (b : Statement) → b.code ≡ keyword_code keyword.block → side_in (as_statement text S O A b) ≡ syntax.block b.number
unfolding as_side
block_said text S O A b e =
    by_statement text S O A b (λ z. side_in z ≡ syntax.block b.number)
    (λ f. absurd (apart (sym e ∙ f))) (λ f. absurd (apart₂ (sym e ∙ f)))
    (λ n₁ n₂. cond-false _ _ _ (ap (λ (n : ℕ). eqb n (keyword_code keyword.var)) e) ∙ cond-true _ _ _ (ap (λ (n : ℕ). eqb n (keyword_code keyword.block)) e))
  where
    apart : ◌≡◌ {A = ℕ} 61 65 → ⊥
    apart q = omega arith

    apart₂ : ◌≡◌ {A = ℕ} 61 66 → ⊥
    apart₂ q = omega arith

-- ---- tables whose statements are in order: s are counted
module _ (text S O A : List ℕ) (s : ℕ) (words-S : only word_fits S ≡ true) (words-O : only word_fits O ≡ true) (words-A : only word_fits A ≡ true) where
  abbrev say : ℕ → syntax.Statement
  say = statement_of text S O A

  abbrev name : ℕ → syntax.Name
  name = name_at text S

  number-below : (i : ℕ) → (statement_at S i).number < 2 ^ 32
  unfolding statement_at
  number-below i = word_below S words-S _

  -- an item's rows from lo up to hi, each as it should be
  module _ (lo hi : ℕ) (counted : hi ≤ s) (rows : (i : ℕ) → lo ≤ i → i < hi → Fit S O lo i)
      (apart : (i j : ℕ) → Assigns (assigning S) lo hi i → Assigns (assigning S) lo hi j → name i ≡ name j → i ≡ j)
      (ok : (i : ℕ) → lo ≤ i → i < hi → statement_ok text S O A lo i (statement_at S i) ≡ true) where
    says : (i : ℕ) → lo ≤ i → i < hi → Says say name (assigning S) (refers S O s) lo i
    says i l u = view_says text S O A i s lo (omega arith) (rows i l u)

    -- a row that assigns has a name
    pub row_name : (i : ℕ) → lo ≤ i → i < hi → assigning S i ≡ true → IsName (name i)
    unfolding name_ok name_at
    row_name i l u e =
        let r : Statement = statement_at S i in
        let is : is_assignment r.code ≡ true = assignment_code r.code (code_known text S O A lo i (ok i l u)) e in
        let known : (name_in text r.name && new_name text S lo i) ≡ true = sym (cond-true (is_assignment r.code) (name_in text r.name && new_name text S lo i) (no_span r.name) is) ∙ name-known text S O A lo i (ok i l u) in
        name_in_lem text r.name (and_left (name_in text r.name) (new_name text S lo i) known)

    -- ---- names in a scope: that of the first k rows
    pub has_row : (k j : ℕ) → lo + k ≤ hi → lo ≤ j → j < lo + k → assigning S j ≡ true → has (name j) (scope_of say lo k) ≡ true
    has_row zero j t l u e = absurd (let z : ⊥ = omega arith in z)
    has_row (suc k) j t l u e = at (ℕ_discrete j (lo + k)) (λ v. has_row k j (omega arith) l v e)
      where
        or_so : (a b : Bool) → a ≡ true → (a || b) ≡ true
        or_so true b q = refl
        or_so false b q = absurd (false≢true q)

        or_else : (a b : Bool) → b ≡ true → (a || b) ≡ true
        or_else true b q = refl
        or_else false b q = q

        own : assigns (name j) (say j) ≡ true
        own = (says j l (omega arith)).assigns (name j) ∙ ap (λ (b : Bool). b && same (name j) (name j)) e ∙ same_refl (name j)

        at : Dec (j ≡ lo + k) → (j < lo + k → has (name j) (scope_of say lo k) ≡ true) → (assigns (name j) (say (lo + k)) || has (name j) (scope_of say lo k)) ≡ true
        at (yes q) g = or_so (assigns (name j) (say (lo + k))) (has (name j) (scope_of say lo k)) (subst (λ (n : ℕ). assigns (name j) (say n) ≡ true) q own)
        at (no n) g = or_else (assigns (name j) (say (lo + k))) (has (name j) (scope_of say lo k)) (g (omega arith))

    assigns-other : (n : syntax.Name) (j : ℕ) → lo ≤ j → j < hi → (assigning S j ≡ true → name j ≡ n → ⊥) → assigns n (say j) ≡ false
    assigns-other n j l u f = (says j l u).assigns n ∙ at (assigning S j) f
      where
        at : (b : Bool) → (b ≡ true → name j ≡ n → ⊥) → (b && same (name j) n) ≡ false
        at true g = ne_same (name j) n (g refl)
        at false g = refl

    has_none : (n : syntax.Name) (k : ℕ) → lo + k ≤ hi → ((j : ℕ) → lo ≤ j → j < lo + k → name j ≡ n → ⊥) → has n (scope_of say lo k) ≡ false
    has_none n zero t f = refl
    has_none n (suc k) t f =
        ap (λ (b : Bool). b || has n (scope_of say lo k)) (assigns-other n (lo + k) (omega arith) (omega arith) (λ e q. f (lo + k) (omega arith) (omega arith) q))
        ∙ has_none n k (omega arith) (λ j l u q. f j l (omega arith) q)

    side_row_lem : (k j : ℕ) → lo + k ≤ hi → lo ≤ j → j < lo + k → assigning S j ≡ true → side_of (name j) (scope_of say lo k) ≡ side_in (say j)
    side_row_lem zero j t l u e = absurd (let z : ⊥ = omega arith in z)
    side_row_lem (suc k) j t l u e = at (ℕ_discrete j (lo + k)) (λ v. side_row_lem k j (omega arith) l v e)
      where
        own : assigns (name j) (say j) ≡ true
        own = (says j l (omega arith)).assigns (name j) ∙ ap (λ (b : Bool). b && same (name j) (name j)) e ∙ same_refl (name j)

        at : Dec (j ≡ lo + k) → (j < lo + k → side_of (name j) (scope_of say lo k) ≡ side_in (say j)) → cond (assigns (name j) (say (lo + k))) (side_in (say (lo + k))) (side_of (name j) (scope_of say lo k)) ≡ side_in (say j)
        at (yes q) g = cond-true (assigns (name j) (say (lo + k))) (side_in (say (lo + k))) (side_of (name j) (scope_of say lo k)) (subst (λ (n : ℕ). assigns (name j) (say n) ≡ true) q own) ∙ ap (λ (n : ℕ). side_in (say n)) (sym q)
        at (no n) g =
            cond-false (assigns (name j) (say (lo + k))) (side_in (say (lo + k))) (side_of (name j) (scope_of say lo k))
            (assigns-other (name j) (lo + k) (omega arith) (omega arith)
            (λ f q. n (sym (apart (lo + k) j (record { low = omega arith; high = omega arith; so = f }) (record { low = l; high = omega arith; so = e }) q))))
            ∙ g (omega arith)

    -- ---- one row
    module _ (i : ℕ) (l : lo ≤ i) (u : i < hi) where
      abbrev r : Statement
      r = statement_at S i

      known : statement_ok text S O A lo i r ≡ true
      known = ok i l u

      names-before : (j : ℕ) → lo ≤ j → j < i → assigning S j ≡ true → IsName (name j)
      names-before j a b e = row_name j a (omega arith) e

      -- its operands
      fit-known : (eqb (long r.operands) (arity S r) && operands_ok S O lo i r.operands) ≡ true
      unfolding operands_fit
      fit-known = operands-known text S O A lo i known

      operand : (k : ℕ) → r.operands.first ≤ k → k < r.operands.past → OperandOk (operand_of text S O k)
      operand = operands-ok text S O lo i names-before words-O r.operands (and_right (eqb (long r.operands) (arity S r)) (operands_ok S O lo i r.operands) fit-known)

      all_operands : All OperandOk (along (operand_of text S O) r.operands)
      all_operands = all_along OperandOk (operand_of text S O) r.operands operand

      pair : is_condition r.code ≡ true → OperandOk (operand_of text S O r.operands.first) × OperandOk (operand_of text S O (r.operands.first + 1))
      unfolding size
      pair e = let two : long r.operands ≡ 2 = (rows i l u).two e in (operand r.operands.first (omega arith) (omega arith), operand (r.operands.first + 1) (omega arith) (omega arith))

      -- its block
      block_row : has_block r.code ≡ true → refers_to_block S lo i r.block ≡ true
      unfolding block_ok
      block_row e = sym (cond-true (has_block r.code) (refers_to_block S lo i r.block) (eqb r.block 0) e) ∙ block-known text S O A lo i known

      block-refers : has_block r.code ≡ true → Refers S lo i r.block
      block-refers e = refers-block S lo i r.block (block_row e)

      block_code : has_block r.code ≡ true → (statement_at S r.block).code ≡ keyword_code keyword.block
      unfolding refers_to_block
      block_code e = eqb-true (statement_at S r.block).code (keyword_code keyword.block) (and_right (formed.among lo i r.block) _ (block_row e))

      block-name : has_block r.code ≡ true → IsName (name r.block)
      block-name e = let f = block-refers e in names-before r.block f.low f.high f.so

      -- where it is no condition
      module _ (n₁ : eqb r.code (keyword_code keyword.pc) ≡ false) (n₂ : eqb r.code (keyword_code keyword.blockpc) ≡ false) where
        so : assigning S i ≡ true
        so = rw (n₁, n₂) refl

        is_assignment_lem : is_assignment r.code ≡ true
        is_assignment_lem = assignment_code r.code (code_known text S O A lo i known) so

        width_ok_lem : width_fits r.width ≡ true
        unfolding width_ok
        width_ok_lem = sym (cond-true (is_assignment r.code) (width_fits r.width) (eqb r.width 0) is_assignment_lem) ∙ width_known text S O A lo i known

        attributes-fit : attributes_ok text A known_bits_code range_code r.attributes ≡ true
        unfolding attributes_fit
        attributes-fit = sym (cond-true (is_assignment r.code) (attributes_ok text A known_bits_code range_code r.attributes) (eqb (long r.attributes) 0) is_assignment_lem) ∙ attributes-known text S O A lo i known

        -- an instruction
        module _ (m₁ : eqb r.code (keyword_code keyword.var) ≡ false) (m₂ : eqb r.code (keyword_code keyword.block) ≡ false) (m₃ : eqb r.code (keyword_code keyword.phi) ≡ false)
            (m₄ : eqb r.code (keyword_code keyword.reservedinst) ≡ false) (m₅ : eqb r.code (keyword_code keyword.reservedconst) ≡ false) where
          code_low : (1 ≤ r.code) × (r.code ≤ 59)
          unfolding is_assignment
          code_low =
              let b = between (instruction_code 0) (keyword_code keyword.reservedconst) r.code is_assignment_lem in
              (b.0, below (eqb-false _ _ m₁) (eqb-false _ _ m₂) (eqb-false _ _ m₃) (eqb-false _ _ m₄) (eqb-false _ _ m₅) b.1)
            where
              below : {n : ℕ} → (n ≡ 60 → ⊥) → (n ≡ 61 → ⊥) → (n ≡ 62 → ⊥) → (n ≡ 63 → ⊥) → (n ≡ 64 → ⊥) → n ≤ 64 → n ≤ 59
              below a b c d e t = omega arith

          instruction_code_lem : is_instruction r.code ≡ true
          unfolding is_instruction inside
          instruction_code_lem = rw (le-leb 1 r.code code_low.0, le-leb r.code 59 code_low.1) refl

          instruction-arity : length (along (operand_of text S O) r.operands) ≡ arity_of (r.code - 1)
          unfolding arity
          instruction-arity =
              length-each (operand_of text S O) r.operands.first (long r.operands)
              ∙ eqb-true (long r.operands) (arity S r) (and_left (eqb (long r.operands) (arity S r)) (operands_ok S O lo i r.operands) fit-known)
              ∙ cond-true _ _ _ instruction_code_lem

          instruction-ok : SideOk (syntax.instruction (r.code - 1) (along (operand_of text S O) r.operands))
          instruction-ok = (omega (arith, code_low.0, code_low.1), instruction-arity, all_operands)

        side-ok : SideOk (as_side text S O r)
        unfolding has_block
        side-ok =
            by_side text S O A r SideOk (λ e. tt) (λ e. number-below i) (λ e. (block-name (ap has_block e), all_operands)) (λ e. tt) (λ e. tt) instruction-ok

        assignment-ok : StatementOk (syntax.assignment (record { name = name i; typing = typing_of r.width; side = as_side text S O r; attributes = along (attribute_of text A) r.attributes }))
        assignment-ok = record { name = row_name i l u so; typing = typing-ok r.width width_ok_lem; side = side-ok; attributes = attributes-ok text A words-A known_bits_code range_code r.attributes attributes-fit }

      statement-ok : StatementOk (say i)
      unfolding statement_of has_block name_at
      statement-ok =
          by_statement text S O A r StatementOk (λ e. pair (ap is_condition e))
          (λ e. (block-name (ap has_block e), number-below i, (pair (ap is_condition e)).0, (pair (ap is_condition e)).1)) assignment-ok

      -- ---- in its scope, the rows before it
      module _ (k : ℕ) (q : i ≡ lo + k) where
        abbrev before : List syntax.Statement
        before = scope_of say lo k

        fresh : among before (say i) ≡ false
        unfolding statement_of name_at
        fresh =
            by_statement text S O A r (λ z. among before z ≡ false) (λ e. refl) (λ e. refl)
            (λ n₁ n₂. has_none (name i) k (omega arith) (λ j a b e. name_new text S O A lo i known (so n₁ n₂) j a (omega arith) e))

        refer_known : Known before (syntax.refers (say i))
        unfolding refers
        refer_known =
            subst (Known before) (sym ((says i l u).by_name ∙ ap (map name) (cond-true _ _ _ (lt-ltb i s (omega arith)))))
            (all_names (Refers S lo i) (λ m. has m before ≡ true) name (λ j f. has_row k j (omega arith) f.low (omega (arith, f.high)) f.so) (references S O i) (all_refer text S O A lo i known))

        -- the block of a phi or a blockpc
        block-side : has_block r.code ≡ true → side_of (name r.block) before ≡ syntax.block (statement_at S r.block).number
        unfolding statement_of
        block-side e =
            let f = block-refers e in
            side_row_lem k r.block (omega arith) f.low (omega (arith, f.high)) f.so
            ∙ block_said text S O A (statement_at S r.block) (block_code e)

        phi-size : r.code ≡ keyword_code keyword.phi → length (along (operand_of text S O) r.operands) ≡ (statement_at S r.block).number
        unfolding arity is_instruction inside
        phi-size e =
            length-each (operand_of text S O) r.operands.first (long r.operands)
            ∙ eqb-true (long r.operands) (arity S r) (and_left (eqb (long r.operands) (arity S r)) (operands_ok S O lo i r.operands) fit-known)
            ∙ cond-false _ _ _ (ap is_instruction e) ∙ cond-true _ _ _ (ap (λ (n : ℕ). eqb n (keyword_code keyword.phi)) e)

        phi-fits : r.code ≡ keyword_code keyword.phi → SideFits before (syntax.phi (name r.block) (along (operand_of text S O) r.operands))
        unfolding has_block
        phi-fits e = (ap is_block (block-side (ap has_block e)), phi-size e ∙ ap block_size (sym (block-side (ap has_block e))))

        blocks : BlockFits before (say i)
        unfolding statement_of has_block
        blocks =
            by_statement text S O A r (BlockFits before) (λ e. tt) (λ e. ap is_block (block-side (ap has_block e)))
            (λ n₁ n₂. by_side text S O A r (SideFits before) (λ e. tt) (λ e. tt) phi-fits (λ e. tt) (λ e. tt) (λ m₁ m₂ m₃ m₄ m₅. tt))

        fits : Fits before (say i)
        fits = record { ok = statement-ok; fresh = fresh; known = refer_known; blocks = blocks }

    -- ---- all rows
    pub rows_wf : (k : ℕ) → lo + k ≤ hi → Wf (scope_of say lo k)
    rows_wf zero t = tt
    rows_wf (suc k) t = (fits (lo + k) (omega arith) (omega arith) k refl, rows_wf k (omega arith))
