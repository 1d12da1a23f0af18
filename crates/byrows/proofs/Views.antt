-- What a row says refers by name to what the row refers to by number.
-- Assumes nothing.
use Prim.Native.Nat.{ℕ, zero, suc, ◌+◌, ◌-◌, ◌≤◌, ◌<◌}
use mathlib.Core.Path.{◌≡◌, refl, sym, ap, ◌∙◌, subst}
use mathlib.Core.Bool.{Bool, true, false, cond, not, ◌||◌, ◌&&◌, false≢true}
use mathlib.Core.List.{List, [], ◌∷◌, ◌++◌, map, append-nil}
use native.Mathlib.Numerals.{add-one}
use lib.Dec.{eqb}
use borrow.Author.Tests.{eqb-true, lt-ltb}
use Rattle.rules.specs.declared.Statement.{Statement}
use Rattle.rules.specs.Bytes.{same}
use Rattle.rules.specs.Keywords as keyword
use Rattle.rules.specs.Listing as names
use Rattle.rules.specs.Rows.{keyword_code, value_code, bits_of, letters_of, name_at, statement_at, operand_at}
use Rattle.rules.specs.Syntax as syntax
use Rattle.rules.specs.Syntax.{flat, of_operand, of_side, value, constant, assignment, pc, blockpc}
use Rattle.rules.specs.View.{each, along, typing_of, as_operand, operand_of, attribute_of, as_side, as_statement, statement_of}
use Rattle.rules.specs.WellFormed.{has_block}
use Rattle.rules.specs.Meaning.{All}
use Rattle.laws.proofs.Cases.{by_cases}
use Rattle.laws.proofs.Tests.{cond-true, cond-false}
use Rattle.listing.specs.References.{named, size, references, refers}
use Rattle.listing.proofs.Marking.{or_true}
use Rattle.byrows.proofs.Names.{Says}

-- ---- codes
-- a condition, which assigns nothing; a right side with no operands
abbrev pub is_condition : ℕ → Bool
is_condition c = eqb c (keyword_code keyword.pc) || eqb c (keyword_code keyword.blockpc)

abbrev pub is_bare : ℕ → Bool
is_bare c = eqb c (keyword_code keyword.var) || (eqb c (keyword_code keyword.block) || (eqb c (keyword_code keyword.reservedinst) || eqb c (keyword_code keyword.reservedconst)))

abbrev pub assigning : List ℕ → ℕ → Bool
assigning S i = not (is_condition (statement_at S i).code)

or_first : {a : Bool} (b : Bool) → a ≡ true → (a || b) ≡ true
or_first b e = ap (λ (c : Bool). c || b) e

or_none : {a b : Bool} → a ≡ false → b ≡ false → (a || b) ≡ false
or_none {a} {b} e f = ap (λ (c : Bool). c || b) e ∙ f

-- ---- operands
module _ (text S O : List ℕ) where
  operand-name : (k : ℕ) → of_operand (operand_of text S O k) ≡ cond (eqb (operand_at O k).code value_code) (name_at text S (operand_at O k).row ∷ []) []
  unfolding operand_of as_operand
  operand-name k =
      by_cases (eqb (operand_at O k).code value_code)
      (λ e. ap of_operand (cond-true _ (value (name_at text S (operand_at O k).row)) other e) ∙ sym (cond-true _ (name_at text S (operand_at O k).row ∷ []) [] e))
      (λ e. ap of_operand (cond-false _ (value (name_at text S (operand_at O k).row)) other e) ∙ sym (cond-false _ (name_at text S (operand_at O k).row ∷ []) [] e))
    where
      other : syntax.Operand
      other = constant (bits_of (operand_at O k).bits) (typing_of (operand_at O k).width)

  pub operands-names : (n a : ℕ) → flat of_operand (each (operand_of text S O) a n) ≡ map (name_at text S) (named O a n)
  operands-names zero a = refl
  operands-names (suc n) a =
      ap (λ (l : List syntax.Name). l ++ flat of_operand (each (operand_of text S O) (a + 1) n)) (operand-name a)
      ∙ ap (λ (l : List syntax.Name). cond (eqb (operand_at O a).code value_code) (name_at text S (operand_at O a).row ∷ []) [] ++ l)
      (ap (λ (m : ℕ). flat of_operand (each (operand_of text S O) m n)) (add-one a) ∙ operands-names n (suc a))
      ∙ by_cases (eqb (operand_at O a).code value_code) (λ e. rw e) (λ e. rw e)

-- ---- right sides
-- the operands that a row has: two of a condition, none of a bare right side
pub record Fit (S O : List ℕ) (lo i : ℕ) : Type 0 where
  pub own : All (λ j. (lo ≤ j) × (assigning S j ≡ true)) (references S O i)
  pub two : is_condition (statement_at S i).code ≡ true → size S i ≡ 2
  pub bare : is_bare (statement_at S i).code ≡ true → size S i ≡ 0

module _ (text S O A : List ℕ) (i : ℕ) where
  abbrev row : Statement
  row = statement_at S i

  abbrev code : ℕ
  code = row.code

  abbrev name : ℕ → syntax.Name
  name = name_at text S

  abbrev is : ℕ → Bool
  is k = eqb code (keyword_code k)

  -- what the row refers to, where it takes a block, and where it takes none
  with_block : has_block code ≡ true → references S O i ≡ row.block ∷ named O row.operands.first (size S i)
  unfolding references
  with_block e = ap (λ (l : List ℕ). l ++ named O row.operands.first (size S i)) (cond-true _ (row.block ∷ []) [] e)

  no_block_lem : has_block code ≡ false → references S O i ≡ named O row.operands.first (size S i)
  unfolding references
  no_block_lem e = ap (λ (l : List ℕ). l ++ named O row.operands.first (size S i)) (cond-false _ (row.block ∷ []) [] e)

  no_operands : has_block code ≡ false → size S i ≡ 0 → references S O i ≡ []
  no_operands e z = no_block_lem e ∙ ap (named O row.operands.first) z

  -- the operands by name
  abbrev spans : List syntax.Name
  spans = flat of_operand (along (operand_of text S O) row.operands)

  spans_names : spans ≡ map name (named O row.operands.first (size S i))
  unfolding size
  spans_names = operands-names text S O (row.operands.past - row.operands.first) row.operands.first

  pair_names : size S i ≡ 2 → of_operand (operand_of text S O row.operands.first) ++ of_operand (operand_of text S O (row.operands.first + 1)) ≡ map name (named O row.operands.first (size S i))
  pair_names z =
      ap (λ (l : List syntax.Name). of_operand (operand_of text S O row.operands.first) ++ l) (sym (append-nil (of_operand (operand_of text S O (row.operands.first + 1)))))
      ∙ operands-names text S O 2 row.operands.first
      ∙ ap (λ (n : ℕ). map name (named O row.operands.first n)) (sym z)

  -- a code that is one of a keyword's takes a block as that keyword does
  takes : (k : ℕ) (b : Bool) → is k ≡ true → has_block (keyword_code k) ≡ b → has_block code ≡ b
  takes k b e f = ap has_block (eqb-true code (keyword_code k) e) ∙ f

  -- ---- the side of an assignment
  side-names : (is_bare code ≡ true → size S i ≡ 0) → is keyword.blockpc ≡ false → of_side (as_side text S O row) ≡ map name (references S O i)
  unfolding as_side has_block
  side-names bare nb =
      by_cases (is keyword.var) (λ e. ap of_side (cond-true _ syntax.var after-var e) ∙ nothing keyword.var e refl (or_first _ e))
      (λ e1. ap of_side (cond-false _ syntax.var after-var e1)
      ∙ by_cases (is keyword.block) (λ e. ap of_side (cond-true _ (syntax.block row.number) after_block e) ∙ nothing keyword.block e refl (or_true (is keyword.var) (or_first _ e)))
      (λ e2. ap of_side (cond-false _ (syntax.block row.number) after_block e2)
      ∙ by_cases (is keyword.phi) (λ e. ap of_side (cond-true _ phi after-phi e) ∙ ap (λ (l : List syntax.Name). name row.block ∷ l) spans_names ∙ ap (map name) (sym (with_block (or_first _ e))))
      (λ e3. ap of_side (cond-false _ phi after-phi e3)
      ∙ by_cases (is keyword.reservedinst) (λ e. ap of_side (cond-true _ syntax.reservedinst after_inst e) ∙ nothing keyword.reservedinst e refl (or_true (is keyword.var) (or_true (is keyword.block) (or_first _ e))))
      (λ e4. ap of_side (cond-false _ syntax.reservedinst after_inst e4)
      ∙ by_cases (is keyword.reservedconst) (λ e. ap of_side (cond-true _ syntax.reservedconst instruction e) ∙ nothing keyword.reservedconst e refl (or_true (is keyword.var) (or_true (is keyword.block) (or_true (is keyword.reservedinst) e))))
      (λ e5. ap of_side (cond-false _ syntax.reservedconst instruction e5) ∙ spans_names ∙ ap (map name) (sym (no_block_lem (or_none e3 nb))))))))
    where
      instruction : syntax.RightSide
      instruction = syntax.instruction (code - 1) (along (operand_of text S O) row.operands)

      after_inst : syntax.RightSide
      after_inst = cond (is keyword.reservedconst) syntax.reservedconst instruction

      after-phi : syntax.RightSide
      after-phi = cond (is keyword.reservedinst) syntax.reservedinst after_inst

      phi : syntax.RightSide
      phi = syntax.phi (name row.block) (along (operand_of text S O) row.operands)

      after_block : syntax.RightSide
      after_block = cond (is keyword.phi) phi after-phi

      after-var : syntax.RightSide
      after-var = cond (is keyword.block) (syntax.block row.number) after_block

      nothing : (k : ℕ) → is k ≡ true → has_block (keyword_code k) ≡ false → is_bare code ≡ true → [] ≡ map name (references S O i)
      nothing k e f b = ap (map name) (sym (no_operands (takes k false e f) (bare b)))

  -- ---- the statement
  abbrev as_pc : syntax.Statement
  as_pc = pc (operand_of text S O row.operands.first) (operand_of text S O (row.operands.first + 1))

  abbrev as_blockpc : syntax.Statement
  as_blockpc = blockpc (name row.block) row.number (operand_of text S O row.operands.first) (operand_of text S O (row.operands.first + 1))

  abbrev as_assignment : syntax.Statement
  as_assignment =
      assignment
      (record {
        name = letters_of text row.name;
        typing = typing_of row.width;
        side = as_side text S O row;
        attributes = along (attribute_of text A) row.attributes;
      })

  is_pc : is keyword.pc ≡ true → statement_of text S O A i ≡ as_pc
  unfolding statement_of as_statement
  is_pc e = cond-true _ as_pc (cond (is keyword.blockpc) as_blockpc as_assignment) e

  is_blockpc : is keyword.pc ≡ false → is keyword.blockpc ≡ true → statement_of text S O A i ≡ as_blockpc
  unfolding statement_of as_statement
  is_blockpc e f = cond-false _ as_pc (cond (is keyword.blockpc) as_blockpc as_assignment) e ∙ cond-true _ as_blockpc as_assignment f

  is_assignment_lem : is keyword.pc ≡ false → is keyword.blockpc ≡ false → statement_of text S O A i ≡ as_assignment
  unfolding statement_of as_statement
  is_assignment_lem e f = cond-false _ as_pc (cond (is keyword.blockpc) as_blockpc as_assignment) e ∙ cond-false _ as_blockpc as_assignment f

  refers-names : (lo : ℕ) → Fit S O lo i → syntax.refers (statement_of text S O A i) ≡ map name (references S O i)
  unfolding has_block
  refers-names lo f =
      by_cases (is keyword.pc)
      (λ e. ap syntax.refers (is_pc e) ∙ pair_names (f.two (or_first _ e)) ∙ ap (map name) (sym (no_block_lem (takes keyword.pc false e refl))))
      (λ e.
      by_cases (is keyword.blockpc)
      (λ g. ap syntax.refers (is_blockpc e g) ∙ ap (λ (l : List syntax.Name). name row.block ∷ l) (pair_names (f.two (or_true (is keyword.pc) g))) ∙ ap (map name) (sym (with_block (takes keyword.blockpc true g refl))))
      (λ g. ap syntax.refers (is_assignment_lem e g) ∙ side-names f.bare g))

  -- ---- the row says its statement
  assigns-name : (n : syntax.Name) → names.assigns n (statement_of text S O A i) ≡ (assigning S i && same (name i) n)
  unfolding name_at
  assigns-name n =
      by_cases (is keyword.pc)
      (λ e. ap (names.assigns n) (is_pc e) ∙ sym (ap (λ (b : Bool). not b && same (letters_of text row.name) n) (or_first (is keyword.blockpc) e)))
      (λ e.
      by_cases (is keyword.blockpc)
      (λ g. ap (names.assigns n) (is_blockpc e g) ∙ sym (ap (λ (b : Bool). not b && same (letters_of text row.name) n) (or_true (is keyword.pc) g)))
      (λ g. ap (names.assigns n) (is_assignment_lem e g) ∙ sym (ap (λ (b : Bool). not b && same (letters_of text row.name) n) (or_none e g))))

  no_condition : assigning S i ≡ true → (is keyword.pc ≡ false) × (is keyword.blockpc ≡ false)
  no_condition e = at (is keyword.pc) (is keyword.blockpc) e
    where
      at : (a b : Bool) → not (a || b) ≡ true → (a ≡ false) × (b ≡ false)
      at true b h = absurd (false≢true h)
      at false true h = absurd (false≢true h)
      at false false h = (refl, refl)

  among-name : assigning S i ≡ true → (t : List syntax.Statement) → names.among t (statement_of text S O A i) ≡ names.has (name i) t
  unfolding name_at
  among-name e t = ap (names.among t) (is_assignment_lem (no_condition e).0 (no_condition e).1)

  pub view_says : (s lo : ℕ) → i < s → Fit S O lo i → Says (statement_of text S O A) (name_at text S) (assigning S) (refers S O s) lo i
  unfolding refers
  view_says s lo h f =
      record {
        by_name = refers-names lo f ∙ ap (map name) (sym (cond-true _ (references S O i) [] (lt-ltb i s h)));
        own = subst (All (λ j. (lo ≤ j) × (assigning S j ≡ true))) (sym (cond-true _ (references S O i) [] (lt-ltb i s h))) f.own;
        assigns = assigns-name;
        among = among-name;
      }
