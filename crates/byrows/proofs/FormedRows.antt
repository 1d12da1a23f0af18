-- What a well-formed statement row gives: it refers to assignments before it in its item, has the operands that its code takes, and a name of its own.
-- Assumes nothing.
use Prim.Native.Nat.{ℕ, zero, suc, ◌+◌, ◌-◌, ◌≤◌, ◌<◌}
use mathlib.Core.Path.{◌≡◌, refl, sym, ap, ◌∙◌, subst}
use mathlib.Core.Logic.{◌⊎◌, inl, inr, ⊎_elim}
use mathlib.Core.Bool.{Bool, true, false, cond, not, ◌&&◌, ◌||◌, false≢true}
use mathlib.Core.List.{List, [], ◌∷◌}
use native.Mathlib.Omega.{arith}
use lib.Dec.{eqb, leb, ltb}
use borrow.Author.Tests.{eqb-true, eqb-false, leb-true, ltb-true, ne_eqb, le-leb}
use Rattle.rules.specs.declared.Span.{Span}
use Rattle.rules.specs.declared.Statement.{Statement}
use Rattle.rules.specs.Bytes.{inside, same}
use Rattle.rules.specs.Instructions.{arity_of}
use Rattle.rules.specs.Keywords as keyword
use Rattle.rules.specs.Rows.{◌up_to◌, instruction_code, keyword_code, value_code, name_at, statement_at, operand_at}
use Rattle.rules.specs.WellFormed.{among, long, statement_ok, name_ok, new_name, is_assignment, is_instruction, block_ok, has_block, refers_to, refers_to_block, operands_fit, operands_ok, operand_ok, value_ok, arity}
use Rattle.rules.specs.WellFormed as formed
use Rattle.rules.specs.Meaning.{All}
use Rattle.laws.proofs.Cases.{by_cases}
use Rattle.laws.proofs.Same.{eq_same}
use Rattle.laws.proofs.Tests.{and_left, and_right, cond-true, cond-false}
use Rattle.laws.proofs.Members.{all_map, all_append}
use Rattle.listing.specs.References.{named, size, references}
use Rattle.byrows.proofs.Views.{assigning, is_condition, is_bare, Fit}
use Rattle.byrows.proofs.Spans.{every-along}

-- ---- tests
-- a choice that a test decides passes
pub picked : (t x y : Bool) → t ≡ true → cond t x y ≡ true → x ≡ true
picked t x y e h = sym (cond-true t x y e) ∙ h

pub between : (lo hi c : ℕ) → inside lo hi c ≡ true → (lo ≤ c) × (c ≤ hi)
unfolding inside
between lo hi c e = (leb-true lo c (and_left (leb lo c) (leb c hi) e), leb-true c hi (and_right (leb lo c) (leb c hi) e))

-- ---- codes
assigning_code : (c : ℕ) → is_assignment c ≡ true → not (is_condition c) ≡ true
unfolding is_assignment
assigning_code c e =
    let b = between 1 64 c e in
    ap not (ap (λ (x : Bool). x || eqb c 66) (ne_eqb c 65 (λ q. omega (arith, b.1))) ∙ ne_eqb c 66 (λ q. omega (arith, b.1)))

pub assignment_code : (c : ℕ) → inside (instruction_code 0) (keyword_code keyword.blockpc) c ≡ true → not (is_condition c) ≡ true → is_assignment c ≡ true
unfolding is_assignment inside
assignment_code c e n =
    let b = between 1 66 c e in
    let d = apart (eqb c 65) (eqb c 66) n in
    let f = eqb-false c 65 d.0 in
    let g = eqb-false c 66 d.1 in
    ap (λ (x : Bool). x && leb c 64) (le-leb 1 c b.0) ∙ le-leb c 64 (top f g b.1)
  where
    apart : (x y : Bool) → not (x || y) ≡ true → (x ≡ false) × (y ≡ false)
    apart true y h = absurd (false≢true h)
    apart false true h = absurd (false≢true h)
    apart false false h = (refl, refl)

    top : (c ≡ 65 → ⊥) → (c ≡ 66 → ⊥) → c ≤ 66 → c ≤ 64
    top f g l = omega arith

-- ---- references
pub record Refers (S : List ℕ) (lo hi j : ℕ) : Type 0 where
  pub low : lo ≤ j
  pub high : j < hi
  pub so : assigning S j ≡ true

pub refers_to_lem : (S : List ℕ) (lo hi j : ℕ) → refers_to S lo hi j ≡ true → Refers S lo hi j
unfolding refers_to among
refers_to_lem S lo hi j e =
    let a : Bool = leb lo j in
    let b : Bool = ltb j hi in
    let c : Bool = is_assignment (statement_at S j).code in
    record {
      low = leb-true lo j (and_left a b (and_left (a && b) c e));
      high = ltb-true j hi (and_right a b (and_left (a && b) c e));
      so = assigning_code (statement_at S j).code (and_right (a && b) c e);
    }

pub refers-block : (S : List ℕ) (lo hi j : ℕ) → refers_to_block S lo hi j ≡ true → Refers S lo hi j
unfolding refers_to_block among
refers-block S lo hi j e =
    let a : Bool = leb lo j in
    let b : Bool = ltb j hi in
    let c : Bool = eqb (statement_at S j).code 61 in
    record {
      low = leb-true lo j (and_left a b (and_left (a && b) c e));
      high = ltb-true j hi (and_right a b (and_left (a && b) c e));
      so = ap (λ (n : ℕ). not (is_condition n)) (eqb-true (statement_at S j).code 61 (and_right (a && b) c e));
    }

named_all : (P : ℕ → Type 0) (O : List ℕ) (n a : ℕ) → ((k : ℕ) → a ≤ k → k < a + n → eqb (operand_at O k).code value_code ≡ true → P (operand_at O k).row) → All P (named O a n)
named_all P O zero a f = tt
named_all P O (suc n) a f =
    by_cases (eqb (operand_at O a).code value_code)
    (λ e. subst (All P) (sym (cond-true _ ((operand_at O a).row ∷ named O (suc a) n) (named O (suc a) n) e)) (f a (omega arith) (omega arith) e, named_all P O n (suc a) (λ k l h. f k (omega arith) (omega arith))))
    (λ e. subst (All P) (sym (cond-false _ ((operand_at O a).row ∷ named O (suc a) n) (named O (suc a) n) e)) (named_all P O n (suc a) (λ k l h. f k (omega arith) (omega arith))))

pub operands_refer : (S O : List ℕ) (lo hi : ℕ) (s : Span) → operands_ok S O lo hi s ≡ true → (n : ℕ) → long s ≡ n → All (Refers S lo hi) (named O s.first n)
unfolding operands_ok operand_ok value_ok
operands_refer S O lo hi s e n q =
    named_all (Refers S lo hi) O n s.first
    (λ k l h v.
    let ok : operand_ok S lo hi (operand_at O k) ≡ true = every-along (λ i. operand_ok S lo hi (operand_at O i)) s e k l (omega arith) in
    refers_to_lem S lo hi (operand_at O k).row (and_left _ _ (picked _ _ _ v ok)))

-- ---- a statement's row
or_split : (a b : Bool) → (a || b) ≡ true → (a ≡ true) ⊎ (b ≡ true)
or_split true b e = inl refl
or_split false b e = inr e

-- how many operands a code has, where n is its block's number
abbrev pub arity_with : ℕ → ℕ → ℕ
arity_with n c = cond (is_instruction c) (arity_of (c - 1)) (cond (eqb c (keyword_code keyword.phi)) n (cond (formed.is_condition c) 2 0))

condition-arity : (n c : ℕ) → is_condition c ≡ true → arity_with n c ≡ 2
unfolding is_instruction formed.is_condition inside
condition-arity n c e =
    ⊎_elim (λ (q : eqb c 65 ≡ true). ap (arity_with n) (eqb-true c 65 q)) (λ (q : eqb c 66 ≡ true). ap (arity_with n) (eqb-true c 66 q)) (or_split (eqb c 65) (eqb c 66) e)

bare_arity : (n c : ℕ) → is_bare c ≡ true → arity_with n c ≡ 0
unfolding is_instruction formed.is_condition inside
bare_arity n c e =
    ⊎_elim (λ (q : eqb c 60 ≡ true). ap (arity_with n) (eqb-true c 60 q))
    (λ (f : (eqb c 61 || (eqb c 63 || eqb c 64)) ≡ true).
    ⊎_elim (λ (q : eqb c 61 ≡ true). ap (arity_with n) (eqb-true c 61 q))
    (λ (g : (eqb c 63 || eqb c 64) ≡ true).
    ⊎_elim (λ (q : eqb c 63 ≡ true). ap (arity_with n) (eqb-true c 63 q)) (λ (q : eqb c 64 ≡ true). ap (arity_with n) (eqb-true c 64 q)) (or_split (eqb c 63) (eqb c 64) g))
    (or_split (eqb c 61) (eqb c 63 || eqb c 64) f))
    (or_split (eqb c 60) (eqb c 61 || (eqb c 63 || eqb c 64)) e)

module _ (text S O A : List ℕ) (lo i : ℕ) (ok : statement_ok text S O A lo i (statement_at S i) ≡ true) where
  abbrev row : Statement
  row = statement_at S i

  abbrev from₆ : Bool
  from₆ = operands_fit S O lo i row && formed.attributes_fit text A row

  abbrev from₅ : Bool
  from₅ = block_ok S lo i row && from₆

  abbrev from₄ : Bool
  from₄ = formed.number_ok row && from₅

  abbrev from₃ : Bool
  from₃ = formed.width_ok row && from₄

  abbrev from₂ : Bool
  from₂ = name_ok text S lo i row && from₃

  pub code_known : inside (instruction_code 0) (keyword_code keyword.blockpc) row.code ≡ true
  unfolding statement_ok
  code_known = and_left (inside 1 66 row.code) from₂ ok

  rest₂ : from₂ ≡ true
  unfolding statement_ok
  rest₂ = and_right (inside 1 66 row.code) from₂ ok

  pub name-known : name_ok text S lo i row ≡ true
  name-known = and_left (name_ok text S lo i row) from₃ rest₂

  rest₃ : from₃ ≡ true
  rest₃ = and_right (name_ok text S lo i row) from₃ rest₂

  pub width_known : formed.width_ok row ≡ true
  width_known = and_left (formed.width_ok row) from₄ rest₃

  rest₅ : from₅ ≡ true
  rest₅ = and_right (formed.number_ok row) from₅ (and_right (formed.width_ok row) from₄ rest₃)

  pub block-known : block_ok S lo i row ≡ true
  block-known = and_left (block_ok S lo i row) from₆ rest₅

  pub operands-known : operands_fit S O lo i row ≡ true
  operands-known = and_left (operands_fit S O lo i row) (formed.attributes_fit text A row) (and_right (block_ok S lo i row) from₆ rest₅)

  pub attributes-known : formed.attributes_fit text A row ≡ true
  attributes-known = and_right (operands_fit S O lo i row) (formed.attributes_fit text A row) (and_right (block_ok S lo i row) from₆ rest₅)

  pub size-known : size S i ≡ arity_with (statement_at S row.block).number row.code
  unfolding operands_fit size arity
  size-known = eqb-true (long row.operands) (arity S row) (and_left (eqb (long row.operands) (arity S row)) (operands_ok S O lo i row.operands) operands-known)

  -- all that it refers to is an assignment before it, of the same item
  pub all_refer : All (Refers S lo i) (references S O i)
  unfolding references operands_fit size block_ok
  all_refer =
      all_append (Refers S lo i) (cond (has_block row.code) (row.block ∷ []) []) (named O row.operands.first (size S i))
      (by_cases (has_block row.code)
      (λ e. subst (All (Refers S lo i)) (sym (cond-true _ (row.block ∷ []) [] e)) (refers-block S lo i row.block (picked _ _ _ e block-known), tt))
      (λ e. subst (All (Refers S lo i)) (sym (cond-false _ (row.block ∷ []) [] e)) tt))
      (operands_refer S O lo i row.operands (and_right (eqb (long row.operands) (arity S row)) (operands_ok S O lo i row.operands) operands-known) (size S i) refl)

  pub row_fit : Fit S O lo i
  row_fit =
      record {
        own = all_map (Refers S lo i) (λ j. (lo ≤ j) × (assigning S j ≡ true)) (λ j f. (f.low, f.so)) (references S O i) all_refer;
        two = λ e. size-known ∙ condition-arity (statement_at S row.block).number row.code e;
        bare = λ e. size-known ∙ bare_arity (statement_at S row.block).number row.code e;
      }

  pub row_earlier : All (λ j. j < i) (references S O i)
  row_earlier = all_map (Refers S lo i) (λ j. j < i) (λ j f. f.high) (references S O i) all_refer

  -- no row before it in the item has its name
  pub name_new : assigning S i ≡ true → (k : ℕ) → lo ≤ k → k < i → name_at text S k ≡ name_at text S i → ⊥
  unfolding name_ok new_name
  name_new e k l h q =
      let new : new_name text S lo i ≡ true = and_right (formed.name_in text row.name) (new_name text S lo i) (picked _ _ _ (assignment_code row.code code_known e) name-known) in
      let other : not (same (name_at text S k) (name_at text S i)) ≡ true = every-along (λ k. not (same (name_at text S k) (name_at text S i))) (lo up_to i) new k l h in
      false≢true (sym (ap not (eq_same (name_at text S k) (name_at text S i) q)) ∙ other)
