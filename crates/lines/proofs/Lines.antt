-- Each line as the pieces that it is written in, and how long it is at most.
-- Assumes nothing.
use mathlib.Core.Path.{◌≡◌, ap, ◌∙◌, subst⁻¹}
use mathlib.Core.Logic.{◌⊎◌, inl, inr}
use mathlib.Core.Bool.{Bool, true, false, cond, true≢false}
use mathlib.Core.List.{List, [], ◌∷◌, ◌++◌}
use Prim.Native.Nat.{ℕ, ◌+◌, ◌^◌, ◌≤◌}
use native.Mathlib.Omega.{arith}
use borrow.Author.Tests.{ne_eqb, lt-leb, leb-true}
use lib.Dec.{eqb, leb}
use lib.ListN.{length, length-append}
use Rattle.laws.proofs.Cases.{by_cases}
use Rattle.laws.proofs.Tests.{cond-false, and_true, and_false}
use Rattle.rules.specs.declared.Span.{Span}
use Rattle.rules.specs.declared.Statement.{Statement}
use Rattle.rules.specs.Bytes.{bytes, inside}
use Rattle.rules.specs.Integers.{decimal}
use Rattle.rules.specs.Out.{joined}
use Rattle.rules.specs.Keywords as keyword
use Rattle.rules.specs.Rows.{letters_of, name_at, statement_at, keyword_code}
use Rattle.rules.specs.WellFormed.{is_condition}
use Rattle.rules.specs.Syntax as syntax
use Rattle.rules.specs.View.{along, typing_of, operand_of, attribute_of, root_attribute_of, as_side, as_statement, statement_of}
use Rattle.rules.specs.Printing.{feed, typing, operand, side, attribute, root_attribute, attributes, line, infer_line, result_line, cand_line}
use Rattle.wide.proofs.Decimals.{decimal-most}
use Rattle.pieces.specs.Bounds.{Few}
use Rattle.proof_tails.proofs.Tails.{typing-tail, operand-tail, pair_tail, attribute-tail, root_attribute_tail, attributes-tail, side-tail}
use Rattle.pieces.proofs.Bounds.{either, letters-short, name-short, typing-short, operand_short, pair_short, attributes-most, root_attributes_most}
use Rattle.lines.proofs.Sides.{as_side_short}

assignment_pieces : (a : syntax.Assignment)
    → line (syntax.assignment a) [] ≡ joined (a.name ∷ typing a.typing [] ∷ bytes " = " ∷ side a.side [] ∷ attributes attribute a.attributes [] ∷ feed [] ∷ [])
assignment_pieces a =
    let last = attributes attribute a.attributes (feed []) in
    ap (λ (l : List ℕ). a.name ++ l)
    (typing-tail a.typing (bytes " = " ++ side a.side last)
    ∙ ap (λ (l : List ℕ). typing a.typing [] ++ (bytes " = " ++ l))
    (side-tail a.side last ∙ ap (λ (l : List ℕ). side a.side [] ++ l) (attributes-tail attribute attribute-tail a.attributes (feed []))))

pub pc_pieces : (x y : syntax.Operand) → line (syntax.pc x y) [] ≡ joined (bytes "pc " ∷ operand x (bytes " " ++ operand y []) ∷ feed [] ∷ [])
pc_pieces x y = ap (λ (l : List ℕ). bytes "pc " ++ l) (pair_tail x y (feed []))

pub blockpc_pieces : (n : syntax.Name) (k : ℕ) (x y : syntax.Operand)
    → line (syntax.blockpc n k x y) [] ≡ joined (bytes "blockpc " ∷ n ∷ bytes " " ∷ decimal k ∷ operand x (bytes " " ++ operand y []) ∷ feed [] ∷ [])
blockpc_pieces n k x y = ap (λ (l : List ℕ). bytes "blockpc " ++ (n ++ (bytes " " ++ (decimal k ++ l)))) (pair_tail x y (feed []))

pub infer_pieces : (n : syntax.Name) (l : List syntax.RootAttribute) → infer_line n l [] ≡ joined (bytes "infer " ∷ n ∷ attributes root_attribute l [] ∷ feed [] ∷ [])
infer_pieces n l = ap (λ (t : List ℕ). bytes "infer " ++ (n ++ t)) (attributes-tail root_attribute root_attribute_tail l (feed []))

pub result_pieces : (o : syntax.Operand) → result_line o [] ≡ joined (bytes "result " ∷ operand o [] ∷ feed [] ∷ [])
result_pieces o = ap (λ (l : List ℕ). bytes "result " ++ l) (operand-tail o (feed []))

pub cand_pieces : (x y : syntax.Operand) (l : List syntax.RootAttribute)
    → cand_line x y l [] ≡ joined (bytes "cand " ∷ operand x (bytes " " ++ operand y []) ∷ attributes root_attribute l [] ∷ feed [] ∷ [])
cand_pieces x y l =
    ap (λ (t : List ℕ). bytes "cand " ++ t)
    (pair_tail x y (attributes root_attribute l (feed []))
    ∙ ap (λ (t : List ℕ). operand x (bytes " " ++ operand y []) ++ t) (attributes-tail root_attribute root_attribute_tail l (feed [])))

-- what is equal to something short is short
as_short : {w v : List ℕ} {m : ℕ} → w ≡ v → length v ≤ m → length w ≤ m
as_short {m = m} e h = subst⁻¹ (λ (l : List ℕ). length l ≤ m) e h

-- the codes of conditions
no_condition : (c : ℕ) → is_condition c ≡ false → (c ≡ keyword_code keyword.pc) ⊎ (c ≡ keyword_code keyword.blockpc) → ⊥
unfolding is_condition inside
no_condition c q (inl e) = let z : ◌≡◌ {A = Bool} true false = rw e at q in absurd (true≢false z)
no_condition c q (inr e) = let z : ◌≡◌ {A = Bool} true false = rw e at q in absurd (true≢false z)

pub other_code : (c : ℕ) → (c ≡ keyword_code keyword.pc → ⊥) → (c ≡ keyword_code keyword.blockpc → ⊥) → is_condition c ≡ false
unfolding is_condition inside
other_code c p q =
    by_cases (leb 65 c)
    (λ e. and_true (leb 65 c) (leb c 66) e ∙ lt-leb c 66 (omega (arith, leb-true 65 c e, p, q)))
    (λ e. and_false (leb 65 c) (leb c 66) e)

module _ (text S O A : List ℕ) where
  -- what an assignment's row says
  abbrev assigned : Statement → syntax.Assignment
  assigned r =
      record {
        name = letters_of text r.name;
        typing = typing_of r.width;
        side = as_side text S O r;
        attributes = along (attribute_of text A) r.attributes;
      }

  an_assignment : (r : Statement) → is_condition r.code ≡ false → as_statement text S O A r ≡ syntax.assignment (assigned r)
  unfolding as_statement
  an_assignment r q =
      cond-false _ _ _ (ne_eqb r.code (keyword_code keyword.pc) (λ e. no_condition r.code q (inl e)))
      ∙ cond-false _ _ _ (ne_eqb r.code (keyword_code keyword.blockpc) (λ e. no_condition r.code q (inr e)))

  pub said_pieces : (r : Statement) → is_condition r.code ≡ false
      → line (as_statement text S O A r) []
      ≡ joined (letters_of text r.name ∷ typing (typing_of r.width) [] ∷ bytes " = " ∷ side (as_side text S O r) [] ∷ attributes attribute (along (attribute_of text A) r.attributes) [] ∷ feed [] ∷ [])
  said_pieces r q = ap (λ (s : syntax.Statement). line s []) (an_assignment r q) ∙ assignment_pieces (assigned r)

module _ (text : List ℕ) (short : length text ≤ 65536) (S O A : List ℕ) where
  assignment-short : (r : Statement) → Few r.operands → Few r.attributes → length (line (syntax.assignment (assigned text S O A r)) []) ≤ 2 ^ 35
  assignment-short r w v =
      as_short (assignment_pieces (assigned text S O A r))
      (simp length-append (omega (arith, letters-short text r.name, typing-short (typing_of r.width), as_side_short text short S O r w, attributes-most text short A r.attributes v)))

  pc-short : (i j : ℕ) → length (line (syntax.pc (operand_of text S O i) (operand_of text S O j)) []) ≤ 2 ^ 35
  pc-short i j = as_short (pc_pieces (operand_of text S O i) (operand_of text S O j)) (simp length-append (omega (arith, pair_short text short S O i j)))

  blockpc-short : (b k i j : ℕ) → length (line (syntax.blockpc (name_at text S b) k (operand_of text S O i) (operand_of text S O j)) []) ≤ 2 ^ 35
  blockpc-short b k i j =
      as_short (blockpc_pieces (name_at text S b) k (operand_of text S O i) (operand_of text S O j))
      (simp length-append (omega (arith, name-short text S b, decimal-most k, pair_short text short S O i j)))

  as_statement_short : (r : Statement) → Few r.operands → Few r.attributes → length (line (as_statement text S O A r) []) ≤ 2 ^ 35
  unfolding as_statement
  as_statement_short r w v =
      let f = operand_of text S O in
      let show : syntax.Statement → List ℕ = λ s. line s [] in
      let blocked = syntax.blockpc (name_at text S r.block) r.number (f r.operands.first) (f (r.operands.first + 1)) in
      let last = syntax.assignment (assigned text S O A r) in
      either show (eqb r.code (keyword_code keyword.pc)) (syntax.pc (f r.operands.first) (f (r.operands.first + 1))) (cond (eqb r.code (keyword_code keyword.blockpc)) blocked last)
      (pc-short r.operands.first (r.operands.first + 1))
      (either show (eqb r.code (keyword_code keyword.blockpc)) blocked last
      (blockpc-short r.block r.number r.operands.first (r.operands.first + 1)) (assignment-short r w v))

  pub line-short : (i : ℕ) → Few (statement_at S i).operands → Few (statement_at S i).attributes → length (line (statement_of text S O A i) []) ≤ 2 ^ 35
  unfolding statement_of
  line-short i w v = as_statement_short (statement_at S i) w v

  pub infer-short : (i : ℕ) (s : Span) → Few s → length (infer_line (name_at text S i) (along (root_attribute_of text A) s) []) ≤ 2 ^ 35
  infer-short i s w =
      as_short (infer_pieces (name_at text S i) (along (root_attribute_of text A) s))
      (simp length-append (omega (arith, name-short text S i, root_attributes_most text short A s w)))

  pub result-short : (i : ℕ) → length (result_line (operand_of text S O i) []) ≤ 2 ^ 35
  result-short i = as_short (result_pieces (operand_of text S O i)) (simp length-append (omega (arith, operand_short text short S O i)))

  pub cand-short : (i j : ℕ) (s : Span) → Few s → length (cand_line (operand_of text S O i) (operand_of text S O j) (along (root_attribute_of text A) s) []) ≤ 2 ^ 35
  cand-short i j s w =
      as_short (cand_pieces (operand_of text S O i) (operand_of text S O j) (along (root_attribute_of text A) s))
      (simp length-append (omega (arith, pair_short text short S O i j, root_attributes_most text short A s w)))
