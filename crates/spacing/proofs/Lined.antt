-- Rows of two tables that are the same but for the places of their letters: row by row, whatever rows are read.
-- Assumes nothing.
use Prim.Native.Nat.{ℕ, zero, suc, ◌+◌, ◌*◌}
use mathlib.Core.Path.{◌≡◌, refl, ap, ◌∙◌}
use mathlib.Core.List.{List, [], ◌++◌, append-nil, append_assoc}
use native.Mathlib.Nat.{suc-mul}
use native.Mathlib.Omega.{arith}
use lib.ListN.{length, get_or}
use lib.Seq.{get_or-append-add}
use Rattle.rules.specs.declared.Span.{Span}
use Rattle.rules.specs.declared.Words.{Words}
use Rattle.rules.specs.declared.Statement.{Statement}
use Rattle.rules.specs.declared.Attribute.{Attribute}
use Rattle.rules.specs.Rows.{◌up_to◌, letters_of, field, statement_length, attribute_length, name_at, statement_at, attribute_at, statement_words, attribute_words}

-- two rows of statements that differ in their names' places alone
pub data Statements (x y : List ℕ) : Statement → Statement → Type 0 where
  statements : (code width number block : ℕ) (operands attributes name name' : Span) → letters_of x name ≡ letters_of y name'
      → Statements x y
      (record { code = code; name = name; width = width; number = number; block = block; operands = operands; attributes = attributes })
      (record { code = code; name = name'; width = width; number = number; block = block; operands = operands; attributes = attributes })

-- two rows of attributes that differ in their patterns' places alone
pub data Attributes (x y : List ℕ) : Attribute → Attribute → Type 0 where
  attributes : (code : ℕ) (low high : Words) (pattern pattern' : Span) → letters_of x pattern ≡ letters_of y pattern'
      → Attributes x y
      (record { code = code; pattern = pattern; low = low; high = high })
      (record { code = code; pattern = pattern'; low = low; high = high })

-- words of rows, row by row
pub data Lined {R : Type 0} (words : R → List ℕ) (Same : R → R → Type 0) : List ℕ → List ℕ → Type 0 where
  none : Lined words Same [] []
  more : (r r' : R) (v w : List ℕ) → Same r r' → Lined words Same v w → Lined words Same (words r ++ v) (words r' ++ w)

-- a row more
pub lined_more : {R : Type 0} {words : R → List ℕ} {Same : R → R → Type 0} {v w : List ℕ} (r r' : R) → Lined words Same v w → Same r r' → Lined words Same (v ++ words r) (w ++ words r')
lined_more {words = words} {Same = Same} r r' none s = rw (← append-nil (words r), ← append-nil (words r')) (more r r' [] [] s none)
lined_more {words = words} {Same = Same} r r' (more q q' v w t l) s = rw (append_assoc (words q) v (words r), append_assoc (words q') w (words r')) (more q q' (v ++ words r) (w ++ words r') t (lined_more r r' l s))

-- a word of a row behind the first
field_later : (k : ℕ) (row v : List ℕ) (i j : ℕ) → length row ≡ k → field k (row ++ v) (suc i) j ≡ field k v i j
field_later k row v i j h =
    let e : suc i * k + j ≡ length row + (i * k + j) = simp (suc-mul) (omega arith) in
    ap (λ (n : ℕ). get_or (row ++ v) n 0) e ∙ get_or-append-add row v (i * k + j) 0

statement-first : (r : Statement) (v : List ℕ) → statement_at (statement_words r ++ v) 0 ≡ r
unfolding statement_at statement_words
statement-first r v = refl

statement_later : (r : Statement) (v : List ℕ) (i : ℕ) → statement_at (statement_words r ++ v) (suc i) ≡ statement_at v i
unfolding statement_at statement_words
statement_later r v i =
    let f : (j : ℕ) → field statement_length (statement_words r ++ v) (suc i) j ≡ field statement_length v i j = λ j. field_later statement_length (statement_words r) v i j refl in
    λ k.
    record {
      code = f 0 k;
      name = f 1 k up_to f 2 k;
      width = f 3 k;
      number = f 4 k;
      block = f 5 k;
      operands = f 6 k up_to f 7 k;
      attributes = f 8 k up_to f 9 k;
    }

attribute-first : (r : Attribute) (v : List ℕ) → attribute_at (attribute_words r ++ v) 0 ≡ r
unfolding attribute_at attribute_words
attribute-first r v = refl

attribute_later : (r : Attribute) (v : List ℕ) (i : ℕ) → attribute_at (attribute_words r ++ v) (suc i) ≡ attribute_at v i
unfolding attribute_at attribute_words
attribute_later r v i =
    let f : (j : ℕ) → field attribute_length (attribute_words r ++ v) (suc i) j ≡ field attribute_length v i j = λ j. field_later attribute_length (attribute_words r) v i j refl in
    λ k.
    record {
      code = f 0 k;
      pattern = f 1 k up_to f 2 k;
      low = record { a = f 3 k; b = f 4 k; c = f 5 k; d = f 6 k };
      high = record { a = f 7 k; b = f 8 k; c = f 9 k; d = f 10 k };
    }

-- whatever row is read, also one that is not there
module _ {x y : List ℕ} where
  pub statement_alike : {v w : List ℕ} → Lined statement_words (Statements x y) v w → (i : ℕ) → Statements x y (statement_at v i) (statement_at w i)
  unfolding statement_at
  statement_alike none i = statements 0 0 0 0 (0 up_to 0) (0 up_to 0) (0 up_to 0) (0 up_to 0) refl
  statement_alike (more r r' v w s l) zero = rw (statement-first r v, statement-first r' w) s
  statement_alike (more r r' v w s l) (suc i) = rw (statement_later r v i, statement_later r' w i) (statement_alike l i)

  pub attribute_alike : {v w : List ℕ} → Lined attribute_words (Attributes x y) v w → (i : ℕ) → Attributes x y (attribute_at v i) (attribute_at w i)
  unfolding attribute_at
  attribute_alike none i = attributes 0 (record { a = 0; b = 0; c = 0; d = 0 }) (record { a = 0; b = 0; c = 0; d = 0 }) (0 up_to 0) (0 up_to 0) refl
  attribute_alike (more r r' v w s l) zero = rw (attribute-first r v, attribute-first r' w) s
  attribute_alike (more r r' v w s l) (suc i) = rw (attribute_later r v i, attribute_later r' w i) (attribute_alike l i)

  name_same : {r r' : Statement} → Statements x y r r' → letters_of x r.name ≡ letters_of y r'.name
  name_same (statements code width number block o a name name' e) = e

  -- every row has the same name, code and number
  pub name_alike : {v w : List ℕ} → Lined statement_words (Statements x y) v w → (i : ℕ) → name_at x v i ≡ name_at y w i
  unfolding name_at
  name_alike l i = name_same (statement_alike l i)

  code_same : {r r' : Statement} → Statements x y r r' → r.code ≡ r'.code
  code_same (statements code width number block o a name name' e) = refl

  pub code_alike : {v w : List ℕ} → Lined statement_words (Statements x y) v w → (i : ℕ) → (statement_at v i).code ≡ (statement_at w i).code
  code_alike l i = code_same (statement_alike l i)

  number_same : {r r' : Statement} → Statements x y r r' → r.number ≡ r'.number
  number_same (statements code width number block o a name name' e) = refl

  pub number_alike : {v w : List ℕ} → Lined statement_words (Statements x y) v w → (i : ℕ) → (statement_at v i).number ≡ (statement_at w i).number
  number_alike l i = number_same (statement_alike l i)
