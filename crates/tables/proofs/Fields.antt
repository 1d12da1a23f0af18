-- Rows read back from words: no place wraps; the row claimed last, the rows before it, and the rows among the words that are counted. One law each over the row's length, then one for each kind of row.
-- Assumes nothing.
use Prim.Native.Nat.{ℕ, ◌+◌, ◌*◌, ◌≤◌, ◌<◌, ◌^◌}
use mathlib.Core.Path.{◌≡◌}
use mathlib.Core.Bool.{true}
use mathlib.Core.List.{List, ◌++◌}
use native.Mathlib.Nat.{add-mul, one-mul, mul-le-mul_left, mul-le-mul_right}
use native.Mathlib.Omega.{arith}
use borrow.Author.Tests.{ltb-true}
use lib.Dec.{ltb}
use lib.ListN.{length, take, get_or, get_or-append}
use lib.Seq.{get_or-append-add, get_or-take}
use Rattle.rules.specs.declared.Item.{Item}
use Rattle.rules.specs.declared.Statement.{Statement}
use Rattle.rules.specs.declared.Operand.{Operand}
use Rattle.rules.specs.declared.Attribute.{Attribute}
use Rattle.rules.specs.Rows.{item_length, statement_length, operand_length, attribute_length, field, item_at, statement_at, operand_at, attribute_at, name_at, item_words, statement_words, operand_words, attribute_words}

-- row numbers have 32 bits, and rows at most eleven words
pub row_fits : (i size : ℕ) → i < 2 ^ 32 → size ≤ 11 → i * size < 2 ^ 40
row_fits i size h k = let m : i * size ≤ i * 11 = mul-le-mul_left i k in omega arith

-- a word of a row stands before the words of later rows
within : (k n i j : ℕ) → i < n → j < k → i * k + j < n * k
within k n i j h l =
    let up : (i + 1) * k ≤ n * k = mul-le-mul_right k (omega arith) in
    let more : (i + 1) * k ≡ i * k + k = simp (add-mul, one-mul) in
    omega arith

-- the words of row i of two tables with rows of a length are the same
abbrev pub Same : ℕ → List ℕ → List ℕ → ℕ → Type 0
Same k v w i = (j : ℕ) → ltb j k ≡ true → field k v i j ≡ field k w i j

module _ (k n : ℕ) (ws row : List ℕ) (size : length ws ≡ n * k) where
  -- the words of the row claimed last
  pub last : (j : ℕ) → field k (ws ++ row) n j ≡ get_or row j 0
  last j = rw (← size) (get_or-append-add ws row j 0)

  -- the rows before it
  pub before : (i : ℕ) → i < n → Same k (ws ++ row) ws i
  before i h j l =
      let low : i * k + j < length ws = omega (arith, within k n i j h (ltb-true j k l)) in
      get_or-append ws row 0 _ low

-- the rows among the words that are counted
pub counted : (k n : ℕ) (ws : List ℕ) (i : ℕ) → i < n → Same k (take (n * k) ws) ws i
counted k n ws i h j l = get_or-take (n * k) ws (i * k + j) 0 (within k n i j h (ltb-true j k l))

pub item_same : (v w : List ℕ) (i : ℕ) → Same item_length v w i → item_at v i ≡ item_at w i
unfolding item_at
item_same v w i e = simp e

module _ (ws : List ℕ) (n : ℕ) where
  pub item_last : (r : Item) → length ws ≡ n * item_length → item_at (ws ++ item_words r) n ≡ r
  unfolding item_at item_words
  item_last r size = simp (last item_length n ws (item_words r) size)

  pub item_before : (r : Item) → length ws ≡ n * item_length → (i : ℕ) → i < n → item_at (ws ++ item_words r) i ≡ item_at ws i
  item_before r size i h = item_same _ _ i (before item_length n ws (item_words r) size i h)

  pub item_counted : (i : ℕ) → i < n → item_at (take (n * item_length) ws) i ≡ item_at ws i
  item_counted i h = item_same _ _ i (counted item_length n ws i h)

pub statement_same : (v w : List ℕ) (i : ℕ) → Same statement_length v w i → statement_at v i ≡ statement_at w i
unfolding statement_at
statement_same v w i e = simp e

module _ (ws : List ℕ) (n : ℕ) where
  pub statement-last : (r : Statement) → length ws ≡ n * statement_length → statement_at (ws ++ statement_words r) n ≡ r
  unfolding statement_at statement_words
  statement-last r size = simp (last statement_length n ws (statement_words r) size)

  pub statement-before : (r : Statement) → length ws ≡ n * statement_length → (i : ℕ) → i < n → statement_at (ws ++ statement_words r) i ≡ statement_at ws i
  statement-before r size i h = statement_same _ _ i (before statement_length n ws (statement_words r) size i h)

  pub statement-counted : (i : ℕ) → i < n → statement_at (take (n * statement_length) ws) i ≡ statement_at ws i
  statement-counted i h = statement_same _ _ i (counted statement_length n ws i h)

pub operand_same : (v w : List ℕ) (i : ℕ) → Same operand_length v w i → operand_at v i ≡ operand_at w i
unfolding operand_at
operand_same v w i e = simp e

module _ (ws : List ℕ) (n : ℕ) where
  pub operand-last : (r : Operand) → length ws ≡ n * operand_length → operand_at (ws ++ operand_words r) n ≡ r
  unfolding operand_at operand_words
  operand-last r size = simp (last operand_length n ws (operand_words r) size)

  pub operand-before : (r : Operand) → length ws ≡ n * operand_length → (i : ℕ) → i < n → operand_at (ws ++ operand_words r) i ≡ operand_at ws i
  operand-before r size i h = operand_same _ _ i (before operand_length n ws (operand_words r) size i h)

  pub operand-counted : (i : ℕ) → i < n → operand_at (take (n * operand_length) ws) i ≡ operand_at ws i
  operand-counted i h = operand_same _ _ i (counted operand_length n ws i h)

pub attribute_same : (v w : List ℕ) (i : ℕ) → Same attribute_length v w i → attribute_at v i ≡ attribute_at w i
unfolding attribute_at
attribute_same v w i e = simp e

module _ (ws : List ℕ) (n : ℕ) where
  pub attribute-last : (r : Attribute) → length ws ≡ n * attribute_length → attribute_at (ws ++ attribute_words r) n ≡ r
  unfolding attribute_at attribute_words
  attribute-last r size = simp (last attribute_length n ws (attribute_words r) size)

  pub attribute-before : (r : Attribute) → length ws ≡ n * attribute_length → (i : ℕ) → i < n → attribute_at (ws ++ attribute_words r) i ≡ attribute_at ws i
  attribute-before r size i h = attribute_same _ _ i (before attribute_length n ws (attribute_words r) size i h)

  pub attribute-counted : (i : ℕ) → i < n → attribute_at (take (n * attribute_length) ws) i ≡ attribute_at ws i
  attribute-counted i h = attribute_same _ _ i (counted attribute_length n ws i h)

pub name-counted : (text ws : List ℕ) (n i : ℕ) → i < n → name_at text (take (n * statement_length) ws) i ≡ name_at text ws i
unfolding name_at
name-counted text ws n i h = rw (statement-counted ws n i h)
