-- Where rows stand: counted rows lie in their table, and counts are small.
-- Assumes nothing.
use mathlib.Core.Path.{◌≡◌}
use mathlib.Core.Bool.{true, ◌&&◌}
use mathlib.Core.List.{List}
use Prim.Native.Nat.{ℕ, ◌*◌, ◌/◌, ◌≤◌}
use native.Mathlib.Nat.{mul-le-mul_right, div-mul-le_self, le_trans}
use native.Mathlib.Omega.{arith}
use lib.ListN.{length}
use borrow.Author.Tests.{leb-true}
use Rattle.rules.specs.Rows.{item_length, statement_length, operand_length, attribute_length, capacity}
use Rattle.rules.specs.WellFormed.{Counts, table_ok, count_fits, tables_ok}
use Rattle.laws.proofs.Tests.{and_left, and_right}

-- as many rows as there is room for
pub rows_fit : (n size words : ℕ) → n ≤ words / size → n * size ≤ words
rows_fit n size words h = le_trans (mul-le-mul_right size h) (div-mul-le_self words size)

pub count_small : (size : ℕ) (words : List ℕ) (n : ℕ) → table_ok size words n ≡ true → n ≤ 65536
unfolding table_ok count_fits
count_small size words n e = let h = leb-true n (capacity size (length words)) (and_left _ _ e) in omega arith

-- the counts of four tables
pub record Small (c : Counts) : Type 0 where
  pub items : c.items ≤ 65536
  pub statements : c.statements ≤ 65536
  pub operands : c.operands ≤ 65536
  pub attributes : c.attributes ≤ 65536

pub counts_small : (I S O A : List ℕ) (c : Counts) → tables_ok I S O A c ≡ true → Small c
unfolding tables_ok
counts_small I S O A c e =
    let i = table_ok item_length I c.items in
    let s = table_ok statement_length S c.statements in
    let o = table_ok operand_length O c.operands in
    let a = table_ok attribute_length A c.attributes in
    let soa : (s && (o && a)) ≡ true = and_right i (s && (o && a)) e in
    let oa : (o && a) ≡ true = and_right s (o && a) soa in
    record {
      items = count_small item_length I c.items (and_left i (s && (o && a)) e);
      statements = count_small statement_length S c.statements (and_left s (o && a) soa);
      operands = count_small operand_length O c.operands (and_left o a oa);
      attributes = count_small attribute_length A c.attributes (and_right o a oa);
    }
