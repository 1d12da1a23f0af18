-- Tables that are bytes of whole rows, and tables that are lent as words alone.
-- Assumes nothing.
use Prim.Native.Nat.{ℕ, ◌+◌, ◌*◌, ◌/◌, ◌≤◌, ◌<◌, ◌^◌, min}
use mathlib.Core.Path.{◌≡◌, refl, sym, ap, ◌∙◌}
use mathlib.Core.Bool.{Bool, true, false, ◌&&◌}
use mathlib.Core.List.{List, []}
use native.Mathlib.Nat.{mul-div_cancel, mul_assoc}
use native.Mathlib.Omega.{arith}
use lib.Dec.{leb, ltb}
use lib.ListN.{length, get_or, drop, drop_of_length-le}
use borrow.Author.Tests.{leb-true, ltb-true, ltb-false}
use Rattle.rules.specs.Rows.{item_length, statement_length, operand_length, attribute_length}
use Rattle.rules.specs.WellFormed.{only, is_zero, count_fits, rest_unused, table_ok, tables_ok}
use Rattle.laws.proofs.Cases.{by_cases, leb_iff}
use Rattle.laws.proofs.Tests.{and_left, and_right}
use Rattle.rules.specs.Stored.{in_words}
use Rattle.packed.proofs.Words.{words_length, word_there, no_word}
use Rattle.wellformed.specs.Parts.{few, rows_in, Whole, counted}
use Rattle.wellformed.proofs.Places.{Small}
use Rattle.wellformed.proofs.Counted.{words-fit}

-- what four bytes hold has 32 bits
pub word_fits_lem : (b : List ℕ) → ((k : ℕ) → get_or b k 0 < 256) → (k : ℕ) → get_or (in_words b) k 0 < 2 ^ 32
word_fits_lem b h k =
    by_cases (ltb k (length b / 4))
    (λ t. omega (arith, word_there b k (ltb-true k (length b / 4) t), h (k * 4), h (k * 4 + 1), h (k * 4 + 2), h (k * 4 + 3)))
    (λ t. omega (arith, no_word b k (ltb-false k (length b / 4) t)))

and_yes : (a b : Bool) → b ≡ true → (a && b) ≡ a
and_yes true b e = e
and_yes false b e = refl

both : {a b : Bool} → a ≡ true → b ≡ true → (a && b) ≡ true
both e f = rw (e, f)

module _ (size : ℕ) (b : List ℕ) (some : 1 ≤ size) (w : Whole size b) where
  -- as many words as the rows have
  pub whole_words : length (in_words b) ≡ rows_in size b * size
  whole_words = words_length b ∙ ap (λ (n : ℕ). n / 4) (w.rows ∙ sym (mul_assoc (rows_in size b) size 4)) ∙ mul-div_cancel (rows_in size b * size) {n = 4} (omega arith)

  pub packed_table : ((k : ℕ) → get_or b k 0 < 256) → table_ok size (in_words b) (rows_in size b) ≡ leb (rows_in size b) 65536
  unfolding table_ok count_fits rest_unused
  packed_table h =
      let n = rows_in size b in
      let room : length (in_words b) / size ≡ n = ap (λ (k : ℕ). k / size) whole_words ∙ mul-div_cancel n {n = size} some in
      let fits : leb n (min 65536 (length (in_words b) / size)) ≡ leb n 65536 =
      leb_iff n (min 65536 (length (in_words b) / size)) n 65536 (λ k. omega (arith, k)) (λ k. omega (arith, k, room)) in
      let none : drop (n * size) (in_words b) ≡ [] = drop_of_length-le (in_words b) {i = n * size} (omega (arith, whole_words)) in
      let rest : only is_zero (drop (n * size) (in_words b)) ≡ true = ap (only is_zero) none in
      and_yes _ _ (both (words-fit (in_words b) (word_fits_lem b h)) rest) ∙ fits

pub packed_tables :
    (I S O A : List ℕ)
    → Whole item_length I × (Whole statement_length S × (Whole operand_length O × Whole attribute_length A))
    → ((k : ℕ) → get_or I k 0 < 256)
    → ((k : ℕ) → get_or S k 0 < 256)
    → ((k : ℕ) → get_or O k 0 < 256)
    → ((k : ℕ) → get_or A k 0 < 256)
    → tables_ok (in_words I) (in_words S) (in_words O) (in_words A) (counted I S O A) ≡ few (rows_in item_length I) (rows_in statement_length S) (rows_in operand_length O) (rows_in attribute_length A)
unfolding tables_ok few
packed_tables I S O A w i s o a =
    let i' = packed_table item_length I (omega arith) w.0 i in
    let s' = packed_table statement_length S (omega arith) w.1.0 s in
    let o' = packed_table operand_length O (omega arith) w.1.1.0 o in
    let a' = packed_table attribute_length A (omega arith) w.1.1.1 a in
    rw (i', s', o', a')

pub few_small : (i s o a : ℕ) → few i s o a ≡ true → Small (record { items = i; statements = s; operands = o; attributes = a })
unfolding few
few_small i s o a e =
    let soa = and_right (leb i 65536) (leb s 65536 && (leb o 65536 && leb a 65536)) e in
    let oa = and_right (leb s 65536) (leb o 65536 && leb a 65536) soa in
    record {
      items = leb-true i 65536 (and_left (leb i 65536) (leb s 65536 && (leb o 65536 && leb a 65536)) e);
      statements = leb-true s 65536 (and_left (leb s 65536) (leb o 65536 && leb a 65536) soa);
      operands = leb-true o 65536 (and_left (leb o 65536) (leb a 65536) oa);
      attributes = leb-true a 65536 (and_right (leb o 65536) (leb a 65536) oa);
    }
