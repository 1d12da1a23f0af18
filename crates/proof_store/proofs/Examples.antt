-- Worked examples of the definitions, computed.
-- Assumes nothing.
use Prim.Native.Nat.{ℕ}
use mathlib.Core.Path.{◌≡◌, refl}
use mathlib.Core.List.{List, [], ◌∷◌, ◌++◌}
use lib.ListN.{length, replicate, drop, take}
use Rattle.rules.specs.Bytes.{inside}
use Rattle.rules.specs.Rows.{item_at, operand_at}
use Rattle.rules.specs.WellFormed.{counts, well_formed, short_text, tables_ok, table_ok, count_fits, word_fits, rest_unused, is_zero, rows_owned, statements_owned, operands_owned, attributes_owned, operand_spans, attribute_spans, kinds_ok, kind_ok, middle_ok, items_ok, item_ok, statements_ok, infer_ok, infers, closing_ok, closing_arity, roots_ok, attributes_ok, operands_ok, operand_ok, constant_ok, value_ok, width_fits, at_most}
use Rattle.rules.specs.Stored.{in_words, in_bytes, tables_of, file_of, stored, refusing, writes, fitting_file, storing, trailer_word, lengths_of, in_order, whole_rows, shape, Room, roomy, refused, loads, accepting, content, loading}

-- `cand 1 2`: its text, one item, no statement, two operands, no attribute
cand_text : List ℕ
cand_text = 99 ∷ 97 ∷ 110 ∷ 100 ∷ 32 ∷ 49 ∷ 32 ∷ 50 ∷ []

cand_items : List ℕ
cand_items = 2 ∷ 0 ∷ 0 ∷ 0 ∷ 0 ∷ 0 ∷ 2 ∷ 0 ∷ 0 ∷ []

cand_operands : List ℕ
cand_operands = 2 ∷ 0 ∷ 0 ∷ 0 ∷ 0 ∷ 0 ∷ 1 ∷ 2 ∷ 0 ∷ 0 ∷ 0 ∷ 0 ∷ 0 ∷ 2 ∷ []

cand : List ℕ
cand = file_of cand_text cand_items [] cand_operands []

cand-long : length cand ≡ 144
unfolding cand cand_text cand_items cand_operands file_of tables_of
cand-long = refl

-- (0,8)(8,36)(44,0)(44,56)(100,0) 1
cand-trailer : in_words (drop 100 cand) ≡ 0 ∷ 8 ∷ 8 ∷ 36 ∷ 44 ∷ 0 ∷ 44 ∷ 56 ∷ 100 ∷ 0 ∷ 1 ∷ []
unfolding cand cand_text cand_items cand_operands file_of tables_of
cand-trailer = refl

cand-shape : shape cand ≡ 0
unfolding cand cand_text cand_items cand_operands file_of tables_of shape trailer_word lengths_of in_order whole_rows
cand-shape = refl

-- its last byte dropped: 13; a byte put in front: 14
cand-cut : shape (take 143 cand) ≡ 13
unfolding cand cand_text cand_items cand_operands file_of tables_of shape trailer_word lengths_of in_order whole_rows
cand-cut = refl

cand_moved : shape (0 ∷ cand) ≡ 14
unfolding cand cand_text cand_items cand_operands file_of tables_of shape trailer_word lengths_of in_order whole_rows
cand_moved = refl

-- 43 bytes: 14; 44 zeros: 13; 40 zeros and the version: nothing wrong; a start of all ones: 14
short : shape (replicate 43 1) ≡ 14
unfolding shape trailer_word lengths_of in_order whole_rows
short = refl

zeros : shape (replicate 44 0) ≡ 13
unfolding shape trailer_word lengths_of in_order whole_rows
zeros = refl

empty : shape (replicate 40 0 ++ (1 ∷ 0 ∷ 0 ∷ 0 ∷ [])) ≡ 0
unfolding shape trailer_word lengths_of in_order whole_rows
empty = refl

far : shape (255 ∷ 255 ∷ 255 ∷ 255 ∷ (replicate 36 0 ++ (1 ∷ 0 ∷ 0 ∷ 0 ∷ []))) ≡ 14
unfolding shape trailer_word lengths_of in_order whole_rows
far = refl

-- Loads and stores, to their end

-- lent memory of so many bytes of text and words of each table
lends : ℕ → ℕ → ℕ → ℕ → ℕ → Room
lends t i s o a = record { text = t; items = i; statements = s; operands = o; attributes = a }

-- `cand 1 2` loads where there is room, and is 15 with a byte of the text or a word of a table less; with an item of no kind it is 8. 40 zeros and the version load, and so does `A` with no row:
-- well formed asks for no readable text.
settled_loads :
    (loading cand (lends 8 9 0 14 0)
    ∷ loading cand (lends 7 9 0 14 0)
    ∷ loading cand (lends 8 9 0 13 0)
    ∷ loading (file_of cand_text (9 ∷ drop 1 cand_items) [] cand_operands []) (lends 8 9 0 14 0)
    ∷ loading (replicate 40 0 ++ (1 ∷ 0 ∷ 0 ∷ 0 ∷ [])) (lends 0 0 0 0 0)
    ∷ loading (65 ∷ in_bytes (0 ∷ 1 ∷ 1 ∷ 0 ∷ 1 ∷ 0 ∷ 1 ∷ 0 ∷ 1 ∷ 0 ∷ 1 ∷ [])) (lends 1 0 0 0 0)
    ∷ [])
    ≡ loads cand_text cand_items [] cand_operands [] ∷ refused 15 ∷ refused 15 ∷ refused 8 ∷ loads [] [] [] [] [] ∷ loads (65 ∷ []) [] [] [] [] ∷ []
unfolding lends cand cand_text cand_items cand_operands file_of tables_of shape trailer_word lengths_of in_order whole_rows roomy loading content accepting storing fitting_file stored well_formed short_text tables_ok table_ok count_fits word_fits rest_unused is_zero rows_owned statements_owned operands_owned attributes_owned operand_spans attribute_spans kinds_ok kind_ok middle_ok items_ok item_ok statements_ok infer_ok infers closing_ok closing_arity roots_ok attributes_ok operands_ok operand_ok constant_ok value_ok width_fits at_most item_at operand_at inside
settled_loads = refl

-- the writer: its file, 15 for a byte too few, and 8 before it
settled_stores :
    (storing cand_text cand_items [] cand_operands [] (counts 1 0 2 0) 144
    ∷ storing cand_text cand_items [] cand_operands [] (counts 1 0 2 0) 143
    ∷ storing cand_text cand_items [] cand_operands [] (counts 1 0 1 0) 0
    ∷ [])
    ≡ writes cand ∷ refusing 15 ∷ refusing 8 ∷ []
unfolding lends cand cand_text cand_items cand_operands file_of tables_of shape trailer_word lengths_of in_order whole_rows roomy loading content accepting storing fitting_file stored well_formed short_text tables_ok table_ok count_fits word_fits rest_unused is_zero rows_owned statements_owned operands_owned attributes_owned operand_spans attribute_spans kinds_ok kind_ok middle_ok items_ok item_ok statements_ok infer_ok infers closing_ok closing_arity roots_ok attributes_ok operands_ok operand_ok constant_ok value_ok width_fits at_most item_at operand_at inside
settled_stores = refl
