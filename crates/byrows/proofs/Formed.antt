-- What well-formed tables give: their statements are sound for the listing, a work area of 3S + O + 1 words has room for every walk,
-- and the rows that are listed for an item's roots say what the item lists.
-- Assumes nothing.
use Prim.Native.Nat.{ℕ, suc, ◌+◌, ◌-◌, ◌*◌, ◌/◌, ◌%◌, ◌≤◌, ◌<◌, min}
use mathlib.Core.Path.{◌≡◌, ◌∙◌}
use mathlib.Core.Bool.{Bool, true, false, ◌&&◌}
use mathlib.Core.List.{List, [], ◌∷◌, map}
use native.Mathlib.Nat.{mul-le-mul_right, div-add-mod'}
use native.Mathlib.Omega.{arith}
use lib.Dec.{ltb}
use lib.ListN.{length}
use borrow.Author.Tests.{leb-true}
use Rattle.rules.specs.declared.Item.{Item}
use Rattle.rules.specs.Bytes.{inside}
use Rattle.rules.specs.Listing.{listed_before, listed_between}
use Rattle.rules.specs.Rows.{item_length, statement_length, operand_length, attribute_length, capacity, right_hand_side, infer_result, item_at, statement_at}
use Rattle.rules.specs.Syntax.{flat}
use Rattle.rules.specs.View.{each, along, statement_of, item_of}
use Rattle.rules.specs.WellFormed.{Counts, consecutive, well_formed, tables_ok, table_ok, count_fits, rows_owned, statements_owned, operands_owned, operand_spans, kinds_ok, kind_ok, middle_ok, items_ok, item_ok, statement_ok}
use Rattle.rules.specs.WellFormed as formed
use Rattle.rules.specs.Meaning.{All}
use Rattle.laws.proofs.Same.{by_cond}
use Rattle.laws.proofs.Tests.{and_left, and_right}
use Rattle.laws.proofs.Members.{all_map, mem_left, mem_flat}
use Rattle.laws.proofs.Consecutive.{Inside, consecutive-inside}
use Rattle.listing.specs.Listing.{Marks, marked, listing, none}
use Rattle.listing.specs.References.{references, refers, Sound}
use Rattle.listing.specs.Roots.{first_roots, second_roots}
use Rattle.listing.specs.Work.{most}
use Rattle.byrows.proofs.Names.{Assigns}
use Rattle.byrows.proofs.Views.{assigning}
use Rattle.byrows.proofs.Items.{Whole, before-rows, between-rows}
use Rattle.byrows.proofs.Spans.{every-each, mem_each, Owner, owner, owned-most, consecutive-first, consecutive-next}
use Rattle.byrows.proofs.FormedRows.{Refers, all_refer, row_earlier}
use Rattle.byrows.proofs.FormedItems.{whole, row_known}
use Rattle.listing.proofs.Steps.{refers-earlier}
use Rattle.listing.proofs.Walks.{AgreeFrom, marked-past, listing_own}

-- ---- counts
pub count-rows : (k n m : ℕ) → n ≤ min 65536 (m / k) → n * k ≤ m
count-rows k n m h =
    let up : n * k ≤ m / k * k = mul-le-mul_right k (omega arith) in
    let low : m / k * k + m % k ≡ m = div-add-mod' m k in
    omega arith

-- ---- the tables
module _ (text I S O A : List ℕ) (c : Counts) (ok : well_formed text I S O A c ≡ true) where
  abbrev s : ℕ
  s = c.statements

  abbrev o : ℕ
  o = c.operands

  abbrev owns : Bool
  owns = rows_owned I S c && items_ok text I S O A c.items

  pub tables-known : tables_ok I S O A c ≡ true
  unfolding well_formed
  tables-known = and_left (tables_ok I S O A c) owns (and_right (formed.short_text text) (tables_ok I S O A c && owns) ok)

  owns_known : owns ≡ true
  unfolding well_formed
  owns_known = and_right (tables_ok I S O A c) owns (and_right (formed.short_text text) (tables_ok I S O A c && owns) ok)

  items-known : items_ok text I S O A c.items ≡ true
  items-known = and_right (rows_owned I S c) (items_ok text I S O A c.items) owns_known

  pub rows-owned : rows_owned I S c ≡ true
  rows-owned = and_left (rows_owned I S c) (items_ok text I S O A c.items) owns_known

  -- ---- counts
  pub fits_count : (k : ℕ) (words : List ℕ) (n : ℕ) → table_ok k words n ≡ true → n ≤ min 65536 (length words / k)
  unfolding table_ok count_fits
  fits_count k words n e = leb-true n (capacity k (length words)) (and_left (count_fits k words n) (formed.only formed.word_fits words && formed.rest_unused k words n) e)

  abbrev tables₃ : Bool
  tables₃ = table_ok operand_length O o && table_ok attribute_length A c.attributes

  statements-counted : s ≤ min 65536 (length S / statement_length)
  unfolding tables_ok
  statements-counted =
      fits_count statement_length S s (and_left (table_ok statement_length S s) tables₃ (and_right (table_ok item_length I c.items) (table_ok statement_length S s && tables₃) tables-known))

  operands-counted : o ≤ min 65536 (length O / operand_length)
  unfolding tables_ok
  operands-counted =
      fits_count operand_length O o
      (and_left (table_ok operand_length O o) (table_ok attribute_length A c.attributes)
      (and_right (table_ok statement_length S s) tables₃ (and_right (table_ok item_length I c.items) (table_ok statement_length S s && tables₃) tables-known)))

  -- ---- owners
  abbrev owned₃ : Bool
  owned₃ = operands_owned I S c.items o && formed.attributes_owned I S c.items c.attributes

  abbrev owned₂ : Bool
  owned₂ = kinds_ok I c.items && owned₃

  pub statements-owned : consecutive 0 s (each (λ i. (item_at I i).statements) 0 c.items) ≡ true
  unfolding rows_owned statements_owned
  statements-owned = and_left (statements_owned I c.items s) owned₂ rows-owned

  kinds-known : kinds_ok I c.items ≡ true
  unfolding rows_owned
  kinds-known = and_left (kinds_ok I c.items) owned₃ (and_right (statements_owned I c.items s) owned₂ rows-owned)

  pub operands-owned : consecutive 0 o (flat (operand_spans S) (each (item_at I) 0 c.items)) ≡ true
  unfolding rows_owned operands_owned
  operands-owned =
      and_left (operands_owned I S c.items o) (formed.attributes_owned I S c.items c.attributes)
      (and_right (kinds_ok I c.items) owned₃ (and_right (statements_owned I c.items s) owned₂ rows-owned))

  pub attributes-owned : consecutive 0 c.attributes (flat (formed.attribute_spans S) (each (item_at I) 0 c.items)) ≡ true
  unfolding rows_owned formed.attributes_owned
  attributes-owned =
      and_right (operands_owned I S c.items o) (formed.attributes_owned I S c.items c.attributes)
      (and_right (kinds_ok I c.items) owned₃ (and_right (statements_owned I c.items s) owned₂ rows-owned))

  -- ---- an item of theirs
  module _ (k : ℕ) (counted : k < c.items) where
    abbrev item : Item
    item = item_at I k

    pub item_inside : Inside 0 s item.statements
    item_inside = consecutive-inside (each (λ i. (item_at I i).statements) 0 c.items) 0 s statements-owned item.statements (mem_each (λ i. (item_at I i).statements) c.items 0 k (omega arith) (omega arith))

    pub item_known : item_ok text S O A item ≡ true
    unfolding items_ok
    item_known = every-each (λ i. item_ok text S O A (item_at I i)) c.items 0 items-known k (omega arith) (omega arith)

    pub kind-known : kind_ok item ≡ true
    unfolding kinds_ok
    kind-known = every-each (λ i. kind_ok (item_at I i)) c.items 0 kinds-known k (omega arith) (omega arith)

    pub middle_known : middle_ok item ≡ true
    unfolding kind_ok
    middle_known = and_right (inside infer_result right_hand_side item.kind) (middle_ok item) kind-known

    pub item_whole : Whole text S O s item
    item_whole = whole text S O A s item item_inside.high item_inside.up middle_known item_known

    pub item_row_lem : (i : ℕ) → item.statements.first ≤ i → i < item.statements.past → statement_ok text S O A item.statements.first i (statement_at S i) ≡ true
    item_row_lem = row_known text S O A s item item_inside.high item_inside.up middle_known item_known

    -- its rows refer to rows of its own
    pub item_own : (i : ℕ) → item.statements.first ≤ i → i < item.statements.past → All (λ j. item.statements.first ≤ j) (refers S O s i)
    unfolding refers
    item_own i l h =
        by_cond (All (λ j. item.statements.first ≤ j)) (ltb i s) (references S O i) []
        (λ e. all_map (Refers S item.statements.first i) (λ j. item.statements.first ≤ j) (λ j f. f.low) (references S O i) (all_refer text S O A item.statements.first i (item_row_lem i l h)))
        (λ e. tt)

    -- a statement's operands lie within the counted rows
    operands-inside : (i : ℕ) → item.statements.first ≤ i → i < item.statements.past → Inside 0 o (statement_at S i).operands
    unfolding operand_spans
    operands-inside i l h =
        consecutive-inside (flat (operand_spans S) (each (item_at I) 0 c.items)) 0 o operands-owned (statement_at S i).operands
        (mem_flat (operand_spans S) (statement_at S i).operands item (each (item_at I) 0 c.items) (mem_each (item_at I) c.items 0 k (omega arith) (omega arith))
        (mem_left (statement_at S i).operands (along (λ i. (statement_at S i).operands) item.statements) (item.operands ∷ [])
        (mem_each (λ i. (statement_at S i).operands) (item.statements.past - item.statements.first) item.statements.first i l (omega arith))))

  -- ---- the statements are sound
  pub owner_of : (i : ℕ) → i < s → Owner (λ i. (item_at I i).statements) 0 c.items i
  owner_of i h = owner (λ i. (item_at I i).statements) c.items 0 0 s statements-owned i (omega arith) h

  pub tables-sound : Sound S O s
  tables-sound =
      record {
        whole = count-rows statement_length s (length S) statements-counted;
        few = omega (arith, statements-counted);
        inside =
            λ i h.
            let w = owner_of i h in
            let p : (statement_at S i).operands.past * operand_length ≤ o * operand_length = mul-le-mul_right operand_length (operands-inside w.k (omega (arith, w.to)) i w.low w.high).high in
            omega (arith, count-rows operand_length o (length O) operands-counted);
        earlier =
            λ i h.
            let w = owner_of i h in
            row_earlier text S O A (item_at I w.k).statements.first i (item_row_lem w.k (omega (arith, w.to)) i w.low w.high);
      }

  -- ---- and 3S + O + 1 words are enough
  pub tables-room : (w : List ℕ) → 3 * s + o + 1 ≤ length w → s + most S s ≤ length w
  tables-room w h = omega (arith, owned-most S I c.items s o statements-owned operands-owned)

  -- ---- items stand one behind the other
  pub item_begins : 0 < c.items → (item_at I 0).statements.first ≡ 0
  item_begins h = consecutive-first (λ i. (item_at I i).statements) c.items 0 0 s statements-owned h

  pub item_next : (k : ℕ) → suc k < c.items → (item_at I (suc k)).statements.first ≡ (item_at I k).statements.past
  item_next k h = consecutive-next (λ i. (item_at I i).statements) c.items 0 0 s statements-owned k (omega arith) (omega arith)

  -- ---- the rows that are listed for an item's roots say what the item lists, where none of its rows has a mark
  module _ (k : ℕ) (counted : k < c.items) (m : Marks) (clean : AgreeFrom (item_at I k).statements.first m none) where
    -- the rows listed before the first closing line, the marks after them, and the rows listed between infer and result
    abbrev pub before : List ℕ
    before = listing (refers S O s) s m (first_roots O (item_at I k))

    abbrev pub marks_between : Marks
    marks_between = marked m before

    abbrev pub between : List ℕ
    between = listing (refers S O s) s marks_between (second_roots O (item_at I k))

    fresh : (i : ℕ) → Assigns (assigning S) (item_at I k).statements.first (item_at I k).statements.past i → m i ≡ false
    fresh i a = clean i a.low

    pub listed-before : map (statement_of text S O A) before ≡ listed_before (item_of text I S O A k)
    unfolding item_of
    listed-before = before-rows text S O A s tables-sound (item_at I k) (item_whole k counted) m fresh

    pub listed-between : map (statement_of text S O A) between ≡ listed_between (item_of text I S O A k)
    unfolding item_of
    listed-between = between-rows text S O A s tables-sound (item_at I k) (item_whole k counted) m fresh

    -- after them no row behind the item has a mark
    rows_of : (n : Marks) (roots : List ℕ) → All (Assigns (assigning S) (item_at I k).statements.first (item_at I k).statements.past) roots
        → All (λ j. j < (item_at I k).statements.past) (listing (refers S O s) s n roots)
    rows_of n roots a =
        all_map (λ y. ((item_at I k).statements.first ≤ y) × (y < (item_at I k).statements.past)) (λ j. j < (item_at I k).statements.past) (λ j p. p.1) (listing (refers S O s) s n roots)
        (listing_own (refers S O s) (refers-earlier S O s tables-sound) (item_at I k).statements.first (item_at I k).statements.past (item_own k counted) s n roots
        (all_map (Assigns (assigning S) (item_at I k).statements.first (item_at I k).statements.past) (λ x. ((item_at I k).statements.first ≤ x) × (x < (item_at I k).statements.past)) (λ x b. (b.low, b.high)) roots a))

    pub clean_after : AgreeFrom (item_at I k).statements.past (marked marks_between between) none
    clean_after j h =
        marked-past (item_at I k).statements.past between marks_between (rows_of marks_between (second_roots O (item_at I k)) (item_whole k counted).seconds) j h
        ∙ marked-past (item_at I k).statements.past before m (rows_of m (first_roots O (item_at I k)) (item_whole k counted).firsts) j h
        ∙ clean j (omega (arith, (item_inside k counted).up))
