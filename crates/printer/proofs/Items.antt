-- Items: the pieces of each, how long they are at most, and that no mark is left.
-- Assumes nothing.
use mathlib.Core.Path.{◌≡◌, refl, sym, ap, ◌∙◌, subst}
use mathlib.Core.Bool.{true}
use mathlib.Core.List.{List, [], ◌∷◌, ◌++◌, map}
use Prim.Native.Nat.{ℕ, zero, suc, ◌+◌, ◌-◌, ◌*◌, ◌^◌, ◌≤◌, ◌<◌}
use native.Mathlib.Omega.{arith}
use lib.ListN.{length, length-append}
use Rattle.rules.specs.declared.Item.{Item}
use Rattle.rules.specs.Out.{joined}
use Rattle.rules.specs.Rows.{item_at}
use Rattle.rules.specs.View.{each, statement_of, as_closing}
use Rattle.rules.specs.WellFormed.{consecutive, statements_owned}
use Rattle.rules.specs.Printing.{first_closing, second_closing}
use Rattle.rules.specs.Meaning.{All}
use Rattle.laws.proofs.Pieces.{start, next as one_more, stop}
use Rattle.laws.proofs.Consecutive.{first_at, past_after, then, consecutive-le}
use Rattle.laws.proofs.Members.{all_map, all_append}
use Rattle.listing.specs.Listing.{Marks, none, marked}
use Rattle.listing.specs.Work.{marks_of}
use Rattle.listing.proofs.Steps.{ready-cleared}
use Rattle.output.specs.declared.writer.Writer.{Writer}
use Rattle.output.specs.Writing.{largest, Writes}
use Rattle.output.proofs.Words.{Through, begins, first, next, last, writes_as, left_as, wrote_whole}
use Rattle.pieces.specs.declared.Source.{Source}
use Rattle.listing.specs.Roots.{first_roots, second_roots}
use Rattle.printer.specs.Rows.{reached, lines_of, rows_before, rows_between, item_text, items_text}
use Rattle.printer.specs.Contract.{Prepared, PreparedFor, reached_in, lines_in, closing_in, text_in, Within, Own, Owned, RowsPrinted, Cleared, ItemPrinted, ItemsPrinted, Measured}
use Rattle.printer.proofs.Reaching.{reached-append, reached-within, reached-few}
use Rattle.printer.proofs.Texts.{lines_of-short, laid-joined}
use Rattle.printer.proofs.ByKind.{first_short, second_short}
use Rattle.printer.proofs.Cleaning.{clean}

-- the rows of an item are counted
module _ (S O : List ℕ) (s : ℕ) (r : Item) (own : Own S O s r) where
  within-counted : (xs : List ℕ) → All (Within r.statements) xs → All (λ j. j < s) xs
  within-counted xs a = all_map (Within r.statements) (λ j. j < s) (λ j q. omega (arith, q.1, own.counted)) xs a

  pub first_counted : All (λ j. j < s) (first_roots O r)
  first_counted = within-counted (first_roots O r) own.first

  pub second-counted : All (λ j. j < s) (second_roots O r)
  second-counted = within-counted (second_roots O r) own.second

module _ (text S O A : List ℕ) (s : ℕ) (r : Item) where
  item_pieces : item_text text S O A s r
      ≡ joined (lines_of text S O A (rows_before S O s r) ∷ first_closing (as_closing text S O A r) [] ∷ lines_of text S O A (rows_between S O s r) ∷ second_closing (as_closing text S O A r) [] ∷ [])
  unfolding item_text lines_of
  item_pieces = laid-joined (map (statement_of text S O A) (rows_before S O s r)) (map (statement_of text S O A) (rows_between S O s r)) (as_closing text S O A r)

  module _ {w : List ℕ} (p : Prepared text S O s w) (own : Own S O s r) where
    before-within : All (Within r.statements) (rows_before S O s r)
    unfolding rows_before
    before-within = reached-within S O s p.sound r.statements own.counted own.inside none (first_roots O r) own.first

    between-within : All (Within r.statements) (rows_between S O s r)
    unfolding rows_between
    between-within = reached-within S O s p.sound r.statements own.counted own.inside (marked none (rows_before S O s r)) (second_roots O r) own.second

    -- an item lists as many rows as it owns, at most
    both : reached S O s none (first_roots O r ++ second_roots O r) ≡ rows_before S O s r ++ rows_between S O s r
    unfolding rows_before rows_between
    both = reached-append S O s p.sound none (first_roots O r) (second_roots O r)

    rows_few : length (rows_before S O s r) + length (rows_between S O s r) ≤ r.statements.past - r.statements.first
    rows_few =
        let all = all_append (Within r.statements) (first_roots O r) (second_roots O r) own.first own.second in
        omega (
          arith,
          length-append (rows_before S O s r) (rows_between S O s r),
          ap length both,
          reached-few S O s p.sound r.statements own.counted own.inside own.span none (first_roots O r ++ second_roots O r) all,
        )

    pub item_short : length (item_text text S O A s r) ≤ 2 ^ 35 * (r.statements.past - r.statements.first) + 2 ^ 36
    item_short =
        omega (
          arith,
          simp length-append at (ap length item_pieces),
          lines_of-short text S O A s w p (rows_before S O s r) (within-counted S O s r own (rows_before S O s r) before-within),
          lines_of-short text S O A s w p (rows_between S O s r) (within-counted S O s r own (rows_between S O s r) between-within),
          first_short text S O A r p.short own.attributes,
          second_short text S O A r p.short own.attributes,
          rows_few,
        )

    -- with no mark at first
    module _ (clean₀ : marks_of w s ≡ none) where
      before-rows : rows_before S O s r ≡ reached S O s (marks_of w s) (first_roots O r)
      unfolding rows_before
      before-rows = ap (λ (m : Marks). reached S O s m (first_roots O r)) (sym clean₀)

-- an item of a source, with no mark at first
module _ (x : Source) (s : ℕ) (r : Item) {w : List ℕ} (p : PreparedFor x s w) (own : Own x.statements.now x.operands.now s r) (clean₀ : marks_of w s ≡ none) where
  abbrev before : List ℕ
  before = rows_before x.statements.now x.operands.now s r

  abbrev between : List ℕ
  between = rows_between x.statements.now x.operands.now s r

  before_as : before ≡ reached_in x s w (first_roots x.operands.now r)
  before_as = before-rows x.text.now x.statements.now x.operands.now x.attributes.now s r p own clean₀

  -- once the rows before the first closing line are listed
  module _ {w₁ : List ℕ} {b a : Writer} (h : RowsPrinted x s (first_roots x.operands.now r) w b w₁ a) where
    between-marks : marks_of w₁ s ≡ marked none before
    between-marks = h.marks ∙ ap (λ (m : Marks). marked m (reached_in x s w (first_roots x.operands.now r))) clean₀ ∙ ap (marked none) (sym before_as)

    between-rows : between ≡ reached_in x s w₁ (second_roots x.operands.now r)
    unfolding rows_between
    between-rows = ap (λ (m : Marks). reached x.statements.now x.operands.now s m (second_roots x.operands.now r)) (sym between-marks)

    -- once all are listed, and the marks of the item are taken away
    pub item_printed : {w₂ w₃ : List ℕ} {c d e : Writer} → Writes (first_closing (closing_in x r) []) a c → RowsPrinted x s (second_roots x.operands.now r) w₁ c w₂ d
        → Writes (second_closing (closing_in x r) []) d e → Cleared r.statements w₂ w₃ → length w₃ ≡ length w → ItemPrinted x s r b w₃ e
    item_printed {w₂} {w₃} v g u cl long =
        let marks : marks_of w₂ s ≡ marked (marked none before) between =
        g.marks ∙ ap (λ (m : Marks). marked m (reached_in x s w₁ (second_roots x.operands.now r))) between-marks ∙ ap (marked (marked none before)) (sym between-rows) in
        let none_left : marks_of w₃ s ≡ none =
        clean r.statements s w₂ w₃ before between marks
        (before-within x.text.now x.statements.now x.operands.now x.attributes.now s r p own)
        (between-within x.text.now x.statements.now x.operands.now x.attributes.now s r p own) cl in
        record {
          wrote =
              last
              (next
              (next
              (next (first (item_pieces x.text.now x.statements.now x.operands.now x.attributes.now s r) (writes_as (ap (lines_in x) before_as) h.wrote)) v)
              (writes_as (ap (lines_in x) between-rows) g.wrote))
              u);
          marks = none_left;
          prepared =
              record {
                short = p.short;
                operands = p.operands;
                attributes = p.attributes;
                sound = p.sound;
                ready = ready-cleared x.statements.now x.operands.now s p.sound w₃ (omega (arith, p.ready.room)) none_left;
              };
        }

-- n items from i on
module _ (text I S O A : List ℕ) (s : ℕ) {w : List ℕ} (p : Prepared text S O s w) where
  items-short : (past i n at : ℕ) → consecutive at past (each (λ j. (item_at I j).statements) i n) ≡ true → ((j : ℕ) → i ≤ j → j < i + n → Own S O s (item_at I j))
      → length (joined (each (λ j. item_text text S O A s (item_at I j)) i n)) ≤ 2 ^ 35 * (past - at) + 2 ^ 36 * n
  items-short past i zero at e own = omega arith
  items-short past i (suc n) at e own =
      let x = (item_at I i).statements in
      let l = each (λ j. (item_at I j).statements) (i + 1) n in
      let rest = then at past x l e in
      omega (
        arith,
        length-append (item_text text S O A s (item_at I i)) (joined (each (λ j. item_text text S O A s (item_at I j)) (i + 1) n)),
        item_short text S O A s (item_at I i) p (own i (omega arith) (omega arith)),
        items-short past (i + 1) n x.past rest (λ j h k. own j (omega arith) (omega arith)),
        first_at at past x l e,
        past_after at past x l e,
        consecutive-le x.past past l rest,
      )

  pub items_short : (n : ℕ) → Owned I S O n s → length (items_text text I S O A n s) < largest
  unfolding items_text statements_owned
  items_short n w = omega (arith, items-short s 0 n 0 w.rows (λ j h k. w.items j (omega arith)), w.few, p.sound.few)

abbrev items_in : Source → List ℕ → ℕ → ℕ → List ℕ
items_in x I n s = items_text x.text.now I x.statements.now x.operands.now x.attributes.now n s

-- what the loop of put_items keeps
pub record Going (x : Source) (I : List ℕ) (count s : ℕ) (w₀ : List ℕ) (o₀ : Writer) (w : List ℕ) (o : Writer) (i : ℕ) : Type 0 where
  pub through : Through (items_in x I count s) (each (λ j. text_in x s (item_at I j)) i (count - i)) o₀ o
  pub marks : marks_of w s ≡ none
  pub prepared : PreparedFor x s w
  pub long : length w ≡ length w₀

module _ {x : Source} {I : List ℕ} {count s : ℕ} where
  pub going_start : {w : List ℕ} (o : Writer) → PreparedFor x s w → marks_of w s ≡ none → Going x I count s w o w o 0
  unfolding items_text
  going_start o p e =
      record { through = left_as (start (each (λ j. text_in x s (item_at I j)) 0) count) (begins o refl); marks = e; prepared = p; long = refl }

  module _ {w₀ : List ℕ} {o₀ : Writer} {w : List ℕ} {o : Writer} {i : ℕ} (g : Going x I count s w₀ o₀ w o i) where
    pub going_own : {r : Item} → i < count → Owned I x.statements.now x.operands.now count s → r ≡ item_at I i → Own x.statements.now x.operands.now s r
    going_own h own e = subst (Own x.statements.now x.operands.now s) (sym e) (own.items i h)

    pub going_more : {r : Item} {w' : List ℕ} {o' : Writer} → i < count → r ≡ item_at I i → length w' ≡ length w → ItemPrinted x s r o w' o' → Going x I count s w₀ o₀ w' o' (i + 1)
    going_more h e long q =
        record {
          through = next (left_as (one_more (each (λ j. text_in x s (item_at I j)) i) i count h) g.through) (writes_as (ap (text_in x s) (sym e)) q.wrote);
          marks = q.marks;
          prepared = q.prepared;
          long = long ∙ g.long;
        }

    pub going_done : {out : List ℕ} → count ≤ i → Owned I x.statements.now x.operands.now count s → o₀.out.now ≡ out → o₀.count ≡ 0
        → ItemsPrinted x.text.now I x.statements.now x.operands.now x.attributes.now count s out w o.out.now o.count
    going_done h own e z =
        record {
          wrote =
              wrote_whole e z (items_short x.text.now I x.statements.now x.operands.now x.attributes.now s g.prepared count own)
              (last (left_as (stop (each (λ j. text_in x s (item_at I j)) i) i count h) g.through));
          marks = g.marks;
          prepared = g.prepared;
        }

-- a print into no output measures
pub measured : {text I S O A : List ℕ} {count s : ℕ} {w' last : List ℕ} (out : List ℕ) {n : ℕ} → ItemsPrinted text I S O A count s [] w' last n → Measured text I S O A count s out w' (last ++ out) n
measured {last = last} out x =
    record { length_of = x.wrote.count; same = ap (λ (l : List ℕ). l ++ out) (nil last x.wrote.long); marks = x.marks; prepared = x.prepared }
  where
    nil : (l : List ℕ) → length l ≡ 0 → l ≡ []
    nil [] e = refl
    nil (y ∷ l) e = absurd (omega arith)

-- the work area has room for the rows of an item
pub clear_room : {text S O : List ℕ} {s : ℕ} {w : List ℕ} {r : Item} → Prepared text S O s w → Own S O s r → r.statements.past ≤ length w
clear_room p own = omega (arith, p.ready.room, own.counted)
