-- What well-formed tables give a print: the items own their rows, the tables and a work area of enough words without marks are prepared,
-- the text that the rows print as is the print of the items that they say, and the counts are small.
-- Assumes nothing.
use Prim.Native.Nat.{ℕ, ◌≤◌, ◌<◌}
use mathlib.Core.Path.{◌≡◌, refl, ap, ◌∙◌, subst}
use mathlib.Core.Bool.{true}
use mathlib.Core.List.{List, [], map}
use native.Mathlib.Omega.{arith}
use lib.ListN.{length}
use Rattle.rules.specs.declared.Item.{Item}
use Rattle.rules.specs.Listing.{listed_before}
use Rattle.rules.specs.Printing.{laid, printed}
use Rattle.rules.specs.Prints.{words_needed, print_of}
use Rattle.rules.specs.Rows.{item_at}
use Rattle.rules.specs.Syntax as syntax
use Rattle.rules.specs.View.{statement_of, as_closing, as_item, item_of, items_of}
use Rattle.rules.specs.WellFormed.{Counts, statements_owned, well_formed}
use Rattle.rules.specs.Meaning.{All}
use Rattle.laws.proofs.Members.{all_map}
use Rattle.listing.specs.Listing.{none}
use Rattle.listing.specs.Roots.{first_roots, second_roots}
use Rattle.listing.specs.Work.{marks_of}
use Rattle.listing.proofs.Steps.{refers-counted, ready-cleared}
use Rattle.byrows.proofs.Names.{Assigns}
use Rattle.byrows.proofs.Views.{assigning}
use Rattle.byrows.proofs.Formed.{statements-owned, item_inside, item_whole, item_own, tables-sound, tables-room, listed-before, listed-between}
use Rattle.printer.specs.Rows.{reached, rows_before, rows_between, item_text, items_text}
use Rattle.printer.specs.Contract.{Prepared, Within, Own, Owned}
use Rattle.printable.proofs.Spans.{text-short, closing-operands, closing-attributes, operands-few, attributes-few}
use Rattle.printable.proofs.Texts.{joined-printed}
pub use Rattle.printable.proofs.Spans.{Small, counts_small}

module _ (text I S O A : List ℕ) (c : Counts) (ok : well_formed text I S O A c ≡ true) where
  abbrev s : ℕ
  s = c.statements

  -- ---- items own their rows
  within : (r : Item) (roots : List ℕ) → All (Assigns (assigning S) r.statements.first r.statements.past) roots → All (Within r.statements) roots
  within r roots a = all_map (Assigns (assigning S) r.statements.first r.statements.past) (Within r.statements) (λ j b. (b.low, b.high)) roots a

  item_owns : (k : ℕ) → k < c.items → Own S O s (item_at I k)
  item_owns k h =
      let r : Item = item_at I k in
      let in-it = item_inside text I S O A c ok k h in
      let whole = item_whole text I S O A c ok k h in
      record {
        operands = closing-operands text I S O A c ok k h;
        attributes = closing-attributes text I S O A c ok k h;
        span = in-it.up;
        counted = in-it.high;
        first = within r (first_roots O r) whole.firsts;
        second = within r (second_roots O r) whole.seconds;
        inside =
            λ i w.
            subst (All (λ j. r.statements.first ≤ j)) (refers-counted S O s (tables-sound text I S O A c ok) i (omega (arith, w.1, in-it.high))) (item_own text I S O A c ok k h i w.0 w.1);
      }

  pub items-owned : Owned I S O c.items s
  unfolding statements_owned
  items-owned = record { few = (counts_small text I S O A c ok).items; rows = statements-owned text I S O A c ok; items = item_owns }

  -- ---- the tables and the work area are prepared
  pub tables-prepared : (w : List ℕ) → words_needed c ≤ length w → marks_of w s ≡ none → Prepared text S O s w
  unfolding words_needed
  tables-prepared w long clear =
      record {
        short = text-short text I S O A c ok;
        operands = operands-few text I S O A c ok;
        attributes = attributes-few text I S O A c ok;
        sound = tables-sound text I S O A c ok;
        ready = ready-cleared S O s (tables-sound text I S O A c ok) w (tables-room text I S O A c ok w long) clear;
      }

  -- ---- the text of the items
  item_text_lem : (k : ℕ) → k < c.items → item_text text S O A s (item_at I k) ≡ printed (item_of text I S O A k) []
  unfolding item_text rows_before rows_between reached printed item_of as_item
  item_text_lem k h =
      let x : syntax.Item = item_of text I S O A k in
      let closing : syntax.Closing = as_closing text S O A (item_at I k) in
      ap (λ (l : List syntax.Statement). laid l (map (statement_of text S O A) (rows_between S O s (item_at I k))) closing []) (listed-before text I S O A c ok k h none (λ j l. refl))
      ∙ ap (λ (l : List syntax.Statement). laid (listed_before x) l closing []) (listed-between text I S O A c ok k h none (λ j l. refl))

  pub items-text : items_text text I S O A c.items s ≡ print_of text I S O A c
  unfolding items_text print_of items_of
  items-text = joined-printed (λ i. item_text text S O A s (item_at I i)) (item_of text I S O A) c.items 0 (λ k l h. item_text_lem k (omega arith))
