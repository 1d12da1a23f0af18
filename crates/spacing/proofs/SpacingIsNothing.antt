-- Spacing is nothing.
-- Take two well-formed texts of 65,536 bytes or fewer that have the same list of tokens: the same kinds and letters in the same order, whatever white space and
-- comments stand between them, and at last both the end of the text or both what is no token. Read them by the same entry point into tables of the same size.
-- Both are accepted, with as many rows in each table, and their tables say the same items, which print to the same bytes; or both are refused with the same number:
-- both at the token of the same index, or both at what is no token, or both at the end of the text.
-- Assumes nothing.
use Prim.Native.Nat.{ℕ, ◌-◌, ◌≤◌}
use mathlib.Core.Path.{◌≡◌, refl, ap}
use mathlib.Core.List.{List}
use borrow.Author.Tests.{le-ltb}
use lib.ListN.{length}
use Rattle.std.specs.Prelude.{Ok}
use Rattle.rules.specs.declared.Entry.{Entry}
use Rattle.rules.specs.declared.Token.{Token}
use Rattle.rules.specs.declared.Lexed.TheVariants.{Found, End, Refused}
use Rattle.rules.specs.Utf8.{checked}
use Rattle.rules.specs.View.{items_of}
use Rattle.rules.specs.Printing.{printed_all}
use Rattle.rules.specs.World.{Tables, World, Res}
use Rattle.rules.specs.Reading as R
use Rattle.rules.specs.Answers.{Lent, start, fault_number, Outcome, accepted, refusal, outcome, read_checked, reading}
use Rattle.rules.specs.Tokens.{nth}
use Rattle.simulation.proofs.Said.{items_in}
use Rattle.spacing.specs.TokenList.{tokens_of}
use Rattle.spacing.proofs.Sequence.{alike}
use Rattle.spacing.proofs.Twins.{token_of, Worlds, worlds, Both, goes, stops, faults, ends, Equal}
use Rattle.spacing.proofs.Views.{items_same}
use Rattle.spacing.proofs.Start as from

-- tables of two texts with as many rows, that say the same items and print the same
pub record SameTables (x y : List ℕ) (t u : Tables) : Type 0 where
  pub items : t.items.count ≡ u.items.count
  pub statements : t.statements.count ≡ u.statements.count
  pub operands : t.operands.count ≡ u.operands.count
  pub attributes : t.attributes.count ≡ u.attributes.count
  pub says : items_in x t ≡ items_in y u
  pub prints : printed_all (items_in x t) ≡ printed_all (items_in y u)

-- two texts that are accepted alike or refused alike
pub data SameOutcome (x y : List ℕ) : Outcome → Outcome → Type 0 where
  both_accepted : (t u : Tables) → SameTables x y t u → SameOutcome x y (accepted t) (accepted u)
  -- at the first letter of token i
  both_at_token : (n i : ℕ) (s t : Token) → nth x i ≡ Found s → nth y i ≡ Found t → SameOutcome x y (refusal n s.first) (refusal n t.first)
  -- where there would be token i
  both_at_fault : (i p q : ℕ) → nth x i ≡ Refused p → nth y i ≡ Refused q → SameOutcome x y (refusal 3 p) (refusal 3 q)
  -- at the last byte, where there is no token i
  both_at_end : (i : ℕ) → nth x i ≡ End → nth y i ≡ End → SameOutcome x y (refusal 4 (length x - 1)) (refusal 4 (length y - 1))

module _ {x y : List ℕ} where
  tables_same : (w v : World) → Worlds x y w v → SameTables x y w.tables v.tables
  tables_same _ _ (worlds a a' i p p' q q' h h' ahead last n I O c m S S' s d k A A' l) =
      let e = items_same s l O.words I.words I.count in
      record { items = refl; statements = refl; operands = refl; attributes = refl; says = e; prints = ap printed_all e }

  both_outcome : {m m' : Res (Unit {0})} → Both x y Equal m m' → SameOutcome x y (outcome m) (outcome m')
  unfolding outcome fault_number
  both_outcome (goes a a' w v e h) = both_accepted _ _ (tables_same w v h)
  both_outcome (stops n s t h) = both_at_token (fault_number n) h.index (token_of s) (token_of t) h.one h.other
  both_outcome (faults i p p' h h') = both_at_fault i p p' h h'
  both_outcome (ends i h h') = both_at_end i h h'

  started_outcome : {l : Lent} {m m' : Res (Unit {0})} → from.Started x y l m m' → SameOutcome x y (outcome m) (outcome m')
  unfolding outcome start items_of
  started_outcome from.no_token = both_accepted _ _ (record { items = refl; statements = refl; operands = refl; attributes = refl; says = refl; prints = refl })
  started_outcome (from.alike m m' h) = both_outcome h

whole : (e : Entry) (text : List ℕ) (l : Lent) → checked text ≡ Ok tt → length text ≤ 65536 → reading e text l ≡ outcome (R.items e (start text l))
unfolding reading read_checked
whole e text l h k = rw (le-ltb 65536 (length text) k, h) refl

-- the theorem
pub spacing_is_nothing : (e : Entry) (x y : List ℕ) (l : Lent) → checked x ≡ Ok tt → checked y ≡ Ok tt → length x ≤ 65536 → length y ≤ 65536 → tokens_of x ≡ tokens_of y
    → SameOutcome x y (reading e x l) (reading e y l)
spacing_is_nothing e x y l c d m n h = rw (whole e x l c m, whole e y l d n) (started_outcome (from.started (alike x y h) e l))
