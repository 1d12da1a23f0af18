-- What a parser stands for in the definition of reading, and what a rule's code does with it.
-- Assumes nothing.
use Rattle.std.specs.Prelude.{ℕ, ◌≡◌, Bool, eqb, Option, Some, None, Result, Ok, Err, OnOk, List, [], ◌∷◌, length}
use Rattle.std.specs.Borrow.{MutBor}
use Rattle.rules.specs.declared.Spot.{Spot}
use Rattle.rules.specs.Faults as fault
use Rattle.rules.specs.Reading.{nothing, lookahead, int, valued}
use Rattle.rules.specs.Integers.{number, below}
use Rattle.rules.specs.World.{Tables, World, Res, go, stop, P, ◌>>=◌, give, asks, scoped}
use Rattle.tables.specs.Stands.{tables}
use Rattle.index.specs.Linked.{Holds}
use Rattle.parser.specs.declared.Parser.{Parser}
use Rattle.parser.specs.declared.fault.What.{What}
use Rattle.parser.specs.declared.fault.What.TheVariants as what
use Rattle.parser.specs.declared.fault.Fault.{Fault}

-- the token ahead, of kind 0 where there is none
abbrev pub ahead_of : Option Spot → Spot
ahead_of None = nothing
ahead_of (Some t) = t

-- its tables
abbrev pub tables_of : Parser → Tables
tables_of p = tables p.counts p.items.now p.statements.now p.operands.now p.attributes.now

unfoldable pub world : Parser → World
world p =
    record {
      text = p.text.bytes.now;
      stand = record { at = p.stand.at; ahead = ahead_of p.stand.ahead; last = p.stand.last };
      scope = p.scope;
      tables = tables_of p;
    }

-- what is at fault, as the definition of reading numbers it
abbrev pub number_of : What → ℕ
number_of what.Lexer = fault.lexer
number_of what.Token = fault.token
number_of what.End = fault.end
number_of what.Integer = fault.integer
number_of what.Unknown = fault.unknown
number_of what.Redefined = fault.redefined
number_of what.NoBlock = fault.no_block
number_of what.NoRow = fault.no_row

-- an answer and a parser: going on with what the value stands for, or stopped
abbrev pub told : {A B : Type 0} → (A → B) → Result A Fault → Parser → Res B
told value (Ok a) p = go (value a) (world p)
told value (Err e) p = stop (number_of e.what) e.at

-- the same words are still lent
pub record Lent (v w : MutBor (List ℕ)) : Type 0 where
  pub same : w.ghost_name ≡ v.ghost_name
  pub long : length w.now ≡ length v.now

-- the same text, the same tables and the same index are still lent
pub record Keeps (p q : Parser) : Type 0 where
  pub text : q.text.bytes.now ≡ p.text.bytes.now
  pub items : Lent p.items q.items
  pub statements : Lent p.statements q.statements
  pub operands : Lent p.operands q.operands
  pub attributes : Lent p.attributes q.attributes
  pub index : Lent p.index q.index

-- the words of the lent tables and of the index
unfoldable pub lent_words : Parser → List (List ℕ)
lent_words p = p.items.now ∷ p.statements.now ∷ p.operands.now ∷ p.attributes.now ∷ p.index.now ∷ []

-- the same but for the index, and but for one table
unfoldable pub lent_tables : Parser → List (List ℕ)
lent_tables p = p.items.now ∷ p.statements.now ∷ p.operands.now ∷ p.attributes.now ∷ []

unfoldable pub but_items : Parser → List (List ℕ)
but_items p = p.statements.now ∷ p.operands.now ∷ p.attributes.now ∷ p.index.now ∷ []

unfoldable pub but_statements : Parser → List (List ℕ)
but_statements p = p.items.now ∷ p.operands.now ∷ p.attributes.now ∷ p.index.now ∷ []

unfoldable pub but_operands : Parser → List (List ℕ)
but_operands p = p.items.now ∷ p.statements.now ∷ p.attributes.now ∷ p.index.now ∷ []

unfoldable pub but_attributes : Parser → List (List ℕ)
but_attributes p = p.items.now ∷ p.statements.now ∷ p.operands.now ∷ p.index.now ∷ []

-- the index holds rows of the item
pub record Ready (p : Parser) : Type 0 where
  pub holds : Holds p.text.bytes.now p.statements.now p.index.now p.scope p.counts.statements

-- a rule, run from where p stands, answers r and leaves q; an index that held rows of the item still does
pub record RunsTo {A B : Type 0} (value : A → B) (rule : P B) (p : Parser) (r : Result A Fault) (q : Parser) : Type 0 where
  pub tells : told value r q ≡ rule (world p)
  pub keeps : Keeps p q
  pub ready : Ready p → OnOk r (Ready q)

-- the same, where the value stands for itself
abbrev pub Runs : {A : Type 0} → P A → Parser → Result A Fault → Parser → Type 0
Runs rule p r q = RunsTo (λ a. a) rule p r q

-- whether a token of a kind comes next
unfoldable pub is_ahead : ℕ → P Bool
is_ahead k = do
  t ← lookahead
  give (eqb t.kind k)

-- an integer that is below a bound
unfoldable pub int_below : ℕ → P ℕ
int_below bound = do
  n ← int
  t ← asks (λ w. w.stand.last)
  valued (below bound (number n)) fault.integer t

-- the scope begins anew behind the statements that are claimed
unfoldable pub end_scope : P (Unit {0})
end_scope w = go tt (scoped w.tables.statements.count w)

-- nothing is done
unfoldable pub rests : P (Unit {0})
rests = give tt
