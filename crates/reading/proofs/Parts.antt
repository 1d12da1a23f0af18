-- What the rules look at of the world, and the rows that they claim, by name.
-- Assumes nothing.
use Prim.Native.Nat.{ℕ}
use mathlib.Core.Bool.{Bool}
use Rattle.rules.specs.declared.Spot.{Spot}
use Rattle.rules.specs.declared.Span.{Span}
use Rattle.rules.specs.declared.Side.{Side}
use Rattle.rules.specs.declared.Item.{Item}
use Rattle.rules.specs.declared.Statement.{Statement}
use Rattle.rules.specs.declared.Attribute.{Attribute}
use Rattle.rules.specs.Integers.{Read, integer, type_width}
use Rattle.rules.specs.Rows.{◌up_to◌, statement_at, demanded_bits_code}
use Rattle.rules.specs.World.{World}
use Rattle.rules.specs.Reading as R

abbrev pub keyword_seen : Spot → World → ℕ
keyword_seen t w = R.keyword_at w.text t

abbrev pub instruction_seen : Spot → World → ℕ
instruction_seen t w = R.instruction_at w.text t

abbrev pub integer_seen : Spot → World → Read
integer_seen t w = integer (R.letters w.text t)

abbrev pub width_seen : Spot → World → Read
width_seen t w = type_width (R.letters w.text t)

abbrev pub bits_seen : Spot → World → Bool
bits_seen t w = R.all_bits (R.letters w.text t)

abbrev pub last_seen : World → Spot
last_seen w = w.stand.last

abbrev pub scope_seen : World → ℕ
scope_seen w = w.scope

abbrev pub code_seen : ℕ → World → ℕ
code_seen r w = (statement_at w.tables.statements.words r).code

abbrev pub number_seen : ℕ → World → ℕ
number_seen b w = (statement_at w.tables.statements.words b).number

abbrev pub statements_seen : World → ℕ
statements_seen w = w.tables.statements.count

abbrev pub operands_seen : World → ℕ
operands_seen w = w.tables.operands.count

abbrev pub attributes_seen : World → ℕ
attributes_seen w = w.tables.attributes.count

abbrev pub demanded_row : Spot → Attribute
demanded_row t = R.attribute_row demanded_bits_code (t.first up_to t.past) 0 0

abbrev pub assignment_row : Spot → ℕ → Side → Span → Span → Statement
assignment_row t width r o a =
    record {
      code = r.code;
      name = t.first up_to t.past;
      width = width;
      number = r.number;
      block = r.block;
      operands = o;
      attributes = a;
    }

abbrev pub condition_row : ℕ → ℕ → ℕ → Span → ℕ → Statement
condition_row code n b o a =
    record {
      code = code;
      name = 0 up_to 0;
      width = 0;
      number = n;
      block = b;
      operands = o;
      attributes = a up_to a;
    }

abbrev pub item_row : ℕ → Span → ℕ → ℕ → Span → Span → Item
item_row k s middle infer o a =
    record {
      kind = k;
      statements = s;
      middle = middle;
      infer = infer;
      operands = o;
      attributes = a;
    }
