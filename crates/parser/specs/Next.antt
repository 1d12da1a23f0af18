-- What stands next in a text, as the parser lexes it.
-- Assumes nothing.
use Rattle.std.specs.Prelude.{Option, Some, None, Result, Ok, Err}
use Rattle.rules.specs.declared.Lexed.{Lexed}
use Rattle.rules.specs.declared.Lexed.TheVariants.{Found, End, Refused}
use Rattle.rules.specs.declared.Spot.{Spot}
use Rattle.rules.specs.Reading.{spot_of}
use Rattle.parser.specs.declared.fault.Fault.{Fault}
use Rattle.parser.specs.declared.fault.What.TheVariants as what

-- a token, none at the end of the text, or a refusal of the lexer
unfoldable pub next_of : Lexed → Result (Option Spot) Fault
next_of (Found t) = Ok (Some (spot_of t))
next_of End = Ok None
next_of (Refused p) = Err (record { what = what.Lexer; at = record { kind = 0; first = p; past = p } })
