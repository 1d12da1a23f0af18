-- Sections 4 and 10 of docs/RULES.md. The results of the public calls as the answers that the definitions speak of: the number of each reason, and the place.
-- Assumes nothing.
use Rattle.std.specs.Prelude.{ℕ, Result, Ok, Err}
use Rattle.rules.specs.declared.refusal.Reason.{Reason}
use Rattle.rules.specs.declared.refusal.Reason.TheVariants.{TextTooLong, NotUtf8, NoToken, Unwanted, BadInteger, BadName, NoRow, NotWellFormed, WorkTooShort, OutputTooShort, OtherVersion, NotInOrder, NoRoom}
use Rattle.rules.specs.declared.refusal.Refusal.{Refusal}
use Rattle.rules.specs.declared.Counts.{Counts}
use Rattle.rules.specs.declared.Loaded.{Loaded}
use Rattle.rules.specs.Answer.{Answer}
use Rattle.rules.specs.Answer as answer
use Rattle.rules.specs.StoreAnswer.{StoreAnswer}
use Rattle.rules.specs.StoreAnswer as store
use Rattle.rules.specs.LoadAnswer.{LoadAnswer}
use Rattle.rules.specs.LoadAnswer as load

-- the number of a reason
abbrev pub number_of : Reason → ℕ
number_of TextTooLong = 1
number_of NotUtf8 = 2
number_of NoToken = 3
number_of Unwanted = 4
number_of BadInteger = 5
number_of BadName = 6
number_of NoRow = 7
number_of NotWellFormed = 8
number_of WorkTooShort = 9
number_of OutputTooShort = 10
number_of OtherVersion = 13
number_of NotInOrder = 14
number_of NoRoom = 15

-- the answer of a read
abbrev pub read_answer : Result Counts Refusal → Answer
read_answer (Ok c) = answer.Read c.items c.statements c.operands c.attributes
read_answer (Err e) = answer.Refused (number_of e.reason) e.place

-- the answer of a print, which tells how many bytes it wrote
abbrev pub print_answer : Result ℕ Refusal → Answer
print_answer (Ok n) = answer.Printed n
print_answer (Err e) = answer.Refused (number_of e.reason) e.place

-- the answer of a store, which tells how many bytes it wrote
abbrev pub store_answer : Result ℕ Refusal → StoreAnswer
store_answer (Ok n) = store.Stored n
store_answer (Err e) = store.Refused (number_of e.reason) e.place

-- the answer of a load
abbrev pub load_answer : Result Loaded Refusal → LoadAnswer
load_answer (Ok l) = load.Loaded l.text l.rows.items l.rows.statements l.rows.operands l.rows.attributes
load_answer (Err e) = load.Refused (number_of e.reason) e.place
