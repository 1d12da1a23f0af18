-- A result is told by the answer that it is: no two reasons have one number, so no two results are one answer. What is said of answers is said of results by this.
-- Assumes nothing.
use Prim.Native.Nat.{ℕ}
use mathlib.Core.Path.{◌≡◌, refl, sym, ap, ◌∙◌}
use mathlib.Core.Bool.{cond}
use lib.Dec.{eqb}
use Rattle.std.specs.Prelude.{Result, Ok, Err}
use Rattle.rules.specs.declared.refusal.Reason.{Reason}
use Rattle.rules.specs.declared.refusal.Reason.TheVariants.{TextTooLong, NotUtf8, NoToken, Unwanted, BadInteger, BadName, NoRow, NotWellFormed, WorkTooShort, OutputTooShort, OtherVersion, NotInOrder, NoRoom}
use Rattle.rules.specs.declared.refusal.Refusal.{Refusal}
use Rattle.rules.specs.declared.Counts.{Counts}
use Rattle.rules.specs.declared.Loaded.{Loaded}
use Rattle.rules.specs.Answer.{Answer}
use Rattle.rules.specs.Answer as answer
use Rattle.rules.specs.StoreAnswer.{StoreAnswer}
use Rattle.rules.specs.StoreAnswer as store
use Rattle.rules.specs.LoadAnswer.{LoadAnswer}
use Rattle.rules.specs.LoadAnswer as load
use Rattle.rules.specs.Results.{number_of, read_answer, print_answer, store_answer, load_answer}

-- the reason that a number stands for; of a number that no reason has, any
abbrev reason_of : ℕ → Reason
reason_of n =
    cond (eqb n 1) TextTooLong
    (cond (eqb n 2) NotUtf8
    (cond (eqb n 3) NoToken
    (cond (eqb n 4) Unwanted
    (cond (eqb n 5) BadInteger
    (cond (eqb n 6) BadName
    (cond (eqb n 7) NoRow
    (cond (eqb n 8) NotWellFormed
    (cond (eqb n 9) WorkTooShort
    (cond (eqb n 10) OutputTooShort
    (cond (eqb n 13) OtherVersion
    (cond (eqb n 14) NotInOrder NoRoom)))))))))))

reason_told : (w : Reason) → reason_of (number_of w) ≡ w
reason_told TextTooLong = refl
reason_told NotUtf8 = refl
reason_told NoToken = refl
reason_told Unwanted = refl
reason_told BadInteger = refl
reason_told BadName = refl
reason_told NoRow = refl
reason_told NotWellFormed = refl
reason_told WorkTooShort = refl
reason_told OutputTooShort = refl
reason_told OtherVersion = refl
reason_told NotInOrder = refl
reason_told NoRoom = refl

-- No two reasons have one number.
pub one_reason : {w v : Reason} → number_of w ≡ number_of v → w ≡ v
one_reason {w} {v} e = sym (reason_told w) ∙ ap reason_of e ∙ reason_told v

-- the refusal with a number and a place
abbrev refusal_of : ℕ → ℕ → Refusal
refusal_of n p = record { reason = reason_of n; place = p }

refusal_told : (e : Refusal) → refusal_of (number_of e.reason) e.place ≡ e
refusal_told e = ap (λ (w : Reason). record { reason = w; place = e.place }) (reason_told e.reason)

-- the result that an answer is; of an answer that the call never gives, any
abbrev read_of : Answer → Result Counts Refusal
read_of (answer.Read i s o a) = Ok (record { items = i; statements = s; operands = o; attributes = a })
read_of (answer.Printed n) = Err (refusal_of 0 n)
read_of (answer.Refused n p) = Err (refusal_of n p)

read_told : (r : Result Counts Refusal) → read_of (read_answer r) ≡ r
read_told (Ok c) = refl
read_told (Err e) = ap Err (refusal_told e)

abbrev print_of : Answer → Result ℕ Refusal
print_of (answer.Read i s o a) = Ok 0
print_of (answer.Printed n) = Ok n
print_of (answer.Refused n p) = Err (refusal_of n p)

print_told : (r : Result ℕ Refusal) → print_of (print_answer r) ≡ r
print_told (Ok n) = refl
print_told (Err e) = ap Err (refusal_told e)

abbrev store_of : StoreAnswer → Result ℕ Refusal
store_of (store.Stored n) = Ok n
store_of (store.Refused n p) = Err (refusal_of n p)

store_told : (r : Result ℕ Refusal) → store_of (store_answer r) ≡ r
store_told (Ok n) = refl
store_told (Err e) = ap Err (refusal_told e)

abbrev load_of : LoadAnswer → Result Loaded Refusal
load_of (load.Loaded t i s o a) = Ok (record { text = t; rows = record { items = i; statements = s; operands = o; attributes = a } })
load_of (load.Refused n p) = Err (refusal_of n p)

load_told : (r : Result Loaded Refusal) → load_of (load_answer r) ≡ r
load_told (Ok l) = refl
load_told (Err e) = ap Err (refusal_told e)

-- No two results are one answer: of a read, a print, a store, a load.
pub one_read_result : {r s : Result Counts Refusal} → read_answer r ≡ read_answer s → r ≡ s
one_read_result {r} {s} e = sym (read_told r) ∙ ap read_of e ∙ read_told s

pub one_print_result : {r s : Result ℕ Refusal} → print_answer r ≡ print_answer s → r ≡ s
one_print_result {r} {s} e = sym (print_told r) ∙ ap print_of e ∙ print_told s

pub one_store_result : {r s : Result ℕ Refusal} → store_answer r ≡ store_answer s → r ≡ s
one_store_result {r} {s} e = sym (store_told r) ∙ ap store_of e ∙ store_told s

pub one_load_result : {r s : Result Loaded Refusal} → load_answer r ≡ load_answer s → r ≡ s
one_load_result {r} {s} e = sym (load_told r) ∙ ap load_of e ∙ load_told s
