-- Settled examples of docs/RULES.md as the reader by names takes them, and its whole print, computed.
-- Assumes nothing.
use mathlib.Core.Path.{◌≡◌, refl}
use mathlib.Core.Bool.{Bool, true, false, ◌&&◌, beq}
use mathlib.Core.List.{List, [], ◌∷◌}
use Prim.Native.Nat.{ℕ}
use Prim.Native.String.{String}
use Rattle.rules.specs.Bytes as B
use Rattle.rules.specs.Bytes.{bytes, same}
use Rattle.rules.specs.Utf8 as U
use Rattle.rules.specs.Space as S
use Rattle.rules.specs.Tokens as T
use Rattle.rules.specs.Integers as I
use Rattle.rules.specs.Instructions as N
use Rattle.rules.specs.Syntax.{untyped, typed, value, constant, var, instruction, assignment, pc, cand, Item}
use Rattle.rules.specs.Listing.{listed_before, listed_between}
use Rattle.rules.specs.Printing.{printed, printed_all}
use Rattle.bynames.proofs.Tokens.{token}
use Rattle.bynames.proofs.Reader as R
use Rattle.bynames.proofs.Reader.{Entry, replacements, left_hand_sides, right_hand_sides, Answer, accepted, refusal, reading}

-- the item of  %1=var %0 = var pc %0 1 %2:i08=add %1, -0 cand %2 007
abbrev whole : Item
whole =
    record {
      before =
          assignment (record { name = bytes "%1"; typing = untyped; side = var; attributes = [] }) ∷
          assignment (record { name = bytes "%0"; typing = untyped; side = var; attributes = [] }) ∷
          pc (value (bytes "%0")) (constant 1 untyped) ∷
          assignment (record { name = bytes "%2"; typing = typed 8; side = instruction 0 (value (bytes "%1") ∷ constant 0 untyped ∷ []); attributes = [] }) ∷ [];
      between = [];
      closing = cand (value (bytes "%2")) (constant 7 untyped) [];
    }

whole-read : reading replacements (bytes "%1=var %0 = var pc %0 1 %2:i08=add %1, -0 cand %2 007") ≡ accepted (whole ∷ [])
unfolding same B.inside B.digit B.letter B.name_byte B.line_byte U.seq_len U.code_point S.white S.space_len S.comment_len S.skip_len T.single T.int_start T.word T.start I.integer I.type_width N.instruction_of N.arity_of token R.expect R.keyword R.int R.typing R.operand R.further R.operands R.attributes R.right_side R.assigned R.condition R.statements R.candidate R.replacement R.list reading
whole-read = refl

whole_print : printed_all (whole ∷ []) ≡ bytes "%1 = var\n%2:i8 = add %1, 0\ncand %2 7\n"
unfolding same I.decimal I.digits N.instruction_name listed_before listed_between printed
whole_print = refl

-- whether a text is taken
abbrev taken : Answer → Bool
taken (accepted xs) = true
taken refusal = false

record Settled : Type 0 where
  pub entry : Entry
  pub text : List ℕ
  pub taken : Bool

abbrev reads : Entry → String → Bool → Settled
reads e s b = record { entry = e; text = bytes s; taken = b }

abbrev settled : List Settled
settled =
    reads replacements "" true ∷
    reads replacements "%0 = add %0, 1" false ∷
    reads replacements "%0 =" false ∷
    reads replacements "%0" false ∷
    reads replacements "cand - 1" false ∷
    reads left_hand_sides "%a:i0 = var infer %a" false ∷
    reads left_hand_sides "%a:i65536 = var infer %a" false ∷
    reads left_hand_sides "%a:i65535 = var infer %a" true ∷
    reads replacements "%a = var (knownBits =0)" false ∷
    reads replacements "%a = var (knownBits=)" false ∷
    reads replacements "%0=var %0=var" false ∷
    reads replacements "pc 1 2" false ∷
    reads right_hand_sides "result 1 result %x" false ∷
    reads right_hand_sides "result 1 result 2:i8" true ∷
    reads replacements "%b = block 2 %p = phi %b, 1" false ∷
    reads replacements "cand 170141183460469231731687303715884105728 0" false ∷
    reads replacements "cand -170141183460469231731687303715884105728 0" true ∷ []

abbrev hold : List Settled → Bool
hold [] = true
hold (s ∷ l) = beq (taken (reading s.entry s.text)) s.taken && hold l

settled_hold : hold settled ≡ true
unfolding same B.inside B.digit B.letter B.name_byte B.pattern_byte B.line_byte U.seq_len U.code_point S.white S.space_len S.comment_len S.skip_len T.single T.int_start T.pattern T.word T.start I.integer I.type_width N.instruction_of N.arity_of token R.expect R.keyword R.int R.field R.typing R.operand R.further R.operands R.attribute_of R.attribute R.root_attribute R.attributes R.right_side R.assigned R.condition R.statements R.inferred R.candidate R.pair R.replacement R.left_hand_side R.right_hand_side R.list reading
settled_hold = refl
