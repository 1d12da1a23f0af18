-- Rules that leave the scope and the statements as they are: all but those that claim a statement or close an item.
-- Assumes nothing.
use Prim.Native.Nat.{ℕ, zero, suc}
use mathlib.Core.Path.{◌≡◌, refl, ◌∙◌}
use Rattle.rules.specs.World.{World, Res, go, stop, P, ◌>>=◌}
use Rattle.rules.specs.Reading as R
use Rattle.reading.proofs.Ends.{Ends, goes, stops, claim_operand-ends, claim_attribute-ends}
use Rattle.reading.proofs.Does as does

pub record Same (w v : World) : Type 0 where
  pub scope : v.scope ≡ w.scope
  pub statements : v.tables.statements ≡ w.tables.statements

both : {w v u : World} → Same w v → Same v u → Same w u
both x y = record { scope = y.scope ∙ x.scope; statements = y.statements ∙ x.statements }

-- nothing is said of a rule that claims
abbrev Leaves : ℕ → World → World → Type 0
Leaves zero w v = Same w v
Leaves (suc k) w v = Unit {0}

before : (k : ℕ) (w v u : World) → Same w v → Leaves k v u → Leaves k w u
before zero w v u x y = both x y
before (suc k) w v u x y = tt

ended : {A : Type 0} (m : Res A) → Ends (λ a v. Unit {0}) (λ n t. Unit {0}) m
ended (go a w) = goes a w tt
ended (stop n t) = stops n t tt

abbrev pub Steady : {A : Type 0} → P A → Type 0
Steady p = does.Does Leaves 0 p

frame : does.Frame Leaves
frame = record { stays = λ w s. record { scope = refl; statements = refl }; after = λ {k} {w} {v} {u} x y. before k w v u x y }

costs : does.Costs Leaves 1 1 0 0
costs =
    record {
      frame = frame;
      item = λ r n. record { by = λ w. ended _ };
      statement = λ r. record { by = λ w. ended _ };
      operand = λ r. record { by = λ w. claim_operand-ends r w (λ h. record { scope = refl; statements = refl }) (λ h. tt) };
      attribute = λ r. record { by = λ w. claim_attribute-ends r w (λ h. record { scope = refl; statements = refl }) (λ h. tt) };
    }

pub given : {A : Type 0} (a : A) → Steady (λ w. go a w)
given a = does.given frame a

pub after : {A B : Type 0} {p : P A} {f : A → P B} → Steady p → ((a : A) → Steady (f a)) → Steady (p >>= f)
after x y = does.after frame x y

pub lookahead_steady : Steady R.lookahead
lookahead_steady = does.lookahead-keeps frame

pub token_steady : Steady R.token
token_steady = does.token-keeps frame

pub expect_steady : (k : ℕ) → Steady (R.expect k)
expect_steady k = does.expect-keeps frame k

pub ident_steady : (k : ℕ) → Steady (R.ident k)
ident_steady k = does.ident-keeps frame k

pub int_field_steady : (width : ℕ) → Steady (R.int_field width)
int_field_steady width = does.int_field-keeps frame width

pub type_if_any_steady : Steady R.type_if_any
type_if_any_steady = does.type_if_any-keeps frame

pub new_name_steady : Steady R.new_name
new_name_steady = does.new_name-keeps frame

pub block_steady : Steady R.block
block_steady = does.block-keeps frame

pub operand_steady : Steady R.operand
operand_steady = does.operand_does costs

pub attributes_steady : Steady R.attributes
attributes_steady = does.attributes_keep costs

pub root_attributes_steady : Steady R.root_attributes
root_attributes_steady = does.root_attributes_keep costs

pub assignment_rhs_steady : Steady R.assignment_rhs
assignment_rhs_steady = does.assignment_rhs-keeps costs

pub infer_steady : Steady R.infer
infer_steady = does.infer-keeps costs
