-- Operands: the row that is claimed says the operand that the reading by names gives.
-- Assumes nothing.
use Prim.Native.Nat.{ℕ, zero, suc, ◌+◌, ◌/◌, ◌%◌, ◌^◌}
use mathlib.Core.Path.{◌≡◌, refl, ap, ◌∙◌, subst}
use mathlib.Core.List.{List, [], ◌∷◌}
use native.Mathlib.Nat.{div-add-mod'}
use native.Mathlib.Omega.{arith}
use lib.Dec.{eqb}
use Rattle.rules.specs.declared.Operand.{Operand}
use Rattle.rules.specs.Tokens as kind
use Rattle.rules.specs.Rows.{words_of, bits_of}
use Rattle.rules.specs.Syntax as syntax
use Rattle.rules.specs.Syntax.{Statement}
use Rattle.rules.specs.View.{typing_of, as_operand, operand_of}
use Rattle.rules.specs.World.{World, Stand, Tables, Res, P, go, bind, claim_operand}
use Rattle.rules.specs.Reading as rows
use Rattle.bynames.proofs.Reader as names
use Rattle.bynames.proofs.Reader.{State}
use Rattle.simulation.proofs.Stable.{Sized, Later, later_same, later_than, with_operand, operand_sized, operand_later, operand_stays, name_stays, operand_in, Says, SayAll, says_later, say_none, say_more}
use Rattle.simulation.proofs.Together.{Both, goes, seq, either, then-names, claims}
use Rattle.simulation.proofs.Tokens.{world, state, Sits, after, after_look, look_both, expect_both}
use Rattle.simulation.proofs.Numbers.{int_both, typing_both}
use Rattle.simulation.proofs.Scopes.{Scope, scope_later, value_then}

-- words keep all bits of a number
pub bits-words : (n : ℕ) → bits_of (words_of n) ≡ n
bits-words n = rw (div-add-mod' (n / 2 ^ 64) (2 ^ 32), div-add-mod' (n % 2 ^ 64) (2 ^ 32)) (div-add-mod' n (2 ^ 64))

-- tables with rows more, and none of them of statements or items
pub record Grown (t u : Tables) : Type 0 where
  pub later : Later t u
  pub sized : Sized u
  pub statements : u.statements.count ≡ t.statements.count
  pub items : u.items.count ≡ t.items.count

pub grown_same : {t : Tables} → Sized t → Grown t t
grown_same z = record { later = later_same _; sized = z; statements = refl; items = refl }

pub grown_more : {t u v : Tables} → Grown t u → Grown u v → Grown t v
grown_more x y = record { later = later_than x.later y.later; sized = y.sized; statements = y.statements ∙ x.statements; items = y.items ∙ x.items }

pub scope_grown : {text : List ℕ} {f : ℕ} {t u : Tables} {l : List Statement} → Grown t u → Scope text f t l → Scope text f u l
scope_grown g s = scope_later g.later g.statements s

module _ (text : List ℕ) (f : ℕ) (t : Tables) (l : List Statement) where
  -- an operand's row was claimed, and says the operand
  pub data Operanded : Unit {0} → World → syntax.Operand → State → Type 0 where
    operanded : (s : Stand) (u : Tables) (y : syntax.Operand) → Sits text s → Grown t u → u.operands.count ≡ t.operands.count + 1 → Says (operand_in text) u t.operands.count y
        → Operanded tt (world text f s u) y (state text l s)

  pub after-operand : {X Y : Type 0} {Z : X → World → Y → State → Type 0} {m : Res (Unit {0})} {n : names.Res syntax.Operand} (F : Unit {0} → P X) (G : syntax.Operand → names.P Y) → Both Operanded m n
      → ((s : Stand) (u : Tables) (y : syntax.Operand) → Sits text s → Grown t u → u.operands.count ≡ t.operands.count + 1 → Says (operand_in text) u t.operands.count y
      → Both Z (F tt (world text f s u)) (G y (state text l s)))
      → Both Z (bind m F) (names.bind n G)
  after-operand {Z = Z} F G b k = seq F G b on
    where
      on : (x : Unit {0}) (w : World) (y : syntax.Operand) (a : State) → Operanded x w y a → Both Z (F x w) (G y a)
      on x w y a (operanded s u y' z g c h) = k s u y' z g c h

  module _ (zd : Sized t) where
    claimed : (r : Operand) (y : syntax.Operand) (s : Stand) → Sits text s → ((u : Tables) → Later t u → as_operand text u.statements.words r ≡ y) → Both Operanded (claim_operand r (world text f s t)) (names.go y (state text l s))
    unfolding claim_operand operand_of
    claimed r y s z h =
        claims t.operands (world text f s (with_operand r t)) (world text f s t) y (state text l s)
        (operanded s (with_operand r t) y z
        (record { later = operand_later t zd r; sized = operand_sized t zd r; statements = refl; items = refl }) refl
        (record { by = λ u k. ap (as_operand text u.statements.words) (operand_stays t zd u r k) ∙ h u (later_than (operand_later t zd r) k) }))

    pub operand_both : Scope text f t l → (s : Stand) → Sits text s → Both Operanded (rows.operand (world text f s t)) (names.operand (state text l s))
    unfolding rows.operand names.operand rows.named rows.constant as_operand
    operand_both sc s z =
        after_look text f t l _ _ (look_both text f t l s z) (λ v y.
        either (eqb v.ahead.kind kind.val_name) _ _ _ _ (world text f v t) (state text l v)
        (λ e. value_then text f t l sc _ _ v y (λ r v₁ y₁ h. claimed _ _ v₁ y₁ (λ u k. ap syntax.value (name_stays text k r h))))
        (λ e.
        after text f t l _ _ (int_both text f t l v y) (λ n v₁ y₁ h.
        after text f t l _ _ (typing_both text f t l v₁ y₁) (λ width v₂ y₂ h₂.
        claimed _ _ v₂ y₂ (λ u k. ap (λ (b : ℕ). syntax.constant b (typing_of width)) (bits-words n))))))

-- n operands
module _ (text : List ℕ) (f : ℕ) (l : List Statement) where
  pub data Listed (t : Tables) (n : ℕ) : Unit {0} → World → List syntax.Operand → State → Type 0 where
    listed : (s : Stand) (u : Tables) (ys : List syntax.Operand) → Sits text s → Grown t u → u.operands.count ≡ t.operands.count + n → SayAll (operand_in text) u t.operands.count n ys
        → Listed t n tt (world text f s u) ys (state text l s)

  pub after-operands : {X Y : Type 0} {Z : X → World → Y → State → Type 0} {t : Tables} {j : ℕ} {m : Res (Unit {0})} {n : names.Res (List syntax.Operand)} (F : Unit {0} → P X) (G : List syntax.Operand → names.P Y) → Both (Listed t j) m n
      → ((s : Stand) (u : Tables) (ys : List syntax.Operand) → Sits text s → Grown t u → u.operands.count ≡ t.operands.count + j → SayAll (operand_in text) u t.operands.count j ys
      → Both Z (F tt (world text f s u)) (G ys (state text l s)))
      → Both Z (bind m F) (names.bind n G)
  after-operands {Z = Z} {t = t} {j = j} F G b k = seq F G b on
    where
      on : (x : Unit {0}) (w : World) (y : List syntax.Operand) (a : State) → Listed t j x w y a → Both Z (F x w) (G y a)
      on x w y a (listed s u ys z g c h) = k s u ys z g c h

  -- an operand before n others
  one_more : (t : Tables) (n : ℕ) (u : Tables) (o : syntax.Operand) → Grown t u → u.operands.count ≡ t.operands.count + 1 → Says (operand_in text) u t.operands.count o
      → {m : Res (Unit {0})} {r : names.Res (List syntax.Operand)} → Both (Listed u n) m r → Both (Listed t (suc n)) m (names.bind r (λ ys. names.give (o ∷ ys)))
  one_more t n u o g c h b = then-names (λ ys. names.give (o ∷ ys)) b on
    where
      on : (x : Unit {0}) (w : World) (ys : List syntax.Operand) (a : State) → Listed u n x w ys a → Both (Listed t (suc n)) (go x w) (names.go (o ∷ ys) a)
      on x w ys a (listed s v zs z g' c' h') =
          goes _ _ _ _
          (listed s v (o ∷ zs) z (grown_more g g') (omega arith)
          (say_more (says_later g'.later h) (subst (λ (i : ℕ). SayAll (operand_in text) v i n zs) c h')))

  pub further_both : (n : ℕ) (t : Tables) → Sized t → Scope text f t l → (s : Stand) → Sits text s → Both (Listed t n) (rows.further_operands n (world text f s t)) (names.further n (state text l s))
  unfolding rows.further_operands names.further
  further_both zero t zd sc s z = goes _ _ _ _ (listed s t [] z (grown_same zd) (omega arith) say_none)
  further_both (suc n) t zd sc s z =
      after text f t l _ _ (expect_both text f t l kind.comma s z) (λ x v y h.
      after-operand text f t l _ _ (operand_both text f t l zd sc v y) (λ v₁ u o y₁ g c h₁.
      one_more t n u o g c h₁ (further_both n u g.sized (scope_grown g sc) v₁ y₁)))

  pub operands_both : (n : ℕ) (t : Tables) → Sized t → Scope text f t l → (s : Stand) → Sits text s → Both (Listed t n) (rows.operands n (world text f s t)) (names.operands n (state text l s))
  unfolding rows.operands names.operands
  operands_both zero t zd sc s z = goes _ _ _ _ (listed s t [] z (grown_same zd) (omega arith) say_none)
  operands_both (suc n) t zd sc s z =
      after-operand text f t l _ _ (operand_both text f t l zd sc s z) (λ v₁ u o y₁ g c h₁.
      one_more t n u o g c h₁ (further_both n u g.sized (scope_grown g sc) v₁ y₁))
