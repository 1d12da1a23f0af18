-- Lists of items: the rows that are claimed say the items that the reading by names gives.
-- Assumes nothing.
use Prim.Native.Nat.{ℕ, zero, suc, ◌+◌, ◌<◌}
use mathlib.Core.Path.{◌≡◌, refl, subst}
use mathlib.Core.Bool.{Bool, true, false, cond, not}
use mathlib.Core.List.{List, [], ◌∷◌}
use native.Mathlib.Omega.{arith}
use lib.Dec.{eqb}
use lib.ListN.{length}
use Rattle.rules.specs.declared.Entry.{Entry}
use Rattle.rules.specs.Syntax as syntax
use Rattle.rules.specs.World.{World, Stand, Tables, Res, P, go, many}
use Rattle.rules.specs.Reading as rows
use Rattle.rules.specs.Answers.{Lent, start}
use Rattle.reading.proofs.Claims.{item_ahead-keeps, item_of_claims}
use Rattle.reading.proofs.Many.{many_turn}
use Rattle.bynames.proofs.Moves.{Within, token_some, token-ahead}
use Rattle.bynames.proofs.MovesRules.{item_takes}
use Rattle.bynames.proofs.Reader as names
use Rattle.bynames.proofs.Reader.{State, ahead}
use Rattle.simulation.proofs.Stable.{Sized, Later, later_same, later_than, item_in, Says, SayAll, says_later, say_none, say_more}
use Rattle.simulation.proofs.Together.{Both, goes, seq_ok, then-names, nested}
use Rattle.simulation.proofs.Tokens.{world, next_at, state, Sits, after_look_within, look_both}
use Rattle.simulation.proofs.Items.{Itemed, itemed, entry_of, item_both}

-- a test and its opposite
turned : {X Y : Type 0} {Z : X → World → Y → State → Type 0} (b : Bool) (p q : P X) (f g : names.P Y) (w : World) (a : State) → (b ≡ false → Both Z (p w) (g a)) → (b ≡ true → Both Z (q w) (f a)) → Both Z (cond (not b) p q w) (cond b f g a)
turned true p q f g w a h k = k refl
turned false p q f g w a h k = h refl

module _ (text : List ℕ) (e : Entry) where
  -- rows were claimed that say items
  pub data ItemedAll (t : Tables) : Unit {0} → World → List syntax.Item → State → Type 0 where
    itemed_all : (s : Stand) (u : Tables) (n : ℕ) (ys : List syntax.Item) (l : List syntax.Statement) → Sized u → Later t u → u.items.count ≡ t.items.count + n → SayAll (item_in text) u t.items.count n ys
        → ItemedAll t tt (world text u.statements.count s u) ys (state text l s)

  -- an item before others
  one_more : (t u : Tables) (o : syntax.Item) → Later t u → u.items.count ≡ t.items.count + 1 → Says (item_in text) u t.items.count o
      → {m : Res (Unit {0})} {r : names.Res (List syntax.Item)} → Both (ItemedAll u) m r → Both (ItemedAll t) m (names.bind r (λ ys. names.give (o ∷ ys)))
  one_more t u o k c h b = then-names (λ ys. names.give (o ∷ ys)) b on
    where
      on : (x : Unit {0}) (w : World) (ys : List syntax.Item) (a : State) → ItemedAll u x w ys a → Both (ItemedAll t) (go x w) (names.go (o ∷ ys) a)
      on x w ys a (itemed_all s v n zs l d k' c' h') =
          goes _ _ _ _ (itemed_all s v (suc n) (o ∷ zs) l d (later_than k k') (omega arith) (say_more (says_later k' h) (subst (λ (j : ℕ). SayAll (item_in text) v j n zs) c h')))

  abbrev repeating : World → Res (Unit {0})
  repeating = many (λ t. t.items) rows.item_ahead (rows.item_of e)

  loop : (g : ℕ) (t : Tables) (l : List syntax.Statement) → Sized t → (s : Stand) → Sits text s → ahead (next_at text s) < g → Both (ItemedAll t) (repeating (world text t.statements.count s t)) (names.list (entry_of e) g (state text l s))
  unfolding names.list rows.item_ahead
  loop zero t l zd s z h = absurd (let q : ⊥ = omega arith in q)
  loop (suc g) t l zd s z h =
      rw (many_turn (item_ahead-keeps (λ t. t.items)) (item_of_claims e) (world text t.statements.count s t))
      (nested (rows.lookahead (world text t.statements.count s t)) _ _
      (after_look_within text t.statements.count t l (suc g) _ _ s z h (look_both text t.statements.count t l s z) (λ v y i.
      turned (eqb v.ahead.kind 0) _ _ _ _ (world text t.statements.count v t) (state text l v)
      (λ q. seq_ok _ _ (item_both text t zd v y e) ((item_takes (entry_of e)).by g (state text [] v) y i) (turn g t (loop g)))
      (λ q. goes _ _ _ _ (itemed_all v t 0 [] l zd (later_same t) (omega arith) say_none)))))
    where
      turn : (g : ℕ) (t : Tables)
          → ((t : Tables) (l : List syntax.Statement) → Sized t → (s : Stand) → Sits text s → ahead (next_at text s) < g → Both (ItemedAll t) (repeating (world text t.statements.count s t)) (names.list (entry_of e) g (state text l s)))
          → (x : Unit {0}) (w : World) (y : syntax.Item) (a : State) → Itemed text t x w y a → Within g y a → Both (ItemedAll t) (repeating w) (names.bind (names.list (entry_of e) g a) (λ ys. names.give (y ∷ ys)))
      turn g t ih x w y a (itemed s u o l z d k c h) i = one_more t u o k c h (ih u l d s z i.1)

-- The two readings of a text go together.
pub simulated : (e : Entry) (text : List ℕ) (l : Lent) → Both (ItemedAll text e (start text l).tables) (rows.items e (start text l)) (names.list (entry_of e) (suc (length text)) (names.at [] text))
unfolding start rows.items
simulated e text l =
    loop text e (suc (length text)) (start text l).tables [] (record { items = refl; statements = refl; operands = refl; attributes = refl }) (start text l).stand (token_some text) (omega (arith, token-ahead text))
