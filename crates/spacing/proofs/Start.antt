-- Two texts of the same tokens are read alike from their start on.
-- Assumes nothing.
use Prim.Native.Nat.{ℕ}
use mathlib.Core.Path.{◌≡◌, refl}
use mathlib.Core.Bool.{cond, not}
use mathlib.Core.List.{List, []}
use lib.Dec.{eqb}
use Rattle.rules.specs.declared.Spot.{Spot}
use Rattle.rules.specs.declared.Entry.{Entry}
use Rattle.rules.specs.declared.Lexed.{Lexed}
use Rattle.rules.specs.declared.Lexed.TheVariants.{End}
use Rattle.rules.specs.Rows.{item_length, statement_length, operand_length, attribute_length, capacity}
use Rattle.rules.specs.Tokens.{token_at, onward}
use Rattle.rules.specs.World.{World, Res, go, bind, give, ◌>>◌}
use Rattle.rules.specs.Reading as R
use Rattle.rules.specs.Answers.{Lent, start, empty}
use Rattle.reading.proofs.Claims.{item_ahead-keeps, item_of_claims}
use Rattle.reading.proofs.Many.{many_turn}
use Rattle.spacing.proofs.Sequence.{Alike}
use Rattle.spacing.proofs.Lined.{none}
use Rattle.spacing.proofs.Twins.{Looked, Both, Equal, both_bind, next_same, test, gives, Lexes, tokens, both_end, both_refused, lexes, seen-token, seen-refused}
use Rattle.spacing.proofs.Walk.{item_ahead_lem, item_of_pair, items_pair}

-- how the readings end: both texts have no token, and nothing is read; or alike
pub data Started (x y : List ℕ) (l : Lent) : Res (Unit {0}) → Res (Unit {0}) → Type 0 where
  no_token : Started x y l (go tt (start x l)) (go tt (start y l))
  alike : (m m' : Res (Unit {0})) → Both x y Equal m m' → Started x y l m m'

-- a list of items, told by its first look
first_turn : (e : Entry) (w : World) → R.items e w ≡ bind (bind (R.lookahead w) (λ t. give (not (eqb t.kind 0)))) (λ more. cond more (R.item_of e >> R.items e) (give tt))
unfolding R.items R.item_ahead
first_turn e w = many_turn (item_ahead-keeps _) (item_of_claims e) w

first_look : (text : List ℕ) (l : Lent) → R.lookahead (start text l) ≡ R.seen (token_at text 0) (start text l)
unfolding R.lookahead start
first_look text l = refl

no_items : (e : Entry) (text : List ℕ) (l : Lent) → token_at text 0 ≡ End → R.items e (start text l) ≡ go tt (start text l)
unfolding R.seen start
no_items e text l h = rw (first_turn e (start text l), first_look text l, h) refl

module _ {x y : List ℕ} (same : Alike x y) (e : Entry) (l : Lent) where
  turned : {m m' : Res Spot} → Both x y (Looked x y) m m'
      → Both x y Equal
      (bind (bind m (λ t. give (not (eqb t.kind 0)))) (λ more. cond more (R.item_of e >> R.items e) (give tt)))
      (bind (bind m' (λ t. give (not (eqb t.kind 0)))) (λ more. cond more (R.item_of e >> R.items e) (give tt)))
  turned h =
      both_bind {Q = Equal} _ _ (both_bind _ _ h (λ s t k. gives _ _ (item_ahead_lem same s t k)))
      (λ b c k. test b c k (next_same (item_of_pair same e) (λ u. items_pair same e)) (gives tt tt refl))

  looked : Both x y (Looked x y) (R.seen (token_at x 0) (start x l)) (R.seen (token_at y 0) (start y l)) → Started x y l (R.items e (start x l)) (R.items e (start y l))
  looked h =
      let k : Both x y (Looked x y) (R.lookahead (start x l)) (R.lookahead (start y l)) = rw (first_look x l, first_look y l) h in
      alike (R.items e (start x l)) (R.items e (start y l)) (rw (first_turn e (start x l), first_turn e (start y l)) (turned k))

  begun : (a b : Lexed) → Lexes a b → token_at x 0 ≡ a → token_at y 0 ≡ b → Started x y l (R.items e (start x l)) (R.items e (start y l))
  unfolding start onward
  begun _ _ (tokens t t') h k = looked (rw (h, k) (seen-token same 0 0 0 R.nothing R.nothing 0 (empty item_length l.items) (empty operand_length l.operands) (capacity statement_length l.statements) 0 [] [] none (capacity attribute_length l.attributes) 0 [] [] none t t' h k))
  begun _ _ both_end h k = rw (no_items e x l h, no_items e y l k) no_token
  begun _ _ (both_refused p p') h k = looked (rw (h, k) (seen-refused same 0 0 0 R.nothing R.nothing 0 (empty item_length l.items) (empty operand_length l.operands) (capacity statement_length l.statements) 0 [] [] none (capacity attribute_length l.attributes) 0 [] [] none p p' h k))

  -- the whole of two texts
  pub started : Started x y l (R.items e (start x l)) (R.items e (start y l))
  unfolding onward
  started = begun (token_at x 0) (token_at y 0) (lexes x y (token_at x 0) (token_at y 0) (same 0)) refl refl
