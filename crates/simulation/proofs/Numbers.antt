-- Keywords, integers and types: the two readings give the same.
-- Assumes nothing.
use Prim.Native.Nat.{ℕ, ◌≤◌, ◌<◌, ◌^◌}
use mathlib.Core.Path.{◌≡◌, refl, subst}
use mathlib.Core.Bool.{true, false}
use mathlib.Core.List.{List}
use native.Mathlib.Omega.{arith}
use borrow.Author.Tests.{ne_eqb}
use lib.Dec.{eqb}
use Rattle.rules.specs.declared.Spot.{Spot}
use Rattle.rules.specs.Bytes.{same}
use Rattle.rules.specs.Faults as fault
use Rattle.rules.specs.Tokens as kind
use Rattle.rules.specs.Integers.{Read, number, refused, fits, integer, type_width}
use Rattle.rules.specs.Syntax.{Statement, Typing}
use Rattle.rules.specs.View.{typing_of}
use Rattle.rules.specs.World.{Stand, Tables, go, stop, bind, asks}
use Rattle.rules.specs.Reading as rows
use Rattle.rules.specs.Reading.{letters}
use Rattle.bynames.proofs.AcceptedTokens.{width_gives}
use Rattle.bynames.proofs.Reader as names
use Rattle.simulation.proofs.Together.{Both, goes, halts, either, nested}
use Rattle.simulation.proofs.Words.{keyword_letters, keyword_is, keyword_not}
use Rattle.simulation.proofs.Tokens.{world, state, Sits, Keeps, keeps, Alike, after, after_look, look_both, expect_both, token_as, token-ahead, some_kind, taken-ahead, expected_ahead, past}

-- the keyword that was looked at, taken
pub keyword_ahead : (text : List ℕ) (l : List Statement) (k : ℕ) (s : Stand) → eqb s.ahead.kind kind.ident ≡ true → same (letters text s.ahead) (keyword_letters k) ≡ true → names.keyword (keyword_letters k) (state text l s) ≡ names.go tt (state text l (past s))
unfolding names.keyword
keyword_ahead text l k s e h = rw (expected_ahead text l kind.ident s (omega arith) e, h) refl

module _ (text : List ℕ) (f : ℕ) (t : Tables) (k : ℕ) (s : Stand) (word : eqb s.ahead.kind kind.ident ≡ true) where
  pub ident-ahead : eqb (rows.keyword_at text s.ahead) k ≡ true → rows.ident k (world text f s t) ≡ go s.ahead (world text f (past s) t)
  unfolding rows.ident asks
  ident-ahead h = rw (taken-ahead text f t s (some_kind kind.ident s (omega arith) word), h) refl

  pub no_ident_ahead : eqb (rows.keyword_at text s.ahead) k ≡ false → rows.ident k (world text f s t) ≡ stop fault.token s.ahead
  unfolding rows.ident asks
  no_ident_ahead h = rw (taken-ahead text f t s (some_kind kind.ident s (omega arith) word), h) refl

module _ (text : List ℕ) (f : ℕ) (t : Tables) (l : List Statement) where
  -- a keyword
  pub ident_both : (k : ℕ) → k < 19 → (s : Stand) → Sits text s → Both (Keeps text f t l (λ x. Unit {0}) (λ x. tt)) (rows.ident k (world text f s t)) (names.keyword (keyword_letters k) (state text l s))
  unfolding rows.ident names.keyword asks
  ident_both k h s z =
      token_as text f t l kind.ident _ _ s z
      (λ x v y e q. rw (keyword_is k h text x e) (either (same (letters text x) (keyword_letters k)) _ _ _ _ (world text f v t) (state text l v) (λ i. goes _ _ _ _ (keeps x v y tt)) (λ i. halts fault.token x)))
      (λ x v y e. rw (keyword_not k h text x e) (halts fault.token x))

  -- a number, or a refusal
  valued_both : (r : Read) (e : ℕ) (x : Spot) (s : Stand) → Sits text s → Both (Alike text f t l) (rows.valued r e x (world text f s t)) (names.read r (state text l s))
  unfolding rows.valued
  valued_both (number n) e x s z = goes _ _ _ _ (keeps n s z tt)
  valued_both refused e x s z = halts e x

  pub int_both : (s : Stand) → Sits text s → Both (Alike text f t l) (rows.int (world text f s t)) (names.int (state text l s))
  unfolding rows.int names.int asks
  int_both s z = after text f t l _ _ (expect_both text f t l kind.int s z) (λ x v y h. valued_both (integer (letters text x)) fault.integer x v y)

  -- a field: an integer, and then whether it fits
  pub field_both : (width : ℕ) (s : Stand) → Sits text s → Both (Alike text f t l) (rows.int_field width (world text f s t)) (names.field width (state text l s))
  unfolding rows.int_field names.field rows.int rows.valued asks
  field_both width s z =
      nested (rows.expect kind.int (world text f s t)) _ _
      (after text f t l _ _ (expect_both text f t l kind.int s z) (λ x v y h. by (integer (letters text x)) x v y))
    where
      by : (r : Read) (x : Spot) (v : Stand) → Sits text v
          → Both (Alike text f t l) (bind (rows.valued r fault.integer x (world text f v t)) (λ n w. rows.valued (fits width (number n)) fault.integer w.stand.last w)) (names.read (fits width r) (state text l v))
      by (number n) x v y = valued_both (fits width (number n)) fault.integer v.last v y
      by refused x v y = halts fault.integer x

  -- a type by its width; a width is never 0
  type_both : (s : Stand) → Sits text s → Both (Keeps text f t l (λ x. Unit {0}) typing_of) (rows.type (world text f s t)) (names.bind (names.expect kind.ident (state text l s)) (λ w. names.width (type_width w)))
  unfolding rows.type rows.valued asks
  type_both s z = after text f t l _ _ (expect_both text f t l kind.ident s z) (λ x v y h. by x v y (type_width (letters text x)) (width_gives (letters text x)))
    where
      by : (x : Spot) (v : Stand) → Sits text v → (r : Read) → ((c : ℕ) → r ≡ number c → (1 ≤ c) × (c < 2 ^ 16))
          → Both (Keeps text f t l (λ x. Unit {0}) typing_of) (rows.valued r fault.token x (world text f v t)) (names.width r (state text l v))
      by x v y (number c) g =
          subst (λ (q : Typing). Both (Keeps text f t l (λ x. Unit {0}) typing_of) (go c (world text f v t)) (names.go q (state text l v)))
          (rw (ne_eqb c 0 (λ (q : c ≡ 0). let m = g c refl in omega arith)) refl) (goes _ _ _ _ (keeps c v y tt))
      by x v y refused g = halts fault.token x

  pub typing_both : (s : Stand) → Sits text s → Both (Keeps text f t l (λ x. Unit {0}) typing_of) (rows.type_if_any (world text f s t)) (names.typing (state text l s))
  unfolding rows.type_if_any names.typing
  typing_both s z =
      after_look text f t l _ _ (look_both text f t l s z) (λ v y.
      either (eqb v.ahead.kind kind.colon) _ _ _ _ (world text f v t) (state text l v)
      (λ e. token-ahead text f t l kind.colon (omega arith) _ _ v e (type_both (past v)))
      (λ e. goes _ _ _ _ (keeps 0 v y tt)))
