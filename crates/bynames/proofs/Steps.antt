-- Steps of the reader over a text whose next token is known, and what may follow a printed part.
-- Assumes nothing.
use mathlib.Core.Path.{◌≡◌, refl, sym, ap, ◌∙◌, subst}
use mathlib.Core.Bool.{true, false}
use mathlib.Core.List.{List, ◌∷◌, ◌++◌}
use Prim.Native.Nat.{ℕ, ◌<◌, ◌^◌}
use lib.Dec.{eqb, leb}
use borrow.Author.Tests.{eq-eqb}
use Rattle.rules.specs.Bytes.{bytes, inside, digit, letter, name_byte}
use Rattle.rules.specs.Integers.{decimal}
use Rattle.rules.specs.Tokens as T
use Rattle.rules.specs.Syntax.{Statement}
use Rattle.rules.specs.Printing.{number}
use Rattle.laws.proofs.Same.{same_refl}
use Rattle.bynames.proofs.Tokens.{Next, found, token-space, token-feed, Stops}
use Rattle.bynames.proofs.Pieces.{int-token, comma-token, equals-token}
use Rattle.bynames.proofs.Decimals.{decimal-printed, fits-printed}
use Rattle.bynames.proofs.Reader as R
use Rattle.bynames.proofs.Reader.{State, Token, Res, go, P, bind, at}

pub step : {A B : Type 0} {m : Res A} {a : A} {w : State} (f : A → P B) {z : Res B} → m ≡ go a w → f a w ≡ z → bind m f ≡ z
step f e h = ap (λ r. bind r f) e ∙ h

-- the state before a token
abbrev pub before : List Statement → Next → State
before t n = record { scope = t; next = n }

-- a look takes nothing; a demand takes the token
pub looks : (t : List Statement) {n : Next} {l r : List ℕ} {k : ℕ} → n ≡ found k l r → R.look (before t n) ≡ go (record { kind = k; letters = l }) (before t n)
looks t e = rw e

pub demands : (t : List Statement) {n : Next} {l r : List ℕ} {k : ℕ} → n ≡ found k l r → R.demand (before t n) ≡ go (record { kind = k; letters = l }) (at t r)
demands t e = rw e

pub expects : (t : List Statement) {n : Next} {l r : List ℕ} {k : ℕ} → n ≡ found k l r → R.expect k (before t n) ≡ go l (at t r)
unfolding R.expect
expects t {k = k} e = rw (e, eq-eqb k k refl)

pub keywords : (t : List Statement) {n : Next} {w r : List ℕ} → n ≡ found T.ident w r → R.keyword w (before t n) ≡ go tt (at t r)
unfolding R.keyword
keywords t {w = w} e = step _ (expects t e) (rw (same_refl w))

-- a space or a line feed before a text changes nothing
pub over_space : {A : Type 0} (p : P A) (t : List Statement) (r : List ℕ) {z : Res A} → p (at t r) ≡ z → p (at t (32 ∷ r)) ≡ z
over_space p t r h = ap (λ (n : Next). p (before t n)) (token-space r) ∙ h

pub over_feed : {A : Type 0} (t : List Statement) (r : List ℕ) {m : Res A} {a : A} → m ≡ go a (at t (10 ∷ r)) → m ≡ go a (at t r)
over_feed t r {a = a} h = h ∙ ap (λ (n : Next). go a (before t n)) (token-feed r)

-- numbers
pub int-reads : (t : List Statement) (c : ℕ) (r : List ℕ) → c < 2 ^ 128 → Stops digit r → R.int (at t (number c r)) ≡ go c (at t r)
unfolding R.int
int-reads t c r h s =
    let p = decimal-printed c h in
    step _ (expects t (int-token (decimal c) r p.token s)) (rw p.reads)

pub field-reads : (width : ℕ) (t : List Statement) (c : ℕ) (r : List ℕ) → leb (2 ^ width) (2 ^ 128) ≡ true → c < 2 ^ width → c < 2 ^ 128 → Stops digit r
    → R.field width (at t (number c r)) ≡ go c (at t r)
unfolding R.field
field-reads width t c r e h k s =
    step _ (expects t (int-token (decimal c) r (decimal-printed c k).token s)) (rw (fits-printed width c e h))

-- ---- what may follow an operand: no byte of a name, and a token that is no ':'
pub record Ends (r : List ℕ) : Type 0 where
  pub stops : Stops name_byte r
  pub tok : Token
  pub sees : (t : List Statement) → R.look (at t r) ≡ go tok (at t r)
  pub colon : eqb tok.kind T.colon ≡ false

-- what may follow a line: a token that is neither ':' nor '('
pub record Shut (r : List ℕ) : Type 0 where
  pub tok : Token
  pub sees : (t : List Statement) → R.look (at t r) ≡ go tok (at t r)
  pub colon : eqb tok.kind T.colon ≡ false
  pub paren : eqb tok.kind T.open_paren ≡ false

pub feed_sees : (r : List ℕ) (b : Shut r) (t : List Statement) → R.look (at t (10 ∷ r)) ≡ go b.tok (at t (10 ∷ r))
feed_sees r b t = subst (λ (n : Next). R.look (before t n) ≡ go b.tok (before t n)) (sym (token-feed r)) (b.sees t)

pub feed-ends : (r : List ℕ) → Shut r → Ends (10 ∷ r)
unfolding name_byte letter digit inside
feed-ends r b = record { stops = refl; tok = b.tok; sees = feed_sees r b; colon = b.colon }

pub comma-ends : (r : List ℕ) → Ends (bytes ", " ++ r)
unfolding name_byte letter digit inside
comma-ends r = record { stops = refl; tok = record { kind = T.comma; letters = bytes "," }; sees = λ t. looks t (comma-token (32 ∷ r)); colon = refl }

pub equals-ends : (r : List ℕ) → Ends (bytes " = " ++ r)
unfolding name_byte letter digit inside
equals-ends r =
    record { stops = refl; tok = record { kind = T.equals; letters = bytes "=" }; sees = λ t. looks t (token-space (bytes "= " ++ r) ∙ equals-token (32 ∷ r)); colon = refl }
