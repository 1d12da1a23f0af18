-- The state of the reader by names, and its helpers over tokens and names, as the crate's `Parser` has them. It gives answers or refuses.
-- The state is the statements of the item being read, the newest first, and the next token with the text behind it.
-- Assumes nothing.
use mathlib.Core.Bool.{cond}
use mathlib.Core.List.{List, [], ◌∷◌}
use Prim.Native.Nat.{ℕ, suc, ◌+◌}
use lib.ListN.{length}
use lib.Dec.{eqb}
use Rattle.rules.specs.Bytes.{same}
use Rattle.rules.specs.Integers.{Read, number, refused, fits, integer}
use Rattle.rules.specs.Tokens as T
use Rattle.rules.specs.Syntax.{Name, Statement}
use Rattle.rules.specs.Listing.{has}
use Rattle.rules.specs.Grammar.{side_of}
use Rattle.bynames.proofs.WellFormed.{is_block, block_size}
use Rattle.bynames.proofs.Tokens.{Next, end, bad, found, token}

pub record State : Type 0 where
  pub scope : List Statement
  pub next : Next

pub record Token : Type 0 where
  pub kind : ℕ
  pub letters : List ℕ

pub data Res (A : Type 0) : Type 0 where
  go : A → State → Res A
  stop : Res A

abbrev pub P : Type 0 → Type 0
P A = State → Res A

abbrev pub bind : {A B : Type 0} → Res A → (A → P B) → Res B
bind (go a w) f = f a w
bind stop f = stop

infixl 20 ◌>>=◌
infixl 20 ◌>>◌
abbrev pub ◌>>=◌ : {A B : Type 0} → P A → (A → P B) → P B
(m >>= f) w = bind (m w) f

abbrev pub ◌>>◌ : {A B : Type 0} → P A → P B → P B
(m >> k) w = bind (m w) (λ _. k)

abbrev pub refuse : {A : Type 0} → P A
refuse w = stop

abbrev pub give : {A : Type 0} → A → P A
give a w = go a w

-- the state before a text
abbrev pub at : List Statement → List ℕ → State
at t r = record { scope = t; next = token r }

-- ---- token helpers: a look finds the next token and takes nothing, kind 0 is the end of the text; a demand takes it
abbrev pub seen : Next → P Token
seen end w = go (record { kind = 0; letters = [] }) w
seen bad w = stop
seen (found k l r) w = go (record { kind = k; letters = l }) w

abbrev pub look : P Token
look w = seen w.next w

abbrev pub demanded : Next → P Token
demanded end w = stop
demanded bad w = stop
demanded (found k l r) w = go (record { kind = k; letters = l }) (at w.scope r)

abbrev pub demand : P Token
demand w = demanded w.next w

-- a token of a kind, and its letters
unfoldable pub expect : ℕ → P (List ℕ)
expect k = do
  t ← demand
  cond (eqb t.kind k) (give t.letters) refuse

unfoldable pub keyword : List ℕ → P (Unit {0})
keyword k = do
  w ← expect T.ident
  cond (same w k) (give tt) refuse

abbrev pub read : Read → P ℕ
read (number n) = give n
read refused = refuse

-- an integer of 128 bits; one that fits a field
unfoldable pub int : P ℕ
int = do
  w ← expect T.int
  read (integer w)

unfoldable pub field : ℕ → P ℕ
field width = do
  w ← expect T.int
  read (fits width (integer w))

-- ---- names
abbrev pub fresh : Name → P (Unit {0})
fresh n w = cond (has n w.scope) stop (go tt w)

abbrev pub known : Name → P (Unit {0})
known n w = cond (has n w.scope) (go tt w) stop

-- a block in scope, and its number
abbrev pub blocked : Name → P ℕ
blocked n w = cond (has n w.scope) (cond (is_block (side_of n w.scope)) (go (block_size (side_of n w.scope)) w) stop) stop

abbrev pub enter : Statement → P Statement
enter s w = go s (record { scope = s ∷ w.scope; next = w.next })

-- more than there are tokens left
abbrev pub ahead : Next → ℕ
ahead end = 0
ahead bad = 0
ahead (found k l r) = length l + length r

abbrev pub fuel_of : State → ℕ
fuel_of w = suc (ahead w.next)
