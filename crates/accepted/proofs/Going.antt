-- How a rule goes on: with a value and in tables of which something holds, the text and the scope as they were, and the token ahead one of the text.
-- Assumes nothing.
use Prim.Native.Nat.{ℕ, ◌≤◌, ◌<◌}
use mathlib.Core.Path.{◌≡◌, refl, ap, ◌∙◌, subst}
use mathlib.Core.Bool.{Bool, true, false, cond, true≢false}
use mathlib.Core.List.{List}
use borrow.Author.Tests.{eqb-true, ltb-true}
use lib.Dec.{eqb, ltb}
use lib.ListN.{length, drop}
use Rattle.rules.specs.declared.Spot.{Spot}
use Rattle.rules.specs.declared.Lexed.{Lexed}
use Rattle.rules.specs.declared.Lexed.TheVariants.{Found, End, Refused}
use Rattle.rules.specs.Faults as fault
use Rattle.rules.specs.Tokens.{token_at}
use Rattle.rules.specs.World.{World, Stand, Table, Tables, Res, go, stop, P, bind, asks, claim}
use Rattle.rules.specs.Reading as R
use Rattle.rules.specs.Reading.{letters}
use Rattle.laws.proofs.Tokens.{found_within}
use Rattle.bynames.proofs.Tokens.{token}
use Rattle.bynames.proofs.Located.{located, spelt}
use Rattle.bynames.proofs.AcceptedTokens.{Told, Good, token_good}
use Rattle.simulation.proofs.Tokens.{world}

-- a token of the text
pub record Word (text : List ℕ) (x : Spot) : Type 0 where
  pub some : x.first < x.past
  pub inside : x.past ≤ length text
  pub told : Told x.kind (letters text x)

-- the token ahead is one
abbrev pub Sits : List ℕ → Stand → Type 0
Sits text s = eqb s.ahead.kind 0 ≡ false → Word text s.ahead

-- any value; a token of the text, or none
abbrev pub Any : {A : Type 0} → A → Type 0
Any a = Unit {0}

abbrev pub Seen : List ℕ → Spot → Type 0
Seen text x = eqb x.kind 0 ≡ false → Word text x

-- a rule that keeps the tables
pub data Reads (text : List ℕ) (f : ℕ) (t : Tables) {A : Type 0} (Q : A → Type 0) : Res A → Type 0 where
  reads : (a : A) (s : Stand) → Sits text s → Q a → Reads text f t Q (go a (world text f s t))
  refuses : (n : ℕ) (p : Spot) → Reads text f t Q (stop n p)

-- a rule that claims rows
pub data Goes (text : List ℕ) (f : ℕ) {A : Type 0} (Q : A → Tables → Type 0) : Res A → Type 0 where
  goes : (a : A) (s : Stand) (t : Tables) → Sits text s → Q a t → Goes text f Q (go a (world text f s t))
  stops : (n : ℕ) (p : Spot) → Goes text f Q (stop n p)

module _ {text : List ℕ} {f : ℕ} where
  -- one rule after another
  pub read_then : {t : Tables} {A B : Type 0} {Q : A → Type 0} {Z : B → Type 0} {m : Res A} (F : A → P B) → Reads text f t Q m → ((a : A) (s : Stand) → Sits text s → Q a → Reads text f t Z (F a (world text f s t))) → Reads text f t Z (bind m F)
  read_then F (reads a s z q) k = k a s z q
  read_then F (refuses n p) k = refuses n p

  pub after : {t : Tables} {A B : Type 0} {Q : A → Type 0} {Z : B → Tables → Type 0} {m : Res A} (F : A → P B) → Reads text f t Q m → ((a : A) (s : Stand) → Sits text s → Q a → Goes text f Z (F a (world text f s t))) → Goes text f Z (bind m F)
  after F (reads a s z q) k = k a s z q
  after F (refuses n p) k = stops n p

  pub then : {A B : Type 0} {Q : A → Tables → Type 0} {Z : B → Tables → Type 0} {m : Res A} (F : A → P B) → Goes text f Q m → ((a : A) (s : Stand) (t : Tables) → Sits text s → Q a t → Goes text f Z (F a (world text f s t))) → Goes text f Z (bind m F)
  then F (goes a s t z q) k = k a s t z q
  then F (stops n p) k = stops n p

  pub weaker : {A : Type 0} {Q Z : A → Tables → Type 0} {m : Res A} → Goes text f Q m → ((a : A) (t : Tables) → Q a t → Z a t) → Goes text f Z m
  weaker (goes a s t z q) k = goes a s t z (k a t q)
  weaker (stops n p) k = stops n p

  -- the two arms of a test
  pub read_either : {t : Tables} {A : Type 0} {Q : A → Type 0} (b : Bool) (p q : P A) (w : World) → (b ≡ true → Reads text f t Q (p w)) → (b ≡ false → Reads text f t Q (q w)) → Reads text f t Q (cond b p q w)
  read_either true p q w h k = h refl
  read_either false p q w h k = k refl

  pub either : {A : Type 0} {Q : A → Tables → Type 0} (b : Bool) (p q : P A) (w : World) → (b ≡ true → Goes text f Q (p w)) → (b ≡ false → Goes text f Q (q w)) → Goes text f Q (cond b p q w)
  either true p q w h k = h refl
  either false p q w h k = k refl

  -- a claim: there was room
  pub claims : {Q : Unit {0} → Tables → Type 0} (t : Table) (u : Tables) (s : Stand) (w : World) → Sits text s → (t.count < t.cap → Q tt u) → Goes text f Q (claim t (world text f s u) w)
  claims {Q} t u s w z h = by (ltb t.count t.cap) refl
    where
      by : (b : Bool) → ltb t.count t.cap ≡ b → Goes text f Q (cond b (go tt (world text f s u)) (stop fault.no_row w.stand.last))
      by true e = goes tt s u z (h (ltb-true _ _ e))
      by false e = stops _ _

  -- ---- tokens
  module _ (t : Tables) where
    seen-reads : (s : Stand) → Sits text s → (x : Lexed) → token_at text s.at ≡ x → Reads text f t (Seen text) (R.seen x (world text f s t))
    unfolding R.seen
    seen-reads s z (Found k) e =
        let l = found_within text s.at e in
        let h : token (drop s.at text) ≡ spelt text (Found k) = located text s.at ∙ ap (spelt text) e in
        let g : Told k.kind (letters text (R.spot_of k)) = subst Good h (token_good (drop s.at text)) in
        let w : Word text (R.spot_of k) = record { some = l.1.0; inside = l.1.1; told = g } in
        reads (R.spot_of k) (record { at = k.past; ahead = R.spot_of k; last = R.spot_of k }) (λ q. w) (λ q. w)
    seen-reads s z End e = reads s.ahead s z z
    seen-reads s z (Refused p) e = refuses _ _

    pub look_reads : (s : Stand) → Sits text s → Reads text f t (Seen text) (R.lookahead (world text f s t))
    unfolding R.lookahead
    look_reads s z = by (eqb s.ahead.kind 0)
      where
        by : (b : Bool) → Reads text f t (Seen text) (cond b (R.seen (token_at text s.at) (world text f s t)) (go s.ahead (world text f s t)))
        by true = seen-reads s z (token_at text s.at) refl
        by false = reads s.ahead s z z

    pub token-reads : (s : Stand) → Sits text s → Reads text f t (Word text) (R.token (world text f s t))
    unfolding R.token
    token-reads s z =
        read_then _ (look_reads s z) (λ x v y q.
        read_either (eqb x.kind 0) _ _ (world text f v t)
        (λ e. refuses _ _)
        (λ e. reads x (record { at = v.at; ahead = R.nothing; last = x }) (λ h. absurd (true≢false h)) (q e)))

    pub expect-reads : (k : ℕ) (s : Stand) → Sits text s → Reads text f t (λ x. Word text x × (x.kind ≡ k)) (R.expect k (world text f s t))
    unfolding R.expect
    expect-reads k s z =
        read_then _ (token-reads s z) (λ x v y q.
        read_either (eqb x.kind k) _ _ (world text f v t)
        (λ e. reads x v y (q, eqb-true _ _ e))
        (λ e. refuses _ _))

    pub lookahead_ident-reads : (s : Stand) → Sits text s → Reads text f t Any (R.lookahead_ident (world text f s t))
    unfolding R.lookahead_ident asks
    lookahead_ident-reads s z = read_then _ (look_reads s z) (λ x v y q. reads _ v y tt)

    pub ident-reads : (k : ℕ) (s : Stand) → Sits text s → Reads text f t Any (R.ident k (world text f s t))
    unfolding R.ident asks
    ident-reads k s z =
        read_then _ (token-reads s z) (λ x v y q.
        read_either (eqb (R.keyword_at text x) k) _ _ (world text f v t)
        (λ e. reads x v y tt)
        (λ e. refuses _ _))
