-- The two readings look at the same tokens: by places over rows, by letters by names.
-- Assumes nothing.
use Prim.Native.Nat.{ℕ, ◌≤◌, ◌<◌}
use mathlib.Core.Path.{◌≡◌, refl, sym, ap, ◌∙◌, subst}
use mathlib.Core.Bool.{Bool, true, false, cond}
use mathlib.Core.List.{List, []}
use native.Mathlib.Omega.{arith}
use borrow.Author.Tests.{ne_eqb, eqb-true}
use lib.Dec.{eqb}
use lib.ListN.{length, drop}
use Rattle.rules.specs.declared.Spot.{Spot}
use Rattle.rules.specs.declared.Lexed.{Lexed}
use Rattle.rules.specs.declared.Lexed.TheVariants.{Found, End, Refused}
use Rattle.rules.specs.Faults as fault
use Rattle.rules.specs.Tokens.{token_at}
use Rattle.rules.specs.Syntax.{Statement}
use Rattle.rules.specs.World.{World, Stand, Tables, Res, go, stop, P, bind}
use Rattle.rules.specs.Reading as rows
use Rattle.rules.specs.Reading.{letters}
use Rattle.laws.proofs.Cases.{by_cases}
use Rattle.laws.proofs.Tokens.{found-kind}
use Rattle.bynames.proofs.Tokens.{Next, end, bad, found, token}
use Rattle.bynames.proofs.Located.{spelt, located}
use Rattle.bynames.proofs.Moves.{Some, token_some, Within, look_keeps}
use Rattle.bynames.proofs.Reader as names
use Rattle.bynames.proofs.Reader.{State, Token, ahead}
use Rattle.simulation.proofs.Together.{Both, goes, full, halts, seq, seq_ok, either}

-- a world of a text, where its item's first statement is row f
abbrev pub world : List ℕ → ℕ → Stand → Tables → World
world text f s t = record { text = text; stand = s; scope = f; tables = t }

-- the next token that is not taken, and the text behind it
abbrev pub next_at : List ℕ → Stand → Next
next_at text s = cond (eqb s.ahead.kind 0) (token (drop s.at text)) (found s.ahead.kind (letters text s.ahead) (drop s.at text))

-- the state by names that stands there
abbrev pub state : List ℕ → List Statement → Stand → State
state text l s = record { scope = l; next = next_at text s }

-- the stand once the token ahead is taken
abbrev pub past : Stand → Stand
past s = record { at = s.at; ahead = rows.nothing; last = s.ahead }

-- a token has a byte
abbrev pub Sits : List ℕ → Stand → Type 0
Sits text s = Some (next_at text s)

-- a token that was looked at, as the next one: of kind 0 there is none
abbrev pub shown : List ℕ → Spot → ℕ → Next
shown text x at = cond (eqb x.kind 0) end (found x.kind (letters text x) (drop at text))

-- what a look over rows finds is what stands next
pub data Looks (text : List ℕ) (f : ℕ) (t : Tables) (s : Stand) : Res Spot → Type 0 where
  sees : (v : Stand) → next_at text v ≡ next_at text s → next_at text s ≡ shown text v.ahead v.at → Looks text f t s (go v.ahead (world text f v t))
  errs : (p : Spot) → next_at text s ≡ bad → Looks text f t s (stop fault.lexer p)

module _ (text : List ℕ) (f : ℕ) (t : Tables) (s : Stand) where
  seen_looks : eqb s.ahead.kind 0 ≡ true → (x : Lexed) → token_at text s.at ≡ x → Looks text f t s (rows.seen x (world text f s t))
  unfolding rows.seen
  seen_looks none (Found k) e =
      let here : token (drop s.at text) ≡ spelt text (Found k) = located text s.at ∙ ap (spelt text) e in
      let of_kind_lem = found-kind text s.at e in
      let some : eqb k.kind 0 ≡ false = ne_eqb _ _ (λ (z : k.kind ≡ 0). omega arith) in
      sees (record { at = k.past; ahead = rows.spot_of k; last = rows.spot_of k }) (rw (some, none) (sym here)) (rw (some, none) here)
  seen_looks none End e = sees s refl (rw (none, located text s.at, e) refl)
  seen_looks none (Refused p) e = errs _ (rw (none, located text s.at, e) refl)

  pub look_looks : Looks text f t s (rows.lookahead (world text f s t))
  unfolding rows.lookahead
  look_looks =
      by_cases (eqb s.ahead.kind 0)
      (λ e. rw e (seen_looks e (token_at text s.at) refl))
      (λ e. rw e (sees s refl (rw e refl)))

-- a token by its letters; as it is looked at, of kind 0 with none
abbrev pub token_of : List ℕ → Spot → Token
token_of text x = record { kind = x.kind; letters = letters text x }

abbrev pub seen_of : List ℕ → Spot → Token
seen_of text x = record { kind = x.kind; letters = cond (eqb x.kind 0) [] (letters text x) }

-- ---- the token that was looked at, taken
pub some_kind : (k : ℕ) (s : Stand) → 1 ≤ k → eqb s.ahead.kind k ≡ true → eqb s.ahead.kind 0 ≡ false
some_kind k s h e = ne_eqb _ _ (λ (q : s.ahead.kind ≡ 0). omega (arith, eqb-true s.ahead.kind k e))

module _ (text : List ℕ) (f : ℕ) (t : Tables) where
  pub looked_ahead : (s : Stand) → eqb s.ahead.kind 0 ≡ false → rows.lookahead (world text f s t) ≡ go s.ahead (world text f s t)
  unfolding rows.lookahead
  looked_ahead s e = rw e refl

  pub taken-ahead : (s : Stand) → eqb s.ahead.kind 0 ≡ false → rows.token (world text f s t) ≡ go s.ahead (world text f (past s) t)
  unfolding rows.token
  taken-ahead s e = rw (looked_ahead s e, e) refl

module _ (text : List ℕ) (l : List Statement) where
  demanded_ahead : (s : Stand) → eqb s.ahead.kind 0 ≡ false → names.demand (state text l s) ≡ names.go (token_of text s.ahead) (state text l (past s))
  demanded_ahead s e = rw e refl

  pub expected_ahead : (k : ℕ) (s : Stand) → 1 ≤ k → eqb s.ahead.kind k ≡ true → names.expect k (state text l s) ≡ names.go (letters text s.ahead) (state text l (past s))
  unfolding names.expect
  expected_ahead k s h e = rw (demanded_ahead s (some_kind k s h e), e) refl

  -- a token of another kind is ahead, or none
  pub not_expected : (k : ℕ) (x : Spot) (at : ℕ) → eqb x.kind k ≡ false → names.expect k (record { scope = l; next = shown text x at }) ≡ names.stop
  unfolding names.expect
  not_expected k x at e =
      by_cases (eqb x.kind 0)
      (λ q. rw q refl)
      (λ q. rw (q, e) refl)

-- ---- a look, a token taken, a token of a kind
module _ (text : List ℕ) (f : ℕ) (t : Tables) (l : List Statement) where
  -- a token was looked at, and is ahead
  pub data Sees : Spot → World → Token → State → Type 0 where
    sees_at : (s : Stand) → Sits text s → Sees s.ahead (world text f s t) (seen_of text s.ahead) (state text l s)

  -- a token was taken
  pub data Took : Spot → World → Token → State → Type 0 where
    took : (x : Spot) (s : Stand) → Sits text s → 1 ≤ length (letters text x) → Took x (world text f s t) (token_of text x) (state text l s)

  -- the rule gave x, and the rule by names what x stands for; nothing else changed but where the reader stands
  pub data Keeps {X Y : Type 0} (K : X → Type 0) (g : X → Y) : X → World → Y → State → Type 0 where
    keeps : (x : X) (s : Stand) → Sits text s → K x → Keeps K g x (world text f s t) (g x) (state text l s)

  abbrev pub Alike : {X : Type 0} → X → World → X → State → Type 0
  Alike = Keeps (λ x. Unit {0}) (λ x. x)

  module _ {X Y X' Y' : Type 0} {Z : X' → World → Y' → State → Type 0} where
    pub after : {K : X → Type 0} {g : X → Y} {m : Res X} {n : names.Res Y} (F : X → P X') (G : Y → names.P Y') → Both (Keeps K g) m n
        → ((x : X) (s : Stand) → Sits text s → K x → Both Z (F x (world text f s t)) (G (g x) (state text l s))) → Both Z (bind m F) (names.bind n G)
    after {K} {g} F G b k = seq F G b on
      where
        on : (x : X) (w : World) (y : Y) (a : State) → Keeps K g x w y a → Both Z (F x w) (G y a)
        on x w y a (keeps x' s z h) = k x' s z h

  module _ {X' Y' : Type 0} {Z : X' → World → Y' → State → Type 0} where
    pub after_look : {m : Res Spot} {n : names.Res Token} (F : Spot → P X') (G : Token → names.P Y') → Both Sees m n
        → ((s : Stand) → Sits text s → Both Z (F s.ahead (world text f s t)) (G (seen_of text s.ahead) (state text l s))) → Both Z (bind m F) (names.bind n G)
    after_look F G b k = seq F G b on
      where
        on : (x : Spot) (w : World) (y : Token) (a : State) → Sees x w y a → Both Z (F x w) (G y a)
        on x w y a (sees_at s z) = k s z

    -- the same, where fewer than g bytes are ahead
    pub after_look_within : (g : ℕ) {m : Res Spot} (F : Spot → P X') (G : Token → names.P Y') (s : Stand) → Sits text s → ahead (next_at text s) < g → Both Sees m (names.look (state text l s))
        → ((v : Stand) → Sits text v → ahead (next_at text v) < g → Both Z (F v.ahead (world text f v t)) (G (seen_of text v.ahead) (state text l v))) → Both Z (bind m F) (names.bind (names.look (state text l s)) G)
    after_look_within g F G s z h b k = seq_ok F G b (look_keeps.by g (state text l s) z h) on
      where
        on : (x : Spot) (w : World) (y : Token) (a : State) → Sees x w y a → Within g y a → Both Z (F x w) (G y a)
        on x w y a (sees_at v z) i = k v z i.1

    pub after-token : {m : Res Spot} {n : names.Res Token} (F : Spot → P X') (G : Token → names.P Y') → Both Took m n
        → ((x : Spot) (s : Stand) → Sits text s → 1 ≤ length (letters text x) → Both Z (F x (world text f s t)) (G (token_of text x) (state text l s))) → Both Z (bind m F) (names.bind n G)
    after-token F G b k = seq F G b on
      where
        on : (x : Spot) (w : World) (y : Token) (a : State) → Took x w y a → Both Z (F x w) (G y a)
        on x w y a (took x' s z h) = k x' s z h

  seen_shown : (x : Spot) (at : ℕ) (a : State) → names.seen (shown text x at) a ≡ names.go (seen_of text x) a
  seen_shown x at a = by (eqb x.kind 0) refl
    where
      by : (b : Bool) → eqb x.kind 0 ≡ b → names.seen (cond b end (found x.kind (letters text x) (drop at text))) a ≡ names.go (record { kind = x.kind; letters = cond b [] (letters text x) }) a
      by true e = ap (λ (k : ℕ). names.go (record { kind = k; letters = [] }) a) (sym (eqb-true _ _ e))
      by false e = refl

  pub look_both : (s : Stand) → Sits text s → Both Sees (rows.lookahead (world text f s t)) (names.look (state text l s))
  look_both s z = by (look_looks text f t s)
    where
      by : {m : Res Spot} → Looks text f t s m → Both Sees m (names.look (state text l s))
      by (sees v e h) =
          subst (λ (n : Next). Both Sees (go v.ahead (world text f v t)) (names.seen n (record { scope = l; next = n }))) e
          (subst (λ (n : Next). Both Sees (go v.ahead (world text f v t)) (names.seen n (state text l v))) (sym (e ∙ h))
          (rw (seen_shown v.ahead v.at (state text l v)) (goes _ _ _ _ (sees_at v (subst Some (sym e) z)))))
      by (errs p e) = rw e (halts _ p)

  pub token_both : (s : Stand) → Sits text s → Both Took (rows.token (world text f s t)) (names.demand (state text l s))
  unfolding rows.token
  token_both s z = by (look_looks text f t s)
    where
      taking : (v : Stand) (b : Bool) → Some (cond b end (found v.ahead.kind (letters text v.ahead) (drop v.at text)))
          → Both Took (cond b (λ w. stop fault.end (rows.last_byte w.text)) (rows.taken v.ahead) (world text f v t)) (names.demanded (cond b end (found v.ahead.kind (letters text v.ahead) (drop v.at text))) (state text l s))
      taking v true z = halts _ _
      taking v false z = goes _ _ _ _ (took v.ahead (past v) (token_some (drop v.at text)) z)

      by : {m : Res Spot} → Looks text f t s m → Both Took (bind m (λ x. cond (eqb x.kind 0) (λ w. stop fault.end (rows.last_byte w.text)) (rows.taken x))) (names.demand (state text l s))
      by (sees v e h) =
          subst (λ (n : Next). Both Took (cond (eqb v.ahead.kind 0) (λ w. stop fault.end (rows.last_byte w.text)) (rows.taken v.ahead) (world text f v t)) (names.demanded n (state text l s))) (sym h)
          (taking v (eqb v.ahead.kind 0) (subst Some h z))
      by (errs p e) = rw e (halts _ p)

  -- the letters of a token of a kind
  abbrev pub OfKind : ℕ → Spot → Type 0
  OfKind k x = (x.kind ≡ k) × (1 ≤ length (letters text x))

  pub expect_both : (k : ℕ) (s : Stand) → Sits text s → Both (Keeps (OfKind k) (letters text)) (rows.expect k (world text f s t)) (names.expect k (state text l s))
  unfolding rows.expect names.expect
  expect_both k s z =
      after-token _ _ (token_both s z) (λ x v y h.
      either (eqb x.kind k) _ _ _ _ (world text f v t) (state text l v)
      (λ e. goes _ _ _ _ (keeps x v y (eqb-true _ _ e, h)))
      (λ e. halts _ x))

  -- a token of any kind beside one of a kind
  pub token_as : {X Y : Type 0} {Z : X → World → Y → State → Type 0} (k : ℕ) (F : Spot → P X) (G : List ℕ → names.P Y) (s : Stand) → Sits text s
      → ((x : Spot) (v : Stand) → Sits text v → eqb x.kind k ≡ true → 1 ≤ length (letters text x) → Both Z (F x (world text f v t)) (G (letters text x) (state text l v)))
      → ((x : Spot) (v : Stand) → Sits text v → eqb x.kind k ≡ false → Both Z (F x (world text f v t)) names.stop)
      → Both Z (bind (rows.token (world text f s t)) F) (names.bind (names.expect k (state text l s)) G)
  unfolding names.expect
  token_as {Y = Y} {Z = Z} k F G s z here else = by (token_both s z)
    where
      tested : (b : Bool) (x : Spot) (v : Stand) → Sits text v → eqb x.kind k ≡ b → 1 ≤ length (letters text x)
          → Both Z (F x (world text f v t)) (names.bind (cond b (names.give (letters text x)) names.refuse (state text l v)) G)
      tested true x v y e h = here x v y e h
      tested false x v y e h = else x v y e

      on : (x : Spot) (w : World) (y : Token) (a : State) → Took x w y a → Both Z (F x w) (names.bind (cond (eqb y.kind k) (names.give y.letters) names.refuse a) G)
      on x w y a (took x' v z h) = tested (eqb x'.kind k) x' v z refl h

      by : {m : Res Spot} {n : names.Res Token} → Both Took m n → Both Z (bind m F) (names.bind (names.bind n (λ y. cond (eqb y.kind k) (names.give y.letters) names.refuse)) G)
      by (goes x w y a q) = on x w y a q
      by (full p n) = full p _
      by (halts j p) = halts j p

  pub token-ahead : {X Y : Type 0} {Z : X → World → Y → State → Type 0} (k : ℕ) → 1 ≤ k → (F : Spot → P X) (G : List ℕ → names.P Y) (s : Stand) → eqb s.ahead.kind k ≡ true
      → (Sits text (past s) → Both Z (F s.ahead (world text f (past s) t)) (G (letters text s.ahead) (state text l (past s))))
      → Both Z (bind (rows.token (world text f s t)) F) (names.bind (names.expect k (state text l s)) G)
  token-ahead k h F G s e z = rw (taken-ahead text f t s (some_kind k s h e), expected_ahead text l k s h e) (z (token_some (drop s.at text)))
