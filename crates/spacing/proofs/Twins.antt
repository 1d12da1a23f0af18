-- The same rule in two worlds: of two texts that have the same tokens, with as many taken, and with rows that differ in places alone.
-- It goes on in two such worlds with values that correspond, or stops with the same fault at the same token, or both come to what is no token, or both to the end.
-- Assumes nothing.
use Prim.Native.Nat.{ℕ, zero, suc, ◌≤◌}
use mathlib.Core.Path.{◌≡◌, refl, ap, subst}
use mathlib.Core.Bool.{Bool, true, false, cond}
use mathlib.Core.List.{List}
use native.Mathlib.Omega.{arith}
use borrow.Author.Tests.{ne_eqb}
use lib.Dec.{eqb, ltb}
use Rattle.rules.specs.declared.Spot.{Spot}
use Rattle.rules.specs.declared.Token.{Token}
use Rattle.rules.specs.declared.Lexed.{Lexed}
use Rattle.rules.specs.declared.Lexed.TheVariants.{Found, End, Refused}
use Rattle.rules.specs.declared.Item.{Item}
use Rattle.rules.specs.declared.Statement.{Statement}
use Rattle.rules.specs.declared.Operand.{Operand}
use Rattle.rules.specs.declared.Attribute.{Attribute}
use Rattle.rules.specs.Faults as fault
use Rattle.rules.specs.Rows.{statement_words, attribute_words}
use Rattle.rules.specs.Tokens.{token_at, nth}
use Rattle.rules.specs.World.{Table, Tables, World, Res, go, stop, P, bind, ◌>>=◌, give, refuse, asks, scoped, claim_item, claim_statement, claim_operand, claim_attribute, repeated, many}
use Rattle.rules.specs.Reading as R
use Rattle.spacing.specs.TokenList.{word_of}
use Rattle.spacing.proofs.Sequence.{sort, kind_of, letters_in, Alike, nth-kind, nth-next}
use Rattle.spacing.proofs.Lined.{Statements, Attributes, Lined, lined_more}

-- a spot as the token that it is of
abbrev pub token_of : Spot → Token
token_of s = record { kind = s.kind; first = s.first; past = s.past }

-- the same token of the two texts: the one's and the other's of the same index
pub record Twin (x y : List ℕ) (s t : Spot) : Type 0 where
  pub index : ℕ
  pub one : nth x index ≡ Found (token_of s)
  pub other : nth y index ≡ Found (token_of t)

-- what is ahead: nothing, or the same token
pub data Ahead (x y : List ℕ) : Spot → Spot → Type 0 where
  none : Ahead x y R.nothing R.nothing
  some : (s t : Spot) → Twin x y s t → Ahead x y s t

-- what a look gives: nothing, where both texts have come to their end, or the same token
pub data Looked (x y : List ℕ) : Spot → Spot → Type 0 where
  over : (i : ℕ) → nth x i ≡ End → nth y i ≡ End → Looked x y R.nothing R.nothing
  found : (s t : Spot) → Twin x y s t → Looked x y s t

abbrev pub world : List ℕ → ℕ → Spot → Spot → ℕ → Table → Table → Table → Table → World
world text a p q n I S O A =
    record { text = text; stand = record { at = a; ahead = p; last = q }; scope = n; tables = record { items = I; statements = S; operands = O; attributes = A } }

abbrev pub table : ℕ → ℕ → List ℕ → Table
table c m words = record { cap = c; count = m; words = words }

-- two worlds that correspond: both stand before token i
pub data Worlds (x y : List ℕ) : World → World → Type 0 where
  worlds : (a a' i : ℕ) (p p' q q' : Spot) → token_at x a ≡ nth x i → token_at y a' ≡ nth y i → Ahead x y p p' → Twin x y q q'
      → (n : ℕ) (I O : Table) (c m : ℕ) (S S' : List ℕ) → Lined statement_words (Statements x y) S S'
      → (d k : ℕ) (A A' : List ℕ) → Lined attribute_words (Attributes x y) A A'
      → Worlds x y (world x a p q n I (table c m S) O (table d k A)) (world y a' p' q' n I (table c m S') O (table d k A'))

-- what is no token, as a spot
abbrev pub faulty : ℕ → Spot
faulty p = record { kind = 0; first = p; past = p }

-- how a rule ends in the one and in the other; Q says which values correspond
pub data Both (x y : List ℕ) {A : Type 0} (Q : A → A → Type 0) : Res A → Res A → Type 0 where
  goes : (a a' : A) (w v : World) → Q a a' → Worlds x y w v → Both x y Q (go a w) (go a' v)
  stops : (n : ℕ) (s t : Spot) → Twin x y s t → Both x y Q (stop n s) (stop n t)
  faults : (i p p' : ℕ) → nth x i ≡ Refused p → nth y i ≡ Refused p' → Both x y Q (stop fault.lexer (faulty p)) (stop fault.lexer (faulty p'))
  ends : (i : ℕ) → nth x i ≡ End → nth y i ≡ End → Both x y Q (stop fault.end (R.last_byte x)) (stop fault.end (R.last_byte y))

-- two rules that end alike in worlds that correspond
pub record Pair (x y : List ℕ) {A : Type 0} (Q : A → A → Type 0) (p q : P A) : Type 0 where
  pub by : (w v : World) → Worlds x y w v → Both x y Q (p w) (q v)

abbrev pub Equal : {A : Type 0} → A → A → Type 0
Equal a b = a ≡ b

module _ {x y : List ℕ} where
  -- what goes on after an end
  pub both_bind : {A B : Type 0} {Q : A → A → Type 0} {T : B → B → Type 0} {m m' : Res A} (f f' : A → P B) → Both x y Q m m' → ((a a' : A) → Q a a' → Pair x y T (f a) (f' a')) → Both x y T (bind m f) (bind m' f')
  both_bind f f' (goes a a' w v h r) k = (k a a' h).by w v r
  both_bind f f' (stops n s t h) k = stops n s t h
  both_bind f f' (faults i p p' h h') k = faults i p p' h h'
  both_bind f f' (ends i h h') k = ends i h h'

  -- one rule after another
  pub next : {A B : Type 0} {Q : A → A → Type 0} {T : B → B → Type 0} {p q : P A} {f f' : A → P B} → Pair x y Q p q → ((a a' : A) → Q a a' → Pair x y T (f a) (f' a')) → Pair x y T (p >>= f) (q >>= f')
  next {f = f} {f' = f'} h k = record { by = λ w v r. both_bind f f' (h.by w v r) k }

  -- one rule after another that gives the same value
  pub next_same : {A B : Type 0} {T : B → B → Type 0} {p q : P A} {f f' : A → P B} → Pair x y Equal p q → ((a : A) → Pair x y T (f a) (f' a)) → Pair x y T (p >>= f) (q >>= f')
  next_same {T = T} {f = f} {f' = f'} h k = next h (λ a a' e. subst (λ z. Pair x y T (f a) (f' z)) e (k a))

  pub test : {A : Type 0} {Q : A → A → Type 0} {p q p' q' : P A} (b c : Bool) → b ≡ c → Pair x y Q p p' → Pair x y Q q q' → Pair x y Q (cond b p q) (cond c p' q')
  test {Q = Q} {p = p} {q = q} {p' = p'} {q' = q'} b c e h k = subst (λ z. Pair x y Q (cond b p q) (cond z p' q')) e (at b)
    where
      at : (z : Bool) → Pair x y Q (cond z p q) (cond z p' q')
      at true = h
      at false = k

  pub gives : {A : Type 0} {Q : A → A → Type 0} (a a' : A) → Q a a' → Pair x y Q (give a) (give a')
  gives a a' h = record { by = λ w v r. goes a a' w v h r }

  pub halts : {A : Type 0} {Q : A → A → Type 0} (n : ℕ) (s t : Spot) → Twin x y s t → Pair x y Q (refuse n s) (refuse n t)
  halts n s t h = record { by = λ w v r. stops n s t h }

  pub asked : {A : Type 0} {Q : A → A → Type 0} (f f' : World → A) → ((w v : World) → Worlds x y w v → Q (f w) (f' v)) → Pair x y Q (asks f) (asks f')
  unfolding asks
  asked f f' h = record { by = λ w v r. goes (f w) (f' v) w v (h w v r) r }

  pub scoping : (n : ℕ) → Pair x y (Equal {A = Unit {0}}) (λ w. go tt (scoped n w)) (λ w. go tt (scoped n w))
  scoping n = record { by = at }
    where
      at : (w v : World) → Worlds x y w v → Both x y (Equal {A = Unit {0}}) (go tt (scoped n w)) (go tt (scoped n v))
      at _ _ (worlds a a' i p p' q q' h h' ahead last k I O c m S S' s d j A A' l) = goes tt tt _ _ refl (worlds a a' i p p' q q' h h' ahead last n I O c m S S' s d j A A' l)

  -- the token found last
  pub last_twin : (w v : World) → Worlds x y w v → Twin x y w.stand.last v.stand.last
  last_twin _ _ (worlds a a' i p p' q q' h h' ahead last n I O c m S S' s d k A A' l) = last

  -- Claims

  claimed : (b : Bool) (w v : World) (s t : Spot) → Worlds x y w v → Twin x y s t → Both x y (Equal {A = Unit {0}}) (cond b (go tt w) (stop fault.no_row s)) (cond b (go tt v) (stop fault.no_row t))
  claimed true w v s t h k = goes tt tt w v refl h
  claimed false w v s t h k = stops fault.no_row s t k

  pub claim_item_lem : (r : Item) → Pair x y Equal (claim_item r) (claim_item r)
  unfolding claim_item
  claim_item_lem r = record { by = at }
    where
      at : (w v : World) → Worlds x y w v → Both x y Equal (claim_item r w) (claim_item r v)
      at _ _ (worlds a a' i p p' q q' h h' ahead last n I O c m S S' s d k A A' l) = claimed (ltb I.count I.cap) _ _ q q' (worlds a a' i p p' q q' h h' ahead last n _ O c m S S' s d k A A' l) last

  pub claim-operand : (r : Operand) → Pair x y Equal (claim_operand r) (claim_operand r)
  unfolding claim_operand
  claim-operand r = record { by = at }
    where
      at : (w v : World) → Worlds x y w v → Both x y Equal (claim_operand r w) (claim_operand r v)
      at _ _ (worlds a a' i p p' q q' h h' ahead last n I O c m S S' s d k A A' l) = claimed (ltb O.count O.cap) _ _ q q' (worlds a a' i p p' q q' h h' ahead last n I _ c m S S' s d k A A' l) last

  pub claim-statement : (r r' : Statement) → Statements x y r r' → Pair x y Equal (claim_statement r) (claim_statement r')
  unfolding claim_statement
  claim-statement r r' e = record { by = at }
    where
      at : (w v : World) → Worlds x y w v → Both x y Equal (claim_statement r w) (claim_statement r' v)
      at _ _ (worlds a a' i p p' q q' h h' ahead last n I O c m S S' s d k A A' l) =
          claimed (ltb m c) _ _ q q' (worlds a a' i p p' q q' h h' ahead last n I O c _ _ _ (lined_more r r' s e) d k A A' l) last

  pub claim-attribute : (r r' : Attribute) → Attributes x y r r' → Pair x y Equal (claim_attribute r) (claim_attribute r')
  unfolding claim_attribute
  claim-attribute r r' e = record { by = at }
    where
      at : (w v : World) → Worlds x y w v → Both x y Equal (claim_attribute r w) (claim_attribute r' v)
      at _ _ (worlds a a' i p p' q q' h h' ahead last n I O c m S S' s d k A A' l) =
          claimed (ltb k d) _ _ q q' (worlds a a' i p p' q q' h h' ahead last n I O c m S S' s d _ _ _ (lined_more r r' l e)) last

  -- Loops

  repeated_pair : (n : ℕ) {peek : P Bool} {rule : P (Unit {0})} → Pair x y Equal peek peek → Pair x y Equal rule rule → Pair x y Equal (repeated n peek rule) (repeated n peek rule)
  unfolding repeated
  repeated_pair zero h k = record { by = λ w v r. stops fault.fuel _ _ (last_twin w v r) }
  repeated_pair (suc n) h k = next_same h (λ more. test more more refl (next_same k (λ u. repeated_pair n h k)) (gives tt tt refl))

  -- a rule again and again, as long as a look says so
  pub again : (of : Tables → Table) {peek : P Bool} {rule : P (Unit {0})} → ((w v : World) → Worlds x y w v → (of w.tables).cap ≡ (of v.tables).cap) → Pair x y Equal peek peek → Pair x y Equal rule rule → Pair x y Equal (many of peek rule) (many of peek rule)
  unfolding many
  again of {peek} {rule} room h k =
      record {
        by = λ w v r.
            subst (λ (n : ℕ). Both x y Equal (repeated (suc (of w.tables).cap) peek rule w) (repeated (suc n) peek rule v)) (room w v r)
            ((repeated_pair (suc (of w.tables).cap) h k).by w v r);
      }

-- Tokens

-- what the lexer finds in the one text and in the other
pub data Lexes : Lexed → Lexed → Type 0 where
  tokens : (t t' : Token) → Lexes (Found t) (Found t')
  both_end : Lexes End End
  both_refused : (p p' : ℕ) → Lexes (Refused p) (Refused p')

pub lexes : (x y : List ℕ) (l l' : Lexed) → word_of x l ≡ word_of y l' → Lexes l l'
unfolding word_of sort
lexes x y (Found t) (Found t') e = tokens t t'
lexes x y (Found t) End e = absurd (let z : ◌≡◌ {A = ℕ} 0 1 = ap sort e in omega arith)
lexes x y (Found t) (Refused p) e = absurd (let z : ◌≡◌ {A = ℕ} 0 2 = ap sort e in omega arith)
lexes x y End (Found t) e = absurd (let z : ◌≡◌ {A = ℕ} 1 0 = ap sort e in omega arith)
lexes x y End End e = both_end
lexes x y End (Refused p) e = absurd (let z : ◌≡◌ {A = ℕ} 1 2 = ap sort e in omega arith)
lexes x y (Refused p) (Found t) e = absurd (let z : ◌≡◌ {A = ℕ} 2 0 = ap sort e in omega arith)
lexes x y (Refused p) End e = absurd (let z : ◌≡◌ {A = ℕ} 2 1 = ap sort e in omega arith)
lexes x y (Refused p) (Refused p') e = both_refused p p'

kind_some : (k : ℕ) → 1 ≤ k → eqb k 0 ≡ false
kind_some k h = ne_eqb k 0 (λ e. omega arith)

module _ {x y : List ℕ} (same : Alike x y) where
  -- twins have the same kind and the same letters
  pub twin_kind : {s t : Spot} → Twin x y s t → s.kind ≡ t.kind
  unfolding word_of kind_of
  twin_kind h = ap kind_of (rw (h.one, h.other) at (same h.index))

  pub twin_letters : {s t : Spot} → Twin x y s t → R.letters x s ≡ R.letters y t
  unfolding word_of letters_in
  twin_letters h = ap letters_in (rw (h.one, h.other) at (same h.index))

  module _ (a a' i : ℕ) (q q' : Spot) (n : ℕ) (I O : Table) (c m : ℕ) (S S' : List ℕ) (s : Lined statement_words (Statements x y) S S') (d k : ℕ) (A A' : List ℕ) (z : Lined attribute_words (Attributes x y) A A') where
    abbrev here : World
    here = world x a R.nothing q n I (table c m S) O (table d k A)

    abbrev there : World
    there = world y a' R.nothing q' n I (table c m S') O (table d k A')

    -- a token is looked at, or what is no token
    pub seen-token : (t t' : Token) → nth x i ≡ Found t → nth y i ≡ Found t' → Both x y (Looked x y) (R.seen (Found t) here) (R.seen (Found t') there)
    unfolding R.seen
    seen-token t t' e e' =
        let w : Twin x y (R.spot_of t) (R.spot_of t') = record { index = i; one = e; other = e' } in
        goes _ _ _ _ (found _ _ w) (worlds _ _ (suc i) _ _ _ _ (nth-next x i e) (nth-next y i e') (some _ _ w) w n I O c m S S' s d k A A' z)

    pub seen-refused : (p p' : ℕ) → nth x i ≡ Refused p → nth y i ≡ Refused p' → Both x y (Looked x y) (R.seen (Refused p) here) (R.seen (Refused p') there)
    unfolding R.seen
    seen-refused p p' e e' = faults i p p' e e'

    -- what comes next is looked at; where it is the end, nothing moves
    seen_both : (l l' : Lexed) → Lexes l l' → nth x i ≡ l → nth y i ≡ l' → (nth x i ≡ End → nth y i ≡ End → Both x y (Looked x y) (go R.nothing here) (go R.nothing there)) → Both x y (Looked x y) (R.seen l here) (R.seen l' there)
    unfolding R.seen
    seen_both _ _ (tokens t t') e e' stay = seen-token t t' e e'
    seen_both _ _ both_end e e' stay = stay e e'
    seen_both _ _ (both_refused p p') e e' stay = seen-refused p p' e e'

  -- a token is not of kind 0
  twin_some : {s t : Spot} → Twin x y s t → (eqb s.kind 0 ≡ false) × (eqb t.kind 0 ≡ false)
  twin_some {s} {t} h =
      (kind_some s.kind (nth-kind x h.index (token_of s) h.one), kind_some t.kind (nth-kind y h.index (token_of t) h.other))

  pub look : Pair x y (Looked x y) R.lookahead R.lookahead
  unfolding R.lookahead
  look = record { by = at }
    where
      at : (w v : World) → Worlds x y w v → Both x y (Looked x y) (R.lookahead w) (R.lookahead v)
      at _ _ (worlds a a' i _ _ q q' h h' none last n I O c m S S' s d k A A' l) =
          rw (h, h')
          (seen_both a a' i q q' n I O c m S S' s d k A A' l (nth x i) (nth y i) (lexes x y (nth x i) (nth y i) (same i)) refl refl
          (λ e e'. goes _ _ _ _ (over i e e') (worlds a a' i _ _ q q' h h' none last n I O c m S S' s d k A A' l)))
      at _ _ (worlds a a' i _ _ q q' h h' (some p p' t) last n I O c m S S' s d k A A' l) =
          rw ((twin_some t).0, (twin_some t).1)
          (goes _ _ _ _ (found p p' t) (worlds a a' i p p' q q' h h' (some p p' t) last n I O c m S S' s d k A A' l))

  took : (s t : Spot) → Looked x y s t → Pair x y (Twin x y) (cond (eqb s.kind 0) (λ w. stop fault.end (R.last_byte w.text)) (R.taken s)) (cond (eqb t.kind 0) (λ w. stop fault.end (R.last_byte w.text)) (R.taken t))
  took _ _ (over i e e') = record { by = at }
    where
      at : (w v : World) → Worlds x y w v → Both x y (Twin x y) (stop fault.end (R.last_byte w.text)) (stop fault.end (R.last_byte v.text))
      at _ _ (worlds a a' j p p' q q' h h' ahead last n I O c m S S' s d k A A' l) = ends i e e'
  took _ _ (found s t r) = rw ((twin_some r).0, (twin_some r).1) (record { by = at })
    where
      at : (w v : World) → Worlds x y w v → Both x y (Twin x y) (R.taken s w) (R.taken t v)
      at _ _ (worlds a a' j p p' q q' h h' ahead last n I O c m S S' z d k A A' l) = goes s t _ _ r (worlds a a' j _ _ s t h h' none r n I O c m S S' z d k A A' l)

  pub take : Pair x y (Twin x y) R.token R.token
  unfolding R.token
  take = next look took
