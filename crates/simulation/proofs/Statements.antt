-- Statements: the row that is claimed says the statement that the reading by names gives, and enters scope with it.
-- Assumes nothing.
use Prim.Native.Nat.{ℕ, zero, suc, ◌+◌, ◌<◌}
use mathlib.Core.Path.{◌≡◌, refl, sym, ap, ◌∙◌, subst}
use mathlib.Core.Bool.{Bool, true, false, cond, ◌&&◌, ◌||◌, true≢false}
use mathlib.Core.List.{List, [], ◌∷◌}
use native.Mathlib.Omega.{arith}
use borrow.Author.Tests.{eqb-true, ne_eqb}
use lib.Dec.{eqb}
use lib.ListN.{drop}
use Rattle.rules.specs.declared.Spot.{Spot}
use Rattle.rules.specs.declared.Statement.{Statement}
use Rattle.rules.specs.Bytes.{same}
use Rattle.rules.specs.Keywords as keyword
use Rattle.rules.specs.Tokens as kind
use Rattle.rules.specs.Rows.{◌up_to◌, letters_of, name_at, keyword_code}
use Rattle.rules.specs.Syntax as syntax
use Rattle.rules.specs.View.{typing_of, as_attribute, attribute_of, as_statement, statement_of}
use Rattle.rules.specs.World.{World, Stand, Tables, Res, P, go, bind, asks, claim_statement, many}
use Rattle.rules.specs.Reading as rows
use Rattle.rules.specs.Reading.{letters}
use Rattle.rules.specs.Grammar.{side_in}
use Rattle.laws.proofs.Cases.{by_cases}
use Rattle.laws.proofs.Tests.{and_left, and_right}
use Rattle.tables.proofs.Fields.{statement-last}
use Rattle.reading.proofs.Parts.{condition_row}
use Rattle.reading.proofs.Claims.{statement_ahead-keeps, statement_claims}
use Rattle.reading.proofs.Many.{many_turn}
use Rattle.bynames.proofs.WellFormed.{is_block, block_size}
use Rattle.bynames.proofs.Moves.{Within, Takes, token_some}
use Rattle.bynames.proofs.MovesRules.{assigned_takes, condition-takes, block-condition-takes}
use Rattle.bynames.proofs.Reader as names
use Rattle.bynames.proofs.Reader.{State, ahead}
use Rattle.simulation.proofs.Stable.{Sized, Later, later_same, later_than, with_statement, statement_sized, statement_later, statement_stays, name_stays, operand_in, statement_in, Says, SayAll, says_later, say_none, say_more}
use Rattle.simulation.proofs.Together.{Both, goes, seq, seq_ok, then-names, claims, nested}
use Rattle.simulation.proofs.Words.{keyword_letters, keyword_seen_lem, keyword_is, keyword_not}
use Rattle.simulation.proofs.Tokens.{world, next_at, state, past, seen_of, Sits, after, after_look_within, look_both, expect_both, some_kind, looked_ahead, taken-ahead}
use Rattle.simulation.proofs.Numbers.{keyword_ahead, typing_both, field_both}
use Rattle.simulation.proofs.Scopes.{name_of, Stated, Scope, scope_enter, name_then, block_then}
use Rattle.simulation.proofs.Operands.{Grown, grown_more, scope_grown, after-operand, operand_both}
use Rattle.simulation.proofs.Attributes.{see_as, after-attributes, attributes_both}
use Rattle.simulation.proofs.Sides.{along-rows, after-side, side_both}

module _ (text : List ℕ) (f : ℕ) (l : List syntax.Statement) where
  -- a statement's row was claimed, says the statement, and is in scope
  pub data Entered (t : Tables) : Unit {0} → World → syntax.Statement → State → Type 0 where
    entered : (s : Stand) (u : Tables) (y : syntax.Statement) → Sits text s → Sized u → Later t u → u.statements.count ≡ t.statements.count + 1 → u.items.count ≡ t.items.count
        → Stated text u t.statements.count y → Entered t tt (world text f s u) y (state text (y ∷ l) s)

  -- what a row says as a statement
  record SaysStatement (t : Tables) (r : Statement) (y : syntax.Statement) : Type 0 where
    by : (u : Tables) → Later t u → as_statement text u.statements.words u.operands.words u.attributes.words r ≡ y
    name : letters_of text r.name ≡ name_of y
    block : eqb r.code (keyword_code keyword.block) ≡ is_block (side_in y)
    size : is_block (side_in y) ≡ true → r.number ≡ block_size (side_in y)

  claimed : (t u : Tables) → Grown t u → (r : Statement) (y : syntax.Statement) → SaysStatement u r y → (s : Stand) → Sits text s
      → Both (Entered t) (claim_statement r (world text f s u)) (names.enter y (state text l s))
  unfolding claim_statement statement_of name_at
  claimed t u g r y h s z =
      let last = statement-last u.statements.words u.statements.count r g.sized.statements in
      let stays : Later u (with_statement r u) = statement_later u g.sized r in
      claims u.statements (world text f s (with_statement r u)) (world text f s u) y (state text (y ∷ l) s)
      (entered s (with_statement r u) y z (statement_sized u g.sized r) (later_than g.later stays) (ap (λ (n : ℕ). n + 1) g.statements) g.items
      (subst (λ (i : ℕ). Stated text (with_statement r u) i y) g.statements
      (record {
        there = omega arith;
        says = record { by = λ v k. ap (as_statement text v.statements.words v.operands.words v.attributes.words) (statement_stays u g.sized v r k) ∙ h.by v (later_than stays k) };
        name = rw last h.name;
        block = rw last h.block;
        size = rw last h.size;
      })))

  module _ (t : Tables) (zd : Sized t) (sc : Scope text f t l) where
    assignment_both : (s : Stand) → Sits text s → Both (Entered t) (rows.assignment (world text f s t)) (names.assigned (state text l s))
    unfolding rows.assignment names.assigned asks as_statement attribute_of
    assignment_both s z =
        name_then text f t l sc _ _ s z (λ x v y.
        after text f t l _ _ (typing_both text f t l v y) (λ width v₁ y₁ h₁.
        after text f t l _ _ (expect_both text f t l kind.equals v₁ y₁) (λ x₂ v₂ y₂ h₂.
        after-side text f t l _ _ (side_both text f t l zd sc v₂ y₂) (λ r v₃ u q y₃ g h₃.
        after-attributes text f l (as_attribute text) _ _ (attributes_both text f l u g.sized v₃ y₃) (λ v₄ w n ys y₄ g₄ c₄ h₄.
        claimed t w (grown_more g g₄) _ _
        (record {
          by =
              λ u' k.
              rw (h₃.no_pc, h₃.no_blockpc)
              (λ i.
              syntax.assignment
              (record {
                name = letters text x;
                typing = typing_of width;
                side = h₃.by u' (later_than g₄.later k) (x.first up_to x.past) width (u.attributes.count up_to w.attributes.count) i;
                attributes = (along-rows (see_as (as_attribute text) u') u.attributes.count n w.attributes.count c₄ ∙ h₄.by u' k) i;
              }));
          name = refl;
          block = h₃.block;
          size = h₃.size;
        }) v₄ y₄)))))

    -- two operands and a condition's row
    condition_both : (code n b : ℕ) (y : syntax.Operand → syntax.Operand → syntax.Statement) → ((o p : syntax.Operand) → name_of (y o p) ≡ []) → ((o p : syntax.Operand) → is_block (side_in (y o p)) ≡ false)
        → eqb code (keyword_code keyword.block) ≡ false
        → ((u : Tables) → Later t u → (p a : ℕ) → as_statement text u.statements.words u.operands.words u.attributes.words (condition_row code n b (t.operands.count up_to p) a)
        ≡ y (operand_in text u t.operands.count) (operand_in text u (t.operands.count + 1)))
        → (s : Stand) → Sits text s
        → Both (Entered t) (rows.condition code n b (world text f s t)) (names.◌>>=◌ names.operand (λ o. names.◌>>=◌ names.operand (λ p. names.enter (y o p))) (state text l s))
    unfolding rows.condition asks
    condition_both code n b y name block other says s z =
        after-operand text f t l _ _ (operand_both text f t l zd sc s z) (λ v₁ u o y₁ g c h.
        after-operand text f u l _ _ (operand_both text f u l g.sized (scope_grown g sc) v₁ y₁) (λ v₂ w p y₂ g₂ c₂ h₂.
        claimed t w (grown_more g g₂) _ _
        (record {
          by =
              λ u' k.
              says u' (later_than g.later (later_than g₂.later k)) w.operands.count w.attributes.count
              ∙ (λ i. y (h.by u' (later_than g₂.later k) i) ((ap (operand_in text u') (sym c) ∙ h₂.by u' k) i));
          name = sym (name o p);
          block = other ∙ sym (block o p);
          size = λ e. absurd (true≢false (sym e ∙ block o p));
        }) v₂ y₂))

    -- the conditions, of which the keyword was looked at
    module _ (s : Stand) (word : eqb s.ahead.kind kind.ident ≡ true) where
      some_ahead : eqb s.ahead.kind 0 ≡ false
      some_ahead = some_kind kind.ident s (omega arith) word

      pc_both : same (letters text s.ahead) (keyword_letters keyword.pc) ≡ true → Both (Entered t) (rows.pc (world text f s t)) (names.condition (state text l s))
      unfolding rows.pc names.condition as_statement
      pc_both h =
          rw (taken-ahead text f t s some_ahead, keyword_ahead text l keyword.pc s word h)
          (condition_both 65 0 0 syntax.pc (λ o p. refl) (λ o p. refl) refl (λ u k p a. refl) (past s) (token_some (drop s.at text)))

      blockpc_both : same (letters text s.ahead) (keyword_letters keyword.blockpc) ≡ true → Both (Entered t) (rows.blockpc (world text f s t)) (names.block_condition (state text l s))
      unfolding rows.blockpc names.block_condition as_statement
      blockpc_both h =
          rw (taken-ahead text f t s some_ahead, keyword_ahead text l keyword.blockpc s word h)
          (block_then text f t l sc _ _ (past s) (token_some (drop s.at text)) (λ r v₁ y₁ q.
          after text f t l _ _ (field_both text f t l 32 v₁ y₁) (λ n v₂ y₂ h₂.
          condition_both 66 n r (syntax.blockpc (name_at text t.statements.words r) n) (λ o p. refl) (λ o p. refl) refl
          (λ u k p a. ap (λ (m : syntax.Name). syntax.blockpc m n (operand_in text u t.operands.count) (operand_in text u (t.operands.count + 1))) (name_stays text k r q)) v₂ y₂)))

-- a keyword that was looked at, told in two ways
pub is_seen : (text : List ℕ) (k : ℕ) → k < 19 → (x : Spot) → names.is (keyword_letters k) (seen_of text x) ≡ eqb (rows.keyword_at text x) k
is_seen text k h x =
    by_cases (eqb x.kind kind.ident)
    (λ e.
    let some : eqb x.kind 0 ≡ false = ne_eqb _ _ (λ (q : x.kind ≡ 0). omega (arith, eqb-true x.kind kind.ident e)) in
    rw (keyword_is k h text x e, e, some) refl)
    (λ e. rw (keyword_not k h text x e, e) refl)

-- three sorts of statements, or none
sorts : {X Y : Type 0} {Z : X → World → Y → State → Type 0} (a b c : Bool) (p q : P X) (n₁ n₂ n₃ n₄ : names.P Y) (w : World) (x : State) → (a ≡ true → Both Z (p w) (n₁ x)) → (a ≡ false → b ≡ true → Both Z (p w) (n₂ x))
    → (a ≡ false → b ≡ false → c ≡ true → Both Z (p w) (n₃ x)) → Both Z (q w) (n₄ x) → Both Z (cond (a || (b || c)) p q w) (cond a n₁ (cond b n₂ (cond c n₃ n₄)) x)
sorts true b c p q n₁ n₂ n₃ n₄ w x h₁ h₂ h₃ h₄ = h₁ refl
sorts false true c p q n₁ n₂ n₃ n₄ w x h₁ h₂ h₃ h₄ = h₂ refl refl
sorts false false true p q n₁ n₂ n₃ n₄ w x h₁ h₂ h₃ h₄ = h₃ refl refl refl
sorts false false false p q n₁ n₂ n₃ n₄ w x h₁ h₂ h₃ h₄ = h₄

and_both : {a b c : Bool} → c ≡ (a && b) → c ≡ true → (a ≡ true) × (b ≡ true)
and_both {a} {b} e h = (and_left a b (sym e ∙ h), and_right a b (sym e ∙ h))

module _ (text : List ℕ) (f : ℕ) where
  -- rows were claimed that say statements; all of the item's are in scope
  pub data StatedAll (t : Tables) : Unit {0} → World → List syntax.Statement → State → Type 0 where
    stated_all : (s : Stand) (u : Tables) (n : ℕ) (ys l : List syntax.Statement) → Sits text s → Sized u → Later t u → u.statements.count ≡ t.statements.count + n → u.items.count ≡ t.items.count
        → SayAll (statement_in text) u t.statements.count n ys → Scope text f u l → StatedAll t tt (world text f s u) ys (state text l s)

  pub after-statements : {A B : Type 0} {Z : A → World → B → State → Type 0} {t : Tables} {m : Res (Unit {0})} {n : names.Res (List syntax.Statement)} (F : Unit {0} → P A) (G : List syntax.Statement → names.P B) → Both (StatedAll t) m n
      → ((s : Stand) (u : Tables) (n : ℕ) (ys l : List syntax.Statement) → Sits text s → Sized u → Later t u → u.statements.count ≡ t.statements.count + n → u.items.count ≡ t.items.count
      → SayAll (statement_in text) u t.statements.count n ys → Scope text f u l → Both Z (F tt (world text f s u)) (G ys (state text l s)))
      → Both Z (bind m F) (names.bind n G)
  after-statements {Z = Z} {t = t} F G b k = seq F G b on
    where
      on : (x : Unit {0}) (w : World) (y : List syntax.Statement) (a : State) → StatedAll t x w y a → Both Z (F x w) (G y a)
      on x w y a (stated_all s u n ys l z d e c i h sc) = k s u n ys l z d e c i h sc

  -- a statement before others
  one_more : (t u : Tables) (o : syntax.Statement) → Later t u → u.statements.count ≡ t.statements.count + 1 → u.items.count ≡ t.items.count → Says (statement_in text) u t.statements.count o
      → {m : Res (Unit {0})} {r : names.Res (List syntax.Statement)} → Both (StatedAll u) m r → Both (StatedAll t) m (names.bind r (λ ys. names.give (o ∷ ys)))
  one_more t u o e c i h b = then-names (λ ys. names.give (o ∷ ys)) b on
    where
      on : (x : Unit {0}) (w : World) (ys : List syntax.Statement) (a : State) → StatedAll u x w ys a → Both (StatedAll t) (go x w) (names.go (o ∷ ys) a)
      on x w ys a (stated_all s v n zs l z d e' c' i' h' sc) =
          goes _ _ _ _
          (stated_all s v (suc n) (o ∷ zs) l z d (later_than e e') (omega arith) (i' ∙ i)
          (say_more (says_later e' h) (subst (λ (j : ℕ). SayAll (statement_in text) v j n zs) c h')) sc)

  abbrev repeating : World → Res (Unit {0})
  repeating = many (λ t. t.statements) rows.statement_ahead rows.statement

  -- a statement of each sort, and then more
  module _ (g : ℕ) (t : Tables) (l : List syntax.Statement) (sc : Scope text f t l)
      (more : (u : Tables) (l : List syntax.Statement) → Sized u → Scope text f u l → (s : Stand) → Sits text s → ahead (next_at text s) < g → Both (StatedAll u) (repeating (world text f s u)) (names.statements g (state text l s))) where
    turn : (rule : names.P syntax.Statement) → Takes rule → (v : Stand) → Sits text v → ahead (next_at text v) < suc g → {m : Res (Unit {0})} → Both (Entered text f l t) m (rule (state text l v))
        → Both (StatedAll t) (bind m (λ u. repeating)) (names.bind (rule (state text l v)) (λ o. names.◌>>=◌ (names.statements g) (λ ys. names.give (o ∷ ys))))
    turn rule k v y i b = seq_ok _ _ b (k.by g (state text l v) y i) on
      where
        on : (x : Unit {0}) (w : World) (o : syntax.Statement) (a : State) → Entered text f l t x w o a → Within g o a → Both (StatedAll t) (repeating w) (names.bind (names.statements g a) (λ ys. names.give (o ∷ ys)))
        on x w o a (entered s u y z d e c j h) i = one_more t u y e c j h.says (more u (y ∷ l) d (scope_enter e c h sc) s z i.1)

  -- which sort the token ahead begins
  module _ (t : Tables) (s : Stand) where
    assignment-seen : eqb s.ahead.kind kind.val_name ≡ true → rows.statement (world text f s t) ≡ rows.assignment (world text f s t)
    unfolding rows.statement asks
    assignment-seen e = rw (looked_ahead text f t s (some_kind kind.val_name s (omega arith) e), e) refl

    pc-seen : eqb s.ahead.kind kind.val_name ≡ false → eqb s.ahead.kind 0 ≡ false → eqb (rows.keyword_at text s.ahead) keyword.pc ≡ true → rows.statement (world text f s t) ≡ rows.pc (world text f s t)
    unfolding rows.statement asks
    pc-seen e some h = rw (looked_ahead text f t s some, e, h) refl

    blockpc-seen : eqb s.ahead.kind kind.val_name ≡ false → eqb s.ahead.kind 0 ≡ false → eqb (rows.keyword_at text s.ahead) keyword.pc ≡ false → rows.statement (world text f s t) ≡ rows.blockpc (world text f s t)
    unfolding rows.statement asks
    blockpc-seen e some h = rw (looked_ahead text f t s some, e, h) refl

  loop : (g : ℕ) (t : Tables) (l : List syntax.Statement) → Sized t → Scope text f t l → (s : Stand) → Sits text s → ahead (next_at text s) < g → Both (StatedAll t) (repeating (world text f s t)) (names.statements g (state text l s))
  unfolding names.statements rows.statement_ahead asks
  loop zero t l zd sc s z h = absurd (let q : ⊥ = omega arith in q)
  loop (suc g) t l zd sc s z h =
      rw (many_turn (statement_ahead-keeps (λ t. t.statements)) statement_claims (world text f s t))
      (nested (rows.lookahead (world text f s t)) _ _
      (after_look_within text f t l (suc g) _ _ s z h (look_both text f t l s z) (λ v y i.
      rw (is_seen text keyword.pc (omega arith) v.ahead, is_seen text keyword.blockpc (omega arith) v.ahead)
      (sorts (eqb v.ahead.kind kind.val_name) (eqb (rows.keyword_at text v.ahead) keyword.pc) (eqb (rows.keyword_at text v.ahead) keyword.blockpc) _ _ _ _ _ _ (world text f v t) (state text l v)
      (λ e. rw (assignment-seen t v e) (turn g t l sc (loop g) names.assigned assigned_takes v y i (assignment_both text f l t zd sc v y)))
      (λ e k.
      let w = and_both (keyword_seen_lem keyword.pc (omega arith) text v.ahead) k in
      rw (pc-seen t v e (some_kind kind.ident v (omega arith) w.0) k)
      (turn g t l sc (loop g) names.condition condition-takes v y i (pc_both text f l t zd sc v w.0 w.1)))
      (λ e j k.
      let w = and_both (keyword_seen_lem keyword.blockpc (omega arith) text v.ahead) k in
      rw (blockpc-seen t v e (some_kind kind.ident v (omega arith) w.0) j)
      (turn g t l sc (loop g) names.block_condition block-condition-takes v y i (blockpc_both text f l t zd sc v w.0 w.1)))
      (goes _ _ _ _ (stated_all v t 0 [] l y zd (later_same t) (omega arith) refl say_none sc))))))

  pub statements_both : (t : Tables) (l : List syntax.Statement) → Sized t → Scope text f t l → (s : Stand) → Sits text s → Both (StatedAll t) (rows.statements (world text f s t)) (names.statements_here (state text l s))
  unfolding rows.statements
  statements_both t l zd sc s z = loop (suc (ahead (next_at text s))) t l zd sc s z (omega arith)
