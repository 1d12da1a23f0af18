-- Items: the row that is claimed says the item that the reading by names gives.
-- Assumes nothing.
use Prim.Native.Nat.{ℕ, ◌+◌, ◌<◌}
use mathlib.Core.Path.{◌≡◌, refl, sym, ap, ◌∙◌, subst}
use mathlib.Core.Bool.{Bool, true, false, cond}
use mathlib.Core.List.{List, []}
use native.Mathlib.Omega.{arith}
use lib.Dec.{eqb, ltb}
use lib.ListN.{drop}
use Rattle.rules.specs.declared.Spot.{Spot}
use Rattle.rules.specs.declared.Span.{Span}
use Rattle.rules.specs.declared.Item.{Item}
use Rattle.rules.specs.declared.Entry.{Entry}
use Rattle.rules.specs.declared.Entry.TheVariants.{Replacements, LeftHandSides, RightHandSides}
use Rattle.rules.specs.Bytes.{bytes, same}
use Rattle.rules.specs.Faults as fault
use Rattle.rules.specs.Keywords as keyword
use Rattle.rules.specs.Tokens as kind
use Rattle.rules.specs.Rows.{◌up_to◌, name_at, infer_result, candidate, left_hand_side, right_hand_side}
use Rattle.rules.specs.Syntax as syntax
use Rattle.rules.specs.View.{each, along, as_root_attribute, root_attribute_of, as_closing, as_item, item_of}
use Rattle.rules.specs.World.{World, Stand, Tables, Res, P, go, stop, bind, asks, scoped, claim_item}
use Rattle.rules.specs.Reading as rows
use Rattle.rules.specs.Reading.{letters}
use Rattle.laws.proofs.Cases.{by_cases}
use Rattle.reading.proofs.Parts.{item_row}
use Rattle.bynames.proofs.Tokens.{Next, bad}
use Rattle.bynames.proofs.Moves.{Some, token_some}
use Rattle.bynames.proofs.Reader as names
use Rattle.bynames.proofs.Reader.{State}
use Rattle.simulation.proofs.Stable.{Sized, Later, later_than, with_item, item_sized, item_later, item_stays, name_stays, operand_in, statement_in, item_in, Says, SayAll}
use Rattle.simulation.proofs.Together.{Both, goes, full, halts, seq, either, nested, stopped}
use Rattle.simulation.proofs.Words.{keyword_letters, keyword_is, keyword_not}
use Rattle.simulation.proofs.Tokens.{world, next_at, shown, state, past, Sits, Looks, sees, errs, look_looks, after, expected_ahead, not_expected}
use Rattle.simulation.proofs.Numbers.{ident_both, ident-ahead, no_ident_ahead}
use Rattle.simulation.proofs.Scopes.{Scope, none, value_then}
use Rattle.simulation.proofs.Operands.{Grown, grown_more, scope_grown, after-operand, operand_both}
use Rattle.simulation.proofs.Attributes.{see_as, after-attributes, root_attributes_both}
use Rattle.simulation.proofs.Sides.{along-rows}
use Rattle.simulation.proofs.Statements.{after-statements, statements_both}

module _ (text : List ℕ) where
  -- an item's row was claimed, and says the item; the next item's scope is empty
  pub data Itemed (t : Tables) : Unit {0} → World → syntax.Item → State → Type 0 where
    itemed : (s : Stand) (u : Tables) (y : syntax.Item) (l : List syntax.Statement) → Sits text s → Sized u → Later t u → u.items.count ≡ t.items.count + 1 → Says (item_in text) u t.items.count y
        → Itemed t tt (world text u.statements.count s u) y (state text l s)

  module _ (f : ℕ) (l : List syntax.Statement) where
    close_both : (t u : Tables) → Sized u → Later t u → u.items.count ≡ t.items.count → (k middle infer : ℕ) (o a : Span) (y : syntax.Item)
        → ((v : Tables) → Later u v → as_item text v.statements.words v.operands.words v.attributes.words (item_row k (f up_to u.statements.count) middle infer o a) ≡ y)
        → (s : Stand) → Sits text s → Both (Itemed t) (rows.close_item k middle infer o a (world text f s u)) (names.go y (state text l s))
    unfolding rows.close_item claim_item asks item_of
    close_both t u zu e i k middle infer o a y h s z = by (ltb u.items.count u.items.cap)
      where
        row : Item
        row = item_row k (f up_to u.statements.count) middle infer o a

        by : (b : Bool) → Both (Itemed t) (bind (cond b (go (tt {0}) (world text f s (with_item row u))) (stop fault.no_row s.last)) (λ x w. go (tt {0}) (scoped u.statements.count w))) (names.go y (state text l s))
        by true =
            goes _ _ _ _
            (itemed s (with_item row u) y l z (item_sized u zu row) (later_than e (item_later u zu row)) (ap (λ (n : ℕ). n + 1) i)
            (subst (λ (j : ℕ). Says (item_in text) (with_item row u) j y) i
            (record { by = λ v q. ap (as_item text v.statements.words v.operands.words v.attributes.words) (item_stays u zu v row q) ∙ h v (later_than (item_later u zu row) q) })))
        by false = full _ _

    -- what stands behind 'infer'
    module _ (t : Tables) where
      data Inferring : ℕ → World → names.Inferred → State → Type 0 where
        inferring : (r : ℕ) (s : Stand) (u : Tables) (n : ℕ) (ys : List syntax.RootAttribute) → Sits text s → Grown t u → r < t.statements.count → u.attributes.count ≡ t.attributes.count + n
            → SayAll (see_as (as_root_attribute text)) u t.attributes.count n ys → Inferring r (world text f s u) (record { name = name_at text t.statements.words r; attributes = ys }) (state text l s)

      after-infer : {X Y : Type 0} {Z : X → World → Y → State → Type 0} {m : Res ℕ} {n : names.Res names.Inferred} (F : ℕ → P X) (G : names.Inferred → names.P Y) → Both Inferring m n
          → ((r : ℕ) (s : Stand) (u : Tables) (n : ℕ) (ys : List syntax.RootAttribute) → Sits text s → Grown t u → r < t.statements.count → u.attributes.count ≡ t.attributes.count + n
          → SayAll (see_as (as_root_attribute text)) u t.attributes.count n ys → Both Z (F r (world text f s u)) (G (record { name = name_at text t.statements.words r; attributes = ys }) (state text l s)))
          → Both Z (bind m F) (names.bind n G)
      after-infer {Z = Z} F G b k = seq F G b on
        where
          on : (x : ℕ) (w : World) (y : names.Inferred) (a : State) → Inferring x w y a → Both Z (F x w) (G y a)
          on x w y a (inferring r s u n ys z g h c q) = k r s u n ys z g h c q

      infer_both : Sized t → Scope text f t l → (s : Stand) → Sits text s → Both Inferring (bind (rows.value (world text f s t)) (λ r w. bind (rows.root_attributes w) (λ u v. go r v))) (names.inferred (state text l s))
      unfolding names.inferred
      infer_both zd sc s z =
          value_then text f t l sc _ _ s z (λ r v y h.
          after-attributes text f l (as_root_attribute text) _ _ (root_attributes_both text f l t zd v y) (λ v₁ u n ys y₁ g c q.
          goes _ _ _ _ (inferring r v₁ u n ys y₁ g h c q)))

    -- 'result', an operand, and the item's row
    result_both : (t w : Tables) → Sized w → Later t w → w.items.count ≡ t.items.count → Scope text f w l → (k middle r : ℕ) (a : Span) (y : syntax.Operand → syntax.Item)
        → ((v : Tables) → Later w v → (p q : ℕ) → q ≡ w.statements.count → as_item text v.statements.words v.operands.words v.attributes.words (item_row k (f up_to q) middle r (w.operands.count up_to p) a) ≡ y (operand_in text v w.operands.count))
        → (s : Stand) → Sits text s → Both (Itemed t) (rows.result k middle r a (world text f s w)) (names.◌>>◌ (names.keyword (bytes "result")) (names.◌>>=◌ names.operand (λ o. names.give (y o))) (state text l s))
    unfolding rows.result asks
    result_both t w zw e i sc k middle r a y h s z =
        after text f w l _ _ (ident_both text f w l keyword.result (omega arith) s z) (λ x v v-sits q.
        after-operand text f w l _ _ (operand_both text f w l zw sc v v-sits) (λ v₁ u o y₁ g c said.
        close_both t u g.sized (later_than e g.later) (g.items ∙ i) k middle r _ a (y o)
        (λ v₂ m. h v₂ (later_than g.later m) u.operands.count u.statements.count g.statements ∙ ap y (said.by v₂ m)) v₁ y₁))

-- statements m up to p, where none was claimed
none_between : (text : List ℕ) (v : Tables) (m p : ℕ) → p ≡ m → along (statement_in text v) (m up_to p) ≡ []
none_between text v m p e = along-rows (statement_in text v) m 0 p (omega arith)

-- an item's closing lines, behind its first statements
module _ (text : List ℕ) (f : ℕ) (l : List syntax.Statement) (t u : Tables) (n : ℕ) (ys : List syntax.Statement) (zu : Sized u) (e : Later t u) (c : u.statements.count ≡ f + n) (i : u.items.count ≡ t.items.count)
    (h : SayAll (statement_in text) u f n ys) (sc : Scope text f u l) where
  said_before : (v : Tables) → Later u v → along (statement_in text v) (f up_to u.statements.count) ≡ ys
  said_before v k = along-rows (statement_in text v) f n u.statements.count c ∙ h.by v k

  left-closes : (s : Stand) → Sits text s
      → Both (Itemed text t)
      (bind (rows.infer (world text f s u)) (λ r w. rows.close_item left_hand_side u.statements.count r (w.tables.operands.count up_to w.tables.operands.count) (u.attributes.count up_to w.tables.attributes.count) w))
      (names.◌>>◌ (names.keyword (bytes "infer")) (names.◌>>=◌ names.inferred (λ j. names.item ys [] (syntax.infer j.name j.attributes))) (state text l s))
  unfolding rows.infer as_item as_closing root_attribute_of
  left-closes s z =
      nested (rows.ident keyword.infer (world text f s u)) _ _
      (after text f u l _ _ (ident_both text f u l keyword.infer (omega arith) s z) (λ x v y q.
      after-infer text f l u _ _ (infer_both text f l u zu sc v y) (λ r v₁ w j zs y₁ g r< c₁ h₁.
      close_both text f l t w g.sized (later_than e g.later) (g.items ∙ i) left_hand_side u.statements.count r _ _ _
      (λ v₂ k a.
      record {
        before = said_before v₂ (later_than g.later k) a;
        between = none_between text v₂ u.statements.count w.statements.count g.statements a;
        closing = syntax.infer (name_stays text (later_than g.later k) r r< a) ((along-rows (see_as (as_root_attribute text) v₂) u.attributes.count j w.attributes.count c₁ ∙ h₁.by v₂ k) a);
      }) v₁ y₁)))

  right_closes : (s : Stand) → Sits text s → Both (Itemed text t) (rows.result right_hand_side u.statements.count 0 (u.attributes.count up_to u.attributes.count) (world text f s u))
      (names.◌>>◌ (names.keyword (bytes "result")) (names.◌>>=◌ names.operand (λ o. names.item ys [] (syntax.result o))) (state text l s))
  unfolding as_item as_closing
  right_closes s z =
      result_both text f l t u zu e i sc right_hand_side u.statements.count 0 _ (λ o. record { before = ys; between = []; closing = syntax.result o })
      (λ v k p q c₁ a.
      record {
        before = said_before v k a;
        between = none_between text v u.statements.count q c₁ a;
        closing = syntax.result (operand_in text v u.operands.count);
      }) s z

  -- where 'cand' was taken
  cand-closes : (s : Stand) → Sits text s
      → Both (Itemed text t)
      (bind (rows.operand (world text f s u)) (λ x w. bind (rows.operand w) (λ x₁ w₁. bind (rows.root_attributes w₁) (λ x₂ w₂.
      rows.close_item candidate u.statements.count 0 (u.operands.count up_to w₁.tables.operands.count) (w₁.tables.attributes.count up_to w₂.tables.attributes.count) w₂))))
      (names.candidate ys (state text l s))
  unfolding names.candidate as_item as_closing root_attribute_of
  cand-closes s z =
      after-operand text f u l _ _ (operand_both text f u l zu sc s z) (λ v₁ w₁ o y₁ g₁ c₁ h₁.
      after-operand text f w₁ l _ _ (operand_both text f w₁ l g₁.sized (scope_grown g₁ sc) v₁ y₁) (λ v₂ w₂ p y₂ g₂ c₂ h₂.
      after-attributes text f l (as_root_attribute text) _ _ (root_attributes_both text f l w₂ g₂.sized v₂ y₂) (λ v₃ w₃ j zs y₃ g₃ c₃ h₃.
      let g : Grown u w₃ = grown_more g₁ (grown_more g₂ g₃) in
      close_both text f l t w₃ g₃.sized (later_than e g.later) (g.items ∙ i) candidate u.statements.count 0 _ _ _
      (λ v k a.
      record {
        before = said_before v (later_than g.later k) a;
        between = none_between text v u.statements.count w₃.statements.count g.statements a;
        closing =
            syntax.cand (h₁.by v (later_than g₂.later (later_than g₃.later k)) a) ((ap (operand_in text v) (sym c₁) ∙ h₂.by v (later_than g₃.later k)) a)
            ((along-rows (see_as (as_root_attribute text) v) w₂.attributes.count j w₃.attributes.count c₃ ∙ h₃.by v k) a);
      }) v₃ y₃)))

  -- where 'infer' was taken
  pair_closes : (s : Stand) → Sits text s
      → Both (Itemed text t)
      (bind (bind (rows.value (world text f s u)) (λ r w. bind (rows.root_attributes w) (λ x v. go r v))) (λ r w. bind (rows.statements w) (λ x w₁.
      rows.result infer_result u.statements.count r (u.attributes.count up_to w.tables.attributes.count) w₁)))
      (names.pair ys (state text l s))
  unfolding names.pair as_item as_closing root_attribute_of
  pair_closes s z =
      after-infer text f l u _ _ (infer_both text f l u zu sc s z) (λ r v₁ w j as₁ y₁ g r< c₁ h₁.
      after-statements text f _ _ (statements_both text f w l g.sized (scope_grown g sc) v₁ y₁) (λ v₂ x m zs l₂ y₂ d e₂ c₂ i₂ h₂ sc₂.
      result_both text f l₂ t x d (later_than e (later_than g.later e₂)) (i₂ ∙ g.items ∙ i) sc₂ infer_result u.statements.count r _
      (λ o. record { before = ys; between = zs; closing = syntax.infer_result (name_at text u.statements.words r) as₁ o })
      (λ v k p q c₃ a.
      record {
        before = said_before v (later_than g.later (later_than e₂ k)) a;
        between = between w x v zs m q (c₃ ∙ c₂) g.statements (h₂.by v k) a;
        closing =
            syntax.infer_result (name_stays text (later_than g.later (later_than e₂ k)) r r< a)
            ((along-rows (see_as (as_root_attribute text) v) u.attributes.count j w.attributes.count c₁ ∙ h₁.by v (later_than e₂ k)) a) (operand_in text v x.operands.count);
      }) v₂ y₂))
    where
      between : (w x v : Tables) (zs : List syntax.Statement) (m q : ℕ) → q ≡ w.statements.count + m → w.statements.count ≡ u.statements.count → each (statement_in text v) w.statements.count m ≡ zs
          → along (statement_in text v) (u.statements.count up_to q) ≡ zs
      between w x v zs m q e s h = along-rows (statement_in text v) u.statements.count m q (omega arith) ∙ ap (λ (j : ℕ). each (statement_in text v) j m) (sym s) ∙ h

  -- a replacement closes with 'infer' or 'cand', by a look at the next word
  abbrev closing : names.P syntax.Item
  closing = names.◌>>=◌ (names.expect kind.ident) (λ w. cond (same w (bytes "infer")) (names.pair ys) (cond (same w (bytes "cand")) (names.candidate ys) names.refuse))

  abbrev closing_as : ℕ → P (Unit {0})
  closing_as k = cond (eqb k keyword.infer) (rows.infer_and_result u.statements.count) (rows.cand u.statements.count)

  word-closes : (v : Stand) → eqb v.ahead.kind kind.ident ≡ true → Both (Itemed text t) (closing_as (rows.keyword_at text v.ahead) (world text f v u)) (closing (state text l v))
  unfolding rows.infer_and_result rows.infer rows.cand asks
  word-closes v q =
      let w : List ℕ = letters text v.ahead in
      let sits : Sits text (past v) = token_some (drop v.at text) in
      rw (expected_ahead text l kind.ident v (omega arith) q, keyword_is keyword.infer (omega arith) text v.ahead q)
      (either (same w (keyword_letters keyword.infer)) _ _ _ _ (world text f v u) (state text l (past v))
      (λ j. rw (ident-ahead text f u keyword.infer v q (keyword_is keyword.infer (omega arith) text v.ahead q ∙ j)) (pair_closes (past v) sits))
      (λ j.
      by_cases (same w (keyword_letters keyword.cand))
      (λ k. rw (k, ident-ahead text f u keyword.cand v q (keyword_is keyword.cand (omega arith) text v.ahead q ∙ k)) (cand-closes (past v) sits))
      (λ k. rw (k, no_ident_ahead text f u keyword.cand v q (keyword_is keyword.cand (omega arith) text v.ahead q ∙ k)) (halts fault.token v.ahead))))

  no_keyword : (k : List ℕ) (v : Stand) → eqb v.ahead.kind kind.ident ≡ false → next_at text v ≡ shown text v.ahead v.at → names.keyword k (state text l v) ≡ names.stop
  unfolding names.keyword
  no_keyword k v q e = ap (λ (x : Next). names.bind (names.expect kind.ident (record { scope = l; next = x })) (λ w. cond (same w k) (names.give tt) names.refuse)) e ∙ rw (not_expected text l kind.ident v.ahead v.at q) refl

  other-closes : (v : Stand) → Sits text v → eqb v.ahead.kind kind.ident ≡ false → next_at text v ≡ shown text v.ahead v.at → Both (Itemed text t) (closing_as (rows.keyword_at text v.ahead) (world text f v u)) (closing (record { scope = l; next = shown text v.ahead v.at }))
  unfolding rows.cand
  other-closes v z q e =
      rw (keyword_not keyword.infer (omega arith) text v.ahead q, not_expected text l kind.ident v.ahead v.at q)
      (stopped _ (ident_both text f u l keyword.cand (omega arith) v z) (no_keyword (keyword_letters keyword.cand) v q e))

  bad_closes : closing (record { scope = l; next = bad }) ≡ names.stop
  unfolding names.expect
  bad_closes = refl

  replacement-closes : (s : Stand) → Sits text s → Both (Itemed text t) (bind (rows.lookahead_ident (world text f s u)) closing_as) (closing (state text l s))
  unfolding rows.lookahead_ident asks
  replacement-closes s z = nested (rows.lookahead (world text f s u)) _ _ (by (look_looks text f u s))
    where
      by : {m : Res Spot} → Looks text f u s m → Both (Itemed text t) (bind m (λ x w. bind (go (rows.keyword_at w.text x) w) closing_as)) (closing (state text l s))
      by (sees v e h) =
          by_cases (eqb v.ahead.kind kind.ident)
          (λ q. subst (λ (n : Next). Both (Itemed text t) (closing_as (rows.keyword_at text v.ahead) (world text f v u)) (closing (record { scope = l; next = n }))) e (word-closes v q))
          (λ q. subst (λ (n : Next). Both (Itemed text t) (closing_as (rows.keyword_at text v.ahead) (world text f v u)) (closing (record { scope = l; next = n }))) (sym h) (other-closes v (subst Some (sym e) z) q (e ∙ h)))
      by (errs p e) = rw (e, bad_closes) (halts fault.lexer p)

-- the entry points by names
unfoldable pub entry_of : Entry → names.Entry
entry_of Replacements = names.replacements
entry_of LeftHandSides = names.left_hand_sides
entry_of RightHandSides = names.right_hand_sides

-- an item, from where no statement is in scope
module _ (text : List ℕ) (t : Tables) (zd : Sized t) (s : Stand) (z : Sits text s) where
  no_scope : Scope text t.statements.count t []
  no_scope = record { long = 0; count = omega arith; scoped = none }

  replacement_both : Both (Itemed text t) (rows.replacement (world text t.statements.count s t)) (names.replacement (state text [] s))
  unfolding rows.replacement names.replacement asks
  replacement_both =
      after-statements text t.statements.count _ _ (statements_both text t.statements.count t [] zd no_scope s z) (λ v u n ys l y d e c i h sc.
      replacement-closes text t.statements.count l t u n ys d e c i h sc v y)

  left_both : Both (Itemed text t) (rows.left_side (world text t.statements.count s t)) (names.left_hand_side (state text [] s))
  unfolding rows.left_side names.left_hand_side asks
  left_both =
      after-statements text t.statements.count _ _ (statements_both text t.statements.count t [] zd no_scope s z) (λ v u n ys l y d e c i h sc.
      left-closes text t.statements.count l t u n ys d e c i h sc v y)

  right_both : Both (Itemed text t) (rows.right_side (world text t.statements.count s t)) (names.right_hand_side (state text [] s))
  unfolding rows.right_side names.right_hand_side asks
  right_both =
      after-statements text t.statements.count _ _ (statements_both text t.statements.count t [] zd no_scope s z) (λ v u n ys l y d e c i h sc.
      right_closes text t.statements.count l t u n ys d e c i h sc v y)

  pub item_both : (e : Entry) → Both (Itemed text t) (rows.item_of e (world text t.statements.count s t)) (names.item_of (entry_of e) (state text [] s))
  unfolding rows.item_of entry_of
  item_both Replacements = replacement_both
  item_both LeftHandSides = left_both
  item_both RightHandSides = right_both
