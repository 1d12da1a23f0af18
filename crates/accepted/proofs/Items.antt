-- Items: each row that is claimed is a well-formed item, and owns all that was claimed since the item before it.
-- Assumes nothing.
use Prim.Native.Nat.{ℕ, ◌+◌, ◌-◌, ◌≤◌, ◌<◌}
use mathlib.Core.Path.{◌≡◌, refl, sym, ◌∙◌, subst}
use mathlib.Core.Bool.{Bool, true, false, cond}
use mathlib.Core.List.{List, [], ◌∷◌, ◌++◌}
use native.Mathlib.Omega.{arith}
use borrow.Author.Tests.{eq-eqb, le-leb}
use lib.Dec.{eqb, ltb}
use lib.ListN.{length}
use Rattle.rules.specs.declared.Spot.{Spot}
use Rattle.rules.specs.declared.Span.{Span}
use Rattle.rules.specs.declared.Item.{Item}
use Rattle.rules.specs.declared.Entry.{Entry}
use Rattle.rules.specs.declared.Entry.TheVariants.{Replacements, LeftHandSides, RightHandSides}
use Rattle.rules.specs.Bytes.{inside}
use Rattle.rules.specs.Faults as fault
use Rattle.rules.specs.Keywords as keyword
use Rattle.rules.specs.Rows.{◌up_to◌, item_at, item_words, statement_at, infer_result, candidate, left_hand_side, right_hand_side, demanded_bits_code, harvested_from_use_code}
use Rattle.rules.specs.View.{each, along}
use Rattle.rules.specs.WellFormed.{consecutive, operand_spans, attribute_spans, middle_ok, kind_ok, infers, infer_ok, closing_arity, closing_ok, operands_ok, roots_ok, statement_ok, statements_ok, item_ok}
use Rattle.rules.specs.World.{World, Stand, Tables, Res, go, stop, P, bind, asks, scoped, claim_item}
use Rattle.rules.specs.Reading as R
use Rattle.reading.proofs.Parts.{item_row}
use Rattle.wellformed.proofs.Along.{passes_along}
use Rattle.simulation.proofs.Tokens.{world}
use Rattle.simulation.proofs.Stable.{Later, later_than, with_item, item_sized, item_later, item_stays}
use Rattle.accepted.proofs.Padding.{and_both, Fit, fit_append}
use Rattle.accepted.proofs.Going.{Sits, Reads, reads, refuses, Goes, goes, stops, after, then, lookahead_ident-reads, ident-reads}
use Rattle.accepted.proofs.Scope.{Rows, rows_later, Value, value-reads}
use Rattle.accepted.proofs.Operands.{Holds, arg_ok, Operated, more_operated, operand_goes, small_word}
use Rattle.accepted.proofs.Attributes.{Attributed, roots_goes}
use Rattle.accepted.proofs.Statements.{operands-ok, attributes-ok}
use Rattle.accepted.proofs.Spans.{no_rows, own_behind, own_between}
use Rattle.accepted.proofs.Bodies.{operands_of, attributes_of, Stated, statements_goes}

-- an item was claimed
pub record Itemed (text : List ℕ) (t u : Tables) : Type 0 where
  pub later : Later t u
  pub holds : Holds u
  pub items : u.items.count ≡ t.items.count + 1
  pub kind : (v : Tables) → Later u v → kind_ok (item_at v.items.words t.items.count) ≡ true
  pub ok : (v : Tables) → Later u v → item_ok text v.statements.words v.operands.words v.attributes.words (item_at v.items.words t.items.count) ≡ true
  pub statements : (v : Tables) → Later u v → (item_at v.items.words t.items.count).statements ≡ t.statements.count up_to u.statements.count
  pub operands : (v : Tables) → Later u v → consecutive t.operands.count u.operands.count (operand_spans v.statements.words (item_at v.items.words t.items.count)) ≡ true
  pub attributes : (v : Tables) → Later u v → consecutive t.attributes.count u.attributes.count (attribute_spans v.statements.words (item_at v.items.words t.items.count)) ≡ true

-- the scope ends with the item
pub data Closes (text : List ℕ) (Q : Tables → Type 0) : Res (Unit {0}) → Type 0 where
  closes : (s : Stand) (t : Tables) → Sits text s → Q t → Closes text Q (go tt (world text t.statements.count s t))
  open_still : (n : ℕ) (p : Spot) → Closes text Q (stop n p)

module _ {text : List ℕ} {Q : Tables → Type 0} {f : ℕ} where
  pub read-closes : {t : Tables} {A : Type 0} {K : A → Type 0} {m : Res A} (F : A → P (Unit {0})) → Reads text f t K m → ((a : A) (s : Stand) → Sits text s → K a → Closes text Q (F a (world text f s t))) → Closes text Q (bind m F)
  read-closes F (reads a s z q) k = k a s z q
  read-closes F (refuses n p) k = open_still n p

  then-closes : {A : Type 0} {K : A → Tables → Type 0} {m : Res A} (F : A → P (Unit {0})) → Goes text f K m → ((a : A) (s : Stand) (t : Tables) → Sits text s → K a t → Closes text Q (F a (world text f s t))) → Closes text Q (bind m F)
  then-closes F (goes a s t z q) k = k a s t z q
  then-closes F (stops n p) k = open_still n p

pub either_closes : {text : List ℕ} {Q : Tables → Type 0} (b : Bool) (p q : P (Unit {0})) (w : World) → Closes text Q (p w) → Closes text Q (q w) → Closes text Q (cond b p q w)
either_closes true p q w h k = h
either_closes false p q w h k = k

abbrev done : World → Res (Unit {0})
done w = go tt w

abbrev scope_at : ℕ → Unit {0} → P (Unit {0})
scope_at n x w = go tt (scoped n w)

-- all that is known where an item is closed: t at its beginning, u at its end
pub record Closing (text : List ℕ) (t u : Tables) (r : Item) : Type 0 where
  pub later : Later t u
  pub holds : Holds u
  pub rows : Rows text t.statements.count u
  pub items : u.items.count ≡ t.items.count
  pub span : r.statements ≡ t.statements.count up_to u.statements.count
  pub kind : kind_ok r ≡ true
  pub operands : (v : Tables) → Later u v → consecutive t.operands.count u.operands.count (operand_spans v.statements.words r) ≡ true
  pub attributes : (v : Tables) → Later u v → consecutive t.attributes.count u.attributes.count (attribute_spans v.statements.words r) ≡ true
  pub infers : (v : Tables) → Later u v → infer_ok v.statements.words r ≡ true
  pub closing : (v : Tables) → Later u v → closing_ok v.statements.words v.operands.words r ≡ true
  pub roots : (v : Tables) → Later u v → roots_ok text v.attributes.words r ≡ true
  pub fit : Fit (item_words r)

item_holds : (t : Tables) → Holds t → (r : Item) → Fit (item_words r) → Holds (with_item r t)
item_holds t hd r fit =
    record {
      sized = item_sized t hd.sized r;
      items = fit_append t.items.words (item_words r) hd.items fit;
      statements = hd.statements;
      operands = hd.operands;
      attributes = hd.attributes;
      statements_few = hd.statements_few;
      operands_few = hd.operands_few;
      attributes_few = hd.attributes_few;
    }

module _ {text : List ℕ} (t u : Tables) (r : Item) (c : Closing text t u r) where
  stays : (v : Tables) → Later (with_item r u) v → item_at v.items.words t.items.count ≡ r
  stays v l = subst (λ (i : ℕ). item_at v.items.words i ≡ r) c.items (item_stays u c.holds.sized v r l)

  statements-ok : (v : Tables) → Later u v → statements_ok text v.statements.words v.operands.words v.attributes.words (t.statements.count up_to u.statements.count) ≡ true
  unfolding statements_ok
  statements-ok v l =
      passes_along (λ i. statement_ok text v.statements.words v.operands.words v.attributes.words t.statements.count i (statement_at v.statements.words i)) (t.statements.count up_to u.statements.count)
      (λ i a b. (c.rows.row i a b).ok v l)

  closed-ok : (v : Tables) → Later u v → item_ok text v.statements.words v.operands.words v.attributes.words r ≡ true
  unfolding item_ok
  closed-ok v l =
      let body : statements_ok text v.statements.words v.operands.words v.attributes.words r.statements ≡ true =
      subst (λ (s : Span). statements_ok text v.statements.words v.operands.words v.attributes.words s ≡ true) (sym c.span) (statements-ok v l) in
      and_both (c.infers v l) (and_both (c.closing v l) (and_both (c.roots v l) body))

  closed : Itemed text t (with_item r u)
  closed =
      let on = item_later u c.holds.sized r in
      let same = c.items in
      record {
        later = later_than c.later on;
        holds = item_holds u c.holds r c.fit;
        items = omega arith;
        kind = λ v l. let e = stays v l in rw e c.kind;
        ok = λ v l. let e = stays v l in rw e (closed-ok v (later_than on l));
        statements = λ v l. let e = stays v l in rw e c.span;
        operands = λ v l. let e = stays v l in rw e (c.operands v (later_than on l));
        attributes = λ v l. let e = stays v l in rw e (c.attributes v (later_than on l));
      }

module _ {text : List ℕ} (t u : Tables) where
  close_goes : (k middle infer : ℕ) (o a : Span) → Closing text t u (item_row k (t.statements.count up_to u.statements.count) middle infer o a) → (s : Stand) → Sits text s → Closes text (Itemed text t) (R.close_item k middle infer o a (world text t.statements.count s u))
  unfolding R.close_item claim_item asks
  close_goes k middle infer o a c s z = by (ltb u.items.count u.items.cap)
    where
      by : (b : Bool) → Closes text (Itemed text t) (bind (cond b (done (world text t.statements.count s (with_item (item_row k (t.statements.count up_to u.statements.count) middle infer o a) u))) (stop fault.no_row s.last)) (scope_at u.statements.count))
      by true = closes s (with_item (item_row k (t.statements.count up_to u.statements.count) middle infer o a) u) z (closed t u (item_row k (t.statements.count up_to u.statements.count) middle infer o a) c)
      by false = open_still _ _

-- the row of its first statement
abbrev pub begin : Tables → ℕ
begin t = t.statements.count

-- consecutive spans told by other counts
ends_at : (a b c : ℕ) (l : List Span) → b ≡ c → consecutive a b l ≡ true → consecutive a c l ≡ true
ends_at a b c l e h = subst (λ (x : ℕ). consecutive a x l ≡ true) e h

-- and by other rows
told_by : (F : ℕ → Span) (a b c i j n m : ℕ) → a ≡ b → i ≡ j → n ≡ m → consecutive a c (each F i (n - i)) ≡ true → consecutive b c (each F j (m - j)) ≡ true
told_by F a b c i j n m p q r h =
    subst (λ (x : ℕ). consecutive x c (each F j (m - j)) ≡ true) p
    (subst (λ (x : ℕ). consecutive a c (each F x (m - x)) ≡ true) q (subst (λ (x : ℕ). consecutive a c (each F i (x - i)) ≡ true) r h))

-- operands refer to the item's assignments
closing-operands : (f c d o p : ℕ) (v : Tables) → c ≡ d → ((j : ℕ) → o ≤ j → j < p → ◌≡◌ {A = Bool} (arg_ok f c v j) true) → operands_ok v.statements.words v.operands.words f d (o up_to p) ≡ true
closing-operands f c d o p v e h = subst (λ (x : ℕ). operands_ok v.statements.words v.operands.words f x (o up_to p) ≡ true) e (operands-ok f c o p v h)

module _ {text : List ℕ} (short : length text ≤ 65536) (t : Tables) where
  -- cand
  module _ (u w x : Tables) (st : Stated text (begin t) t u) (op : Operated (begin t) u w 2) (at : Attributed text demanded_bits_code harvested_from_use_code w x) where
    cand-closing : Closing text t x (item_row candidate ((begin t) up_to x.statements.count) u.statements.count 0 (u.operands.count up_to w.operands.count) (w.attributes.count up_to x.attributes.count))
    unfolding kind_ok middle_ok inside operand_spans attribute_spans infer_ok infers closing_ok closing_arity roots_ok item_words
    cand-closing =
        let g₁ = op.grown in
        let g₂ = at.grown in
        let same : x.statements.count ≡ u.statements.count = g₂.statements ∙ g₁.statements in
        let on = later_than g₁.later g₂.later in
        let ox = g₂.holds.operands_few in
        let ow = g₁.holds.operands_few in
        let ou = st.holds.operands_few in
        let su = st.holds.statements_few in
        let sx = g₂.holds.statements_few in
        let aw = g₁.holds.attributes_few in
        let ax = g₂.holds.attributes_few in
        let low = st.later.statements in
        let two : w.operands.count - u.operands.count ≡ 2 = let e = op.operands in omega arith in
        record {
          later = later_than st.later on;
          holds = g₂.holds;
          rows = rows_later on same st.rows;
          items = g₂.items ∙ g₁.items ∙ st.items;
          span = refl;
          kind = eq-eqb u.statements.count x.statements.count (sym same);
          operands =
              λ v l.
              ends_at t.operands.count w.operands.count x.operands.count (along (operands_of v) (begin t up_to x.statements.count) ++ ((u.operands.count up_to w.operands.count) ∷ [])) (sym at.operands)
              (own_behind (operands_of v) (begin t) u.statements.count x.statements.count low (omega arith) t.operands.count u.operands.count u.operands.count w.operands.count
              (st.operands v (later_than on l)) (no_rows (operands_of v) u.operands.count u.statements.count x.statements.count same) g₁.later.operands);
          attributes =
              λ v l.
              own_between (attributes_of v) (begin t) u.statements.count x.statements.count low (omega arith) t.attributes.count w.attributes.count x.attributes.count x.attributes.count
              (ends_at t.attributes.count u.attributes.count w.attributes.count (each (attributes_of v) (begin t) (u.statements.count - (begin t))) (sym op.attributes) (st.attributes v (later_than on l)))
              g₂.later.attributes
              (no_rows (attributes_of v) x.attributes.count u.statements.count x.statements.count same);
          infers = λ v l. refl;
          closing =
              λ v l.
              and_both (eq-eqb _ _ two)
              (closing-operands (begin t) u.statements.count x.statements.count u.operands.count w.operands.count v (sym same) (λ j a b. (op.args j a b).by v (later_than g₂.later l)));
          roots = λ v l. attributes-ok text demanded_bits_code harvested_from_use_code w.attributes.count x.attributes.count v (λ j a b. (at.ok j a b).by v l);
          fit = (
            small_word 2 (omega arith),
            (
              small_word (begin t) (omega arith),
              (
                small_word x.statements.count (omega arith),
                (
                  small_word u.statements.count (omega arith),
                  (
                    small_word 0 (omega arith),
                    (small_word u.operands.count (omega arith), (small_word w.operands.count (omega arith), (small_word w.attributes.count (omega arith), (small_word x.attributes.count (omega arith), tt)))),
                  ),
                ),
              ),
            ),
          );
        }

  cand_goes : (u : Tables) → Stated text (begin t) t u → (s : Stand) → Sits text s → Closes text (Itemed text t) (R.cand u.statements.count (world text (begin t) s u))
  unfolding R.cand asks
  cand_goes u st s z =
      read-closes _ (ident-reads u keyword.cand s z) (λ y₀ s₀ z₀ q₀.
      then-closes _ (operand_goes u st.holds st.rows s₀ z₀) (λ y₁ s₁ u₁ z₁ o.
      then-closes _ (operand_goes u₁ o.grown.holds (rows_later o.grown.later o.grown.statements st.rows) s₁ z₁) (λ y₂ s₂ w z₂ p.
      let op : Operated (begin t) u w 2 = more_operated o p refl in
      then-closes _ (roots_goes short w op.grown.holds s₂ z₂) (λ y₃ s₃ x z₃ at.
      close_goes t x candidate u.statements.count 0 (u.operands.count up_to w.operands.count) (w.attributes.count up_to x.attributes.count) (cand-closing u w x st op at) s₃ z₃))))

  -- infer: a value and root attributes
  infer_goes : (u : Tables) → Holds u → (rs : Rows text (begin t) u) → (s : Stand) → Sits text s → Goes text (begin t) (λ r x. Value u rs r × Attributed text demanded_bits_code harvested_from_use_code u x) (R.infer (world text (begin t) s u))
  unfolding R.infer
  infer_goes u hd rs s z =
      after _ (ident-reads u keyword.infer s z) (λ y₀ s₀ z₀ q₀.
      after _ (value-reads u rs s₀ z₀) (λ r s₁ z₁ q₁.
      then _ (roots_goes short u hd s₁ z₁) (λ y₂ s₂ x z₂ at. goes r s₂ x z₂ (q₁, at))))

  -- result: an operand
  result-closes : (u : Tables) → Holds u → Rows text (begin t) u → (k m r : ℕ) (a : Span) → ((w : Tables) → Operated (begin t) u w 1 → Closing text t w (item_row k (begin t up_to w.statements.count) m r (u.operands.count up_to w.operands.count) a))
      → (s : Stand) → Sits text s → Closes text (Itemed text t) (R.result k m r a (world text (begin t) s u))
  unfolding R.result asks
  result-closes u hd rs k m r a c s z =
      read-closes _ (ident-reads u keyword.result s z) (λ y₀ s₀ z₀ q₀.
      then-closes _ (operand_goes u hd rs s₀ z₀) (λ y₁ s₁ w z₁ op. close_goes t w k m r (u.operands.count up_to w.operands.count) a (c w op) s₁ z₁))

  -- a left-hand side
  module _ (u x : Tables) (st : Stated text (begin t) t u) (r : ℕ) (val : Value u st.rows r) (at : Attributed text demanded_bits_code harvested_from_use_code u x) where
    left-closing : Closing text t x (item_row left_hand_side (begin t up_to x.statements.count) u.statements.count r (x.operands.count up_to x.operands.count) (u.attributes.count up_to x.attributes.count))
    unfolding kind_ok middle_ok inside operand_spans attribute_spans infer_ok infers closing_ok closing_arity roots_ok item_words
    left-closing =
        let g = at.grown in
        let same : x.statements.count ≡ u.statements.count = g.statements in
        let ox = g.holds.operands_few in
        let su = st.holds.statements_few in
        let sx = g.holds.statements_few in
        let au = st.holds.attributes_few in
        let ax = g.holds.attributes_few in
        let low = st.later.statements in
        let there = val.there in
        let none : x.operands.count - x.operands.count ≡ 0 = omega arith in
        record {
          later = later_than st.later g.later;
          holds = g.holds;
          rows = rows_later g.later same st.rows;
          items = g.items ∙ st.items;
          span = refl;
          kind = eq-eqb u.statements.count x.statements.count (sym same);
          operands =
              λ v l.
              own_behind (operands_of v) (begin t) u.statements.count x.statements.count low (omega arith) t.operands.count x.operands.count x.operands.count x.operands.count
              (ends_at t.operands.count u.operands.count x.operands.count (each (operands_of v) (begin t) (u.statements.count - begin t)) (sym at.operands) (st.operands v (later_than g.later l)))
              (no_rows (operands_of v) x.operands.count u.statements.count x.statements.count same) (omega arith);
          attributes =
              λ v l.
              own_between (attributes_of v) (begin t) u.statements.count x.statements.count low (omega arith) t.attributes.count u.attributes.count x.attributes.count x.attributes.count
              (st.attributes v (later_than g.later l)) g.later.attributes
              (no_rows (attributes_of v) x.attributes.count u.statements.count x.statements.count same);
          infers = λ v l. val.refers v (later_than g.later l);
          closing = λ v l. and_both (eq-eqb _ _ none) (operands-ok (begin t) x.statements.count x.operands.count x.operands.count v (λ j a b. absurd (let q : ⊥ = omega arith in q)));
          roots = λ v l. attributes-ok text demanded_bits_code harvested_from_use_code u.attributes.count x.attributes.count v (λ j a b. (at.ok j a b).by v l);
          fit = (
            small_word 3 (omega arith),
            (
              small_word (begin t) (omega arith),
              (
                small_word x.statements.count (omega arith),
                (
                  small_word u.statements.count (omega arith),
                  (
                    small_word r (omega arith),
                    (small_word x.operands.count (omega arith), (small_word x.operands.count (omega arith), (small_word u.attributes.count (omega arith), (small_word x.attributes.count (omega arith), tt)))),
                  ),
                ),
              ),
            ),
          );
        }

  -- a right-hand side
  module _ (u w : Tables) (st : Stated text (begin t) t u) (op : Operated (begin t) u w 1) where
    right_closing : Closing text t w (item_row right_hand_side (begin t up_to w.statements.count) u.statements.count 0 (u.operands.count up_to w.operands.count) (u.attributes.count up_to u.attributes.count))
    unfolding kind_ok middle_ok inside operand_spans attribute_spans infer_ok infers closing_ok closing_arity roots_ok item_words
    right_closing =
        let g = op.grown in
        let same : w.statements.count ≡ u.statements.count = g.statements in
        let ow = g.holds.operands_few in
        let ou = st.holds.operands_few in
        let su = st.holds.statements_few in
        let sw = g.holds.statements_few in
        let au = st.holds.attributes_few in
        let low = st.later.statements in
        let one : w.operands.count - u.operands.count ≡ 1 = let e = op.operands in omega arith in
        let none : u.attributes.count - u.attributes.count ≡ 0 = omega arith in
        record {
          later = later_than st.later g.later;
          holds = g.holds;
          rows = rows_later g.later same st.rows;
          items = g.items ∙ st.items;
          span = refl;
          kind = eq-eqb u.statements.count w.statements.count (sym same);
          operands =
              λ v l.
              own_behind (operands_of v) (begin t) u.statements.count w.statements.count low (omega arith) t.operands.count u.operands.count u.operands.count w.operands.count
              (st.operands v (later_than g.later l)) (no_rows (operands_of v) u.operands.count u.statements.count w.statements.count same) g.later.operands;
          attributes =
              λ v l.
              ends_at t.attributes.count u.attributes.count w.attributes.count
              (along (attributes_of v) (begin t up_to u.statements.count) ++ ((u.attributes.count up_to u.attributes.count) ∷ along (attributes_of v) (u.statements.count up_to w.statements.count))) (sym op.attributes)
              (own_between (attributes_of v) (begin t) u.statements.count w.statements.count low (omega arith) t.attributes.count u.attributes.count u.attributes.count u.attributes.count
              (st.attributes v (later_than g.later l)) (omega arith)
              (no_rows (attributes_of v) u.attributes.count u.statements.count w.statements.count same));
          infers = λ v l. refl;
          closing =
              λ v l.
              and_both (eq-eqb _ _ one)
              (closing-operands (begin t) u.statements.count w.statements.count u.operands.count w.operands.count v (sym same) (λ j a b. (op.args j a b).by v l));
          roots = λ v l. eq-eqb _ _ none;
          fit = (
            small_word 4 (omega arith),
            (
              small_word (begin t) (omega arith),
              (
                small_word w.statements.count (omega arith),
                (
                  small_word u.statements.count (omega arith),
                  (
                    small_word 0 (omega arith),
                    (small_word u.operands.count (omega arith), (small_word w.operands.count (omega arith), (small_word u.attributes.count (omega arith), (small_word u.attributes.count (omega arith), tt)))),
                  ),
                ),
              ),
            ),
          );
        }

  -- a replacement by infer and result
  module _ (u x y w : Tables) (st : Stated text (begin t) t u) (r : ℕ) (val : Value u st.rows r) (at : Attributed text demanded_bits_code harvested_from_use_code u x) (more : Stated text (begin t) x y) (op : Operated (begin t) y w 1) where
    both_closing : Closing text t w (item_row infer_result (begin t up_to w.statements.count) u.statements.count r (y.operands.count up_to w.operands.count) (u.attributes.count up_to x.attributes.count))
    unfolding kind_ok middle_ok inside operand_spans attribute_spans infer_ok infers closing_ok closing_arity roots_ok item_words
    both_closing =
        let g₁ = at.grown in
        let g₂ = op.grown in
        let middle : x.statements.count ≡ u.statements.count = g₁.statements in
        let same : w.statements.count ≡ y.statements.count = g₂.statements in
        let ow = g₂.holds.operands_few in
        let oy = more.holds.operands_few in
        let su = st.holds.statements_few in
        let sw = g₂.holds.statements_few in
        let au = st.holds.attributes_few in
        let ax = g₁.holds.attributes_few in
        let low = st.later.statements in
        let up = more.later.statements in
        let there = val.there in
        let on = later_than more.later g₂.later in
        let far = later_than g₁.later on in
        let one : w.operands.count - y.operands.count ≡ 1 = let e = op.operands in omega arith in
        let le : u.statements.count ≤ w.statements.count = omega arith in
        record {
          later = later_than st.later far;
          holds = g₂.holds;
          rows = rows_later g₂.later same more.rows;
          items = g₂.items ∙ more.items ∙ g₁.items ∙ st.items;
          span = refl;
          kind = and_both (le-leb (begin t) u.statements.count low) (le-leb u.statements.count w.statements.count le);
          operands =
              λ v l.
              own_behind (operands_of v) (begin t) u.statements.count w.statements.count low le t.operands.count u.operands.count y.operands.count w.operands.count
              (st.operands v (later_than far l))
              (told_by (operands_of v) x.operands.count u.operands.count y.operands.count x.statements.count u.statements.count y.statements.count w.statements.count at.operands middle (sym same) (more.operands v (later_than g₂.later l)))
              g₂.later.operands;
          attributes =
              λ v l.
              ends_at t.attributes.count y.attributes.count w.attributes.count
              (along (attributes_of v) (begin t up_to u.statements.count) ++ ((u.attributes.count up_to x.attributes.count) ∷ along (attributes_of v) (u.statements.count up_to w.statements.count))) (sym op.attributes)
              (own_between (attributes_of v) (begin t) u.statements.count w.statements.count low le t.attributes.count u.attributes.count x.attributes.count y.attributes.count
              (st.attributes v (later_than far l)) g₁.later.attributes
              (told_by (attributes_of v) x.attributes.count x.attributes.count y.attributes.count x.statements.count u.statements.count y.statements.count w.statements.count refl middle (sym same) (more.attributes v (later_than g₂.later l))));
          infers = λ v l. val.refers v (later_than far l);
          closing =
              λ v l.
              and_both (eq-eqb _ _ one)
              (closing-operands (begin t) y.statements.count w.statements.count y.operands.count w.operands.count v (sym same) (λ j a b. (op.args j a b).by v l));
          roots = λ v l. attributes-ok text demanded_bits_code harvested_from_use_code u.attributes.count x.attributes.count v (λ j a b. (at.ok j a b).by v (later_than on l));
          fit = (
            small_word 1 (omega arith),
            (
              small_word (begin t) (omega arith),
              (
                small_word w.statements.count (omega arith),
                (
                  small_word u.statements.count (omega arith),
                  (
                    small_word r (omega arith),
                    (small_word y.operands.count (omega arith), (small_word w.operands.count (omega arith), (small_word u.attributes.count (omega arith), (small_word x.attributes.count (omega arith), tt)))),
                  ),
                ),
              ),
            ),
          );
        }

  both_goes : (u : Tables) → Stated text (begin t) t u → (s : Stand) → Sits text s → Closes text (Itemed text t) (R.infer_and_result u.statements.count (world text (begin t) s u))
  unfolding R.infer_and_result asks
  both_goes u st s z =
      then-closes _ (infer_goes u st.holds st.rows s z) (λ r s₁ x z₁ q.
      then-closes _ (statements_goes short x q.1.grown.holds (rows_later q.1.grown.later q.1.grown.statements st.rows) s₁ z₁) (λ y₂ s₂ y z₂ more.
      result-closes y more.holds more.rows infer_result u.statements.count r (u.attributes.count up_to x.attributes.count) (λ w op. both_closing u x y w st r q.0 q.1 more op) s₂ z₂))

  module _ (hd : Holds t) where
    no_statements : Rows text (begin t) t
    no_statements = record { low = omega arith; row = λ i h k. absurd (let q : ⊥ = omega arith in q) }

    replacement_goes : (s : Stand) → Sits text s → Closes text (Itemed text t) (R.replacement (world text (begin t) s t))
    unfolding R.replacement asks
    replacement_goes s z =
        then-closes _ (statements_goes short t hd no_statements s z) (λ y₁ s₁ u z₁ st.
        read-closes _ (lookahead_ident-reads u s₁ z₁) (λ k s₂ z₂ q₂.
        either_closes (eqb k keyword.infer) _ _ (world text (begin t) s₂ u) (both_goes u st s₂ z₂) (cand_goes u st s₂ z₂)))

    left_goes : (s : Stand) → Sits text s → Closes text (Itemed text t) (R.left_side (world text (begin t) s t))
    unfolding R.left_side asks
    left_goes s z =
        then-closes _ (statements_goes short t hd no_statements s z) (λ y₁ s₁ u z₁ st.
        then-closes _ (infer_goes u st.holds st.rows s₁ z₁) (λ r s₂ x z₂ q.
        close_goes t x left_hand_side u.statements.count r (x.operands.count up_to x.operands.count) (u.attributes.count up_to x.attributes.count) (left-closing u x st r q.0 q.1) s₂ z₂))

    right_goes : (s : Stand) → Sits text s → Closes text (Itemed text t) (R.right_side (world text (begin t) s t))
    unfolding R.right_side asks
    right_goes s z =
        then-closes _ (statements_goes short t hd no_statements s z) (λ y₁ s₁ u z₁ st.
        result-closes u st.holds st.rows right_hand_side u.statements.count 0 (u.attributes.count up_to u.attributes.count) (λ w op. right_closing u w st op) s₁ z₁)

    pub item_goes : (e : Entry) (s : Stand) → Sits text s → Closes text (Itemed text t) (R.item_of e (world text (begin t) s t))
    unfolding R.item_of
    item_goes Replacements s z = replacement_goes s z
    item_goes LeftHandSides s z = left_goes s z
    item_goes RightHandSides s z = right_goes s z
