-- Right sides: what a statement's row says of its right side is what the reading by names gives.
-- Assumes nothing.
use Prim.Native.Nat.{ℕ, ◌+◌, ◌-◌, ◌≤◌, ◌<◌}
use mathlib.Core.Path.{◌≡◌, refl, sym, ap, ◌∙◌, subst}
use mathlib.Core.Bool.{true, false, cond, true≢false}
use mathlib.Core.List.{List}
use native.Mathlib.Omega.{arith}
use borrow.Author.Tests.{eqb-true, ne_eqb, ltb-true}
use lib.Dec.{eqb, ltb}
use lib.ListN.{drop}
use Rattle.rules.specs.declared.Spot.{Spot}
use Rattle.rules.specs.declared.Span.{Span}
use Rattle.rules.specs.declared.Side.{Side}
use Rattle.rules.specs.declared.Statement.{Statement}
use Rattle.rules.specs.Faults as fault
use Rattle.rules.specs.Keywords as keyword
use Rattle.rules.specs.Tokens as kind
use Rattle.rules.specs.Instructions.{instruction_of, arity_of, keyword_of}
use Rattle.rules.specs.Rows.{◌up_to◌, statement_at, name_at, keyword_code}
use Rattle.rules.specs.Syntax as syntax
use Rattle.rules.specs.View.{each, along, as_side}
use Rattle.rules.specs.World.{World, Stand, Tables, Res, P, go, stop, bind, asks}
use Rattle.rules.specs.Reading as rows
use Rattle.rules.specs.Reading.{letters, side}
use Rattle.laws.proofs.Cases.{by_cases}
use Rattle.bynames.proofs.WellFormed.{is_block, block_size}
use Rattle.bynames.proofs.Tokens.{Next, bad}
use Rattle.bynames.proofs.Moves.{token_some}
use Rattle.bynames.proofs.Reader as names
use Rattle.bynames.proofs.Reader.{State}
use Rattle.simulation.proofs.Stable.{Sized, Later, later_than, name_stays, operand_in}
use Rattle.simulation.proofs.Together.{Both, goes, halts, seq, either}
use Rattle.simulation.proofs.Words.{keyword_same}
use Rattle.simulation.proofs.Tokens.{world, shown, state, past, Sits, Looks, sees, errs, look_looks, after, some_kind, taken-ahead, expected_ahead, not_expected}
use Rattle.simulation.proofs.Numbers.{field_both}
use Rattle.simulation.proofs.Scopes.{Scope, block_then}
use Rattle.simulation.proofs.Operands.{Grown, grown_same, after-operands, further_both, operands_both}

-- a row with a right side
abbrev pub side_row : Side → Span → ℕ → Span → Span → Statement
side_row x name width o a = record { code = x.code; name = name; width = width; number = x.number; block = x.block; operands = o; attributes = a }

-- what a right side's fields and rows o up to p of operands say, in some tables and in all later ones
pub record SaysSide (text : List ℕ) (u : Tables) (x : Side) (o p : ℕ) (y : syntax.RightSide) : Type 0 where
  pub by : (v : Tables) → Later u v → (name : Span) (width : ℕ) (a : Span) → as_side text v.statements.words v.operands.words (side_row x name width (o up_to p) a) ≡ y
  -- it is an assignment's
  pub no_pc : eqb x.code (keyword_code keyword.pc) ≡ false
  pub no_blockpc : eqb x.code (keyword_code keyword.blockpc) ≡ false
  pub block : eqb x.code (keyword_code keyword.block) ≡ is_block y
  pub size : is_block y ≡ true → x.number ≡ block_size y

-- rows o up to o + n
pub along-rows : {X : Type 0} (see : ℕ → X) (o n p : ℕ) → p ≡ o + n → along see (o up_to p) ≡ each see o n
along-rows see o n p e = let k : p - o ≡ n = omega arith in rw k refl

module _ (text : List ℕ) (f : ℕ) (t : Tables) (l : List syntax.Statement) where
  pub data Sided : Side → World → syntax.RightSide → State → Type 0 where
    sided : (x : Side) (s : Stand) (u : Tables) (y : syntax.RightSide) → Sits text s → Grown t u → SaysSide text u x t.operands.count u.operands.count y → Sided x (world text f s u) y (state text l s)

  pub after-side : {X Y : Type 0} {Z : X → World → Y → State → Type 0} {m : Res Side} {n : names.Res syntax.RightSide} (F : Side → P X) (G : syntax.RightSide → names.P Y) → Both Sided m n
      → ((x : Side) (s : Stand) (u : Tables) (y : syntax.RightSide) → Sits text s → Grown t u → SaysSide text u x t.operands.count u.operands.count y → Both Z (F x (world text f s u)) (G y (state text l s)))
      → Both Z (bind m F) (names.bind n G)
  after-side {Z = Z} F G b k = seq F G b on
    where
      on : (x : Side) (w : World) (y : syntax.RightSide) (a : State) → Sided x w y a → Both Z (F x w) (G y a)
      on x w y a (sided x' s u y' z g h) = k x' s u y' z g h

  module _ (zd : Sized t) (sc : Scope text f t l) (s : Stand) (some : eqb s.ahead.kind 0 ≡ false) where
    sits_past : Sits text (past s)
    sits_past = token_some (drop s.at text)

    plain_both : (k : ℕ) (y : syntax.RightSide) → SaysSide text t (side (keyword_code k) 0 0) t.operands.count t.operands.count y → Both Sided (rows.plain_side k (world text f s t)) (names.go y (state text l (past s)))
    unfolding rows.plain_side
    plain_both k y h = rw (taken-ahead text f t s some) (goes _ _ _ _ (sided (side (keyword_code k) 0 0) (past s) t y sits_past (grown_same zd) h))

    block_both : Both Sided (rows.block_side (world text f s t)) (names.◌>>=◌ (names.field 32) (λ k. names.give (syntax.block k)) (state text l (past s)))
    unfolding rows.block_side as_side
    block_both =
        rw (taken-ahead text f t s some)
        (after text f t l _ _ (field_both text f t l 32 (past s) sits_past) (λ n v y h.
        goes _ _ _ _ (sided (side 61 n 0) v t (syntax.block n) y (grown_same zd) (record { by = λ u k name width a. refl; no_pc = refl; no_blockpc = refl; block = refl; size = λ q. refl }))))

    phi_both : Both Sided (rows.phi_side (world text f s t))
        (names.◌>>=◌ (names.expect kind.val_name) (λ b. names.◌>>=◌ (names.blocked b) (λ n. names.◌>>=◌ (names.further n) (λ ys. names.give (syntax.phi b ys)))) (state text l (past s)))
    unfolding rows.phi_side as_side asks
    phi_both =
        rw (taken-ahead text f t s some)
        (block_then text f t l sc _ _ (past s) sits_past (λ r v y h.
        after-operands text f l _ _ (further_both text f l (statement_at t.statements.words r).number t zd sc v y) (λ v₁ u ys y₁ g c q.
        goes _ _ _ _
        (sided (side 62 0 r) v₁ u (syntax.phi (name_at text t.statements.words r) ys) y₁ g
        (record {
          by =
              λ w k name width a i.
              syntax.phi (name_stays text (later_than g.later k) r h i) ((along-rows (operand_in text w) t.operands.count (statement_at t.statements.words r).number u.operands.count c ∙ q.by w k) i);
          no_pc = refl;
          no_blockpc = refl;
          block = refl;
          size = λ e. absurd (true≢false (sym e));
        })))))

    instruction_both : (i : ℕ) → i < 59 → Both Sided (rows.instruction_side i (world text f s t)) (names.◌>>=◌ (names.operands (arity_of i)) (λ ys. names.give (syntax.instruction i ys)) (state text l (past s)))
    unfolding rows.instruction_side as_side
    instruction_both i h =
        rw (taken-ahead text f t s some)
        (after-operands text f l _ _ (operands_both text f l (arity_of i) t zd sc (past s) sits_past) (λ v₁ u ys y₁ g c q.
        goes _ _ _ _
        (sided (side (i + 1) 0 0) v₁ u (syntax.instruction i ys) y₁ g
        (record {
          by =
              λ w k name width a.
              let e : i + 1 - 1 ≡ i = omega arith in
              rw (other 60 (omega arith), other 61 (omega arith), other 62 (omega arith), other 63 (omega arith), other 64 (omega arith), e) (ap (syntax.instruction i) (along-rows (operand_in text w) t.operands.count (arity_of i) u.operands.count c ∙ q.by w k));
          no_pc = other 65 (omega arith);
          no_blockpc = other 66 (omega arith);
          block = other 61 (omega arith);
          size = λ e. absurd (true≢false (sym e));
        }))))
      where
        other : (k : ℕ) → 60 ≤ k → eqb (i + 1) k ≡ false
        other k = λ q. ne_eqb (i + 1) k (omega arith)

  module _ (zd : Sized t) (sc : Scope text f t l) where
    -- behind an identifier that was looked at
    word_both : (v : Stand) → eqb v.ahead.kind kind.ident ≡ true → Both Sided (rows.side_of (rows.keyword_at text v.ahead) (rows.instruction_at text v.ahead) (world text f v t)) (names.right_side (state text l v))
    unfolding rows.side_of rows.keyword_at rows.instruction_at names.right_side as_side
    word_both v e =
        let w : List ℕ = letters text v.ahead in
        let some : eqb v.ahead.kind 0 ≡ false = some_kind kind.ident v (omega arith) e in
        rw (expected_ahead text l kind.ident v (omega arith) e, e, ← keyword_same 0 (omega arith) w, ← keyword_same 1 (omega arith) w, ← keyword_same 2 (omega arith) w, ← keyword_same 3 (omega arith) w, ← keyword_same 4 (omega arith) w)
        (arms (keyword_of w) (instruction_of w) some)
      where
        plain : (k i : ℕ) → eqb k i ≡ true → (y : syntax.RightSide) → eqb v.ahead.kind 0 ≡ false → SaysSide text t (side (keyword_code i) 0 0) t.operands.count t.operands.count y
            → Both Sided (rows.plain_side k (world text f v t)) (names.go y (state text l (past v)))
        plain k i q y some h = rw (eqb-true k i q) (plain_both zd sc v some i y h)

        arms : (k i : ℕ) → eqb v.ahead.kind 0 ≡ false
            → Both Sided
            (cond (eqb k keyword.var) (rows.plain_side k)
            (cond (eqb k keyword.block) rows.block_side
            (cond (eqb k keyword.phi) rows.phi_side
            (cond (eqb k keyword.reservedinst) (rows.plain_side k)
            (cond (eqb k keyword.reservedconst) (rows.plain_side k)
            (cond (ltb i 59) (rows.instruction_side i) (λ w. stop fault.token w.stand.last)))))) (world text f v t))
            (cond (eqb k 0) (names.give syntax.var)
            (cond (eqb k 1) (names.◌>>=◌ (names.field 32) (λ k. names.give (syntax.block k)))
            (cond (eqb k 2) (names.◌>>=◌ (names.expect kind.val_name) (λ b. names.◌>>=◌ (names.blocked b) (λ n. names.◌>>=◌ (names.further n) (λ ys. names.give (syntax.phi b ys)))))
            (cond (eqb k 3) (names.give syntax.reservedinst)
            (cond (eqb k 4) (names.give syntax.reservedconst)
            (cond (ltb i 59) (names.◌>>=◌ (names.operands (arity_of i)) (λ ys. names.give (syntax.instruction i ys))) names.refuse))))) (state text l (past v)))
        arms k i some =
            either (eqb k 0) _ _ _ _ (world text f v t) (state text l (past v)) (λ q. plain k 0 q syntax.var some (record { by = λ u k name width a. refl; no_pc = refl; no_blockpc = refl; block = refl; size = λ q. absurd (true≢false (sym q)) })) (λ q₀.
            either (eqb k 1) _ _ _ _ (world text f v t) (state text l (past v)) (λ q. block_both zd sc v some) (λ q₁.
            either (eqb k 2) _ _ _ _ (world text f v t) (state text l (past v)) (λ q. phi_both zd sc v some) (λ q₂.
            either (eqb k 3) _ _ _ _ (world text f v t) (state text l (past v)) (λ q. plain k 3 q syntax.reservedinst some (record { by = λ u k name width a. refl; no_pc = refl; no_blockpc = refl; block = refl; size = λ q. absurd (true≢false (sym q)) })) (λ q₃.
            either (eqb k 4) _ _ _ _ (world text f v t) (state text l (past v)) (λ q. plain k 4 q syntax.reservedconst some (record { by = λ u k name width a. refl; no_pc = refl; no_blockpc = refl; block = refl; size = λ q. absurd (true≢false (sym q)) })) (λ q₄.
            either (ltb i 59) _ _ _ _ (world text f v t) (state text l (past v)) (λ q. instruction_both zd sc v some i (ltb-true i 59 q)) (λ q₅. halts fault.token _))))))

    -- behind anything else there is none
    no_word : (v : Stand) → eqb v.ahead.kind kind.ident ≡ false → (at : ℕ)
        → Both Sided (rows.side_of (rows.keyword_at text v.ahead) (rows.instruction_at text v.ahead) (world text f v t)) (names.right_side (record { scope = l; next = shown text v.ahead at }))
    unfolding rows.side_of rows.keyword_at rows.instruction_at names.right_side
    no_word v q at = rw (q, not_expected text l kind.ident v.ahead at q) (halts fault.token _)

    bad_word : names.right_side (record { scope = l; next = bad }) ≡ names.stop
    unfolding names.right_side names.expect
    bad_word = refl

    pub side_both : (s : Stand) → Sits text s → Both Sided (rows.assignment_rhs (world text f s t)) (names.right_side (state text l s))
    unfolding rows.assignment_rhs asks
    side_both s z = by (look_looks text f t s)
      where
        by : {m : Res Spot} → Looks text f t s m
            → Both Sided (bind m (λ x w. bind (go (rows.keyword_at w.text x) w) (λ k w₁. bind (go (rows.instruction_at w₁.text x) w₁) (λ i. rows.side_of k i)))) (names.right_side (state text l s))
        by (sees v e h) =
            by_cases (eqb v.ahead.kind kind.ident)
            (λ q. subst (λ (n : Next). Both Sided (rows.side_of (rows.keyword_at text v.ahead) (rows.instruction_at text v.ahead) (world text f v t)) (names.right_side (record { scope = l; next = n }))) e (word_both v q))
            (λ q. subst (λ (n : Next). Both Sided (rows.side_of (rows.keyword_at text v.ahead) (rows.instruction_at text v.ahead) (world text f v t)) (names.right_side (record { scope = l; next = n }))) (sym h) (no_word v q v.at))
        by (errs p e) = rw (e, bad_word) (halts fault.lexer p)
