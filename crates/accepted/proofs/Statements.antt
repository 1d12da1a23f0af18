-- Statements: each row that is claimed is a well-formed statement, and owns the operands and attributes that were claimed for it.
-- Assumes nothing.
use Prim.Native.Nat.{ℕ, ◌+◌, ◌-◌, ◌^◌, ◌≤◌, ◌<◌}
use mathlib.Core.Path.{◌≡◌, refl, sym, ap, ◌∙◌, subst}
use mathlib.Core.Bool.{true, false, not, true≢false}
use mathlib.Core.List.{List, []}
use native.Mathlib.Omega.{arith}
use borrow.Author.Tests.{eq-eqb, le-leb}
use lib.Dec.{eqb}
use lib.ListN.{length}
use Rattle.rules.specs.declared.Spot.{Spot}
use Rattle.rules.specs.declared.Span.{Span}
use Rattle.rules.specs.declared.Side.{Side}
use Rattle.rules.specs.declared.Statement.{Statement}
use Rattle.rules.specs.Bytes.{inside, same}
use Rattle.rules.specs.Keywords as keyword
use Rattle.rules.specs.Tokens as kind
use Rattle.rules.specs.Rows.{◌up_to◌, letters_of, name_at, statement_at, statement_words, known_bits_code, range_code, operand_at, attribute_at}
use Rattle.rules.specs.WellFormed.{name_in, no_span, new_name, is_assignment, is_instruction, is_condition, name_ok, width_fits, width_ok, number_ok, has_block, block_ok, arity, operand_ok, operands_ok, operands_fit, attribute_ok, attributes_ok, attributes_fit, statement_ok}
use Rattle.rules.specs.World.{Stand, Tables, asks, claim_statement}
use Rattle.rules.specs.Reading as R
use Rattle.rules.specs.Reading.{letters}
use Rattle.laws.proofs.Ranges.{inside_yes}
use Rattle.reading.proofs.Parts.{assignment_row, condition_row}
use Rattle.wellformed.proofs.Along.{passes_along}
use Rattle.simulation.proofs.Tokens.{world}
use Rattle.simulation.proofs.Stable.{Later, later_same, later_than, with_statement, statement_sized, statement_later, statement_stays, name_stays}
use Rattle.accepted.proofs.Padding.{and_both, Fit, fit_append}
use Rattle.accepted.proofs.Letters.{name_is}
use Rattle.accepted.proofs.Going.{Sits, Goes, after, then, either, claims, look_reads, token-reads, expect-reads}
use Rattle.accepted.proofs.Numbers.{typing-reads, field-reads}
use Rattle.accepted.proofs.Scope.{Fine, Rows, rows_later, New, name-reads, block_reads}
use Rattle.accepted.proofs.Operands.{Holds, Grown, grown_more, arg_ok, Operated, more_operated, operand_goes, small_word}
use Rattle.accepted.proofs.Attributes.{att_ok, Attributed, attributes_goes}
use Rattle.accepted.proofs.Sides.{Sided, side_goes}

-- a statement was claimed: it is well formed, and owns what was claimed since
pub record Entered (text : List ℕ) (f : ℕ) (t u : Tables) : Type 0 where
  pub later : Later t u
  pub holds : Holds u
  pub statements : u.statements.count ≡ t.statements.count + 1
  pub items : u.items.count ≡ t.items.count
  pub fine : Fine text f u t.statements.count
  pub operands : (v : Tables) → Later u v → (statement_at v.statements.words t.statements.count).operands ≡ t.operands.count up_to u.operands.count
  pub attributes : (v : Tables) → Later u v → (statement_at v.statements.words t.statements.count).attributes ≡ t.attributes.count up_to u.attributes.count

statement-holds : (t : Tables) → Holds t → (r : Statement) → Fit (statement_words r) → t.statements.count < t.statements.cap → Holds (with_statement r t)
statement-holds t hd r fit room =
    let few = hd.statements_few in
    record {
      sized = statement_sized t hd.sized r;
      items = hd.items;
      statements = fit_append t.statements.words (statement_words r) hd.statements fit;
      operands = hd.operands;
      attributes = hd.attributes;
      statements_few = (omega arith, few.1);
      operands_few = hd.operands_few;
      attributes_few = hd.attributes_few;
    }

-- all operands and attributes of a span are so
pub operands-ok : (f c : ℕ) (o p : ℕ) (v : Tables) → ((j : ℕ) → o ≤ j → j < p → arg_ok f c v j ≡ true) → operands_ok v.statements.words v.operands.words f c (o up_to p) ≡ true
unfolding operands_ok
operands-ok f c o p v h = passes_along (λ i. operand_ok v.statements.words f c (operand_at v.operands.words i)) (o up_to p) h

pub attributes-ok : (text : List ℕ) (lo hi a e : ℕ) (v : Tables) → ((j : ℕ) → a ≤ j → j < e → att_ok text lo hi v j ≡ true) → attributes_ok text v.attributes.words lo hi (a up_to e) ≡ true
unfolding attributes_ok
attributes-ok text lo hi a e v h = passes_along (λ i. attribute_ok text lo hi (attribute_at v.attributes.words i)) (a up_to e) h

module _ (t w : Tables) (g : Grown t w) where
  stays : (r : Statement) (v : Tables) → Later (with_statement r w) v → statement_at v.statements.words t.statements.count ≡ r
  stays r v l = subst (λ (c : ℕ). statement_at v.statements.words c ≡ r) g.statements (statement_stays w g.holds.sized v r l)

module _ {text : List ℕ} {f : ℕ} (t w : Tables) (g : Grown t w) where
  claimed : (r : Statement) → r.operands ≡ t.operands.count up_to w.operands.count → r.attributes ≡ t.attributes.count up_to w.attributes.count
      → ((v : Tables) → Later (with_statement r w) v → statement_at v.statements.words t.statements.count ≡ r → statement_ok text v.statements.words v.operands.words v.attributes.words f t.statements.count r ≡ true)
      → (is_assignment r.code ≡ false → letters_of text r.name ≡ []) → Fit (statement_words r) → (s : Stand) → Sits text s → Goes text f (λ x u. Entered text f t u) (claim_statement r (world text f s w))
  unfolding claim_statement name_at
  claimed r ro ra ok unnamed fit s z =
      claims w.statements (with_statement r w) s (world text f s w) z (λ room.
      let c = g.statements in
      let now = stays t w g r (with_statement r w) (later_same _) in
      record {
        later = later_than g.later (statement_later w g.holds.sized r);
        holds = statement-holds w g.holds r fit room;
        statements = omega arith;
        items = g.items;
        fine =
            record {
              there = omega arith;
              ok = λ v l. let here = stays t w g r v l in rw here (ok v l here);
              unnamed = λ e. ap (λ (x : Statement). letters_of text x.name) now ∙ unnamed (ap (λ (x : Statement). is_assignment x.code) (sym now) ∙ e);
            };
        operands = λ v l. ap (λ (x : Statement). x.operands) (stays t w g r v l) ∙ ro;
        attributes = λ v l. ap (λ (x : Statement). x.attributes) (stays t w g r v l) ∙ ra;
      })

-- ---- assignments
small_place : (n : ℕ) (text : List ℕ) → length text ≤ 65536 → n ≤ length text → n < 2 ^ 32
small_place n text h l = omega arith

new_ok : (text : List ℕ) (f : ℕ) (t : Tables) (x : Spot) → ((i : ℕ) → f ≤ i → i < t.statements.count → same (name_at text t.statements.words i) (letters text x) ≡ false)
    → (v : Tables) → Later t v → name_at text v.statements.words t.statements.count ≡ letters text x → new_name text v.statements.words f t.statements.count ≡ true
unfolding new_name
new_ok text f t x new v l here =
    passes_along (λ k. not (same (name_at text v.statements.words k) (name_at text v.statements.words t.statements.count))) (f up_to t.statements.count)
    (λ k a b.
    ap (λ (m : List ℕ). not (same m (name_at text v.statements.words t.statements.count))) (name_stays text l k b)
    ∙ ap (λ (m : List ℕ). not (same (name_at text t.statements.words k) m)) here
    ∙ ap not (new k a b))

module _ {text : List ℕ} {f : ℕ} (short : length text ≤ 65536) (t : Tables) (hd : Holds t) (rs : Rows text f t) where
  module _ (x : Spot) (n : New t rs x) (width : ℕ) (wide : width ≤ 65535) (r : Side) (u : Tables) (sd : Sided f t r u) (w : Tables) (at : Attributed text known_bits_code range_code u w) where
    abbrev row : Statement
    row = assignment_row x width r (t.operands.count up_to u.operands.count) (u.attributes.count up_to w.attributes.count)

    assigned_later : Later t w
    assigned_later = later_than sd.operated.grown.later at.grown.later

    assignment-ok : (v : Tables) → Later (with_statement row w) v → statement_at v.statements.words t.statements.count ≡ row → statement_ok text v.statements.words v.operands.words v.attributes.words f t.statements.count row ≡ true
    unfolding statement_ok name_ok width_ok width_fits operands_fit attributes_fit name_in name_at
    assignment-ok v l here =
        let is = sd.assigns in
        let on = later_than (statement_later w at.grown.holds.sized row) l in
        let far = later_than assigned_later on in
        let many = sd.operated.operands in
        let name : name_at text v.statements.words t.statements.count ≡ letters text x = ap (λ (y : Statement). letters_of text y.name) here in
        let long : u.operands.count - t.operands.count ≡ arity v.statements.words row = let e = sd.takes v far x width (t.operands.count up_to u.operands.count) (u.attributes.count up_to w.attributes.count) in omega (arith, e) in
        let code_ok : inside 1 66 r.code ≡ true = inside_yes 1 66 r.code sd.low (let h = sd.high in omega arith) in
        let name-ok : name_ok text v.statements.words f t.statements.count row ≡ true =
        rw is (and_both (and_both (le-leb x.past (length text) n.word.inside) (name_is (letters text x) (n.word.told.named n.kind))) (new_ok text f t x n.new v far name)) in
        let width_ok_lem : width_ok row ≡ true = rw is (le-leb width 65535 wide) in
        let args_ok : operands_fit v.statements.words v.operands.words f t.statements.count row ≡ true =
        and_both (eq-eqb _ _ long) (operands-ok f t.statements.count t.operands.count u.operands.count v (λ j a b. (sd.operated.args j a b).by v (later_than at.grown.later on))) in
        let atts-ok : attributes_fit text v.attributes.words row ≡ true =
        rw is (attributes-ok text known_bits_code range_code u.attributes.count w.attributes.count v (λ j a b. (at.ok j a b).by v on)) in
        and_both code_ok
        (and_both name-ok
        (and_both width_ok_lem
        (and_both (sd.numbers x width (t.operands.count up_to u.operands.count) (u.attributes.count up_to w.attributes.count))
        (and_both (sd.blocks v far x width (t.operands.count up_to u.operands.count) (u.attributes.count up_to w.attributes.count)) (and_both args_ok atts-ok)))))

    assignment-fits : Fit (statement_words row)
    unfolding statement_words
    assignment-fits =
        let some = n.word.some in
        let in-text = n.word.inside in
        let high = sd.high in
        let block = sd.block in
        let ou = sd.operated.grown.holds.operands_few in
        let ot = hd.operands_few in
        let au = sd.operated.grown.holds.attributes_few in
        let aw = at.grown.holds.attributes_few in (
          small_word r.code (omega arith),
          (
            small_word x.first (omega arith),
            (
              small_word x.past (omega arith),
              (
                small_word width (omega arith),
                (
                  sd.number,
                  (
                    small_word r.block block,
                    (small_word t.operands.count (omega arith), (small_word u.operands.count (omega arith), (small_word u.attributes.count (omega arith), (small_word w.attributes.count (omega arith), tt)))),
                  ),
                ),
              ),
            ),
          ),
        )

  assignment_goes : (s : Stand) → Sits text s → Goes text f (λ x u. Entered text f t u) (R.assignment (world text f s t))
  unfolding R.assignment asks
  assignment_goes s z =
      after _ (name-reads t rs s z) (λ x v y n.
      after _ (typing-reads t v y) (λ width v₁ y₁ wide.
      after _ (expect-reads t kind.equals v₁ y₁) (λ x₂ v₂ y₂ q₂.
      then _ (side_goes t hd rs v₂ y₂) (λ r v₃ u y₃ sd.
      then _ (attributes_goes short u sd.operated.grown.holds v₃ y₃) (λ x₄ v₄ w y₄ at.
      claimed t w (grown_more sd.operated.grown at.grown) (row x n width wide r u sd w at)
      (ap (λ (k : ℕ). t.operands.count up_to k) (sym at.operands))
      (ap (λ (k : ℕ). k up_to w.attributes.count) sd.operated.attributes)
      (assignment-ok x n width wide r u sd w at)
      (λ e. absurd (true≢false (sym sd.assigns ∙ e)))
      (assignment-fits x n width wide r u sd w at) v₄ y₄)))))

  -- ---- conditions
  module _ (code n b : ℕ) (c : inside 1 66 code ≡ true) (few : code ≤ 66) (not-one : is_assignment code ≡ false) (number : (o : Span) (a : ℕ) → number_ok (condition_row code n b o a) ≡ true)
      (block : (v : Tables) → Later t v → (o : Span) (a : ℕ) → block_ok v.statements.words f t.statements.count (condition_row code n b o a) ≡ true)
      (two : (S : List ℕ) (o : Span) (a : ℕ) → arity S (condition_row code n b o a) ≡ 2) (nf : n < 2 ^ 32) (bf : b ≤ 65536) where
    condition-ok : (w : Tables) → Operated f t w 2 → (v : Tables) → Later w v → statement_ok text v.statements.words v.operands.words v.attributes.words f t.statements.count (condition_row code n b (t.operands.count up_to w.operands.count) w.attributes.count) ≡ true
    unfolding statement_ok name_ok width_ok no_span operands_fit attributes_fit
    condition-ok w op v l =
        let many = op.operands in
        let o = t.operands.count up_to w.operands.count in
        let long : w.operands.count - t.operands.count ≡ arity v.statements.words (condition_row code n b (t.operands.count up_to w.operands.count) w.attributes.count) =
        let e = two v.statements.words (t.operands.count up_to w.operands.count) w.attributes.count in omega (arith, e) in
        let none : w.attributes.count - w.attributes.count ≡ 0 = omega arith in
        let name-ok : name_ok text v.statements.words f t.statements.count (condition_row code n b (t.operands.count up_to w.operands.count) w.attributes.count) ≡ true = rw not-one refl in
        let width_ok_lem : width_ok (condition_row code n b (t.operands.count up_to w.operands.count) w.attributes.count) ≡ true = rw not-one refl in
        let args_ok : operands_fit v.statements.words v.operands.words f t.statements.count (condition_row code n b (t.operands.count up_to w.operands.count) w.attributes.count) ≡ true =
        and_both (eq-eqb _ _ long) (operands-ok f t.statements.count t.operands.count w.operands.count v (λ j a b. (op.args j a b).by v l)) in
        let atts-ok : attributes_fit text v.attributes.words (condition_row code n b (t.operands.count up_to w.operands.count) w.attributes.count) ≡ true = rw not-one (eq-eqb _ _ none) in
        and_both c
        (and_both name-ok
        (and_both width_ok_lem
        (and_both (number o w.attributes.count)
        (and_both (block v (later_than op.grown.later l) o w.attributes.count) (and_both args_ok atts-ok)))))

    condition-fits : (w : Tables) → Operated f t w 2 → Fit (statement_words (condition_row code n b (t.operands.count up_to w.operands.count) w.attributes.count))
    unfolding statement_words
    condition-fits w op =
        let ot = hd.operands_few in
        let ow = op.grown.holds.operands_few in
        let aw = op.grown.holds.attributes_few in (
          small_word code (omega arith),
          (
            small_word 0 (omega arith),
            (
              small_word 0 (omega arith),
              (
                small_word 0 (omega arith),
                (
                  nf,
                  (
                    small_word b bf,
                    (small_word t.operands.count (omega arith), (small_word w.operands.count (omega arith), (small_word w.attributes.count (omega arith), (small_word w.attributes.count (omega arith), tt)))),
                  ),
                ),
              ),
            ),
          ),
        )

    condition_goes : (s : Stand) → Sits text s → Goes text f (λ x u. Entered text f t u) (R.condition code n b (world text f s t))
    unfolding R.condition asks
    condition_goes s z =
        then _ (operand_goes t hd rs s z) (λ x₁ v₁ u y₁ o.
        then _ (operand_goes u o.grown.holds (rows_later o.grown.later o.grown.statements rs) v₁ y₁) (λ x₂ v₂ w y₂ p.
        let op : Operated f t w 2 = more_operated o p refl in
        claimed t w op.grown (condition_row code n b (t.operands.count up_to w.operands.count) w.attributes.count)
        refl
        (ap (λ (k : ℕ). k up_to w.attributes.count) op.attributes)
        (λ v l here. condition-ok w op v (later_than (statement_later w op.grown.holds.sized _) l))
        (λ e. refl)
        (condition-fits w op) v₂ y₂))

  pc_goes : (s : Stand) → Sits text s → Goes text f (λ x u. Entered text f t u) (R.pc (world text f s t))
  unfolding R.pc inside is_assignment number_ok block_ok has_block arity is_instruction is_condition
  pc_goes s z =
      after _ (token-reads t s z) (λ x v y q.
      condition_goes 65 0 0 refl (omega arith) refl (λ o a. refl) (λ u l o a. refl) (λ S o a. refl) (omega arith) (omega arith) v y)

  blockpc_goes : (s : Stand) → Sits text s → Goes text f (λ x u. Entered text f t u) (R.blockpc (world text f s t))
  unfolding R.blockpc inside is_assignment number_ok block_ok has_block arity is_instruction is_condition
  blockpc_goes s z =
      let few = hd.statements_few in
      after _ (token-reads t s z) (λ x v y q.
      after _ (block_reads t rs v y) (λ b v₁ y₁ h.
      let there = h.there in
      after _ (field-reads t 32 v₁ y₁) (λ n v₂ y₂ nf.
      condition_goes 66 n b refl (omega arith) refl (λ o a. refl) (λ u l o a. h.refers u l) (λ S o a. refl) nf (omega arith) v₂ y₂)))

  pub statement_goes : (s : Stand) → Sits text s → Goes text f (λ x u. Entered text f t u) (R.statement (world text f s t))
  unfolding R.statement asks
  statement_goes s z =
      after _ (look_reads t s z) (λ x v y q.
      either (eqb x.kind kind.val_name) _ _ (world text f v t)
      (λ e. assignment_goes v y)
      (λ e.
      either (eqb (R.keyword_at text x) keyword.pc) _ _ (world text f v t)
      (λ e₁. pc_goes v y)
      (λ e₁. blockpc_goes v y)))
