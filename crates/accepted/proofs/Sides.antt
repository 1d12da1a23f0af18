-- Right sides: their code is an assignment's, and number, block and operands are what the code wants.
-- Assumes nothing.
use Prim.Native.Nat.{ℕ, ◌+◌, ◌-◌, ◌^◌, ◌≤◌, ◌<◌}
use mathlib.Core.Path.{◌≡◌, refl, sym, ap, subst}
use mathlib.Core.Bool.{true, false}
use mathlib.Core.List.{List}
use native.Mathlib.Omega.{arith}
use borrow.Author.Tests.{eqb-true, ne_eqb, ltb-true}
use lib.Dec.{eqb, ltb}
use Rattle.rules.specs.declared.Spot.{Spot}
use Rattle.rules.specs.declared.Span.{Span}
use Rattle.rules.specs.declared.Side.{Side}
use Rattle.rules.specs.declared.Statement.{Statement}
use Rattle.rules.specs.Bytes.{inside}
use Rattle.rules.specs.Instructions.{arity_of}
use Rattle.rules.specs.Keywords as keyword
use Rattle.rules.specs.Rows.{statement_at, keyword_code, instruction_code}
use Rattle.rules.specs.WellFormed.{is_assignment, is_instruction, is_condition, has_block, number_ok, block_ok, arity}
use Rattle.rules.specs.World.{Stand, Tables, asks}
use Rattle.rules.specs.Reading as R
use Rattle.laws.proofs.Ranges.{inside_yes}
use Rattle.reading.proofs.Parts.{assignment_row}
use Rattle.simulation.proofs.Tokens.{world}
use Rattle.simulation.proofs.Stable.{Later}
use Rattle.accepted.proofs.Going.{Sits, Goes, goes, stops, after, then, either, look_reads, token-reads}
use Rattle.accepted.proofs.Numbers.{field-reads}
use Rattle.accepted.proofs.Scope.{Rows, block_reads}
use Rattle.accepted.proofs.Operands.{Holds, Operated, none_operated, further_goes, operands_goes}

pub record Sided (f : ℕ) (t : Tables) (r : Side) (u : Tables) : Type 0 where
  pub many : ℕ
  pub operated : Operated f t u many
  pub assigns : is_assignment r.code ≡ true
  pub low : 1 ≤ r.code
  pub high : r.code ≤ 64
  pub number : r.number < 2 ^ 32
  pub block : r.block ≤ 65536
  pub numbers : (x : Spot) (width : ℕ) (o a : Span) → number_ok (assignment_row x width r o a) ≡ true
  pub blocks : (v : Tables) → Later t v → (x : Spot) (width : ℕ) (o a : Span) → block_ok v.statements.words f t.statements.count (assignment_row x width r o a) ≡ true
  pub takes : (v : Tables) → Later t v → (x : Spot) (width : ℕ) (o a : Span) → arity v.statements.words (assignment_row x width r o a) ≡ many

-- the code of an instruction
instruction_code_lem : (k : ℕ) → k < 59 → is_instruction (instruction_code k) ≡ true
unfolding is_instruction
instruction_code_lem k h = inside_yes 1 59 (k + 1) (omega arith) (omega arith)

assignment_code : (k : ℕ) → k < 59 → is_assignment (instruction_code k) ≡ true
unfolding is_assignment
assignment_code k h = inside_yes 1 64 (k + 1) (omega arith) (omega arith)

other_code : (k j : ℕ) → k < 59 → 59 < j → eqb (k + 1) j ≡ false
other_code k j h l = ne_eqb _ _ (λ (e : k + 1 ≡ j). omega arith)

module _ {text : List ℕ} {f : ℕ} (t : Tables) (hd : Holds t) (rs : Rows text f t) where
  -- var, reservedinst, reservedconst
  plain_sided : (k : ℕ) → is_assignment (keyword_code k) ≡ true → k ≤ 4 → ((x : Spot) (width : ℕ) (o a : Span) → number_ok (assignment_row x width (R.side (keyword_code k) 0 0) o a) ≡ true)
      → ((S : List ℕ) (c : ℕ) (x : Spot) (width : ℕ) (o a : Span) → block_ok S f c (assignment_row x width (R.side (keyword_code k) 0 0) o a) ≡ true)
      → ((S : List ℕ) (x : Spot) (width : ℕ) (o a : Span) → arity S (assignment_row x width (R.side (keyword_code k) 0 0) o a) ≡ 0) → (s : Stand) → Sits text s → Goes text f (Sided f t) (R.plain_side k (world text f s t))
  unfolding R.plain_side
  plain_sided k is few n b ar s z =
      after _ (token-reads t s z) (λ x v y q.
      goes _ v t y
      (record {
        many = 0;
        operated = none_operated hd;
        assigns = is;
        low = omega arith;
        high = omega arith;
        number = omega arith;
        block = omega arith;
        numbers = n;
        blocks = λ u l. b u.statements.words t.statements.count;
        takes = λ u l. ar u.statements.words;
      }))

  plain_goes : (k j : ℕ) → eqb k j ≡ true → ((s : Stand) → Sits text s → Goes text f (Sided f t) (R.plain_side j (world text f s t))) → (s : Stand) → Sits text s → Goes text f (Sided f t) (R.plain_side k (world text f s t))
  plain_goes k j e h s z = subst (λ (i : ℕ). Goes text f (Sided f t) (R.plain_side i (world text f s t))) (sym (eqb-true k j e)) (h s z)

  block_goes : (s : Stand) → Sits text s → Goes text f (Sided f t) (R.block_side (world text f s t))
  unfolding R.block_side is_assignment inside number_ok block_ok has_block arity is_instruction is_condition
  block_goes s z =
      after _ (token-reads t s z) (λ x v y q.
      after _ (field-reads t 32 v y) (λ n v₁ y₁ h.
      goes _ v₁ t y₁
      (record {
        many = 0;
        operated = none_operated hd;
        assigns = refl;
        low = omega arith;
        high = omega arith;
        number = h;
        block = omega arith;
        numbers = λ x width o a. refl;
        blocks = λ u l x width o a. refl;
        takes = λ u l x width o a. refl;
      })))

  phi_goes : (s : Stand) → Sits text s → Goes text f (Sided f t) (R.phi_side (world text f s t))
  unfolding R.phi_side asks is_assignment inside number_ok block_ok has_block arity is_instruction is_condition
  phi_goes s z =
      let few = hd.statements_few in
      after _ (token-reads t s z) (λ x v y q.
      after _ (block_reads t rs v y) (λ b v₁ y₁ h.
      let there = h.there in
      then _ (further_goes (statement_at t.statements.words b).number t hd rs v₁ y₁) (λ x₂ v₂ u y₂ o.
      goes _ v₂ u y₂
      (record {
        many = (statement_at t.statements.words b).number;
        operated = o;
        assigns = refl;
        low = omega arith;
        high = omega arith;
        number = omega arith;
        block = omega arith;
        numbers = λ x width o a. refl;
        blocks = λ v l x width o a. h.refers v l;
        takes = λ v l x width o a. ap (λ (r : Statement). r.number) (l.statement b there);
      }))))

  instruction_goes : (k : ℕ) → k < 59 → (s : Stand) → Sits text s → Goes text f (Sided f t) (R.instruction_side k (world text f s t))
  unfolding R.instruction_side number_ok block_ok has_block arity
  instruction_goes k few s z =
      let is = instruction_code_lem k few in
      let block = other_code k 61 few (omega arith) in
      let phi = other_code k 62 few (omega arith) in
      let blockpc = other_code k 66 few (omega arith) in
      let back : k + 1 - 1 ≡ k = omega arith in
      after _ (token-reads t s z) (λ x v y q.
      then _ (operands_goes (arity_of k) t hd rs v y) (λ x₁ v₁ u y₁ o.
      goes _ v₁ u y₁
      (record {
        many = arity_of k;
        operated = o;
        assigns = assignment_code k few;
        low = omega arith;
        high = omega arith;
        number = omega arith;
        block = omega arith;
        numbers = λ x width o a. rw (block, blockpc) refl;
        blocks = λ v l x width o a. rw (phi, blockpc) refl;
        takes = λ v l x width o a. rw (is, back) refl;
      })))

  side_of_goes : (k i : ℕ) (s : Stand) → Sits text s → Goes text f (Sided f t) (R.side_of k i (world text f s t))
  unfolding R.side_of is_assignment inside number_ok block_ok has_block arity is_instruction is_condition
  side_of_goes k i s z =
      let w = world text f s t in
      either (eqb k keyword.var) _ _ w
      (λ e. plain_goes k 0 e (plain_sided 0 refl (omega arith) (λ x width o a. refl) (λ S c x width o a. refl) (λ S x width o a. refl)) s z)
      (λ e₁.
      either (eqb k keyword.block) _ _ w
      (λ e. block_goes s z)
      (λ e₂.
      either (eqb k keyword.phi) _ _ w
      (λ e. phi_goes s z)
      (λ e₃.
      either (eqb k keyword.reservedinst) _ _ w
      (λ e. plain_goes k 3 e (plain_sided 3 refl (omega arith) (λ x width o a. refl) (λ S c x width o a. refl) (λ S x width o a. refl)) s z)
      (λ e₄.
      either (eqb k keyword.reservedconst) _ _ w
      (λ e. plain_goes k 4 e (plain_sided 4 refl (omega arith) (λ x width o a. refl) (λ S c x width o a. refl) (λ S x width o a. refl)) s z)
      (λ e₅.
      either (ltb i 59) _ _ w
      (λ e. instruction_goes i (ltb-true i 59 e) s z)
      (λ e. stops _ _))))))

  pub side_goes : (s : Stand) → Sits text s → Goes text f (Sided f t) (R.assignment_rhs (world text f s t))
  unfolding R.assignment_rhs asks
  side_goes s z = after _ (look_reads t s z) (λ x v y q. side_of_goes (R.keyword_at text x) (R.instruction_at text x) v y)
