-- What the grammar says, the reader by names takes: right sides and statements.
-- Assumes nothing.
use mathlib.Core.Path.{◌≡◌, refl, sym, ap, ◌∙◌, subst}
use mathlib.Core.Bool.{Bool, true, false, cond, ◌||◌}
use mathlib.Core.List.{List, [], ◌∷◌, ◌++◌}
use Prim.Native.Nat.{ℕ, zero, suc, ◌≤◌, ◌<◌}
use native.Mathlib.Omega.{arith}
use lib.Dec.{eqb}
use lib.ListN.{length, length-append}
use borrow.Author.Tests.{lt-ltb}
use Rattle.rules.specs.Bytes.{bytes, same}
use Rattle.rules.specs.Integers.{number, fits, integer}
use Rattle.rules.specs.Instructions.{instruction_name, arity_of}
use Rattle.rules.specs.Tokens as T
use Rattle.rules.specs.Syntax as syntax
use Rattle.rules.specs.Syntax.{Name, onto}
use Rattle.rules.specs.Listing.{assigns, has}
use Rattle.rules.specs.Grammar.{side_in, side_of, Token, ident, valname, int, equals, Scope, Typing, Operand, Operands, AttributeInner, Attributes, RightSide, a_var, a_block, a_phi, a_reservedinst, a_reservedconst, an_instruction, Statement, an_assignment, a_pc, a_blockpc, Statements, no_statements, one_statement}
use Rattle.bynames.proofs.WellFormed.{is_block, block_size}
use Rattle.bynames.proofs.Tokens.{Next, found, token}
use Rattle.bynames.proofs.InstructionWords.{instruction-word}
use Rattle.bynames.proofs.Reader as R
use Rattle.bynames.proofs.Reader.{go, bind, at}
use Rattle.bynames.proofs.Moves.{Some, token_some}
use Rattle.bynames.proofs.Steps.{step, before, looks, expects, keywords}
use Rattle.grammar.proofs.Leads.{First, Leads, here, over, leads_cons, leads_split, leads_some, leads_long}
use Rattle.grammar.proofs.Complete.{Ends, Shut, shut_ends, first_ends, spelt, at_ident, at_valname, field_complete, typing_complete, operand_complete, operand-ends, further_complete, operands_complete, attributes-end, own_sort, attributes_complete, went_on}

-- ---- blocks
has_block_lem : (n : Name) (s : Scope) {k : ℕ} → side_of n s ≡ syntax.block k → has n s ≡ true
has_block_lem n [] e = absurd (let z : ◌≡◌ {A = ℕ} 0 1 = cc in let w : ⊥ = omega arith in w)
has_block_lem n (x ∷ s) {k} e = by (assigns n x) e (has_block_lem n s)
  where
    by : (b : Bool) → cond b (side_in x) (side_of n s) ≡ syntax.block k → (side_of n s ≡ syntax.block k → has n s ≡ true) → (b || has n s) ≡ true
    by true e ih = refl
    by false e ih = ih e

pub blocked_complete : (s : Scope) (b : Name) {k : ℕ} (n : Next) → side_of b s ≡ syntax.block k → R.blocked b (before s n) ≡ go k (before s n)
blocked_complete s b n e =
    let is : is_block (side_of b s) ≡ true = ap is_block e in
    rw (has_block_lem b s e, is) (ap (λ (q : syntax.RightSide). go (block_size q) (before s n)) e)

-- ---- right sides
module _ (s : Scope) where
  instruction_complete : {i : ℕ} {t : List Token} {l : List syntax.Operand} {n m : Next} → i < 59 → length l ≡ arity_of i → Operands s t l → (f : First (ident (instruction_name i)) n)
      → Leads (token f.behind) t m → Ends m → R.right_side (before s n) ≡ go (syntax.instruction i l) (before s m)
  unfolding R.right_side
  instruction_complete {i} {l = l} e a r f p h =
      let w = instruction-word i e in
      step _ (expects s (at_ident f))
      (rw (w.no_var, w.no_block, w.no_phi, w.no_inst, w.no_const, w.place, lt-ltb i 59 e)
      (step _ (ap (λ (z : ℕ). R.operands z (at s f.behind)) (sym a) ∙ operands_complete s r p h) refl))

  side_complete : {t : List Token} {q : syntax.RightSide} {n m : Next} → RightSide s t q → Leads n t m → Ends m → R.right_side (before s n) ≡ go q (before s m)
  unfolding R.right_side same
  side_complete a_var (over f p) h = went_on s p (step _ (expects s (at_ident f)) refl)
  side_complete (a_block e) (over f (over g p)) h = went_on s p (step _ (expects s (at_ident f)) (step _ (field_complete s g 32 e) refl))
  side_complete (a_phi {b} e r) (over f (over g p)) h =
      step _ (expects s (at_ident f)) (step _ (expects s (at_valname g)) (step _ (blocked_complete s b (token g.behind) e) (step _ (further_complete s r p h) refl)))
  side_complete a_reservedinst (over f p) h = went_on s p (step _ (expects s (at_ident f)) refl)
  side_complete a_reservedconst (over f p) h = went_on s p (step _ (expects s (at_ident f)) refl)
  side_complete (an_instruction e a r) (over f p) h = instruction_complete e a r f p h

-- ---- what stands at the front of statements and items
-- a name or a word
pub record Begins (n : Next) : Type 0 where
  pub kind : ℕ
  pub letters : List ℕ
  pub behind : List ℕ
  pub is : n ≡ found kind letters behind
  pub some : eqb kind 0 ≡ false
  pub colon : eqb kind T.colon ≡ false
  pub paren : eqb kind T.open_paren ≡ false

pub begins_shut : {n : Next} → Begins n → Shut n
begins_shut b = subst Shut (sym b.is) (b.colon, b.paren)

pub valname-begins : {x : Name} {n : Next} → First (valname x) n → Begins n
valname-begins {x} f = record { kind = T.val_name; letters = x; behind = f.behind; is = at_valname f; some = refl; colon = refl; paren = refl }

pub ident-begins : {w : List ℕ} {n : Next} → First (ident w) n → Begins n
ident-begins {w} f = record { kind = T.ident; letters = w; behind = f.behind; is = at_ident f; some = refl; colon = refl; paren = refl }

statement-begins : {s : Scope} {t : List Token} {x : syntax.Statement} {n m : Next} → Statement s t x → Leads n t m → Begins n
statement-begins (an_assignment e y r l) (over f p) = valname-begins f
statement-begins (a_pc x y) (over f p) = ident-begins f
statement-begins (a_blockpc e k x y) (over f p) = ident-begins f

pub statements_begin : {s : Scope} {t : List Token} {l : List syntax.Statement} {n m : Next} → Statements s t l → Leads n t m → Begins m → Begins n
statements_begin no_statements here b = b
statements_begin (one_statement {t = t} {u} d r) p b = statement-begins d (leads_split t u p).left

-- a closing line's word
pub record Closes (n : Next) : Type 0 where
  pub word : List ℕ
  pub behind : List ℕ
  pub is : n ≡ found T.ident word behind
  pub no_pc : same word (bytes "pc") ≡ false
  pub no_blockpc : same word (bytes "blockpc") ≡ false

pub closes : {w : List ℕ} {n : Next} → First (ident w) n → same w (bytes "pc") ≡ false → same w (bytes "blockpc") ≡ false → Closes n
closes {w} f a b = record { word = w; behind = f.behind; is = at_ident f; no_pc = a; no_blockpc = b }

pub closes-begins : {n : Next} → Closes n → Begins n
closes-begins c = record { kind = T.ident; letters = c.word; behind = c.behind; is = c.is; some = refl; colon = refl; paren = refl }

-- ---- statements
module _ (s : Scope) where
  assigned_complete : {x : Name} {t u v : List Token} {y : syntax.Typing} {q : syntax.RightSide} {l : List syntax.Attribute} {n m : Next}
      → has x s ≡ false → Typing t y → RightSide s u q → Attributes AttributeInner v l → (f : First (valname x) n) → Leads (token f.behind) (t ++ (equals ∷ (u ++ v))) m → Shut m
      → R.assigned (before s n) ≡ go (syntax.assignment (record { name = x; typing = y; side = q; attributes = l })) (before (syntax.assignment (record { name = x; typing = y; side = q; attributes = l }) ∷ s) m)
  unfolding R.assigned
  assigned_complete {t = t} {u} {v} {m = m} e y r l f p h =
      let a = leads_split t (equals ∷ (u ++ v)) p in
      let c = leads_cons a.right in
      let b = leads_split u v c.1 in
      step _ (expects s (at_valname f))
      (rw e
      (step _ (typing_complete s y a.left (first_ends c.0 refl))
      (step _ (expects s (spelt c.0))
      (step _ (side_complete s r b.left (attributes-end l b.right (shut_ends m h)))
      (step _ (attributes_complete (own_sort s) l b.right (leads_some b.left (token_some c.0.behind)) h) refl)))))

  condition_complete : {t u : List Token} {x y : syntax.Operand} {n m : Next} → Operand s t x → Operand s u y → (f : First (ident (bytes "pc")) n) → Leads (token f.behind) (t ++ u) m → Ends m
      → R.condition (before s n) ≡ go (syntax.pc x y) (before (syntax.pc x y ∷ s) m)
  unfolding R.condition
  condition_complete {t} {u} x y f p h =
      let a = leads_split t u p in
      step _ (keywords s (at_ident f)) (step _ (operand_complete s x a.left (operand-ends s y a.right)) (step _ (operand_complete s y a.right h) refl))

  block_condition_complete : {b : Name} {k j : ℕ} {w : List ℕ} {t u : List Token} {x y : syntax.Operand} {n m : Next}
      → side_of b s ≡ syntax.block j → fits 32 (integer w) ≡ number k → Operand s t x → Operand s u y → (f : First (ident (bytes "blockpc")) n) (g : First (valname b) (token f.behind))
      (i : First (int w) (token g.behind)) → Leads (token i.behind) (t ++ u) m → Ends m → R.block_condition (before s n) ≡ go (syntax.blockpc b k x y) (before (syntax.blockpc b k x y ∷ s) m)
  unfolding R.block_condition
  block_condition_complete {b} {t = t} {u} d e x y f g i p h =
      let a = leads_split t u p in
      step _ (keywords s (at_ident f))
      (step _ (expects s (at_valname g))
      (step _ (blocked_complete s b (token g.behind) d)
      (step _ (field_complete s i 32 e) (step _ (operand_complete s x a.left (operand-ends s y a.right)) (step _ (operand_complete s y a.right h) refl)))))

  -- one statement, and then others
  one_complete : {t : List Token} {x : syntax.Statement} {n m : Next} → Statement s t x → Leads n t m → Shut m → (g : ℕ)
      → R.statements (suc g) (before s n) ≡ bind (R.statements g (before (x ∷ s) m)) (λ l. R.give (x ∷ l))
  unfolding R.statements same
  one_complete (an_assignment e y r l) (over f p) h g = step _ (looks s (at_valname f)) (step _ (assigned_complete e y r l f p h) refl)
  one_complete {m = m} (a_pc x y) (over f p) h g = step _ (looks s (at_ident f)) (step _ (condition_complete x y f p (shut_ends m h)) refl)
  one_complete {m = m} (a_blockpc d e x y) (over f (over i (over j p))) h g = step _ (looks s (at_ident f)) (step _ (block_condition_complete d e x y f i j p (shut_ends m h)) refl)

  none_complete : {n : Next} → Closes n → (g : ℕ) → R.statements (suc g) (before s n) ≡ go [] (before s n)
  unfolding R.statements
  none_complete c g = step _ (looks s c.is) (rw (c.no_pc, c.no_blockpc))

statements-count : {s : Scope} {t : List Token} {l : List syntax.Statement} → Statements s t l → length l ≤ length t
statements-count no_statements = omega arith
statements-count (one_statement {t = t} {u} d r) = omega (arith, statements-count r, length-append t u, some d)
  where
    some : {s : Scope} {t : List Token} {x : syntax.Statement} → Statement s t x → 1 ≤ length t
    some (an_assignment e y r l) = omega arith
    some (a_pc x y) = omega arith
    some (a_blockpc e k x y) = omega arith

statements_by : {s : Scope} {t : List Token} {l : List syntax.Statement} {n m : Next} → Statements s t l → Leads n t m → Closes m → (g : ℕ) → length l < g → R.statements g (before s n) ≡ go l (before (onto l s) m)
statements_by no_statements here c zero h = absurd (let z : ⊥ = omega arith in z)
statements_by {s} no_statements here c (suc g) h = none_complete s c g
statements_by (one_statement d r) p c zero h = absurd (let z : ⊥ = omega arith in z)
statements_by {s} (one_statement {t = t} {u} d r) p c (suc g) h =
    let a = leads_split t u p in
    one_complete s d a.left (begins_shut (statements_begin r a.right (closes-begins c))) g ∙ step _ (statements_by r a.right c g (omega arith)) refl

pub statements_complete : {s : Scope} {t : List Token} {l : List syntax.Statement} {n m : Next} → Statements s t l → Leads n t m → Some n → Closes m → R.statements_here (before s n) ≡ go l (before (onto l s) m)
statements_complete {s} {n = n} d p e c = statements_by d p c (R.fuel_of (before s n)) (omega (arith, statements-count d, leads_long p e))
