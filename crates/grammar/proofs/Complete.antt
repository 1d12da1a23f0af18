-- What the grammar says, the reader by names takes: types, operands and attributes. What may follow each is told by the token behind it.
-- Assumes nothing.
use mathlib.Core.Path.{◌≡◌, refl, sym, ap, ◌∙◌, subst}
use mathlib.Core.Bool.{false}
use mathlib.Core.List.{List, [], ◌∷◌}
use Prim.Native.Nat.{ℕ, zero, suc, ◌≤◌, ◌<◌}
use native.Mathlib.Omega.{arith}
use lib.Dec.{eqb}
use lib.ListN.{length, length-append}
use borrow.Author.Tests.{eq-eqb}
use Rattle.rules.specs.Bytes.{same, bit}
use Rattle.rules.specs.Integers.{number, fits, integer}
use Rattle.rules.specs.Tokens as T
use Rattle.rules.specs.Syntax as syntax
use Rattle.bynames.proofs.Tokens.{Next, end, bad, found, token}
use Rattle.bynames.proofs.Reader as R
use Rattle.bynames.proofs.Reader.{Res, go, P, at}
use Rattle.bynames.proofs.Moves.{Some}
use Rattle.bynames.proofs.Steps.{step, before, looks, demands, expects}
use Rattle.bynames.proofs.BackAttributes.{each-count}
use Rattle.rules.specs.Grammar.{Token, ident, valname, known_bits, int, open_paren, close_paren, kind_of, Scope, Typing, no_type, a_type, Operand, a_value, a_constant, Further, no_further, one_further, Operands, no_operands, some_operands, AttributeInner, a_known_bits, power_of_two, is_negative, non_negative, non_zero, has_external_uses, sign_bits, in_range, RootAttributeInner, demanded_bits, harvested_from_use, Attributes, no_attributes, one_attribute}
use Rattle.grammar.proofs.Leads.{First, Leads, here, over, leads_cons, leads_split, leads_long}

-- ---- what may follow: no ':' behind an operand; neither ':' nor '(' behind a line
abbrev pub Ends : Next → Type 0
Ends end = Unit {0}
Ends bad = ⊥
Ends (found k l r) = eqb k T.colon ≡ false

abbrev pub Shut : Next → Type 0
Shut end = Unit {0}
Shut bad = ⊥
Shut (found k l r) = (eqb k T.colon ≡ false) × (eqb k T.open_paren ≡ false)

pub shut_ends : (n : Next) → Shut n → Ends n
shut_ends end h = tt
shut_ends bad h = h
shut_ends (found k l r) h = h.0

pub first_ends : {x : Token} {n : Next} → First x n → eqb (kind_of x) T.colon ≡ false → Ends n
first_ends f h = subst Ends (sym f.is) (subst (λ (k : ℕ). eqb k T.colon ≡ false) (sym f.written.of) h)

-- ---- tokens
pub spelt : {x : Token} {n : Next} (f : First x n) → n ≡ found (kind_of x) f.letters f.behind
spelt f = f.is ∙ ap (λ (k : ℕ). found k f.letters f.behind) f.written.of

module _ {l : List ℕ} {n : Next} where
  pub at_ident : (f : First (ident l) n) → n ≡ found T.ident l f.behind
  at_ident f = spelt f ∙ ap (λ (z : List ℕ). found T.ident z f.behind) f.written.by

  pub at_valname : (f : First (valname l) n) → n ≡ found T.val_name l f.behind
  at_valname f = spelt f ∙ ap (λ (z : List ℕ). found T.val_name z f.behind) f.written.by

  pub at_int : (f : First (int l) n) → n ≡ found T.int l f.behind
  at_int f = spelt f ∙ ap (λ (z : List ℕ). found T.int z f.behind) f.written.by

module _ (s : Scope) {n : Next} {l : List ℕ} {c : ℕ} (f : First (int l) n) where
  pub int_complete : integer l ≡ number c → R.int (before s n) ≡ go c (at s f.behind)
  unfolding R.int
  int_complete e = step _ (expects s (at_int f)) (rw e)

  pub field_complete : (width : ℕ) → fits width (integer l) ≡ number c → R.field width (before s n) ≡ go c (at s f.behind)
  unfolding R.field
  field_complete width e = step _ (expects s (at_int f)) (rw e)

-- ---- at the end of the tokens
pub went_on : {A : Type 0} {r : Res A} {a : A} (s : Scope) {n m : Next} → Leads n [] m → r ≡ go a (before s n) → r ≡ go a (before s m)
went_on s here e = e

closing : {A : Type 0} {r : Res A} {a : A} (s : Scope) {n k : Next} → Leads n [] k → ((g : First close_paren n) → r ≡ go a (at s g.behind)) → (g : First close_paren k) → r ≡ go a (at s g.behind)
closing s here c g = c g

-- ---- types and operands
untyped : (s : Scope) (n : Next) → Ends n → R.typing (before s n) ≡ go syntax.untyped (before s n)
unfolding R.typing
untyped s end h = refl
untyped s bad h = absurd h
untyped s (found k l r) h = rw h

module _ (s : Scope) where
  pub typing_complete : {t : List Token} {y : syntax.Typing} {n m : Next} → Typing t y → Leads n t m → Ends m → R.typing (before s n) ≡ go y (before s m)
  unfolding R.typing
  typing_complete {n = n} no_type here h = untyped s n h
  typing_complete (a_type e) (over f (over g p)) h = went_on s p (step _ (looks s (spelt f)) (step _ (expects s (spelt f)) (step _ (expects s (at_ident g)) (rw e))))

  pub operand_complete : {t : List Token} {o : syntax.Operand} {n m : Next} → Operand s t o → Leads n t m → Ends m → R.operand (before s n) ≡ go o (before s m)
  unfolding R.operand
  operand_complete (a_value e) (over f p) h = went_on s p (step _ (looks s (at_valname f)) (step _ (expects s (at_valname f)) (rw e)))
  operand_complete (a_constant e d) (over f p) h = step _ (looks s (at_int f)) (step _ (int_complete s f e) (step _ (typing_complete d p h) refl))

  pub operand-ends : {t : List Token} {o : syntax.Operand} {n m : Next} → Operand s t o → Leads n t m → Ends n
  operand-ends (a_value e) (over f p) = first_ends f refl
  operand-ends (a_constant e d) (over f p) = first_ends f refl

  further-ends : {t : List Token} {l : List syntax.Operand} {n m : Next} → Further s t l → Leads n t m → Ends m → Ends n
  further-ends no_further here h = h
  further-ends (one_further d r) (over f p) h = first_ends f refl

  pub further_complete : {t : List Token} {l : List syntax.Operand} {n m : Next} → Further s t l → Leads n t m → Ends m → R.further (length l) (before s n) ≡ go l (before s m)
  unfolding R.further
  further_complete no_further here h = refl
  further_complete (one_further {t} {u} d r) (over f p) h =
      let q = leads_split t u p in
      step _ (expects s (spelt f)) (step _ (operand_complete d q.left (further-ends r q.right h)) (step _ (further_complete r q.right h) refl))

  pub operands_complete : {t : List Token} {l : List syntax.Operand} {n m : Next} → Operands s t l → Leads n t m → Ends m → R.operands (length l) (before s n) ≡ go l (before s m)
  unfolding R.operands
  operands_complete no_operands here h = refl
  operands_complete (some_operands {t} {u} d r) p h =
      let q = leads_split t u p in
      step _ (operand_complete d q.left (further-ends r q.right h)) (step _ (further_complete r q.right h) refl)

-- ---- an attribute: '(', what stands between, and ')'
module _ (s : Scope) where
  closed_complete : {A : Type 0} (a : A) {k : Next} (g : First close_paren k) → R.closed a (before s k) ≡ go a (at s g.behind)
  closed_complete a g = step _ (expects s (spelt g)) refl

  -- '(' and a word, and what is read behind it
  word_complete : {n : Next} (f : First open_paren n) {l : List ℕ} (h : First (ident l) (token f.behind)) {z : Res syntax.Attribute} → R.attribute_of l (at s h.behind) ≡ z
      → R.attribute (before s n) ≡ z
  unfolding R.attribute
  word_complete f h e = step _ (expects s (spelt f)) (step _ (demands s (at_ident h)) e)

  known_complete : {n : Next} (f : First open_paren n) {p : List ℕ} (h : First (known_bits p) (token f.behind)) (g : First close_paren (token h.behind)) → R.attribute (before s n) ≡ go (syntax.known_bits p) (at s g.behind)
  unfolding R.attribute
  known_complete f h g = step _ (expects s (spelt f)) (step _ (demands s (spelt h)) (rw h.written.by (closed_complete _ g)))

  attribute_complete : {n k : Next} (f : First open_paren n) {t : List Token} {a : syntax.Attribute} → AttributeInner t a → Leads (token f.behind) t k → (g : First close_paren k)
      → R.attribute (before s n) ≡ go a (at s g.behind)
  unfolding R.attribute_of R.counted R.bounds same
  attribute_complete f a_known_bits (over h p) g = closing s p (known_complete f h) g
  attribute_complete f power_of_two (over h p) g = closing s p (λ c. word_complete f h (closed_complete syntax.power_of_two c)) g
  attribute_complete f is_negative (over h p) g = closing s p (λ c. word_complete f h (closed_complete syntax.negative c)) g
  attribute_complete f non_negative (over h p) g = closing s p (λ c. word_complete f h (closed_complete syntax.non_negative c)) g
  attribute_complete f non_zero (over h p) g = closing s p (λ c. word_complete f h (closed_complete syntax.non_zero c)) g
  attribute_complete f has_external_uses (over h p) g = closing s p (λ c. word_complete f h (closed_complete syntax.has_external_uses c)) g
  attribute_complete f (sign_bits e) (over h (over i (over j p))) g = closing s p (λ c. word_complete f h (step _ (expects s (spelt i)) (step _ (field_complete s j 8 e) (closed_complete _ c)))) g
  attribute_complete f (in_range d e) (over h (over i (over b (over v (over c (over w (over z p))))))) g =
      closing s p (λ y. word_complete f h
      (step _ (expects s (spelt i))
      (step _ (expects s (spelt b))
      (step _ (int_complete s v d) (step _ (expects s (spelt c)) (step _ (int_complete s w e) (step _ (expects s (spelt z)) (closed_complete _ y)))))))) g

  root_attribute_complete : {n k : Next} (f : First open_paren n) {t : List Token} {a : syntax.RootAttribute} → RootAttributeInner t a → Leads (token f.behind) t k → (g : First close_paren k)
      → R.root_attribute (before s n) ≡ go a (at s g.behind)
  unfolding R.root_attribute R.demanded_pattern same
  root_attribute_complete f (demanded_bits {w} e) (over h (over i (over j p))) g =
      closing s p (λ c. step _ (expects s (spelt f))
      (step _ (expects s (at_ident h)) (step _ (expects s (spelt i)) (step _ (expects s (at_int j)) (rw (each-count bit w e, eq-eqb (length w) (length w) refl) (closed_complete _ c)))))) g
  root_attribute_complete f harvested_from_use (over h p) g = closing s p (λ c. step _ (expects s (spelt f)) (step _ (expects s (at_ident h)) (closed_complete _ c))) g

-- ---- lists of attributes
attributes-count : {A : Type 0} {Inner : List Token → A → Type 0} {t : List Token} {l : List A} → Attributes Inner t l → length l ≤ length t
attributes-count no_attributes = omega arith
attributes-count (one_attribute {t} {u} d r) = omega (arith, attributes-count r, length-append t (close_paren ∷ u))

pub attributes-end : {A : Type 0} {Inner : List Token → A → Type 0} {t : List Token} {l : List A} {n m : Next} → Attributes Inner t l → Leads n t m → Ends m → Ends n
attributes-end no_attributes here h = h
attributes-end (one_attribute d r) (over f p) h = first_ends f refl

no_more : {A : Type 0} (one : P A) (s : Scope) (n : Next) (g : ℕ) → Shut n → R.attributes one (suc g) (before s n) ≡ go [] (before s n)
unfolding R.attributes
no_more one s end g h = refl
no_more one s bad g h = absurd h
no_more one s (found k l r) g h = rw h.1

-- a sort of attributes, and the rule that reads one
pub record Sort {A : Type 0} (Inner : List Token → A → Type 0) (s : Scope) (one : P A) : Type 0 where
  pub reads : {n k : Next} (f : First open_paren n) {t : List Token} {a : A} → Inner t a → Leads (token f.behind) t k → (g : First close_paren k) → one (before s n) ≡ go a (at s g.behind)

pub own_sort : (s : Scope) → Sort AttributeInner s R.attribute
own_sort s = record { reads = attribute_complete s }

pub root_sort : (s : Scope) → Sort RootAttributeInner s R.root_attribute
root_sort s = record { reads = root_attribute_complete s }

module _ {A : Type 0} {Inner : List Token → A → Type 0} {s : Scope} {one : P A} (sort : Sort Inner s one) where
  attributes_by : {t : List Token} {l : List A} {n m : Next} → Attributes Inner t l → Leads n t m → Shut m → (g : ℕ) → length l < g → R.attributes one g (before s n) ≡ go l (before s m)
  unfolding R.attributes
  attributes_by no_attributes here h zero e = absurd (let z : ⊥ = omega arith in z)
  attributes_by {n = n} no_attributes here h (suc g) e = no_more one s n g h
  attributes_by (one_attribute d r) (over f p) h zero e = absurd (let z : ⊥ = omega arith in z)
  attributes_by (one_attribute {t} {u} d r) (over f p) h (suc g) e =
      let q = leads_split t (close_paren ∷ u) p in
      let c = leads_cons q.right in
      step _ (looks s (spelt f)) (step _ (sort.reads f d q.left c.0) (step _ (attributes_by r c.1 h g (omega arith)) refl))

  pub attributes_complete : {t : List Token} {l : List A} {n m : Next} → Attributes Inner t l → Leads n t m → Some n → Shut m → R.attributes_here one (before s n) ≡ go l (before s m)
  attributes_complete {n = n} d p e h = attributes_by d p h (R.fuel_of (before s n)) (omega (arith, attributes-count d, leads_long p e))
