-- What the reader by names takes, the grammar says: token helpers, types, operands and attributes.
-- Assumes nothing.
use mathlib.Core.Path.{◌≡◌, refl, sym, ap, ◌∙◌, subst}
use mathlib.Core.Bool.{true, false, false≢true}
use mathlib.Core.List.{List, [], ◌∷◌, ◌++◌}
use Prim.Native.Nat.{ℕ, zero, suc}
use lib.Dec.{eqb}
use lib.ListN.{length}
use borrow.Author.Tests.{eqb-true}
use Rattle.rules.specs.Bytes.{same}
use Rattle.rules.specs.Integers.{Read, number, refused, fits, integer, type_width}
use Rattle.rules.specs.Tokens as T
use Rattle.rules.specs.Syntax as syntax
use Rattle.rules.specs.Syntax.{Name}
use Rattle.rules.specs.Listing.{has}
use Rattle.rules.specs.Grammar.{side_of, Token, ident, valname, int, comma, colon, equals, open_paren, close_paren, open_bracket, Written, Scope, Typing, no_type, a_type, Operand, a_value, a_constant, Further, no_further, one_further, Operands, no_operands, some_operands}
use Rattle.laws.proofs.Same.{same_true}
use Rattle.bynames.proofs.WellFormed.{is_block, block_size}
use Rattle.bynames.proofs.Tokens.{Next, end, bad, found, token}
use Rattle.bynames.proofs.Reader as R
use Rattle.bynames.proofs.Reader.{State, go, stop, P, bind}
use Rattle.bynames.proofs.AcceptedParts.{Ok, seq, either, choice}
use Rattle.grammar.proofs.Leads.{Leads, here, over, leads_join}

-- an answer, by a rule of the grammar over the tokens that were taken; and the scope behind it
pub record Takes {A : Type 0} (after : A → Scope) (n : Next) (Rule : List Token → A → Type 0) (a : A) (w : State) : Type 0 where
  pub scope : w.scope ≡ after a
  pub tokens : List Token
  pub leads : Leads n tokens w.next
  pub rule : Rule tokens a

abbrev pub Stays : {A : Type 0} → Scope → Next → (List Token → A → Type 0) → A → State → Type 0
Stays s = Takes (λ a. s)

-- ---- token helpers
-- a token of a kind was taken
pub record Took (s : Scope) (n : Next) (k : ℕ) (l : List ℕ) (w : State) : Type 0 where
  pub scope : w.scope ≡ s
  pub behind : List ℕ
  pub is : n ≡ found k l behind
  pub next : token behind ≡ w.next

module _ {s : Scope} {n : Next} {k : ℕ} {l : List ℕ} {w : State} where
  -- over the token taken, and on
  pub took : (x : Token) → Written x k l → Took s n k l w → {t : List Token} {m : Next} → Leads w.next t m → Leads n (x ∷ t) m
  took x v g {t} {m} p =
      let q : Leads (token g.behind) t m = subst (λ (z : Next). Leads z t m) (sym g.next) p in
      over (record { kind = k; letters = l; behind = g.behind; is = g.is; written = v }) q

module _ {l : List ℕ} where
  pub is_ident : Written (ident l) T.ident l
  is_ident = record { of = refl; by = refl }

  pub is_valname : Written (valname l) T.val_name l
  is_valname = record { of = refl; by = refl }

  pub is_int : Written (int l) T.int l
  is_int = record { of = refl; by = refl }

  pub is_comma : Written comma T.comma l
  is_comma = record { of = refl; by = tt }

  pub is_colon : Written colon T.colon l
  is_colon = record { of = refl; by = tt }

  pub is_equals : Written equals T.equals l
  is_equals = record { of = refl; by = tt }

  pub is_open : Written open_paren T.open_paren l
  is_open = record { of = refl; by = tt }

  pub is_close : Written close_paren T.close_paren l
  is_close = record { of = refl; by = tt }

  pub is_bracket : Written open_bracket T.open_bracket l
  is_bracket = record { of = refl; by = tt }

-- a look changes nothing
pub seq_look : {A : Type 0} (Q : A → State → Type 0) (w : State) (f : R.Token → P A) → ((t : R.Token) → Ok Q (f t w)) → Ok Q (bind (R.look w) f)
seq_look Q w f h = by w.next
  where
    by : (n : Next) → Ok Q (bind (R.seen n w) f)
    by end = h _
    by bad = tt
    by (found k l r) = h _

pub demand_sound : (s : Scope) (w : State) → w.scope ≡ s → Ok (λ t v. Took s w.next t.kind t.letters v) (R.demand w)
demand_sound s w i = by w.next refl
  where
    by : (n : Next) → w.next ≡ n → Ok (λ t v. Took s w.next t.kind t.letters v) (R.demanded n w)
    by end e = tt
    by bad e = tt
    by (found k l r) e = record { scope = i; behind = r; is = e; next = refl }

pub expect-sound : (k : ℕ) (s : Scope) (w : State) → w.scope ≡ s → Ok (Took s w.next k) (R.expect k w)
unfolding R.expect
expect-sound k s w i =
    seq (λ t v. Took s w.next t.kind t.letters v) (Took s w.next k) (R.demand w) _ (demand_sound s w i)
    (λ t v g. either (Took s w.next k) (eqb t.kind k) _ _ v (λ e. subst (λ (z : ℕ). Took s w.next z t.letters v) (eqb-true t.kind k e) g) (λ e. tt))

pub keyword_sound : (k : List ℕ) (s : Scope) (w : State) → w.scope ≡ s → Ok (λ u v. Took s w.next T.ident k v) (R.keyword k w)
unfolding R.keyword
keyword_sound k s w i =
    seq (Took s w.next T.ident) (λ u v. Took s w.next T.ident k v) (R.expect T.ident w) _ (expect-sound T.ident s w i)
    (λ l v g. either (λ u v. Took s w.next T.ident k v) (same l k) _ _ v (λ e. subst (λ (z : List ℕ). Took s w.next T.ident z v) (same_true l k e) g) (λ e. tt))

-- an integer that reads as a number
pub record Number (f : List ℕ → Read) (s : Scope) (n : Next) (c : ℕ) (w : State) : Type 0 where
  pub letters : List ℕ
  pub reads : f letters ≡ number c
  pub took : Took s n T.int letters w

read-sound : (f : List ℕ → Read) (s : Scope) (n : Next) (l : List ℕ) (w : State) → Took s n T.int l w → (r : Read) → f l ≡ r → Ok (Number f s n) (R.read r w)
read-sound f s n l w g (number c) e = record { letters = l; reads = e; took = g }
read-sound f s n l w g refused e = tt

pub int-sound : (s : Scope) (w : State) → w.scope ≡ s → Ok (Number integer s w.next) (R.int w)
unfolding R.int
int-sound s w i =
    seq (Took s w.next T.int) (Number integer s w.next) (R.expect T.int w) _ (expect-sound T.int s w i) (λ l v g. read-sound integer s w.next l v g (integer l) refl)

pub field-sound : (width : ℕ) (s : Scope) (w : State) → w.scope ≡ s → Ok (Number (λ l. fits width (integer l)) s w.next) (R.field width w)
unfolding R.field
field-sound width s w i =
    seq (Took s w.next T.int) (Number (λ l. fits width (integer l)) s w.next) (R.expect T.int w) _ (expect-sound T.int s w i)
    (λ l v g. read-sound (λ l. fits width (integer l)) s w.next l v g (fits width (integer l)) refl)

-- ---- names
-- a test of the scope takes nothing
pub record Tested (s : Scope) (n : Next) (C : Type 0) (w : State) : Type 0 where
  pub scope : w.scope ≡ s
  pub next : w.next ≡ n
  pub holds : C

pub tested : {s : Scope} {n : Next} {C : Type 0} {w : State} {t : List Token} {m : Next} → Tested s n C w → Leads w.next t m → Leads n t m
tested {t = t} {m = m} h p = subst (λ (z : Next). Leads z t m) h.next p

pub known-sound : (n : Name) (s : Scope) (w : State) → w.scope ≡ s → Ok (λ u. Tested s w.next (has n s ≡ true)) (R.known n w)
known-sound n s w i = choice (λ u. Tested s w.next (has n s ≡ true)) (has n w.scope) (go tt w) stop (λ e. record { scope = i; next = refl; holds = sym (ap (has n) i) ∙ e }) (λ e. tt)

pub fresh-sound : (n : Name) (s : Scope) (w : State) → w.scope ≡ s → Ok (λ u. Tested s w.next (has n s ≡ false)) (R.fresh n w)
fresh-sound n s w i = choice (λ u. Tested s w.next (has n s ≡ false)) (has n w.scope) stop (go tt w) (λ e. tt) (λ e. record { scope = i; next = refl; holds = sym (ap (has n) i) ∙ e })

-- what is a block has its number
block-side : (r : syntax.RightSide) → is_block r ≡ true → r ≡ syntax.block (block_size r)
block-side syntax.var e = absurd (false≢true e)
block-side (syntax.block k) e = refl
block-side (syntax.phi b l) e = absurd (false≢true e)
block-side syntax.reservedinst e = absurd (false≢true e)
block-side syntax.reservedconst e = absurd (false≢true e)
block-side (syntax.instruction k l) e = absurd (false≢true e)

pub blocked_sound : (n : Name) (s : Scope) (w : State) → w.scope ≡ s → Ok (λ k. Tested s w.next (side_of n s ≡ syntax.block k)) (R.blocked n w)
blocked_sound n s w i =
    choice Q (has n w.scope) _ stop
    (λ e.
    choice Q (is_block (side_of n w.scope)) _ stop
    (λ f. record { scope = i; next = refl; holds = subst (λ (z : Scope). side_of n z ≡ syntax.block (block_size (side_of n w.scope))) i (block-side (side_of n w.scope) f) }) (λ f. tt)) (λ e. tt)
  where
    Q : ℕ → State → Type 0
    Q k = Tested s w.next (side_of n s ≡ syntax.block k)

-- ---- types and operands
width_sound : (s : Scope) (w w₁ w₂ : State) (u l : List ℕ) → Took s w.next T.colon u w₁ → Took s w₁.next T.ident l w₂ → (r : Read) → type_width l ≡ r → Ok (Stays s w.next Typing) (R.width r w₂)
width_sound s w w₁ w₂ u l g₁ g₂ (number n) e =
    record { scope = g₂.scope; tokens = colon ∷ ident l ∷ []; leads = took colon is_colon g₁ (took (ident l) is_ident g₂ here); rule = a_type e }
width_sound s w w₁ w₂ u l g₁ g₂ refused e = tt

pub typing-sound : (s : Scope) (w : State) → w.scope ≡ s → Ok (Stays s w.next Typing) (R.typing w)
unfolding R.typing
typing-sound s w i =
    seq_look (Stays s w.next Typing) w _
    (λ t.
    either (Stays s w.next Typing) (eqb t.kind T.colon) _ _ w
    (λ e.
    seq (Took s w.next T.colon) (Stays s w.next Typing) (R.expect T.colon w) _ (expect-sound T.colon s w i)
    (λ u w₁ g₁.
    seq (Took s w₁.next T.ident) (Stays s w.next Typing) (R.expect T.ident w₁) _ (expect-sound T.ident s w₁ g₁.scope)
    (λ l w₂ g₂. width_sound s w w₁ w₂ u l g₁ g₂ (type_width l) refl)))
    (λ e. record { scope = i; tokens = []; leads = here; rule = no_type }))

pub operand_sound : (s : Scope) (w : State) → w.scope ≡ s → Ok (Stays s w.next (Operand s)) (R.operand w)
unfolding R.operand
operand_sound s w i =
    seq_look (Stays s w.next (Operand s)) w _
    (λ t.
    either (Stays s w.next (Operand s)) (eqb t.kind T.val_name) _ _ w
    (λ e.
    seq (Took s w.next T.val_name) (Stays s w.next (Operand s)) (R.expect T.val_name w) _ (expect-sound T.val_name s w i)
    (λ n w₁ g₁.
    seq (λ u. Tested s w₁.next (has n s ≡ true)) (Stays s w.next (Operand s)) (R.known n w₁) _ (known-sound n s w₁ g₁.scope)
    (λ u w₂ g₂. record { scope = g₂.scope; tokens = valname n ∷ []; leads = took (valname n) is_valname g₁ (tested g₂ here); rule = a_value g₂.holds })))
    (λ e.
    seq (Number integer s w.next) (Stays s w.next (Operand s)) (R.int w) _ (int-sound s w i)
    (λ c w₁ g₁.
    seq (Stays s w₁.next Typing) (Stays s w.next (Operand s)) (R.typing w₁) _ (typing-sound s w₁ g₁.took.scope)
    (λ y w₂ g₂. record {
      scope = g₂.scope;
      tokens = int g₁.letters ∷ g₂.tokens;
      leads = took (int g₁.letters) is_int g₁.took g₂.leads;
      rule = a_constant g₁.reads g₂.rule;
    }))))

-- so many
abbrev pub Furthers : Scope → ℕ → List Token → List syntax.Operand → Type 0
Furthers s n t l = Further s t l × (length l ≡ n)

pub further-sound : (n : ℕ) (s : Scope) (w : State) → w.scope ≡ s → Ok (Stays s w.next (Furthers s n)) (R.further n w)
unfolding R.further
further-sound zero s w i = record { scope = i; tokens = []; leads = here; rule = (no_further, refl) }
further-sound (suc n) s w i =
    seq (Took s w.next T.comma) (Stays s w.next (Furthers s (suc n))) (R.expect T.comma w) _ (expect-sound T.comma s w i)
    (λ u w₁ g₁.
    seq (Stays s w₁.next (Operand s)) (Stays s w.next (Furthers s (suc n))) (R.operand w₁) _ (operand_sound s w₁ g₁.scope)
    (λ o w₂ g₂.
    seq (Stays s w₂.next (Furthers s n)) (Stays s w.next (Furthers s (suc n))) (R.further n w₂) _ (further-sound n s w₂ g₂.scope)
    (λ l w₃ g₃. record {
      scope = g₃.scope;
      tokens = comma ∷ (g₂.tokens ++ g₃.tokens);
      leads = took comma is_comma g₁ (leads_join g₂.leads g₃.leads);
      rule = (one_further g₂.rule g₃.rule.0, ap suc g₃.rule.1);
    })))

abbrev pub OperandsOf : Scope → ℕ → List Token → List syntax.Operand → Type 0
OperandsOf s n t l = Operands s t l × (length l ≡ n)

pub operands-sound : (n : ℕ) (s : Scope) (w : State) → w.scope ≡ s → Ok (Stays s w.next (OperandsOf s n)) (R.operands n w)
unfolding R.operands
operands-sound zero s w i = record { scope = i; tokens = []; leads = here; rule = (no_operands, refl) }
operands-sound (suc n) s w i =
    seq (Stays s w.next (Operand s)) (Stays s w.next (OperandsOf s (suc n))) (R.operand w) _ (operand_sound s w i)
    (λ o w₂ g₂.
    seq (Stays s w₂.next (Furthers s n)) (Stays s w.next (OperandsOf s (suc n))) (R.further n w₂) _ (further-sound n s w₂ g₂.scope)
    (λ l w₃ g₃. record {
      scope = g₃.scope;
      tokens = g₂.tokens ++ g₃.tokens;
      leads = leads_join g₂.leads g₃.leads;
      rule = (some_operands g₂.rule g₃.rule.0, ap suc g₃.rule.1);
    }))
