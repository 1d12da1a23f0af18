-- What the reader by names takes, the grammar says: right sides and statements.
-- Assumes nothing.
use mathlib.Core.Path.{◌≡◌, ap, ◌∙◌, sym, subst}
use mathlib.Core.Bool.{true, false}
use mathlib.Core.List.{List, [], ◌∷◌, ◌++◌}
use Prim.Native.Nat.{ℕ, zero, suc, ◌<◌}
use lib.Dec.{eqb, ltb}
use borrow.Author.Tests.{ltb-true}
use Rattle.rules.specs.Bytes.{bytes, same}
use Rattle.rules.specs.Integers.{fits, integer}
use Rattle.rules.specs.Instructions.{instruction_of, instruction_name, arity_of}
use Rattle.rules.specs.Tokens as T
use Rattle.rules.specs.Syntax as syntax
use Rattle.rules.specs.Syntax.{onto}
use Rattle.rules.specs.Listing.{has}
use Rattle.rules.specs.Grammar.{side_of, ident, valname, int, equals, word, Scope, Typing, Operand, AttributeInner, Attributes, RightSide, a_var, a_block, a_phi, a_reservedinst, a_reservedconst, an_instruction, Statement, an_assignment, a_pc, a_blockpc, Statements, no_statements, one_statement}
use Rattle.laws.proofs.Same.{same_true}
use Rattle.laws.proofs.Names.{instruction-named}
use Rattle.bynames.proofs.Tokens.{Next}
use Rattle.bynames.proofs.Reader as R
use Rattle.bynames.proofs.Reader.{State, P, fuel_of}
use Rattle.bynames.proofs.AcceptedParts.{Ok, seq, either}
use Rattle.grammar.proofs.Leads.{Leads, here, leads_join}
use Rattle.grammar.proofs.Sound.{Takes, Stays, Took, took, is_ident, is_valname, is_int, is_equals, seq_look, expect-sound, keyword_sound, Number, field-sound, Tested, tested, fresh-sound, blocked_sound, typing-sound, operand_sound, Furthers, further-sound, OperandsOf, operands-sound}
use Rattle.grammar.proofs.SoundAttributes.{attributes-sound, attribute-sound}

-- ---- right sides
module _ (s : Scope) where
  abbrev Side : Next → syntax.RightSide → State → Type 0
  Side n = Stays s n (RightSide s)

  -- a word alone
  alone : (n : Next) (q : syntax.RightSide) (l k : List ℕ) (w : State) → RightSide s (ident k ∷ []) q → same l k ≡ true → Took s n T.ident l w → Side n q w
  alone n q l k w d e g =
      record { scope = g.scope; tokens = ident k ∷ []; leads = subst (λ (z : List ℕ). Leads n (ident z ∷ []) w.next) (same_true l k e) (took (ident l) is_ident g here); rule = d }

  -- behind 'block', 'phi', an instruction's name
  block-sound : (n : Next) (w : State) → Took s n T.ident (bytes "block") w → Ok (Side n) (R.◌>>=◌ (R.field 32) (λ k. R.give (syntax.block k)) w)
  block-sound n w g =
      seq (Number (λ l. fits 32 (integer l)) s w.next) (Side n) (R.field 32 w) _ (field-sound 32 s w g.scope)
      (λ k w₁ g₁. record {
        scope = g₁.took.scope;
        tokens = word "block" ∷ int g₁.letters ∷ [];
        leads = took (word "block") is_ident g (took (int g₁.letters) is_int g₁.took here);
        rule = a_block g₁.reads;
      })

  phi-sound : (n : Next) (w : State) → Took s n T.ident (bytes "phi") w
      → Ok (Side n) (R.◌>>=◌ (R.expect T.val_name) (λ b. R.◌>>=◌ (R.blocked b) (λ k. R.◌>>=◌ (R.further k) (λ l. R.give (syntax.phi b l)))) w)
  phi-sound n w g =
      seq (Took s w.next T.val_name) (Side n) (R.expect T.val_name w) _ (expect-sound T.val_name s w g.scope)
      (λ b w₁ g₁.
      seq (λ k. Tested s w₁.next (side_of b s ≡ syntax.block k)) (Side n) (R.blocked b w₁) _ (blocked_sound b s w₁ g₁.scope)
      (λ k w₂ g₂.
      seq (Stays s w₂.next (Furthers s k)) (Side n) (R.further k w₂) _ (further-sound k s w₂ g₂.scope)
      (λ l w₃ g₃. record {
        scope = g₃.scope;
        tokens = word "phi" ∷ valname b ∷ g₃.tokens;
        leads = took (word "phi") is_ident g (took (valname b) is_valname g₁ (tested g₂ g₃.leads));
        rule = a_phi (g₂.holds ∙ ap (λ (z : ℕ). syntax.block z) (sym g₃.rule.1)) g₃.rule.0;
      })))

  instruction-sound : (n : Next) (l : List ℕ) (w : State) → Took s n T.ident l w → instruction_of l < 59
      → Ok (Side n) (R.◌>>=◌ (R.operands (arity_of (instruction_of l))) (λ o. R.give (syntax.instruction (instruction_of l) o)) w)
  instruction-sound n l w g h =
      seq (Stays s w.next (OperandsOf s (arity_of (instruction_of l)))) (Side n) (R.operands (arity_of (instruction_of l)) w) _ (operands-sound (arity_of (instruction_of l)) s w g.scope)
      (λ o w₁ g₁. record {
        scope = g₁.scope;
        tokens = ident (instruction_name (instruction_of l)) ∷ g₁.tokens;
        leads = subst (λ (z : List ℕ). Leads n (ident z ∷ g₁.tokens) w₁.next) (sym (instruction-named l h)) (took (ident l) is_ident g g₁.leads);
        rule = an_instruction h g₁.rule.1 g₁.rule.0;
      })

  pub side-sound : (w : State) → w.scope ≡ s → Ok (Side w.next) (R.right_side w)
  unfolding R.right_side
  side-sound w i =
      seq (Took s w.next T.ident) (Side w.next) (R.expect T.ident w) _ (expect-sound T.ident s w i)
      (λ l w₁ g.
      either (Side w.next) (same l (bytes "var")) _ _ w₁ (λ e. alone w.next syntax.var l (bytes "var") w₁ a_var e g)
      (λ e.
      either (Side w.next) (same l (bytes "block")) _ _ w₁ (λ e. block-sound w.next w₁ (is w.next l (bytes "block") w₁ e g))
      (λ e.
      either (Side w.next) (same l (bytes "phi")) _ _ w₁ (λ e. phi-sound w.next w₁ (is w.next l (bytes "phi") w₁ e g))
      (λ e.
      either (Side w.next) (same l (bytes "reservedinst")) _ _ w₁ (λ e. alone w.next syntax.reservedinst l (bytes "reservedinst") w₁ a_reservedinst e g)
      (λ e.
      either (Side w.next) (same l (bytes "reservedconst")) _ _ w₁ (λ e. alone w.next syntax.reservedconst l (bytes "reservedconst") w₁ a_reservedconst e g)
      (λ e. either (Side w.next) (ltb (instruction_of l) 59) _ _ w₁ (λ e. instruction-sound w.next l w₁ g (ltb-true (instruction_of l) 59 e)) (λ e. tt)))))))
    where
      is : (n : Next) (l k : List ℕ) (v : State) → same l k ≡ true → Took s n T.ident l v → Took s n T.ident k v
      is n l k v e g = subst (λ (z : List ℕ). Took s n T.ident z v) (same_true l k e) g

-- ---- statements
abbrev Enters : Scope → Next → syntax.Statement → State → Type 0
Enters s n = Takes (λ x. x ∷ s) n (Statement s)

assigned_sound : (s : Scope) (w : State) → w.scope ≡ s → Ok (Enters s w.next) (R.assigned w)
unfolding R.assigned
assigned_sound s w i =
    seq (Took s w.next T.val_name) (Enters s w.next) (R.expect T.val_name w) _ (expect-sound T.val_name s w i)
    (λ n w₁ g₁.
    seq (λ u. Tested s w₁.next (has n s ≡ false)) (Enters s w.next) (R.fresh n w₁) _ (fresh-sound n s w₁ g₁.scope)
    (λ u w₂ g₂.
    seq (Stays s w₂.next Typing) (Enters s w.next) (R.typing w₂) _ (typing-sound s w₂ g₂.scope)
    (λ y w₃ g₃.
    seq (Took s w₃.next T.equals) (Enters s w.next) (R.expect T.equals w₃) _ (expect-sound T.equals s w₃ g₃.scope)
    (λ u w₄ g₄.
    seq (Stays s w₄.next (RightSide s)) (Enters s w.next) (R.right_side w₄) _ (side-sound s w₄ g₄.scope)
    (λ q w₅ g₅.
    seq (Stays s w₅.next (Attributes AttributeInner)) (Enters s w.next) (R.attributes R.attribute (fuel_of w₅) w₅) _ (attributes-sound AttributeInner s R.attribute (attribute-sound s) (fuel_of w₅) w₅ g₅.scope)
    (λ l w₆ g₆. record {
      scope = ap (λ (z : Scope). syntax.assignment (record { name = n; typing = y; side = q; attributes = l }) ∷ z) g₆.scope;
      tokens = valname n ∷ (g₃.tokens ++ (equals ∷ (g₅.tokens ++ g₆.tokens)));
      leads = took (valname n) is_valname g₁ (tested g₂ (leads_join g₃.leads (took equals is_equals g₄ (leads_join g₅.leads g₆.leads))));
      rule = an_assignment g₂.holds g₃.rule g₅.rule g₆.rule;
    }))))))

condition-sound : (s : Scope) (w : State) → w.scope ≡ s → Ok (Enters s w.next) (R.condition w)
unfolding R.condition
condition-sound s w i =
    seq (λ u. Took s w.next T.ident (bytes "pc")) (Enters s w.next) (R.keyword (bytes "pc") w) _ (keyword_sound (bytes "pc") s w i)
    (λ u w₁ g₁.
    seq (Stays s w₁.next (Operand s)) (Enters s w.next) (R.operand w₁) _ (operand_sound s w₁ g₁.scope)
    (λ x w₂ g₂.
    seq (Stays s w₂.next (Operand s)) (Enters s w.next) (R.operand w₂) _ (operand_sound s w₂ g₂.scope)
    (λ y w₃ g₃. record {
      scope = ap (λ (z : Scope). syntax.pc x y ∷ z) g₃.scope;
      tokens = word "pc" ∷ (g₂.tokens ++ g₃.tokens);
      leads = took (word "pc") is_ident g₁ (leads_join g₂.leads g₃.leads);
      rule = a_pc g₂.rule g₃.rule;
    })))

block-condition-sound : (s : Scope) (w : State) → w.scope ≡ s → Ok (Enters s w.next) (R.block_condition w)
unfolding R.block_condition
block-condition-sound s w i =
    seq (λ u. Took s w.next T.ident (bytes "blockpc")) (Enters s w.next) (R.keyword (bytes "blockpc") w) _ (keyword_sound (bytes "blockpc") s w i)
    (λ u w₁ g₁.
    seq (Took s w₁.next T.val_name) (Enters s w.next) (R.expect T.val_name w₁) _ (expect-sound T.val_name s w₁ g₁.scope)
    (λ b w₂ g₂.
    seq (λ m. Tested s w₂.next (side_of b s ≡ syntax.block m)) (Enters s w.next) (R.blocked b w₂) _ (blocked_sound b s w₂ g₂.scope)
    (λ m w₃ g₃.
    seq (Number (λ l. fits 32 (integer l)) s w₃.next) (Enters s w.next) (R.field 32 w₃) _ (field-sound 32 s w₃ g₃.scope)
    (λ k w₄ g₄.
    seq (Stays s w₄.next (Operand s)) (Enters s w.next) (R.operand w₄) _ (operand_sound s w₄ g₄.took.scope)
    (λ x w₅ g₅.
    seq (Stays s w₅.next (Operand s)) (Enters s w.next) (R.operand w₅) _ (operand_sound s w₅ g₅.scope)
    (λ y w₆ g₆. record {
      scope = ap (λ (z : Scope). syntax.blockpc b k x y ∷ z) g₆.scope;
      tokens = word "blockpc" ∷ valname b ∷ int g₄.letters ∷ (g₅.tokens ++ g₆.tokens);
      leads = took (word "blockpc") is_ident g₁ (took (valname b) is_valname g₂ (tested g₃ (took (int g₄.letters) is_int g₄.took (leads_join g₅.leads g₆.leads))));
      rule = a_blockpc g₃.holds g₄.reads g₅.rule g₆.rule;
    }))))))

-- one statement, and then others
abbrev pub EnterAll : Scope → Next → List syntax.Statement → State → Type 0
EnterAll s n = Takes (λ l. onto l s) n (Statements s)

more_sound : (s : Scope) (p : P syntax.Statement) (more : P (List syntax.Statement)) → ((w : State) → w.scope ≡ s → Ok (Enters s w.next) (p w))
    → ((t : Scope) (w : State) → w.scope ≡ t → Ok (EnterAll t w.next) (more w)) → (w : State) → w.scope ≡ s → Ok (EnterAll s w.next) (R.◌>>=◌ p (λ x. R.◌>>=◌ more (λ l. R.give (x ∷ l))) w)
more_sound s p more f g w i =
    seq (Enters s w.next) (EnterAll s w.next) (p w) _ (f w i)
    (λ x w₁ h.
    seq (EnterAll (x ∷ s) w₁.next) (EnterAll s w.next) (more w₁) _ (g (x ∷ s) w₁ h.scope)
    (λ l w₂ k. record { scope = k.scope; tokens = h.tokens ++ k.tokens; leads = leads_join h.leads k.leads; rule = one_statement h.rule k.rule }))

pub statements-sound : (fuel : ℕ) (s : Scope) (w : State) → w.scope ≡ s → Ok (EnterAll s w.next) (R.statements fuel w)
unfolding R.statements
statements-sound zero s w i = tt
statements-sound (suc fuel) s w i =
    seq_look (EnterAll s w.next) w _
    (λ t.
    either (EnterAll s w.next) (eqb t.kind T.val_name) _ _ w (λ e. more_sound s R.assigned (R.statements fuel) (assigned_sound s) (statements-sound fuel) w i)
    (λ e.
    either (EnterAll s w.next) (R.is (bytes "pc") t) _ _ w (λ e. more_sound s R.condition (R.statements fuel) (condition-sound s) (statements-sound fuel) w i)
    (λ e.
    either (EnterAll s w.next) (R.is (bytes "blockpc") t) _ _ w (λ e. more_sound s R.block_condition (R.statements fuel) (block-condition-sound s) (statements-sound fuel) w i)
    (λ e. record { scope = i; tokens = []; leads = here; rule = no_statements }))))
