-- What the reader by names takes, the grammar says: items, lists, and whole texts.
-- Assumes nothing.
use mathlib.Core.Path.{◌≡◌, refl, sym, subst}
use mathlib.Core.Bool.{true}
use mathlib.Core.List.{List, [], ◌∷◌, ◌++◌}
use Prim.Native.Nat.{ℕ, zero, suc, ◌+◌, ◌≤◌}
use native.Mathlib.Omega.{arith}
use lib.Dec.{eqb, leb}
use lib.ListN.{length, drop, take}
use borrow.Author.Tests.{eqb-true, leb-true}
use Rattle.rules.specs.declared.Entry.{Entry}
use Rattle.rules.specs.declared.Entry.TheVariants.{Replacements, LeftHandSides, RightHandSides}
use Rattle.rules.specs.declared.Front.{Front}
use Rattle.rules.specs.declared.Front.TheVariants.{Spelt, Fault}
use Rattle.rules.specs.Bytes.{bytes, digit, letter, name_byte, pattern_byte, count, same}
use Rattle.rules.specs.Space.{gap}
use Rattle.rules.specs.Tokens as T
use Rattle.rules.specs.Syntax as syntax
use Rattle.rules.specs.Syntax.{onto}
use Rattle.rules.specs.Listing.{has}
use Rattle.laws.proofs.Same.{by_cond, same_true}
use Rattle.bynames.proofs.Tokens.{Next, end, bad, found, cut, token}
use Rattle.bynames.proofs.Reader as R
use Rattle.bynames.proofs.Reader.{State, Res, go, stop, P, bind, at, fuel_of, Inferred, reading, accepted}
use Rattle.bynames.proofs.AcceptedParts.{Ok, seq, either}
use Rattle.simulation.proofs.Items.{entry_of}
use Rattle.rules.specs.Grammar.{Token, valname, word, Scope, Operand, RootAttributeInner, Attributes, Statements, Infer, an_infer, a_result, a_cand, Item, a_pair, a_candidate, a_left_hand_side, a_right_hand_side, Items, no_items, one_item}
use Rattle.grammar.proofs.Leads.{Leads, here, over, leads_join}
use Rattle.grammar.proofs.Sound.{Stays, Took, took, is_ident, is_valname, expect-sound, keyword_sound, Tested, tested, known-sound, operand_sound}
use Rattle.grammar.proofs.SoundAttributes.{attributes-sound, root_attribute_sound}
use Rattle.grammar.proofs.SoundStatements.{EnterAll, statements-sound}

-- ---- closing lines
-- over some tokens an answer is given; the scope behind it says nothing more
record Gave {A : Type 0} (n : Next) (Rule : List Token → A → Type 0) (a : A) (w : State) : Type 0 where
  tokens : List Token
  leads : Leads n tokens w.next
  rule : Rule tokens a

abbrev Infers : Scope → List Token → Inferred → Type 0
Infers s t i = Infer s t i.name i.attributes

roots-sound : (s : Scope) (w : State) → w.scope ≡ s → Ok (Stays s w.next (Attributes RootAttributeInner)) (R.attributes_here R.root_attribute w)
roots-sound s w i = attributes-sound RootAttributeInner s R.root_attribute (root_attribute_sound s) (fuel_of w) w i

-- behind the word 'infer'
inferred_sound : (s : Scope) (n : Next) (w : State) → Took s n T.ident (bytes "infer") w → Ok (Stays s n (Infers s)) (R.inferred w)
unfolding R.inferred
inferred_sound s n w g =
    seq (Took s w.next T.val_name) (Stays s n (Infers s)) (R.expect T.val_name w) _ (expect-sound T.val_name s w g.scope)
    (λ x w₁ g₁.
    seq (λ u. Tested s w₁.next (has x s ≡ true)) (Stays s n (Infers s)) (R.known x w₁) _ (known-sound x s w₁ g₁.scope)
    (λ u w₂ g₂.
    seq (Stays s w₂.next (Attributes RootAttributeInner)) (Stays s n (Infers s)) (R.attributes_here R.root_attribute w₂) _ (roots-sound s w₂ g₂.scope)
    (λ l w₃ g₃. record {
      scope = g₃.scope;
      tokens = word "infer" ∷ valname x ∷ g₃.tokens;
      leads = took (word "infer") is_ident g (took (valname x) is_valname g₁ (tested g₂ g₃.leads));
      rule = an_infer g₂.holds g₃.rule;
    })))

-- ---- items, behind their first statements
module _ (n : Next) (b : List syntax.Statement) (t : List Token) (d : Statements [] t b) where
  abbrev S : Scope
  S = onto b []

  candidate-sound : (m : Next) (w : State) → Leads n t m → Took S m T.ident (bytes "cand") w → Ok (Gave n (Item Replacements)) (R.candidate b w)
  unfolding R.candidate
  candidate-sound m w p g =
      seq (Stays S w.next (Operand S)) (Gave n (Item Replacements)) (R.operand w) _ (operand_sound S w g.scope)
      (λ x w₁ g₁.
      seq (Stays S w₁.next (Operand S)) (Gave n (Item Replacements)) (R.operand w₁) _ (operand_sound S w₁ g₁.scope)
      (λ y w₂ g₂.
      seq (Stays S w₂.next (Attributes RootAttributeInner)) (Gave n (Item Replacements)) (R.attributes_here R.root_attribute w₂) _ (roots-sound S w₂ g₂.scope)
      (λ l w₃ g₃. record {
        tokens = t ++ (word "cand" ∷ (g₁.tokens ++ (g₂.tokens ++ g₃.tokens)));
        leads = leads_join p (took (word "cand") is_ident g (leads_join g₁.leads (leads_join g₂.leads g₃.leads)));
        rule = a_candidate d (a_cand g₁.rule g₂.rule g₃.rule);
      })))

  pair_sound : (m : Next) (w : State) → Leads n t m → Took S m T.ident (bytes "infer") w → Ok (Gave n (Item Replacements)) (R.pair b w)
  unfolding R.pair
  pair_sound m w p g =
      seq (Stays S m (Infers S)) (Gave n (Item Replacements)) (R.inferred w) _ (inferred_sound S m w g)
      (λ i w₁ g₁.
      seq (EnterAll S w₁.next) (Gave n (Item Replacements)) (R.statements (fuel_of w₁) w₁) _ (statements-sound (fuel_of w₁) S w₁ g₁.scope)
      (λ u w₂ g₂.
      seq (λ z. Took (onto u S) w₂.next T.ident (bytes "result")) (Gave n (Item Replacements)) (R.keyword (bytes "result") w₂) _ (keyword_sound (bytes "result") (onto u S) w₂ g₂.scope)
      (λ z w₃ g₃.
      seq (Stays (onto u S) w₃.next (Operand (onto u S))) (Gave n (Item Replacements)) (R.operand w₃) _ (operand_sound (onto u S) w₃ g₃.scope)
      (λ o w₄ g₄. record {
        tokens = t ++ (g₁.tokens ++ (g₂.tokens ++ (word "result" ∷ g₄.tokens)));
        leads = leads_join p (leads_join g₁.leads (leads_join g₂.leads (took (word "result") is_ident g₃ g₄.leads)));
        rule = a_pair d g₁.rule g₂.rule (a_result g₄.rule);
      }))))

-- every entry point begins with statements
here-sound : (w : State) → w.scope ≡ [] → Ok (EnterAll [] w.next) (R.statements_here w)
here-sound w i = statements-sound (fuel_of w) [] w i

replacement-sound : (w : State) → w.scope ≡ [] → Ok (Gave w.next (Item Replacements)) (R.replacement w)
unfolding R.replacement
replacement-sound w i =
    seq (EnterAll [] w.next) (Gave w.next (Item Replacements)) (R.statements_here w) _ (here-sound w i)
    (λ b w₁ g₁.
    seq (Took (onto b []) w₁.next T.ident) (Gave w.next (Item Replacements)) (R.expect T.ident w₁) _ (expect-sound T.ident (onto b []) w₁ g₁.scope)
    (λ l w₂ g₂.
    either (Gave w.next (Item Replacements)) (same l (bytes "infer")) _ _ w₂
    (λ e. pair_sound w.next b g₁.tokens g₁.rule w₁.next w₂ g₁.leads (subst (λ (z : List ℕ). Took (onto b []) w₁.next T.ident z w₂) (same_true l (bytes "infer") e) g₂))
    (λ e.
    either (Gave w.next (Item Replacements)) (same l (bytes "cand")) _ _ w₂
    (λ e. candidate-sound w.next b g₁.tokens g₁.rule w₁.next w₂ g₁.leads (subst (λ (z : List ℕ). Took (onto b []) w₁.next T.ident z w₂) (same_true l (bytes "cand") e) g₂))
    (λ e. tt))))

left-sound : (w : State) → w.scope ≡ [] → Ok (Gave w.next (Item LeftHandSides)) (R.left_hand_side w)
unfolding R.left_hand_side
left-sound w i =
    seq (EnterAll [] w.next) (Gave w.next (Item LeftHandSides)) (R.statements_here w) _ (here-sound w i)
    (λ b w₁ g₁.
    seq (λ z. Took (onto b []) w₁.next T.ident (bytes "infer")) (Gave w.next (Item LeftHandSides)) (R.keyword (bytes "infer") w₁) _ (keyword_sound (bytes "infer") (onto b []) w₁ g₁.scope)
    (λ z w₂ g₂.
    seq (Stays (onto b []) w₁.next (Infers (onto b []))) (Gave w.next (Item LeftHandSides)) (R.inferred w₂) _ (inferred_sound (onto b []) w₁.next w₂ g₂)
    (λ i w₃ g₃. record { tokens = g₁.tokens ++ g₃.tokens; leads = leads_join g₁.leads g₃.leads; rule = a_left_hand_side g₁.rule g₃.rule })))

right_sound : (w : State) → w.scope ≡ [] → Ok (Gave w.next (Item RightHandSides)) (R.right_hand_side w)
unfolding R.right_hand_side
right_sound w i =
    seq (EnterAll [] w.next) (Gave w.next (Item RightHandSides)) (R.statements_here w) _ (here-sound w i)
    (λ b w₁ g₁.
    seq (λ z. Took (onto b []) w₁.next T.ident (bytes "result")) (Gave w.next (Item RightHandSides)) (R.keyword (bytes "result") w₁) _ (keyword_sound (bytes "result") (onto b []) w₁ g₁.scope)
    (λ z w₂ g₂.
    seq (Stays (onto b []) w₂.next (Operand (onto b []))) (Gave w.next (Item RightHandSides)) (R.operand w₂) _ (operand_sound (onto b []) w₂ g₂.scope)
    (λ o w₃ g₃. record {
      tokens = g₁.tokens ++ (word "result" ∷ g₃.tokens);
      leads = leads_join g₁.leads (took (word "result") is_ident g₂ g₃.leads);
      rule = a_right_hand_side g₁.rule (a_result g₃.rule);
    })))

item_sound : (e : Entry) (w : State) → w.scope ≡ [] → Ok (Gave w.next (Item e)) (R.item_of (entry_of e) w)
unfolding entry_of
item_sound Replacements w i = replacement-sound w i
item_sound LeftHandSides w i = left-sound w i
item_sound RightHandSides w i = right_sound w i

-- ---- a token's kind is not 0, which is the end's
abbrev Kinded : Next → Type 0
Kinded end = Unit {0}
Kinded bad = Unit {0}
Kinded (found k l r) = 1 ≤ k

pattern_kinded : (b : ℕ) (s rest : List ℕ) → Kinded (cut (b ∷ s) (T.pattern rest))
unfolding T.pattern
pattern_kinded b s [] = tt
pattern_kinded b s (c ∷ t) =
    by_cond (λ (f : Front). Kinded (cut (b ∷ s) f)) (eqb c 61) _ (Fault 9)
    (λ e. by_cond (λ (f : Front). Kinded (cut (b ∷ s) f)) (eqb (count pattern_byte t) 0) (Fault 10) (Spelt T.known_bits (10 + count pattern_byte t)) (λ k. tt) (λ k. omega arith))
    (λ e. tt)

start_kinded : (b : ℕ) (s : List ℕ) → Kinded (cut (b ∷ s) (T.start b s))
unfolding T.start T.word
start_kinded b s =
    by_cond G (leb 1 (T.single b)) (Spelt (T.single b) 1) _ (λ e. leb-true 1 (T.single b) e)
    (λ e.
    by_cond G (eqb b 37) (T.named (count name_byte s)) _
    (λ h. by_cond G (eqb (count name_byte s) 0) (Fault 0) (Spelt T.val_name (1 + count name_byte s)) (λ k. tt) (λ k. omega arith))
    (λ h.
    by_cond G (letter b) (T.word b s (count name_byte s)) _
    (λ k. by_cond G (same (b ∷ take (count name_byte s) s) (bytes "knownBits")) (T.pattern (drop (count name_byte s) s)) (Spelt T.ident (1 + count name_byte s)) (λ i. pattern_kinded b s (drop (count name_byte s) s)) (λ i. omega arith))
    (λ k. by_cond G (T.int_start b) (Spelt T.int (1 + count digit s)) (Fault 0) (λ i. omega arith) (λ i. tt))))
  where
    G : Front → Type 0
    G f = Kinded (cut (b ∷ s) f)

front_kinded : (s : List ℕ) → Kinded (cut s (T.front s))
front_kinded [] = tt
front_kinded (b ∷ s) = start_kinded b s

token_kinded : (text : List ℕ) → Kinded (token text)
unfolding token
token_kinded text = front_kinded (drop (gap text) text)

leads_kinded : {t : List Token} {n m : Next} → Leads n t m → Kinded n → Kinded m
leads_kinded here k = k
leads_kinded (over f p) k = leads_kinded p (token_kinded f.behind)

-- ---- lists
record GaveAll (e : Entry) (n : Next) (xs : List syntax.Item) : Type 0 where
  tokens : List Token
  leads : Leads n tokens end
  rule : Items e tokens xs

-- a look tells the end from a token
seq_look : {A : Type 0} (Q : A → State → Type 0) (w : State) (f : R.Token → P A) → (w.next ≡ end → Ok Q (f (record { kind = 0; letters = [] }) w))
    → ((k : ℕ) (l r : List ℕ) → w.next ≡ found k l r → Ok Q (f (record { kind = k; letters = l }) w)) → Ok Q (bind (R.look w) f)
seq_look Q w f h g = by w.next refl
  where
    by : (n : Next) → w.next ≡ n → Ok Q (bind (R.seen n w) f)
    by end e = h e
    by bad e = tt
    by (found k l r) e = g k l r e

module _ (e : Entry) where
  list_sound : (fuel : ℕ) (w : State) → Kinded w.next → Ok (λ xs v. GaveAll e w.next xs) (R.list (entry_of e) fuel w)
  unfolding R.list
  list_sound zero w k = tt
  list_sound (suc fuel) w k =
      seq_look Q w _ (λ q. record { tokens = []; leads = subst (λ (z : Next). Leads z [] end) (sym q) here; rule = no_items })
      (λ j l r q.
      either Q (eqb j 0) _ _ w (λ z. absurd (none j (eqb-true j 0 z) (subst Kinded q k)))
      (λ z.
      seq (Gave w.next (Item e)) Q (R.item_of (entry_of e) (record { scope = []; next = w.next })) _ (item_sound e (record { scope = []; next = w.next }) refl)
      (λ x w₁ g₁.
      seq (λ xs v. GaveAll e w₁.next xs) Q (R.list (entry_of e) fuel w₁) _ (list_sound fuel w₁ (leads_kinded g₁.leads k))
      (λ xs w₂ g₂. record { tokens = g₁.tokens ++ g₂.tokens; leads = leads_join g₁.leads g₂.leads; rule = one_item g₁.rule g₂.rule }))))
    where
      Q : List syntax.Item → State → Type 0
      Q xs v = GaveAll e w.next xs

      none : (j : ℕ) → j ≡ 0 → 1 ≤ j → ⊥
      none j q h = omega arith

  -- what is accepted, the grammar says
  pub accepted-sound : (text : List ℕ) (xs : List syntax.Item) → reading (entry_of e) text ≡ accepted xs → (t : List Token) × Leads (token text) t end × Items e t xs
  unfolding reading
  accepted-sound text xs q = by (R.list (entry_of e) (suc (length text)) (at [] text)) (list_sound (suc (length text)) (at [] text) (token_kinded text)) q
    where
      by : (m : Res (List syntax.Item)) → Ok (λ xs v. GaveAll e (token text) xs) m → R.answer m ≡ accepted xs → (t : List Token) × Leads (token text) t end × Items e t xs
      by (go ys w) h q =
          let same : ys ≡ xs = cc in
          (h.tokens, h.leads, subst (Items e h.tokens) same h.rule)
      by stop h q = absurd (let z : ◌≡◌ {A = ℕ} 0 1 = cc in let n : ⊥ = omega arith in n)
