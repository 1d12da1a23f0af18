-- What the reader gives is well formed: statements, items and lists.
-- Assumes nothing.
use mathlib.Core.Path.{◌≡◌, refl, ap, subst}
use mathlib.Core.Bool.{true, false}
use mathlib.Core.List.{List, [], ◌∷◌, ◌++◌}
use Prim.Native.Nat.{ℕ, zero, suc, ◌<◌, ◌^◌}
use native.Mathlib.Omega.{arith}
use lib.Dec.{eqb}
use lib.ListN.{length}
use Rattle.rules.specs.Bytes.{bytes, same}
use Rattle.rules.specs.Tokens as T
use Rattle.rules.specs.Syntax.{Name, Operand, Statement, assignment, pc, blockpc, infer, Item, onto, of_operand}
use Rattle.rules.specs.Listing.{has}
use Rattle.rules.specs.Meaning.{All}
use Rattle.laws.proofs.Members.{all_append}
use Rattle.bynames.proofs.WellFormed.{TypingOk, AttributeOk, RootAttributeOk, ClosingOk, Known, Fits, Wf}
use Rattle.bynames.proofs.Names.{has_older}
use Rattle.bynames.proofs.Reader as R
use Rattle.bynames.proofs.Reader.{State, Res, go, stop, P, at, fuel_of, Inferred, Entry, replacements, left_hand_sides, right_hand_sides, item_of, reading, accepted}
use Rattle.bynames.proofs.BackLists.{Readable}
use Rattle.bynames.proofs.AcceptedTokens.{Told, Good, token_good}
use Rattle.bynames.proofs.AcceptedParts.{Ok, seq, either, In, Seen, Gives, look_ok, expect-ok, keyword_ok, field-ok, known-ok, fresh_ok, Block, blocked_ok, typing-ok, Refers, operand-ok, SideIn, side-ok}
use Rattle.bynames.proofs.AcceptedAttributes.{attributes-ok, attribute-ok, root_attribute_ok}

-- ---- statements
-- a statement that fits has entered the scope
pub record Entered (s : List Statement) (a : Statement) (w : State) : Type 0 where
  pub scope : w.scope ≡ a ∷ s
  pub good : Good w.next
  pub fits : Fits s a

enter_ok : (s : List Statement) (a : Statement) → Fits s a → (w : State) → In s w → Ok (Entered s) (R.enter a w)
enter_ok s a f w i = record { scope = ap (λ (z : List Statement). a ∷ z) i.0; good = i.1; fits = f }

assigned_ok : (s : List Statement) (w : State) → In s w → Ok (Entered s) (R.assigned w)
unfolding R.assigned
assigned_ok s w i =
    seq (Gives s (Told T.val_name)) (Entered s) (R.expect T.val_name w) _ (expect-ok T.val_name s w i)
    (λ n w₁ g₁.
    seq (Gives s (λ u. has n s ≡ false)) (Entered s) (R.fresh n w₁) _ (fresh_ok n s w₁ g₁.0)
    (λ u w₂ g₂.
    seq (Gives s TypingOk) (Entered s) (R.typing w₂) _ (typing-ok s w₂ g₂.0)
    (λ y w₃ g₃.
    seq (Gives s (Told T.equals)) (Entered s) (R.expect T.equals w₃) _ (expect-ok T.equals s w₃ g₃.0)
    (λ u w₄ g₄.
    seq (Gives s (SideIn s)) (Entered s) (R.right_side w₄) _ (side-ok s w₄ g₄.0)
    (λ q w₅ g₅.
    seq (Gives s (All AttributeOk)) (Entered s) (R.attributes R.attribute (fuel_of w₅) w₅) _ (attributes-ok AttributeOk s R.attribute (attribute-ok s) (fuel_of w₅) w₅ g₅.0)
    (λ l w₆ g₆.
    enter_ok s (assignment (record { name = n; typing = y; side = q; attributes = l }))
    (record { ok = record { name = g₁.1.named refl; typing = g₃.1; side = g₅.1.0; attributes = g₆.1 }; fresh = g₂.1; known = g₅.1.1; blocks = g₅.1.2 }) w₆ g₆.0))))))

known_both : (s : List Statement) (x y : Operand) → Refers s x → Refers s y → Known s (of_operand x ++ of_operand y)
known_both s x y g h = all_append (λ m. has m s ≡ true) (of_operand x) (of_operand y) g.1 h.1

condition-ok : (s : List Statement) (w : State) → In s w → Ok (Entered s) (R.condition w)
unfolding R.condition
condition-ok s w i =
    seq (Seen s) (Entered s) (R.keyword (bytes "pc") w) _ (keyword_ok (bytes "pc") s w i)
    (λ u w₁ i₁.
    seq (Gives s (Refers s)) (Entered s) (R.operand w₁) _ (operand-ok s w₁ i₁)
    (λ x w₂ g₂.
    seq (Gives s (Refers s)) (Entered s) (R.operand w₂) _ (operand-ok s w₂ g₂.0)
    (λ y w₃ g₃.
    enter_ok s (pc x y) (record { ok = (g₂.1.0, g₃.1.0); fresh = refl; known = known_both s x y g₂.1 g₃.1; blocks = tt }) w₃ g₃.0)))

block-condition-ok : (s : List Statement) (w : State) → In s w → Ok (Entered s) (R.block_condition w)
unfolding R.block_condition
block-condition-ok s w i =
    seq (Seen s) (Entered s) (R.keyword (bytes "blockpc") w) _ (keyword_ok (bytes "blockpc") s w i)
    (λ u w₁ i₁.
    seq (Gives s (Told T.val_name)) (Entered s) (R.expect T.val_name w₁) _ (expect-ok T.val_name s w₁ i₁)
    (λ b w₂ g₂.
    seq (Gives s (Block s b)) (Entered s) (R.blocked b w₂) _ (blocked_ok b s w₂ g₂.0)
    (λ n w₃ g₃.
    seq (Gives s (λ c. c < 2 ^ 32)) (Entered s) (R.field 32 w₃) _ (field-ok 32 s w₃ g₃.0)
    (λ k w₄ g₄.
    seq (Gives s (Refers s)) (Entered s) (R.operand w₄) _ (operand-ok s w₄ g₄.0)
    (λ x w₅ g₅.
    seq (Gives s (Refers s)) (Entered s) (R.operand w₅) _ (operand-ok s w₅ g₅.0)
    (λ y w₆ g₆.
    enter_ok s (blockpc b k x y)
    (record { ok = (g₂.1.named refl, g₄.1, g₅.1.0, g₆.1.0); fresh = refl; known = (g₃.1.0, known_both s x y g₅.1 g₆.1); blocks = g₃.1.1 }) w₆ g₆.0))))))

-- statements that fit, one after another, have entered the scope
abbrev pub Grown : List Statement → List Statement → State → Type 0
Grown s l w = In (onto l s) w × Wf (onto l s)

-- one statement, and then others
more_ok : (s : List Statement) → Wf s → (p : P Statement) (more : P (List Statement)) → ((w : State) → In s w → Ok (Entered s) (p w))
    → ((t : List Statement) → Wf t → (w : State) → In t w → Ok (Grown t) (more w)) → (w : State) → In s w
    → Ok (Grown s) (R.◌>>=◌ p (λ a. R.◌>>=◌ more (λ l. R.give (a ∷ l))) w)
more_ok s v p more f g w i =
    seq (Entered s) (Grown s) (p w) _ (f w i)
    (λ a w₁ h. seq (Grown (a ∷ s)) (Grown s) (more w₁) _ (g (a ∷ s) (h.fits, v) w₁ (h.scope, h.good)) (λ l w₂ k. k))

pub statements-ok : (fuel : ℕ) (s : List Statement) → Wf s → (w : State) → In s w → Ok (Grown s) (R.statements fuel w)
unfolding R.statements
statements-ok zero s v w i = tt
statements-ok (suc fuel) s v w i =
    seq (Seen s) (Grown s) (R.look w) _ (look_ok s w i)
    (λ t w₁ i₁.
    either (Grown s) (eqb t.kind T.val_name) _ _ w₁ (λ e. more_ok s v R.assigned (R.statements fuel) (assigned_ok s) (statements-ok fuel) w₁ i₁)
    (λ e.
    either (Grown s) (R.is (bytes "pc") t) _ _ w₁ (λ e. more_ok s v R.condition (R.statements fuel) (condition-ok s) (statements-ok fuel) w₁ i₁)
    (λ e.
    either (Grown s) (R.is (bytes "blockpc") t) _ _ w₁ (λ e. more_ok s v R.block_condition (R.statements fuel) (block-condition-ok s) (statements-ok fuel) w₁ i₁)
    (λ e. (i₁, v)))))

-- ---- items
abbrev Made : Entry → Item → State → Type 0
Made e x w = Readable e x × Good w.next

has_onto : (n : Name) (l t : List Statement) → has n t ≡ true → has n (onto l t) ≡ true
has_onto n [] t h = h
has_onto n (s ∷ l) t h = has_onto n l (s ∷ t) (has_older n s t h)

abbrev Infers : List Statement → Inferred → Type 0
Infers s i = ClosingOk (infer i.name i.attributes) × (has i.name s ≡ true)

inferred_ok : (s : List Statement) (w : State) → In s w → Ok (Gives s (Infers s)) (R.inferred w)
unfolding R.inferred
inferred_ok s w i =
    seq (Gives s (Told T.val_name)) (Gives s (Infers s)) (R.expect T.val_name w) _ (expect-ok T.val_name s w i)
    (λ n w₁ g₁.
    seq (Gives s (λ u. has n s ≡ true)) (Gives s (Infers s)) (R.known n w₁) _ (known-ok n s w₁ g₁.0)
    (λ u w₂ g₂.
    seq (Gives s (All RootAttributeOk)) (Gives s (Infers s)) (R.attributes R.root_attribute (fuel_of w₂) w₂) _ (attributes-ok RootAttributeOk s R.root_attribute (root_attribute_ok s) (fuel_of w₂) w₂ g₂.0)
    (λ l w₃ g₃. (g₃.0, ((g₁.1.named refl, g₃.1), g₂.1)))))

module _ (t : List Statement) (v : Wf (onto t [])) where
  abbrev S : List Statement
  S = onto t []

  candidate-ok : (w : State) → In S w → Ok (Made replacements) (R.candidate t w)
  unfolding R.candidate
  candidate-ok w i =
      seq (Gives S (Refers S)) (Made replacements) (R.operand w) _ (operand-ok S w i)
      (λ x w₁ g₁.
      seq (Gives S (Refers S)) (Made replacements) (R.operand w₁) _ (operand-ok S w₁ g₁.0)
      (λ y w₂ g₂.
      seq (Gives S (All RootAttributeOk)) (Made replacements) (R.attributes R.root_attribute (fuel_of w₂) w₂) _ (attributes-ok RootAttributeOk S R.root_attribute (root_attribute_ok S) (fuel_of w₂) w₂ g₂.0)
      (λ l w₃ g₃. (
        record {
          wf = record {
            wf = v;
            ok = (g₁.1.0, g₂.1.0, g₃.1);
            known = all_append (λ m. has m S ≡ true) (of_operand x ++ of_operand y) [] (known_both S x y g₁.1 g₂.1) tt;
          };
          of = tt;
        },
        g₃.0.1,
      ))))

  pair_ok : (w : State) → In S w → Ok (Made replacements) (R.pair t w)
  unfolding R.pair
  pair_ok w i =
      seq (Gives S (Infers S)) (Made replacements) (R.inferred w) _ (inferred_ok S w i)
      (λ n w₁ g₁.
      seq (Grown S) (Made replacements) (R.statements (fuel_of w₁) w₁) _ (statements-ok (fuel_of w₁) S v w₁ g₁.0)
      (λ u w₂ g₂.
      seq (Seen (onto u S)) (Made replacements) (R.keyword (bytes "result") w₂) _ (keyword_ok (bytes "result") (onto u S) w₂ g₂.0)
      (λ z w₃ i₃.
      seq (Gives (onto u S) (Refers (onto u S))) (Made replacements) (R.operand w₃) _ (operand-ok (onto u S) w₃ i₃)
      (λ o w₄ g₄.
      (record { wf = record { wf = g₂.1; ok = (g₁.1.0.0, g₁.1.0.1, g₄.1.0); known = (has_onto n.name u S g₁.1.1, g₄.1.1) }; of = tt }, g₄.0.1)))))

-- every entry point begins with statements
here-ok : (w : State) → In [] w → Ok (Grown []) (R.statements_here w)
here-ok w i = statements-ok (fuel_of w) [] tt w i

replacement-ok : (w : State) → In [] w → Ok (Made replacements) (R.replacement w)
unfolding R.replacement
replacement-ok w i =
    seq (Grown []) (Made replacements) (R.statements_here w) _ (here-ok w i)
    (λ t w₁ g₁.
    seq (Gives (onto t []) (Told T.ident)) (Made replacements) (R.expect T.ident w₁) _ (expect-ok T.ident (onto t []) w₁ g₁.0)
    (λ l w₂ g₂.
    either (Made replacements) (same l (bytes "infer")) _ _ w₂ (λ e. pair_ok t g₁.1 w₂ g₂.0)
    (λ e. either (Made replacements) (same l (bytes "cand")) _ _ w₂ (λ e. candidate-ok t g₁.1 w₂ g₂.0) (λ e. tt))))

left-ok : (w : State) → In [] w → Ok (Made left_hand_sides) (R.left_hand_side w)
unfolding R.left_hand_side
left-ok w i =
    seq (Grown []) (Made left_hand_sides) (R.statements_here w) _ (here-ok w i)
    (λ t w₁ g₁.
    seq (Seen (onto t [])) (Made left_hand_sides) (R.keyword (bytes "infer") w₁) _ (keyword_ok (bytes "infer") (onto t []) w₁ g₁.0)
    (λ u w₂ i₂.
    seq (Gives (onto t []) (Infers (onto t []))) (Made left_hand_sides) (R.inferred w₂) _ (inferred_ok (onto t []) w₂ i₂)
    (λ n w₃ g₃. (record { wf = record { wf = g₁.1; ok = g₃.1.0; known = (g₃.1.1, tt) }; of = tt }, g₃.0.1))))

right_ok : (w : State) → In [] w → Ok (Made right_hand_sides) (R.right_hand_side w)
unfolding R.right_hand_side
right_ok w i =
    seq (Grown []) (Made right_hand_sides) (R.statements_here w) _ (here-ok w i)
    (λ t w₁ g₁.
    seq (Seen (onto t [])) (Made right_hand_sides) (R.keyword (bytes "result") w₁) _ (keyword_ok (bytes "result") (onto t []) w₁ g₁.0)
    (λ u w₂ i₂.
    seq (Gives (onto t []) (Refers (onto t []))) (Made right_hand_sides) (R.operand w₂) _ (operand-ok (onto t []) w₂ i₂)
    (λ o w₃ g₃.
    (record { wf = record { wf = g₁.1; ok = g₃.1.0; known = all_append (λ m. has m (onto t []) ≡ true) (of_operand o) [] g₃.1.1 tt }; of = tt }, g₃.0.1))))

item_ok_lem : (e : Entry) (w : State) → In [] w → Ok (Made e) (item_of e w)
item_ok_lem replacements w i = replacement-ok w i
item_ok_lem left_hand_sides w i = left-ok w i
item_ok_lem right_hand_sides w i = right_ok w i

-- ---- lists
abbrev AllMade : Entry → List Item → State → Type 0
AllMade e xs w = All (Readable e) xs

list_ok : (e : Entry) (fuel : ℕ) (w : State) → Good w.next → Ok (AllMade e) (R.list e fuel w)
unfolding R.list
list_ok e zero w g = tt
list_ok e (suc fuel) w g =
    seq (Seen w.scope) (AllMade e) (R.look w) _ (look_ok w.scope w (refl, g))
    (λ t w₁ i₁.
    either (AllMade e) (eqb t.kind 0) _ _ w₁ (λ q. tt)
    (λ q.
    seq (Made e) (AllMade e) (item_of e (record { scope = []; next = w₁.next })) _ (item_ok_lem e (record { scope = []; next = w₁.next }) (refl, i₁.1))
    (λ x w₂ h₂. seq (AllMade e) (AllMade e) (R.list e fuel w₂) _ (list_ok e fuel w₂ h₂.1) (λ xs w₃ h₃. (h₂.0, h₃)))))

-- the items of an accepted text are well formed
pub accepted_readable : (e : Entry) (text : List ℕ) (xs : List Item) → reading e text ≡ accepted xs → All (Readable e) xs
unfolding reading
accepted_readable e text xs q = by (R.list e (suc (length text)) (at [] text)) (list_ok e (suc (length text)) (at [] text) (token_good text)) q
  where
    by : (m : Res (List Item)) → Ok (AllMade e) m → R.answer m ≡ accepted xs → All (Readable e) xs
    by (go ys w) h q = subst (All (Readable e)) (let p : ys ≡ xs = cc in p) h
    by stop h q = absurd (let z : ◌≡◌ {A = ℕ} 0 1 = cc in let n : ⊥ = omega arith in n)
