-- What the reader gives is well formed: types, operands, attributes and right sides.
-- Assumes nothing.
use mathlib.Core.Path.{◌≡◌, refl, sym, ap, ◌∙◌, subst}
use mathlib.Core.Bool.{Bool, true, false, cond}
use mathlib.Core.List.{List, ◌∷◌}
use Prim.Native.Nat.{ℕ, zero, suc, ◌<◌, ◌^◌}
use lib.Dec.{eqb, ltb}
use lib.ListN.{length}
use borrow.Author.Tests.{eqb-true, ltb-true}
use Rattle.rules.specs.Bytes.{bytes, same}
use Rattle.rules.specs.Integers.{Read, number, refused, fits, integer, type_width}
use Rattle.rules.specs.Instructions.{instruction_of, arity_of}
use Rattle.rules.specs.Tokens as T
use Rattle.rules.specs.Syntax.{Name, typed, Operand, RightSide, Statement, flat, of_operand, of_side}
use Rattle.rules.specs.Listing.{has}
use Rattle.rules.specs.Meaning.{All}
use Rattle.rules.specs.Grammar.{side_of}
use Rattle.laws.proofs.Members.{all_append}
use Rattle.bynames.proofs.WellFormed.{TypingOk, OperandOk, SideOk, Known, is_block, block_size, SideFits}
use Rattle.bynames.proofs.Tokens.{Next, end, bad, found}
use Rattle.bynames.proofs.Reader as R
use Rattle.bynames.proofs.Reader.{State, Res, go, stop, P, bind}
use Rattle.bynames.proofs.AcceptedTokens.{integer_gives, fits_gives, width_gives, Told, Good, token_good}

-- what holds of an answer and the state behind it, if there is one
abbrev pub Ok : {A : Type 0} → (A → State → Type 0) → Res A → Type 0
Ok Q (go a w) = Q a w
Ok Q stop = Unit {0}

pub seq : {A B : Type 0} (Q : A → State → Type 0) (S : B → State → Type 0) (m : Res A) (f : A → P B) → Ok Q m → ((a : A) (w : State) → Q a w → Ok S (f a w)) → Ok S (bind m f)
seq Q S (go a w) f h k = k a w h
seq Q S stop f h k = tt

pub either : {A : Type 0} (Q : A → State → Type 0) (b : Bool) (f g : P A) (w : State) → (b ≡ true → Ok Q (f w)) → (b ≡ false → Ok Q (g w)) → Ok Q (cond b f g w)
either Q true f g w h k = h refl
either Q false f g w h k = k refl

pub choice : {A : Type 0} (Q : A → State → Type 0) (b : Bool) (x y : Res A) → (b ≡ true → Ok Q x) → (b ≡ false → Ok Q y) → Ok Q (cond b x y)
choice Q true x y h k = h refl
choice Q false x y h k = k refl

-- ---- token helpers: the scope stays as it is
abbrev pub In : List Statement → State → Type 0
In s w = (w.scope ≡ s) × Good w.next

abbrev pub Seen : {A : Type 0} → List Statement → A → State → Type 0
Seen s a w = In s w

-- an answer that is so, in a scope that is kept
abbrev pub Gives : {A : Type 0} → List Statement → (A → Type 0) → A → State → Type 0
Gives s Q a w = In s w × Q a

pub look_ok : (s : List Statement) (w : State) → In s w → Ok (Seen s) (R.look w)
look_ok s w i = by w.next
  where
    by : (n : Next) → Ok (Seen s) (R.seen n w)
    by end = i
    by bad = tt
    by (found k l r) = i

pub demand_ok : (s : List Statement) (w : State) → In s w → Ok (Gives s (λ t. Told t.kind t.letters)) (R.demand w)
demand_ok s w i = by w.next i.1
  where
    by : (n : Next) → Good n → Ok (Gives s (λ t. Told t.kind t.letters)) (R.demanded n w)
    by end g = tt
    by bad g = tt
    by (found k l r) g = ((i.0, token_good r), g)

pub expect-ok : (k : ℕ) (s : List Statement) (w : State) → In s w → Ok (Gives s (Told k)) (R.expect k w)
unfolding R.expect
expect-ok k s w i =
    seq (Gives s (λ t. Told t.kind t.letters)) (Gives s (Told k)) (R.demand w) _ (demand_ok s w i)
    (λ t w₁ g. either (Gives s (Told k)) (eqb t.kind k) _ _ w₁ (λ e. (g.0, subst (λ (n : ℕ). Told n t.letters) (eqb-true t.kind k e) g.1)) (λ e. tt))

pub keyword_ok : (k : List ℕ) (s : List Statement) (w : State) → In s w → Ok (Seen s) (R.keyword k w)
unfolding R.keyword
keyword_ok k s w i =
    seq (Gives s (Told T.ident)) (Seen s) (R.expect T.ident w) _ (expect-ok T.ident s w i) (λ l w₁ g. either (Seen s) (same l k) _ _ w₁ (λ e. g.0) (λ e. tt))

read_ok : (Q : ℕ → Type 0) (r : Read) → ((c : ℕ) → r ≡ number c → Q c) → (s : List Statement) (w : State) → In s w → Ok (Gives s Q) (R.read r w)
read_ok Q (number c) f s w i = (i, f c refl)
read_ok Q refused f s w i = tt

pub int_ok : (s : List Statement) (w : State) → In s w → Ok (Gives s (λ c. c < 2 ^ 128)) (R.int w)
unfolding R.int
int_ok s w i =
    seq (Gives s (Told T.int)) (Gives s (λ c. c < 2 ^ 128)) (R.expect T.int w) _ (expect-ok T.int s w i)
    (λ l w₁ g. read_ok (λ c. c < 2 ^ 128) (integer l) (integer_gives l) s w₁ g.0)

pub field-ok : (width : ℕ) (s : List Statement) (w : State) → In s w → Ok (Gives s (λ c. c < 2 ^ width)) (R.field width w)
unfolding R.field
field-ok width s w i =
    seq (Gives s (Told T.int)) (Gives s (λ c. c < 2 ^ width)) (R.expect T.int w) _ (expect-ok T.int s w i)
    (λ l w₁ g. read_ok (λ c. c < 2 ^ width) (fits width (integer l)) (fits_gives width (integer l)) s w₁ g.0)

-- ---- names
pub known-ok : (n : Name) (s : List Statement) (w : State) → In s w → Ok (Gives s (λ u. has n s ≡ true)) (R.known n w)
known-ok n s w i = choice (Gives s (λ u. has n s ≡ true)) (has n w.scope) (go tt w) stop (λ e. (i, sym (ap (has n) i.0) ∙ e)) (λ e. tt)

pub fresh_ok : (n : Name) (s : List Statement) (w : State) → In s w → Ok (Gives s (λ u. has n s ≡ false)) (R.fresh n w)
fresh_ok n s w i = choice (Gives s (λ u. has n s ≡ false)) (has n w.scope) stop (go tt w) (λ e. tt) (λ e. (i, sym (ap (has n) i.0) ∙ e))

abbrev pub Block : List Statement → Name → ℕ → Type 0
Block s n k = (has n s ≡ true) × (is_block (side_of n s) ≡ true) × (block_size (side_of n s) ≡ k)

pub blocked_ok : (n : Name) (s : List Statement) (w : State) → In s w → Ok (Gives s (Block s n)) (R.blocked n w)
blocked_ok n s w i =
    choice (Gives s (Block s n)) (has n w.scope) _ stop
    (λ e.
    choice (Gives s (Block s n)) (is_block (side_of n w.scope)) _ stop
    (λ f. (i, (sym (ap (has n) i.0) ∙ e, subst (λ (z : List Statement). is_block (side_of n z) ≡ true) i.0 f, ap (λ (z : List Statement). block_size (side_of n z)) (sym i.0))))
    (λ f. tt)) (λ e. tt)

-- ---- types and operands
width_ok_lem : (r : Read) → ((c : ℕ) → r ≡ number c → TypingOk (typed c)) → (s : List Statement) (w : State) → In s w → Ok (Gives s TypingOk) (R.width r w)
width_ok_lem (number c) f s w i = (i, f c refl)
width_ok_lem refused f s w i = tt

pub typing-ok : (s : List Statement) (w : State) → In s w → Ok (Gives s TypingOk) (R.typing w)
unfolding R.typing
typing-ok s w i =
    seq (Seen s) (Gives s TypingOk) (R.look w) _ (look_ok s w i)
    (λ t w₁ i₁.
    either (Gives s TypingOk) (eqb t.kind T.colon) _ _ w₁
    (λ e.
    seq (Gives s (Told T.colon)) (Gives s TypingOk) (R.expect T.colon w₁) _ (expect-ok T.colon s w₁ i₁)
    (λ u w₂ g₂.
    seq (Gives s (Told T.ident)) (Gives s TypingOk) (R.expect T.ident w₂) _ (expect-ok T.ident s w₂ g₂.0) (λ l w₃ g₃. width_ok_lem (type_width l) (width_gives l) s w₃ g₃.0)))
    (λ e. (i₁, tt)))

-- an operand, and the names that it refers to
abbrev pub Refers : List Statement → Operand → Type 0
Refers s o = OperandOk o × Known s (of_operand o)

pub operand-ok : (s : List Statement) (w : State) → In s w → Ok (Gives s (Refers s)) (R.operand w)
unfolding R.operand
operand-ok s w i =
    seq (Seen s) (Gives s (Refers s)) (R.look w) _ (look_ok s w i)
    (λ t w₁ i₁.
    either (Gives s (Refers s)) (eqb t.kind T.val_name) _ _ w₁
    (λ e.
    seq (Gives s (Told T.val_name)) (Gives s (Refers s)) (R.expect T.val_name w₁) _ (expect-ok T.val_name s w₁ i₁)
    (λ n w₂ g₂.
    seq (Gives s (λ u. has n s ≡ true)) (Gives s (Refers s)) (R.known n w₂) _ (known-ok n s w₂ g₂.0) (λ u w₃ g₃. (g₃.0, (g₂.1.named refl, (g₃.1, tt))))))
    (λ e.
    seq (Gives s (λ c. c < 2 ^ 128)) (Gives s (Refers s)) (R.int w₁) _ (int_ok s w₁ i₁)
    (λ c w₂ g₂. seq (Gives s TypingOk) (Gives s (Refers s)) (R.typing w₂) _ (typing-ok s w₂ g₂.0) (λ y w₃ g₃. (g₃.0, ((g₂.1, g₃.1), tt))))))

abbrev pub ReferAll : List Statement → ℕ → List Operand → Type 0
ReferAll s n l = All OperandOk l × Known s (flat of_operand l) × (length l ≡ n)

-- one operand more before others
refer_more : (s : List Statement) (n : ℕ) (o : Operand) (l : List Operand) → Refers s o → ReferAll s n l → ReferAll s (suc n) (o ∷ l)
refer_more s n o l g h = ((g.0, h.0), all_append (λ m. has m s ≡ true) (of_operand o) (flat of_operand l) g.1 h.1, ap suc h.2)

pub further_ok : (n : ℕ) (s : List Statement) (w : State) → In s w → Ok (Gives s (ReferAll s n)) (R.further n w)
unfolding R.further
further_ok zero s w i = (i, (tt, tt, refl))
further_ok (suc n) s w i =
    seq (Gives s (Told T.comma)) (Gives s (ReferAll s (suc n))) (R.expect T.comma w) _ (expect-ok T.comma s w i)
    (λ u w₁ g₁.
    seq (Gives s (Refers s)) (Gives s (ReferAll s (suc n))) (R.operand w₁) _ (operand-ok s w₁ g₁.0)
    (λ o w₂ g₂.
    seq (Gives s (ReferAll s n)) (Gives s (ReferAll s (suc n))) (R.further n w₂) _ (further_ok n s w₂ g₂.0) (λ l w₃ g₃. (g₃.0, refer_more s n o l g₂.1 g₃.1))))

pub operands-ok : (n : ℕ) (s : List Statement) (w : State) → In s w → Ok (Gives s (ReferAll s n)) (R.operands n w)
unfolding R.operands
operands-ok zero s w i = (i, (tt, tt, refl))
operands-ok (suc n) s w i =
    seq (Gives s (Refers s)) (Gives s (ReferAll s (suc n))) (R.operand w) _ (operand-ok s w i)
    (λ o w₂ g₂.
    seq (Gives s (ReferAll s n)) (Gives s (ReferAll s (suc n))) (R.further n w₂) _ (further_ok n s w₂ g₂.0) (λ l w₃ g₃. (g₃.0, refer_more s n o l g₂.1 g₃.1)))

-- ---- right sides
abbrev pub SideIn : List Statement → RightSide → Type 0
SideIn s q = SideOk q × Known s (of_side q) × SideFits s q

pub side-ok : (s : List Statement) (w : State) → In s w → Ok (Gives s (SideIn s)) (R.right_side w)
unfolding R.right_side
side-ok s w i =
    seq (Gives s (Told T.ident)) (Gives s (SideIn s)) (R.expect T.ident w) _ (expect-ok T.ident s w i)
    (λ l w₁ g₁.
    either (Gives s (SideIn s)) (same l (bytes "var")) _ _ w₁ (λ e. (g₁.0, (tt, tt, tt)))
    (λ e.
    either (Gives s (SideIn s)) (same l (bytes "block")) _ _ w₁
    (λ e. seq (Gives s (λ c. c < 2 ^ 32)) (Gives s (SideIn s)) (R.field 32 w₁) _ (field-ok 32 s w₁ g₁.0) (λ k w₂ g₂. (g₂.0, (g₂.1, tt, tt))))
    (λ e.
    either (Gives s (SideIn s)) (same l (bytes "phi")) _ _ w₁
    (λ e.
    seq (Gives s (Told T.val_name)) (Gives s (SideIn s)) (R.expect T.val_name w₁) _ (expect-ok T.val_name s w₁ g₁.0)
    (λ b w₂ g₂.
    seq (Gives s (Block s b)) (Gives s (SideIn s)) (R.blocked b w₂) _ (blocked_ok b s w₂ g₂.0)
    (λ n w₃ g₃.
    seq (Gives s (ReferAll s n)) (Gives s (SideIn s)) (R.further n w₃) _ (further_ok n s w₃ g₃.0)
    (λ o w₄ g₄. (g₄.0, ((g₂.1.named refl, g₄.1.0), (g₃.1.0, g₄.1.1), (g₃.1.1, g₄.1.2 ∙ sym g₃.1.2)))))))
    (λ e.
    either (Gives s (SideIn s)) (same l (bytes "reservedinst")) _ _ w₁ (λ e. (g₁.0, (tt, tt, tt)))
    (λ e.
    either (Gives s (SideIn s)) (same l (bytes "reservedconst")) _ _ w₁ (λ e. (g₁.0, (tt, tt, tt)))
    (λ e.
    either (Gives s (SideIn s)) (ltb (instruction_of l) 59) _ _ w₁
    (λ e.
    seq (Gives s (ReferAll s (arity_of (instruction_of l)))) (Gives s (SideIn s)) (R.operands (arity_of (instruction_of l)) w₁) _ (operands-ok (arity_of (instruction_of l)) s w₁ g₁.0)
    (λ o w₂ g₂. (g₂.0, ((ltb-true (instruction_of l) 59 e, g₂.1.2, g₂.1.0), g₂.1.1, tt))))
    (λ e. tt)))))))
