-- Attributes of assignments and of closing lines: the row that is claimed says the attribute that the reading by names gives.
-- Assumes nothing.
use Prim.Native.Nat.{ℕ, zero, suc, ◌+◌, ◌-◌, ◌<◌, min}
use mathlib.Core.Path.{◌≡◌, refl, sym, ap, ◌∙◌, subst}
use mathlib.Core.Bool.{false, cond}
use mathlib.Core.List.{List, [], ◌∷◌}
use native.Mathlib.Omega.{arith}
use borrow.Author.Tests.{eqb-true, leb-true, leb-false, lt-leb}
use lib.Dec.{eqb, leb}
use lib.ListN.{take, drop}
use lib.Seq.{drop-drop}
use Rattle.rules.specs.declared.Spot.{Spot}
use Rattle.rules.specs.declared.Attribute.{Attribute}
use Rattle.rules.specs.Bytes.{part, same}
use Rattle.rules.specs.Faults as fault
use Rattle.rules.specs.Keywords as keyword
use Rattle.rules.specs.Tokens as kind
use Rattle.rules.specs.Instructions.{keyword_of}
use Rattle.rules.specs.Rows.{◌up_to◌, attribute_at}
use Rattle.rules.specs.Syntax as syntax
use Rattle.rules.specs.Syntax.{Statement}
use Rattle.rules.specs.View.{as_attribute, as_root_attribute}
use Rattle.rules.specs.World.{World, Stand, Tables, Res, P, go, bind, refuse, asks, claim_attribute, many}
use Rattle.rules.specs.Reading as rows
use Rattle.rules.specs.Reading.{letters, attribute_row}
use Rattle.laws.proofs.Cases.{by_cases}
use Rattle.reading.proofs.Claims.{Claims, open_paren_ahead-keeps, attribute_claims, root_attribute_claims}
use Rattle.reading.proofs.Many.{many_turn}
use Rattle.bynames.proofs.Moves.{Within, Takes}
use Rattle.bynames.proofs.MovesRules.{attribute-takes, root_attribute_takes}
use Rattle.bynames.proofs.Reader as names
use Rattle.bynames.proofs.Reader.{State, ahead}
use Rattle.simulation.proofs.Stable.{Sized, with_attribute, attribute_sized, attribute_later, attribute_stays, Says, SayAll, says_later, say_none, say_more}
use Rattle.simulation.proofs.Together.{Both, goes, halts, seq, seq_ok, either, picks, then-names, claims, nested}
use Rattle.simulation.proofs.Words.{keyword_letters, keyword_same, keyword_is, keyword_not, all_bits_lem}
use Rattle.simulation.proofs.Tokens.{world, next_at, state, Sits, after, after_look_within, after-token, look_both, token_both, expect_both, token_as}
use Rattle.simulation.proofs.Numbers.{int_both, field_both}
use Rattle.simulation.proofs.Operands.{Grown, grown_same, grown_more, bits-words}

-- what a row is seen as
abbrev pub see_as : {X : Type 0} → (Attribute → X) → Tables → ℕ → X
see_as read u i = read (attribute_at u.attributes.words i)

-- the letters behind the ten of `knownBits=`
drop-take : (k n : ℕ) (l : List ℕ) → drop k (take n l) ≡ take (n - k) (drop k l)
drop-take zero n l = let e : n - 0 ≡ n = omega arith in rw e refl
drop-take (suc k) zero l = let e : 0 - suc k ≡ 0 = omega arith in rw e refl
drop-take (suc k) (suc n) [] = sym (none (suc n - suc k))
  where
    none : (i : ℕ) → take {A = ℕ} i [] ≡ []
    none zero = refl
    none (suc i) = refl
drop-take (suc k) (suc n) (x ∷ l) = let e : suc n - suc k ≡ n - k = omega arith in rw e (drop-take k n l)

pub pattern-letters : (text : List ℕ) (first past : ℕ) → part text (min (first + 10) past) past ≡ drop 10 (part text first past)
pattern-letters text first past =
    by_cases (leb (first + 10) past)
    (λ e.
    let h = leb-true (first + 10) past e in
    let m : min (first + 10) past ≡ first + 10 = omega arith in
    let k : past - (first + 10) ≡ past - first - 10 = omega arith in
    rw (m, k, ← drop-drop 10 first text) (sym (drop-take 10 (past - first) (drop first text))))
    (λ e.
    let h = leb-false (first + 10) past e in
    let m : past - min (first + 10) past ≡ 0 = omega arith in
    let k : past - first - 10 ≡ 0 = omega arith in
    rw m (sym (drop-take 10 (past - first) (drop first text) ∙ rw k refl)))

-- the five flags
not_flag : (k : ℕ) → (k ≡ 10 → ⊥) → (k ≡ 11 → ⊥) → (k ≡ 12 → ⊥) → (k ≡ 13 → ⊥) → (k ≡ 14 → ⊥) → rows.is_flag k ≡ false
not_flag k a b c d e =
    by_cases (leb 10 k)
    (λ h. let g = leb-true 10 k h in rw h (lt-leb k 14 (omega arith)))
    (λ h. rw h refl)

module _ (text : List ℕ) (f : ℕ) (l : List Statement) where
  -- an attribute's row was claimed, and says the attribute
  pub data Attributed {X : Type 0} (read : Attribute → X) (t : Tables) : Unit {0} → World → X → State → Type 0 where
    attributed : (s : Stand) (u : Tables) (y : X) → Sits text s → Grown t u → u.attributes.count ≡ t.attributes.count + 1 → Says (see_as read) u t.attributes.count y
        → Attributed read t tt (world text f s u) y (state text l s)

  module _ (t : Tables) (zd : Sized t) where
    close_both : {X : Type 0} (read : Attribute → X) (r : Attribute) (y : X) → read r ≡ y → (s : Stand) → Sits text s → Both (Attributed read t) (rows.close_attribute r (world text f s t)) (names.closed y (state text l s))
    unfolding rows.close_attribute claim_attribute
    close_both read r y e s z =
        after text f t l _ _ (expect_both text f t l kind.close_paren s z) (λ x v w h.
        claims t.attributes (world text f v (with_attribute r t)) (world text f v t) y (state text l v)
        (attributed v (with_attribute r t) y w
        (record { later = attribute_later t zd r; sized = attribute_sized t zd r; statements = refl; items = refl }) refl
        (record { by = λ u k. ap read (attribute_stays t zd u r k) ∙ e })))

    sign_bits_both : (s : Stand) → Sits text s → Both (Attributed (as_attribute text) t) (rows.sign_bits (world text f s t)) (names.after_equals names.counted (state text l s))
    unfolding rows.sign_bits names.counted as_attribute
    sign_bits_both s z =
        after text f t l _ _ (expect_both text f t l kind.equals s z) (λ x v y h.
        after text f t l _ _ (field_both text f t l 8 v y) (λ n v₁ y₁ h₁.
        close_both (as_attribute text) _ _ (ap syntax.sign_bits (bits-words n)) v₁ y₁))

    range_both : (s : Stand) → Sits text s → Both (Attributed (as_attribute text) t) (rows.range (world text f s t)) (names.after_equals names.bounds (state text l s))
    unfolding rows.range names.bounds as_attribute
    range_both s z =
        after text f t l _ _ (expect_both text f t l kind.equals s z) (λ x v y h.
        after text f t l _ _ (expect_both text f t l kind.open_bracket v y) (λ x₁ v₁ y₁ h₁.
        after text f t l _ _ (int_both text f t l v₁ y₁) (λ low v₂ y₂ h₂.
        after text f t l _ _ (expect_both text f t l kind.comma v₂ y₂) (λ x₃ v₃ y₃ h₃.
        after text f t l _ _ (int_both text f t l v₃ y₃) (λ high v₄ y₄ h₄.
        after text f t l _ _ (expect_both text f t l kind.close_paren v₄ y₄) (λ x₅ v₅ y₅ h₅.
        close_both (as_attribute text) _ _ (λ i. syntax.range (bits-words low i) (bits-words high i)) v₅ y₅))))))

    -- the attribute of a word, by the keyword that it is
    abbrev attribute_by : ℕ → names.P syntax.Attribute
    attribute_by k =
        cond (eqb k keyword.power_of_two) (names.closed syntax.power_of_two)
        (cond (eqb k keyword.negative) (names.closed syntax.negative)
        (cond (eqb k keyword.non_negative) (names.closed syntax.non_negative)
        (cond (eqb k keyword.non_zero) (names.closed syntax.non_zero)
        (cond (eqb k keyword.has_external_uses) (names.closed syntax.has_external_uses)
        (cond (eqb k keyword.sign_bits) (names.after_equals names.counted)
        (cond (eqb k keyword.range) (names.after_equals names.bounds) names.refuse))))))

    attribute_by_lem : (k : ℕ) (w : List ℕ) → ((i : ℕ) → i < 19 → eqb k i ≡ same w (keyword_letters i)) → names.attribute_of w ≡ attribute_by k
    unfolding names.attribute_of
    attribute_by_lem k w h = rw (h 10 (omega arith), h 11 (omega arith), h 12 (omega arith), h 13 (omega arith), h 14 (omega arith), h 15 (omega arith), h 16 (omega arith)) refl

    flag_both : (k : ℕ) (y : syntax.Attribute) → as_attribute text (attribute_row (rows.attribute_code k) (0 up_to 0) 0 0) ≡ y → (s : Stand) → Sits text s
        → Both (Attributed (as_attribute text) t) (rows.flag k (world text f s t)) (names.closed y (state text l s))
    unfolding rows.flag
    flag_both k y e s z = close_both (as_attribute text) (attribute_row (rows.attribute_code k) (0 up_to 0) 0 0) y e s z

    inner_both : (k : ℕ) (x : Spot) (s : Stand) → Sits text s
        → Both (Attributed (as_attribute text) t)
        (cond (rows.is_flag k) (rows.flag k) (cond (eqb k keyword.sign_bits) rows.sign_bits (cond (eqb k keyword.range) rows.range (refuse fault.token x))) (world text f s t)) (attribute_by k (state text l s))
    unfolding as_attribute
    inner_both k x s z =
        picks _ k 10 _ _ (state text l s) (λ h. rw h (flag_both 10 _ refl s z)) (λ n₁.
        picks _ k 11 _ _ (state text l s) (λ h. rw h (flag_both 11 _ refl s z)) (λ n₂.
        picks _ k 12 _ _ (state text l s) (λ h. rw h (flag_both 12 _ refl s z)) (λ n₃.
        picks _ k 13 _ _ (state text l s) (λ h. rw h (flag_both 13 _ refl s z)) (λ n₄.
        picks _ k 14 _ _ (state text l s) (λ h. rw h (flag_both 14 _ refl s z)) (λ n₅.
        rw (not_flag k n₁ n₂ n₃ n₄ n₅)
        (either (eqb k keyword.sign_bits) _ _ _ _ (world text f s t) (state text l s) (λ h. sign_bits_both s z) (λ h.
        either (eqb k keyword.range) _ _ _ _ (world text f s t) (state text l s) (λ h. range_both s z) (λ h. halts fault.token x))))))))

    pub attribute_both : (s : Stand) → Sits text s → Both (Attributed (as_attribute text) t) (rows.attribute (world text f s t)) (names.attribute (state text l s))
    unfolding rows.attribute names.attribute rows.attribute_inner rows.keyword_at asks as_attribute
    attribute_both s z =
        after text f t l _ _ (expect_both text f t l kind.open_paren s z) (λ x v y h.
        after-token text f t l _ _ (token_both text f t l v y) (λ x₁ v₁ y₁ h₁.
        either (eqb x₁.kind kind.known_bits) _ _ _ _ (world text f v₁ t) (state text l v₁)
        (λ e. close_both (as_attribute text) _ _ (ap syntax.known_bits (pattern-letters text x₁.first x₁.past)) v₁ y₁)
        (λ e.
        by_cases (eqb x₁.kind kind.ident)
        (λ i. rw (i, attribute_by_lem (keyword_of (letters text x₁)) (letters text x₁) (λ j q. keyword_same j q (letters text x₁))) (inner_both (keyword_of (letters text x₁)) x₁ v₁ y₁))
        (λ i. rw i (halts fault.token x₁)))))

    demanded_both : (s : Stand) → Sits text s → Both (Attributed (as_root_attribute text) t) (rows.demanded_bits (world text f s t)) (names.after_equals names.demanded_pattern (state text l s))
    unfolding rows.demanded_bits names.demanded_pattern asks as_root_attribute
    demanded_both s z =
        after text f t l _ _ (expect_both text f t l kind.equals s z) (λ x v y h.
        after text f t l _ _ (expect_both text f t l kind.int v y) (λ x₁ v₁ y₁ h₁.
        rw (← all_bits_lem (letters text x₁))
        (either (rows.all_bits (letters text x₁)) _ _ _ _ (world text f v₁ t) (state text l v₁)
        (λ e. close_both (as_root_attribute text) _ _ refl v₁ y₁)
        (λ e. halts fault.token x₁))))

    pub root_attribute_both : (s : Stand) → Sits text s → Both (Attributed (as_root_attribute text) t) (rows.root_attribute (world text f s t)) (names.root_attribute (state text l s))
    unfolding rows.root_attribute names.root_attribute asks as_root_attribute rows.flag
    root_attribute_both s z =
        after text f t l _ _ (expect_both text f t l kind.open_paren s z) (λ x v y h.
        token_as text f t l kind.ident _ _ v y
        (λ x₁ v₁ y₁ e h₁.
        rw (keyword_is 18 (omega arith) text x₁ e, keyword_is 17 (omega arith) text x₁ e)
        (either (same (letters text x₁) (keyword_letters 18)) _ _ _ _ (world text f v₁ t) (state text l v₁)
        (λ q. let k : rows.keyword_at text x₁ ≡ 18 = eqb-true _ _ (keyword_is 18 (omega arith) text x₁ e ∙ q) in rw k (close_both (as_root_attribute text) _ _ refl v₁ y₁)) (λ q.
        either (same (letters text x₁) (keyword_letters 17)) _ _ _ _ (world text f v₁ t) (state text l v₁) (λ r. demanded_both v₁ y₁) (λ r. halts fault.token x₁))))
        (λ x₁ v₁ y₁ e. rw (keyword_not 18 (omega arith) text x₁ e, keyword_not 17 (omega arith) text x₁ e) (halts fault.token x₁)))

-- attributes, as long as there is a '('
module _ (text : List ℕ) (f : ℕ) (l : List Statement) {X : Type 0} (read : Attribute → X) where
  pub data AttributedAll (t : Tables) : Unit {0} → World → List X → State → Type 0 where
    attributed_all : (s : Stand) (u : Tables) (n : ℕ) (ys : List X) → Sits text s → Grown t u → u.attributes.count ≡ t.attributes.count + n → SayAll (see_as read) u t.attributes.count n ys
        → AttributedAll t tt (world text f s u) ys (state text l s)

  pub after-attributes : {A B : Type 0} {Z : A → World → B → State → Type 0} {t : Tables} {m : Res (Unit {0})} {n : names.Res (List X)} (F : Unit {0} → P A) (G : List X → names.P B) → Both (AttributedAll t) m n
      → ((s : Stand) (u : Tables) (n : ℕ) (ys : List X) → Sits text s → Grown t u → u.attributes.count ≡ t.attributes.count + n → SayAll (see_as read) u t.attributes.count n ys
      → Both Z (F tt (world text f s u)) (G ys (state text l s)))
      → Both Z (bind m F) (names.bind n G)
  after-attributes {Z = Z} {t = t} F G b k = seq F G b on
    where
      on : (x : Unit {0}) (w : World) (y : List X) (a : State) → AttributedAll t x w y a → Both Z (F x w) (G y a)
      on x w y a (attributed_all s u n ys z g c h) = k s u n ys z g c h

  -- an attribute before others
  one_more : (t : Tables) (u : Tables) (o : X) → Grown t u → u.attributes.count ≡ t.attributes.count + 1 → Says (see_as read) u t.attributes.count o
      → {m : Res (Unit {0})} {r : names.Res (List X)} → Both (AttributedAll u) m r → Both (AttributedAll t) m (names.bind r (λ ys. names.give (o ∷ ys)))
  one_more t u o g c h b = then-names (λ ys. names.give (o ∷ ys)) b on
    where
      on : (x : Unit {0}) (w : World) (ys : List X) (a : State) → AttributedAll u x w ys a → Both (AttributedAll t) (go x w) (names.go (o ∷ ys) a)
      on x w ys a (attributed_all s v n zs z g' c' h') =
          goes _ _ _ _
          (attributed_all s v (suc n) (o ∷ zs) z (grown_more g g') (omega arith)
          (say_more (says_later g'.later h) (subst (λ (i : ℕ). SayAll (see_as read) v i n zs) c h')))

  module _ (rule : P (Unit {0})) (one : names.P X) (claiming : Claims (λ t. t.attributes) rule) (taking : Takes one)
      (both : (t : Tables) → Sized t → (s : Stand) → Sits text s → Both (Attributed text f l read t) (rule (world text f s t)) (one (state text l s))) where
    loop : (g : ℕ) (t : Tables) → Sized t → (s : Stand) → Sits text s → ahead (next_at text s) < g
        → Both (AttributedAll t) (many (λ t. t.attributes) rows.open_paren_ahead rule (world text f s t)) (names.attributes one g (state text l s))
    unfolding names.attributes rows.open_paren_ahead
    loop zero t zd s z h = absurd (let q : ⊥ = omega arith in q)
    loop (suc g) t zd s z h =
        rw (many_turn (open_paren_ahead-keeps (λ t. t.attributes)) claiming (world text f s t))
        (nested (rows.lookahead (world text f s t)) _ _
        (after_look_within text f t l (suc g) _ _ s z h (look_both text f t l s z) (λ v y i.
        either (eqb v.ahead.kind kind.open_paren) _ _ _ _ (world text f v t) (state text l v)
        (λ e. seq_ok _ _ (both t zd v y) (taking.by g (state text l v) y i) (turn g t (loop g)))
        (λ e. goes _ _ _ _ (attributed_all v t 0 [] y (grown_same zd) (omega arith) say_none)))))
      where
        turn : (g : ℕ) (t : Tables)
            → ((t : Tables) → Sized t → (s : Stand) → Sits text s → ahead (next_at text s) < g
            → Both (AttributedAll t) (many (λ t. t.attributes) rows.open_paren_ahead rule (world text f s t)) (names.attributes one g (state text l s)))
            → (x : Unit {0}) (w : World) (y : X) (a : State) → Attributed text f l read t x w y a → Within g y a
            → Both (AttributedAll t) (many (λ t. t.attributes) rows.open_paren_ahead rule w) (names.bind (names.attributes one g a) (λ ys. names.give (y ∷ ys)))
        turn g t ih x w y a (attributed s u o z k c h) i = one_more t u o k c h (ih u k.sized s z i.1)

    pub loop-here : (t : Tables) → Sized t → (s : Stand) → Sits text s
        → Both (AttributedAll t) (many (λ t. t.attributes) rows.open_paren_ahead rule (world text f s t)) (names.attributes_here one (state text l s))
    loop-here t zd s z = loop (suc (ahead (next_at text s))) t zd s z (omega arith)

module _ (text : List ℕ) (f : ℕ) (l : List Statement) (t : Tables) (zd : Sized t) (s : Stand) (z : Sits text s) where
  pub attributes_both : Both (AttributedAll text f l (as_attribute text) t) (rows.attributes (world text f s t)) (names.attributes_here names.attribute (state text l s))
  unfolding rows.attributes
  attributes_both = loop-here text f l (as_attribute text) rows.attribute names.attribute attribute_claims attribute-takes (attribute_both text f l) t zd s z

  pub root_attributes_both : Both (AttributedAll text f l (as_root_attribute text) t) (rows.root_attributes (world text f s t)) (names.attributes_here names.root_attribute (state text l s))
  unfolding rows.root_attributes
  root_attributes_both = loop-here text f l (as_root_attribute text) rows.root_attribute names.root_attribute root_attribute_claims root_attribute_takes (root_attribute_both text f l) t zd s z
