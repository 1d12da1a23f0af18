-- Attributes: each row that is claimed has what its code wants.
-- Assumes nothing.
use Prim.Native.Nat.{ℕ, zero, suc, ◌/◌, ◌%◌, ◌^◌, ◌≤◌, ◌<◌}
use mathlib.Core.Path.{◌≡◌, refl, sym, ap, ◌∙◌, subst}
use mathlib.Core.Bool.{Bool, true}
use mathlib.Core.List.{List}
use native.Mathlib.Nat.{le_trans}
use native.Mathlib.Omega.{arith}
use borrow.Author.Tests.{eq-eqb, le-leb, eqb-true, eqb-false, ltb-true, ltb-false, leb-true}
use lib.Dec.{eqb, leb, ltb}
use lib.ListN.{length}
use Rattle.rules.specs.declared.Spot.{Spot}
use Rattle.rules.specs.declared.Span.{Span}
use Rattle.rules.specs.declared.Attribute.{Attribute}
use Rattle.rules.specs.Bytes.{pattern_byte, inside}
use Rattle.rules.specs.Keywords as keyword
use Rattle.rules.specs.Tokens as kind
use Rattle.rules.specs.Rows.{◌up_to◌, words_of, letters_of, attribute_at, attribute_words, known_bits_code, sign_bits_code, range_code, demanded_bits_code, harvested_from_use_code}
use Rattle.rules.specs.WellFormed.{is_pattern, pattern_in, no_span, pattern_ok, greatest, numbers_ok, at_most, attribute_ok}
use Rattle.rules.specs.World.{Stand, Tables, P, asks, claim_attribute, repeated, many}
use Rattle.rules.specs.Reading as R
use Rattle.rules.specs.Reading.{letters, all_bits, attribute_row, pattern_of}
use Rattle.laws.proofs.Cases.{by_cases}
use Rattle.laws.proofs.Tests.{and_left, and_right}
use Rattle.simulation.proofs.Tokens.{world}
use Rattle.simulation.proofs.Stable.{with_attribute, attribute_sized, attribute_later, attribute_stays, Says, says_later}
use Rattle.simulation.proofs.Attributes.{pattern-letters}
use Rattle.accepted.proofs.Padding.{and_both, Fit, fit_append}
use Rattle.accepted.proofs.Letters.{pattern_is, all_bits_lem}
use Rattle.accepted.proofs.Going.{Word, Any, Sits, Reads, reads, read_then, Goes, goes, stops, after, then, either, weaker, claims, look_reads, token-reads, expect-reads}
use Rattle.accepted.proofs.Numbers.{int-reads, field-reads}
use Rattle.accepted.proofs.Operands.{Holds, Grown, grown_same, grown_more, words-fit, small_word}

abbrev pub att_ok : List ℕ → ℕ → ℕ → Tables → ℕ → Bool
att_ok text lo hi u j = attribute_ok text lo hi (attribute_at u.attributes.words j)

-- attributes were claimed
pub record Attributed (text : List ℕ) (lo hi : ℕ) (t u : Tables) : Type 0 where
  pub grown : Grown t u
  pub operands : u.operands.count ≡ t.operands.count
  pub ok : (j : ℕ) → t.attributes.count ≤ j → j < u.attributes.count → Says (att_ok text lo hi) u j true

pub none_attributed : {text : List ℕ} {lo hi : ℕ} {t : Tables} → Holds t → Attributed text lo hi t t
none_attributed h = record { grown = grown_same h; operands = refl; ok = λ j a b. absurd (let z : ⊥ = omega arith in z) }

more_attributed : {text : List ℕ} {lo hi : ℕ} {t u v : Tables} → Attributed text lo hi t u → Attributed text lo hi u v → Attributed text lo hi t v
more_attributed {u = u} x y =
    record {
      grown = grown_more x.grown y.grown;
      operands = y.operands ∙ x.operands;
      ok =
          λ j h l.
          by_cases (ltb j u.attributes.count)
          (λ q. says_later y.grown.later (x.ok j h (ltb-true _ _ q)))
          (λ q. y.ok j (ltb-false _ _ q) l);
    }

attribute-holds : (t : Tables) → Holds t → (r : Attribute) → Fit (attribute_words r) → t.attributes.count < t.attributes.cap → Holds (with_attribute r t)
attribute-holds t hd r fit room =
    let few = hd.attributes_few in
    record {
      sized = attribute_sized t hd.sized r;
      items = hd.items;
      statements = hd.statements;
      operands = hd.operands;
      attributes = fit_append t.attributes.words (attribute_words r) hd.attributes fit;
      statements_few = hd.statements_few;
      operands_few = hd.operands_few;
      attributes_few = (omega arith, few.1);
    }

-- a number of 8 bits as four words
few_bits : (n : ℕ) → n < 2 ^ 8 → at_most 255 (words_of n) ≡ true
unfolding at_most
few_bits n h =
    let q : n / 2 ^ 64 ≡ 0 = omega arith in
    let m : n % 2 ^ 64 ≡ n = omega arith in
    let q' : n / 2 ^ 32 ≡ 0 = omega arith in
    let m' : n % 2 ^ 32 ≡ n = omega arith in
    rw (q, m, q', m') (le-leb n 255 (omega arith))

flag_ok : (text : List ℕ) (k : ℕ) → 10 ≤ k → k ≤ 14 → attribute_ok text known_bits_code range_code (attribute_row (R.attribute_code k) (0 up_to 0) 0 0) ≡ true
unfolding attribute_ok pattern_ok numbers_ok no_span at_most greatest inside
flag_ok text k h l =
    is 10 refl (λ n.
    is 11 refl (λ n₁.
    is 12 refl (λ n₂.
    is 13 refl (λ n₃.
    is 14 refl (λ n₄. absurd (let z : ⊥ = omega arith in z))))))
  where
    Goal : ℕ → Type 0
    Goal k = attribute_ok text known_bits_code range_code (attribute_row (R.attribute_code k) (0 up_to 0) 0 0) ≡ true

    is : (j : ℕ) → Goal j → ((k ≡ j → ⊥) → Goal k) → Goal k
    is j g o = by_cases (eqb k j) (λ e. subst Goal (sym (eqb-true k j e)) g) (λ e. o (eqb-false k j e))

-- the words of a row
row_fits : (code : ℕ) (s : Span) (low high : ℕ) → code ≤ 65536 → s.first ≤ 65536 → s.past ≤ 65536 → low < 2 ^ 128 → high < 2 ^ 128 → Fit (attribute_words (attribute_row code s low high))
unfolding attribute_words
row_fits code s low high c a b x y =
    let l = words-fit low x in
    let h = words-fit high y in
    (small_word code c, (small_word s.first a, (small_word s.past b, (l.0, (l.1.0, (l.1.1.0, (l.1.1.1.0, h)))))))

none : 0 < 2 ^ 128
none = leb-true 1 (2 ^ 128) refl

eight : (n : ℕ) → n < 2 ^ 8 → n < 2 ^ 128
eight n h = leb-true (suc n) (2 ^ 128) (le-leb (suc n) (2 ^ 128) (le_trans (less n h) (leb-true 256 (2 ^ 128) refl)))
  where
    less : (n : ℕ) → n < 2 ^ 8 → suc n ≤ 256
    less n h = omega arith

sign_ok : (text : List ℕ) (n : ℕ) → n < 2 ^ 8 → attribute_ok text known_bits_code range_code (attribute_row sign_bits_code (0 up_to 0) n 0) ≡ true
unfolding attribute_ok pattern_ok numbers_ok no_span greatest inside at_most
sign_ok text n h = and_both (few_bits n h) refl

-- attributes of a statement, and of an item's closing line
abbrev Own : List ℕ → Tables → Unit {0} → Tables → Type 0
Own text t x u = Attributed text known_bits_code range_code t u

abbrev Root : List ℕ → Tables → Unit {0} → Tables → Type 0
Root text t x u = Attributed text demanded_bits_code harvested_from_use_code t u

known-ok : (text : List ℕ) (x : Spot) → Word text x → x.kind ≡ kind.known_bits → attribute_ok text known_bits_code range_code (attribute_row known_bits_code (pattern_of x) 0 0) ≡ true
unfolding attribute_ok pattern_ok numbers_ok at_most greatest inside pattern_in
known-ok text x w e =
    let p = pattern-letters text x.first x.past in
    let q : is_pattern pattern_byte (letters_of text (pattern_of x)) ≡ true = rw p (pattern_is pattern_byte _ (w.told.pattern e)) in
    and_both (and_both (le-leb x.past (length text) w.inside) q) refl

demanded_ok : (text : List ℕ) (x : Spot) → Word text x → x.kind ≡ kind.int → all_bits (letters text x) ≡ true → attribute_ok text demanded_bits_code harvested_from_use_code (attribute_row demanded_bits_code (x.first up_to x.past) 0 0) ≡ true
unfolding attribute_ok pattern_ok numbers_ok at_most greatest inside pattern_in is_pattern
demanded_ok text x w e b =
    and_both (and_both (le-leb x.past (length text) w.inside) (and_both (le-leb 1 (length (letters text x)) (w.told.some e)) (eq-eqb _ _ (all_bits_lem (letters text x) b)))) refl

module _ {text : List ℕ} {f : ℕ} (short : length text ≤ 65536) (t : Tables) (hd : Holds t) where
  module _ (lo hi : ℕ) where
    close_goes : (r : Attribute) → attribute_ok text lo hi r ≡ true → Fit (attribute_words r) → (s : Stand) → Sits text s → Goes text f (λ x u. Attributed text lo hi t u) (R.close_attribute r (world text f s t))
    unfolding R.close_attribute claim_attribute
    close_goes r ok fit s z =
        after _ (expect-reads t kind.close_paren s z) (λ x v y q.
        claims t.attributes (with_attribute r t) v (world text f v t) y (λ room.
        record {
          grown = record { later = attribute_later t hd.sized r; holds = attribute-holds t hd r fit room; statements = refl; items = refl };
          operands = refl;
          ok =
              λ j a b.
              let e : t.attributes.count ≡ j = omega arith in
              subst (λ (i : ℕ). Says (att_ok text lo hi) (with_attribute r t) i true) e
              (record { by = λ u k. ap (attribute_ok text lo hi) (attribute_stays t hd.sized u r k) ∙ ok });
        }))

  flag_goes : (k : ℕ) → 10 ≤ k → k ≤ 14 → (s : Stand) → Sits text s → Goes text f (Own text t) (R.flag k (world text f s t))
  unfolding R.flag
  flag_goes k h l s z = close_goes _ _ _ (flag_ok text k h l) (row_fits _ _ 0 0 (omega arith) (omega arith) (omega arith) none none) s z

  sign_goes : (s : Stand) → Sits text s → Goes text f (Own text t) (R.sign_bits (world text f s t))
  unfolding R.sign_bits
  sign_goes s z =
      after _ (expect-reads t kind.equals s z) (λ x v y q.
      after _ (field-reads t 8 v y) (λ n v₁ y₁ h.
      close_goes _ _ _ (sign_ok text n h) (row_fits sign_bits_code (0 up_to 0) n 0 (leb-true 7 65536 refl) (leb-true 0 65536 refl) (leb-true 0 65536 refl) (eight n h) none) v₁ y₁))

  range_goes : (s : Stand) → Sits text s → Goes text f (Own text t) (R.range (world text f s t))
  unfolding R.range attribute_ok pattern_ok numbers_ok no_span greatest inside
  range_goes s z =
      after _ (expect-reads t kind.equals s z) (λ x₁ v₁ y₁ q₁.
      after _ (expect-reads t kind.open_bracket v₁ y₁) (λ x₂ v₂ y₂ q₂.
      after _ (int-reads t v₂ y₂) (λ low v₃ y₃ h.
      after _ (expect-reads t kind.comma v₃ y₃) (λ x₄ v₄ y₄ q₄.
      after _ (int-reads t v₄ y₄) (λ high v₅ y₅ h₅.
      after _ (expect-reads t kind.close_paren v₅ y₅) (λ x₆ v₆ y₆ q₆.
      close_goes _ _ _ refl (row_fits range_code (0 up_to 0) low high (leb-true 8 65536 refl) (leb-true 0 65536 refl) (leb-true 0 65536 refl) h h₅) v₆ y₆))))))

  inner_goes : (x : Spot) → Word text x → (k : ℕ) (s : Stand) → Sits text s → Goes text f (Own text t) (R.attribute_inner x k (world text f s t))
  unfolding R.attribute_inner
  inner_goes x w k s z =
      let i = w.inside in
      either (eqb x.kind kind.known_bits) _ _ (world text f s t)
      (λ e. close_goes _ _ _ (known-ok text x w (eqb-true _ _ e)) (row_fits known_bits_code (pattern_of x) 0 0 (omega arith) (omega arith) (omega arith) none none) s z)
      (λ e.
      either (R.is_flag k) _ _ (world text f s t)
      (λ e₁. flag_goes k (leb-true 10 k (and_left (leb 10 k) (leb k 14) e₁)) (leb-true k 14 (and_right (leb 10 k) (leb k 14) e₁)) s z)
      (λ e₁.
      either (eqb k keyword.sign_bits) _ _ (world text f s t)
      (λ e₂. sign_goes s z)
      (λ e₂.
      either (eqb k keyword.range) _ _ (world text f s t)
      (λ e₃. range_goes s z)
      (λ e₃. stops _ _))))

  attribute_goes : (s : Stand) → Sits text s → Goes text f (Own text t) (R.attribute (world text f s t))
  unfolding R.attribute asks
  attribute_goes s z =
      after _ (expect-reads t kind.open_paren s z) (λ x v y q.
      after _ (token-reads t v y) (λ x₁ v₁ y₁ w. inner_goes x₁ w (R.keyword_at text x₁) v₁ y₁))

  demanded_goes : (s : Stand) → Sits text s → Goes text f (Root text t) (R.demanded_bits (world text f s t))
  unfolding R.demanded_bits asks
  demanded_goes s z =
      after _ (expect-reads t kind.equals s z) (λ x v y q.
      after _ (expect-reads t kind.int v y) (λ x₁ v₁ y₁ q₁.
      let i = q₁.0.inside in
      let j = q₁.0.some in
      either (all_bits (letters text x₁)) _ _ (world text f v₁ t)
      (λ e. close_goes _ _ _ (demanded_ok text x₁ q₁.0 q₁.1 e) (row_fits demanded_bits_code (x₁.first up_to x₁.past) 0 0 (omega arith) (omega arith) (omega arith) none none) v₁ y₁)
      (λ e. stops _ _)))

  harvested_goes : (k : ℕ) → k ≡ keyword.harvested_from_use → (s : Stand) → Sits text s → Goes text f (Root text t) (R.flag k (world text f s t))
  unfolding R.flag attribute_ok pattern_ok numbers_ok no_span at_most greatest inside
  harvested_goes k e s z = rw e (close_goes demanded_bits_code harvested_from_use_code (attribute_row 10 (0 up_to 0) 0 0) refl (row_fits 10 (0 up_to 0) 0 0 (omega arith) (omega arith) (omega arith) none none) s z)

  root_goes : (s : Stand) → Sits text s → Goes text f (Root text t) (R.root_attribute (world text f s t))
  unfolding R.root_attribute asks
  root_goes s z =
      after _ (expect-reads t kind.open_paren s z) (λ x v y q.
      after _ (token-reads t v y) (λ x₁ v₁ y₁ w.
      either (eqb (R.keyword_at text x₁) keyword.harvested_from_use) _ _ (world text f v₁ t)
      (λ e. harvested_goes (R.keyword_at text x₁) (eqb-true _ _ e) v₁ y₁)
      (λ e.
      either (eqb (R.keyword_at text x₁) keyword.demanded_bits) _ _ (world text f v₁ t)
      (λ e₁. demanded_goes v₁ y₁)
      (λ e₁. stops _ _))))

  open_reads : (s : Stand) → Sits text s → Reads text f t Any (R.open_paren_ahead (world text f s t))
  unfolding R.open_paren_ahead
  open_reads s z = read_then _ (look_reads t s z) (λ x v y q. reads _ v y tt)

-- many of them
module _ {text : List ℕ} {f : ℕ} (short : length text ≤ 65536) (lo hi : ℕ) (rule : P (Unit {0}))
    (one : (t : Tables) → Holds t → (s : Stand) → Sits text s → Goes text f (λ x u. Attributed text lo hi t u) (rule (world text f s t))) where
  turns : (n : ℕ) (t : Tables) → Holds t → (s : Stand) → Sits text s → Goes text f (λ x u. Attributed text lo hi t u) (repeated n R.open_paren_ahead rule (world text f s t))
  unfolding repeated
  turns zero t hd s z = stops _ _
  turns (suc n) t hd s z =
      after _ (open_reads short t hd s z) (λ more v y q.
      either more _ _ (world text f v t)
      (λ e. then _ (one t hd v y) (λ x v₁ u y₁ a. weaker (turns n u a.grown.holds v₁ y₁) (λ x₁ u₁ b. more_attributed a b)))
      (λ e. goes tt v t y (none_attributed hd)))

  all_goes : (t : Tables) → Holds t → (s : Stand) → Sits text s → Goes text f (λ x u. Attributed text lo hi t u) (many (λ u. u.attributes) R.open_paren_ahead rule (world text f s t))
  unfolding many
  all_goes t hd s z = turns (suc t.attributes.cap) t hd s z

module _ {text : List ℕ} {f : ℕ} (short : length text ≤ 65536) where
  pub attributes_goes : (t : Tables) → Holds t → (s : Stand) → Sits text s → Goes text f (λ x u. Attributed text known_bits_code range_code t u) (R.attributes (world text f s t))
  unfolding R.attributes
  attributes_goes t hd s z = all_goes short known_bits_code range_code R.attribute (attribute_goes short) t hd s z

  pub roots_goes : (t : Tables) → Holds t → (s : Stand) → Sits text s → Goes text f (λ x u. Attributed text demanded_bits_code harvested_from_use_code t u) (R.root_attributes (world text f s t))
  unfolding R.root_attributes
  roots_goes t hd s z = all_goes short demanded_bits_code harvested_from_use_code R.root_attribute (root_goes short) t hd s z
