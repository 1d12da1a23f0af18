-- A printed number is an integer's token, and reads as that number.
-- Assumes nothing.
use mathlib.Core.Path.{◌≡◌, refl, sym, ap, ◌∙◌, subst}
use mathlib.Core.Bool.{Bool, true, false, ◌||◌}
use mathlib.Core.List.{List, [], ◌∷◌, ◌++◌, append_assoc, append-nil}
use Prim.Native.Nat.{ℕ, zero, suc, ◌+◌, ◌-◌, ◌*◌, ◌/◌, ◌%◌, ◌^◌, ◌≤◌, ◌<◌, suc-le-suc}
use native.Mathlib.Omega.{arith}
use native.Mathlib.Nat.{le_trans}
use lib.Dec.{eqb, leb, ltb}
use lib.ListN.{get_or}
use borrow.Author.Tests.{lt-ltb, le-leb, lt-leb, ne_eqb, ltb-true, leb-true, leb-false}
use Rattle.rules.specs.Bytes.{byte, inside, digit, letter, name_byte}
use Rattle.rules.specs.Integers.{number, behind, unsigned, fits, opposite, integer, type_width, spell, digits, decimal}
use Rattle.rules.specs.Tokens.{int_start}
use Rattle.rules.specs.Meaning.{Each}
use Rattle.laws.proofs.Same.{by_cond}
use Rattle.laws.proofs.Tests.{and_left}
use Rattle.laws.proofs.Opposite.{opposite_is, left}
use Rattle.laws.proofs.Members.{all_append}
use Rattle.bynames.proofs.Pieces.{IsInt}

is_digit : (d : ℕ) → d < 10 → digit (48 + d) ≡ true
unfolding digit inside
is_digit d h = rw (le-leb 48 (48 + d) (omega arith), le-leb (48 + d) 57 (omega arith))

-- digits, one or more, that say n before any others
record Says (n : ℕ) (l : List ℕ) : Type 0 where
  pub first : ℕ
  pub rest : List ℕ
  pub spelt : l ≡ first ∷ rest
  pub each : Each digit l
  pub value : (r : List ℕ) → behind 0 (l ++ r) ≡ behind n r

says_one : (n : ℕ) → n < 10 → Says n ((48 + n) ∷ [])
says_one n h =
    record {
      first = 48 + n;
      rest = [];
      spelt = refl;
      each = (is_digit n h, tt);
      value = λ r. let w : 0 * 10 + (48 + n - 48) ≡ n = omega arith in rw (is_digit n h, w);
    }

says_more : (n : ℕ) (l : List ℕ) → Says (n / 10) l → Says n (l ++ ((48 + n % 10) ∷ []))
says_more n l s =
    let small : n % 10 < 10 = omega arith in
    let whole : n / 10 * 10 + (48 + n % 10 - 48) ≡ n = omega arith in
    record {
      first = s.first;
      rest = s.rest ++ ((48 + n % 10) ∷ []);
      spelt = ap (λ (z : List ℕ). z ++ ((48 + n % 10) ∷ [])) s.spelt;
      each = all_append (λ b. digit b ≡ true) l ((48 + n % 10) ∷ []) s.each (is_digit (n % 10) small, tt);
      value = λ r. rw append_assoc (s.value ((48 + n % 10) ∷ r) ∙ rw (is_digit (n % 10) small, whole));
    }

spell-says : (f n : ℕ) → n < 10 ^ suc f → Says n (spell (suc f) n)
spell-says zero n h = let e : ltb n 10 ≡ true = lt-ltb n 10 h in rw e (says_one n h)
spell-says (suc f) n h =
    let less : n / 10 < 10 ^ suc f = omega arith in
    by_cond (Says n) (ltb n 10) ((48 + n) ∷ []) (spell (suc f) (n / 10) ++ ((48 + n % 10) ∷ []))
    (λ t. says_one n (ltb-true n 10 t)) (λ t. says_more n (spell (suc f) (n / 10)) (spell-says f (n / 10) less))

-- 2^128 has 39 digits
few : (n : ℕ) → n < 2 ^ 128 → n < 10 ^ 39
few n h = le_trans h (leb-true (2 ^ 128) (10 ^ 39) refl)

digits-says : (n : ℕ) → n < 2 ^ 128 → Says n (digits n)
unfolding digits
digits-says n h = spell-says 38 n (few n h)

says-unsigned : (n : ℕ) (l : List ℕ) → Says n l → unsigned l ≡ number n
says-unsigned n l s = ap unsigned s.spelt ∙ sym (ap (behind 0) s.spelt) ∙ (rw append-nil at (s.value []))

says_first : (n : ℕ) (l : List ℕ) (s : Says n l) → digit s.first ≡ true
says_first n l s = let a : Each digit (s.first ∷ s.rest) = subst (Each digit) s.spelt s.each in a.0

or_right : (t : Bool) → (t || true) ≡ true
or_right true = refl
or_right false = refl

digit-starts : (b : ℕ) → digit b ≡ true → int_start b ≡ true
unfolding int_start
digit-starts b h = rw h (or_right (eqb b 45))

digit_low : (b : ℕ) → digit b ≡ true → 48 ≤ b
unfolding digit inside
digit_low b h = leb-true 48 b (and_left (leb 48 b) (leb b 57) h)

no_sign : (b : ℕ) → digit b ≡ true → eqb b 45 ≡ false
no_sign b d = let r : 48 ≤ b = digit_low b d in ne_eqb b 45 (λ e. let z : ⊥ = omega arith in z)

says-int : (n : ℕ) (l : List ℕ) → Says n l → IsInt l
says-int n l s =
    record {
      first = s.first;
      rest = s.rest;
      spelt = s.spelt;
      starts = digit-starts s.first (says_first n l s);
      each = let a : Each digit (s.first ∷ s.rest) = subst (Each digit) s.spelt s.each in a.1;
    }

minus-int : (n : ℕ) (l : List ℕ) → Says n l → IsInt (45 ∷ l)
unfolding int_start
minus-int n l s = record { first = 45; rest = l; spelt = refl; starts = refl; each = s.each }

-- a number of 128 bits, printed
pub record Printed (b : ℕ) (w : List ℕ) : Type 0 where
  pub token : IsInt w
  pub reads : integer w ≡ number b

module _ (b : ℕ) (h : b < 2 ^ 128) where
  below-zero : 2 ^ 127 ≤ b → Printed b (45 ∷ digits (opposite b))
  unfolding integer
  below-zero k =
      let f = left (2 ^ 128) (2 ^ 127) b refl (leb-true 1 (2 ^ 127) refl) k h in
      let s = digits-says (2 ^ 128 - b) f.less in
      rw (opposite_is b f.there)
      (record {
        token = minus-int (2 ^ 128 - b) (digits (2 ^ 128 - b)) s;
        reads = rw (says-unsigned (2 ^ 128 - b) (digits (2 ^ 128 - b)) s, lt-ltb (2 ^ 128 - b) (2 ^ 127 + 1) (suc-le-suc f.half))
            (ap number (opposite_is (2 ^ 128 - b) f.some ∙ f.twice));
      })

  from_zero : b < 2 ^ 127 → Printed b (digits b)
  unfolding integer
  from_zero k =
      let s = digits-says b h in
      let head : eqb (get_or (digits b) 0 0) 45 ≡ false = subst (λ (z : List ℕ). eqb (get_or z 0 0) 45 ≡ false) (sym s.spelt) (no_sign s.first (says_first b (digits b) s)) in
      record { token = says-int b (digits b) s; reads = rw (head, says-unsigned b (digits b) s, lt-ltb b (2 ^ 127) k) }

  pub decimal-printed : Printed b (decimal b)
  unfolding decimal
  decimal-printed = by_cond (Printed b) (leb (2 ^ 127) b) (45 ∷ digits (opposite b)) (digits b) (λ t. below-zero (leb-true (2 ^ 127) b t)) (λ t. from_zero (leb-false (2 ^ 127) b t))

-- ---- fields
small_16 : (w : ℕ) → w < 2 ^ 16 → w < 2 ^ 128
small_16 w h = le_trans h (leb-true (2 ^ 16) (2 ^ 128) refl)

-- a number that fits a smaller field is printed without a sign
pub fits-printed : (width w : ℕ) → leb (2 ^ width) (2 ^ 128) ≡ true → w < 2 ^ width → fits width (integer (decimal w)) ≡ number w
fits-printed width w e h =
    let p = decimal-printed w (le_trans h (leb-true (2 ^ width) (2 ^ 128) e)) in
    rw (p.reads, lt-ltb w (2 ^ width) h)

-- a number that is not negative is printed as its digits
pub decimal-digits : (n : ℕ) → n < 2 ^ 127 → decimal n ≡ digits n
unfolding decimal
decimal-digits n h = rw (lt-leb (2 ^ 127) n h)

-- a type's width
pub record PrintedWidth (w : ℕ) (l : List ℕ) : Type 0 where
  pub each : Each name_byte l
  pub reads : type_width (byte "i" ∷ l) ≡ number w

digit-name : (b : ℕ) → digit b ≡ true → name_byte b ≡ true
unfolding name_byte
digit-name b h = rw h (or_right (letter b))

each-name : (l : List ℕ) → Each digit l → Each name_byte l
each-name [] a = tt
each-name (b ∷ l) a = (digit-name b a.0, each-name l a.1)

pub width_printed : (w : ℕ) → 1 ≤ w → w < 2 ^ 16 → PrintedWidth w (decimal w)
unfolding type_width
width_printed w low h =
    let s = digits-says w (small_16 w h) in
    rw (decimal-digits w (le_trans h (leb-true (2 ^ 16) (2 ^ 127) refl)))
    (record {
      each = each-name (digits w) s.each;
      reads = rw (says-unsigned w (digits w) s, lt-ltb w (2 ^ 16) h, ne_eqb w 0 (λ e. let z : ⊥ = omega arith in z));
    })
