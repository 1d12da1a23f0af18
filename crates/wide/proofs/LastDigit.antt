-- The two loops that take the last digit off a number below 2^128, again and again: one counts the digits, the other puts them in their places.
-- Assumes nothing.
use mathlib.Core.Path.{◌≡◌, refl, sym, ap, ◌∙◌}
use mathlib.Core.Bool.{true, false}
use mathlib.Core.List.{List, [], ◌∷◌, ◌++◌}
use Prim.Native.Nat.{ℕ, zero, suc, ◌+◌, ◌-◌, ◌*◌, ◌/◌, ◌%◌, ◌^◌, ◌≤◌, ◌<◌}
use native.Mathlib.Nat.{le_of_suc-le-suc, not-suc-le-zero}
use native.Mathlib.Numerals.{add-one}
use native.Mathlib.Omega.{arith}
use lib.Dec.{ltb}
use lib.ListN.{length, drop, set, length-set}
use lib.Seq.{append_snoc}
use borrow.Author.Tests.{ltb-true, ltb-false}
use Rattle.rules.specs.Bytes.{byte}
use Rattle.rules.specs.Integers.{digits}
use Rattle.wide.proofs.Digits.{digits_one, digits_more, digits_len, len_one, len_more, len_some}

pub tenth_less : (b : ℕ) {q : ℕ} → ltb b 10 ≡ false → q ≡ b / 10 → q < b
tenth_less b t e = let k : 10 ≤ b = ltb-false b 10 t in omega arith

tenth_in : (b q M : ℕ) → q ≡ b / 10 → b < M → q < M
tenth_in b q M e h = omega arith

-- of a's digits, b is what is left before the last n - 1
pub record Counted (a b n : ℕ) : Type 0 where
  pub count : n + length (digits b) ≡ 1 + length (digits a)
  pub small : b < 2 ^ 128

pub counted_none : {a : ℕ} → a < 2 ^ 128 → Counted a a 1
counted_none h = record { count = refl; small = h }

module _ {a b n : ℕ} (o : Counted a b n) where
  pub counted-fits : n + 1 < 2 ^ 64
  counted-fits = plain n (length (digits b)) (length (digits a)) o.count (digits_len a)
    where
      plain : (n x y : ℕ) → n + x ≡ 1 + y → y ≤ 39 → n + 1 < 2 ^ 64
      plain n x y e h = omega arith

  pub counted_more : {q : ℕ} → ltb b 10 ≡ false → q ≡ b / 10 → Counted a q (n + 1)
  counted_more {q} t e =
      record {
        count = plain n (length (digits b)) (length (digits q)) (length (digits a)) o.count (rw e (len_more b (ltb-false b 10 t) o.small));
        small = tenth_in b q (2 ^ 128) e o.small;
      }
    where
      plain : (n x y z : ℕ) → n + x ≡ 1 + z → x ≡ y + 1 → n + 1 + y ≡ 1 + z
      plain n x y z e f = omega arith

  pub counted_all : ltb b 10 ≡ true → n ≡ length (digits a)
  counted_all t = plain n (length (digits b)) (length (digits a)) (len_one b (ltb-true b 10 t)) o.count
    where
      plain : (n x y : ℕ) → x ≡ 1 → n + x ≡ 1 + y → n ≡ y
      plain n x y f e = omega arith

-- a's n digits are to stand over the front of old; those behind b's stand in out, and the last of b's goes to place i
pub record Placed (a n : ℕ) (old : List ℕ) (b i : ℕ) (out : List ℕ) : Type 0 where
  pub place : i + 1 ≡ length (digits b)
  pub room : i < length out
  pub text : digits b ++ drop (i + 1) out ≡ digits a ++ drop n old
  pub long : length out ≡ length old
  pub small : b < 2 ^ 128

module _ {a n : ℕ} (count : n ≡ length (digits a)) (small : a < 2 ^ 128) where
  pub placed_some : 1 ≤ n
  placed_some = rw count (len_some a small)

  pub placed_none : (old : List ℕ) → n ≤ length old → Placed a n old a (n - 1) old
  placed_none old fits =
      let same : n - 1 + 1 ≡ n = back n placed_some in
      record {
        place = same ∙ count;
        room = under n (length old) placed_some fits;
        text = ap (λ (k : ℕ). digits a ++ drop k old) same;
        long = refl;
        small = small;
      }
    where
      back : (n : ℕ) → 1 ≤ n → n - 1 + 1 ≡ n
      back n h = omega arith

      under : (n k : ℕ) → 1 ≤ n → n ≤ k → n - 1 < k
      under n k h f = omega arith

-- after a store at j, the list from j on begins with what was stored
stored : (t : List ℕ) (j g : ℕ) → j < length t → drop j (set t j g) ≡ g ∷ drop (suc j) t
stored [] j g h = absurd (not-suc-le-zero h)
stored (x ∷ xs) zero g h = refl
stored (x ∷ xs) (suc j) g h = stored xs j g (le_of_suc-le-suc h)

front : (out : List ℕ) (v : ℕ) → 0 < length out → set out 0 v ≡ v ∷ drop 1 out
front [] v h = absurd (not-suc-le-zero h)
front (x ∷ out) v h = refl

module _ {a n : ℕ} {old : List ℕ} {b i : ℕ} {out : List ℕ} (o : Placed a n old b i out) where
  module _ (t : ltb b 10 ≡ false) where
    two : length (digits b) ≡ length (digits (b / 10)) + 1
    two = len_more b (ltb-false b 10 t) o.small

    pub place_some : 1 ≤ i
    place_some = plain i (length (digits b)) (length (digits (b / 10))) o.place two (len_some (b / 10) (tenth_in b (b / 10) (2 ^ 128) refl o.small))
      where
        plain : (i x y : ℕ) → i + 1 ≡ x → x ≡ y + 1 → 1 ≤ y → 1 ≤ i
        plain i x y e f h = omega arith

    pub placed_more : {q r : ℕ} → q ≡ b / 10 → r ≡ b % 10 → Placed a n old q (i - 1) (set out i (byte "0" + r))
    placed_more {q} {r} e f =
        let before : i - 1 + 1 ≡ i = back i place_some in
        record {
          place = rw e (plain i (length (digits b)) (length (digits (b / 10))) o.place two place_some);
          room = rw length-set (under i (length out) o.room);
          text = rw (before, stored out i (byte "0" + r) o.room, e, f) (sym (append_snoc (digits (b / 10)) (byte "0" + b % 10) (drop (suc i) out)) ∙ sym (rw (add-one, digits_more b (ltb-false b 10 t) o.small)) ∙ o.text);
          long = rw length-set o.long;
          small = tenth_in b q (2 ^ 128) e o.small;
        }
      where
        back : (i : ℕ) → 1 ≤ i → i - 1 + 1 ≡ i
        back i h = omega arith

        plain : (i x y : ℕ) → i + 1 ≡ x → x ≡ y + 1 → 1 ≤ i → i - 1 + 1 ≡ y
        plain i x y e f h = omega arith

        under : (i n : ℕ) → i < n → i - 1 < n
        under i n h = omega arith

  pub placed_all : ltb b 10 ≡ true → {l : ℕ} → l ≡ b → set out i (byte "0" + l) ≡ digits a ++ drop n old
  placed_all t {l} e =
      let z : i ≡ 0 = plain i (length (digits b)) o.place (len_one b (ltb-true b 10 t)) in
      let k : 0 < length out = rw z at o.room in
      rw (z, front out (byte "0" + l) k, e) (sym (rw (digits_one b (ltb-true b 10 t), z)) ∙ o.text)
    where
      plain : (i x : ℕ) → i + 1 ≡ x → x ≡ 1 → i ≡ 0
      plain i x e f = omega arith

-- plain numbers, for the needs of the loops
pub digit-fits : (b : ℕ) {r : ℕ} → r ≡ b % 10 → byte "0" + r < 2 ^ 8
digit-fits b {r} e = omega arith

-- the low half of bits that are one digit
module _ (h l : ℕ) (t : ltb (h * 2 ^ 64 + l) 10 ≡ true) where
  pub low_digit : (l ≡ h * 2 ^ 64 + l) × (l < 2 ^ 8) × (byte "0" + l < 2 ^ 8)
  low_digit = plain h l (ltb-true (h * 2 ^ 64 + l) 10 t)
    where
      plain : (h l : ℕ) → h * 2 ^ 64 + l < 10 → (l ≡ h * 2 ^ 64 + l) × (l < 2 ^ 8) × (byte "0" + l < 2 ^ 8)
      plain h l e = omega arith
