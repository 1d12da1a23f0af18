-- The shortest decimal of two's complement bits, as a sign and digits: its length, and how it is written.
-- Assumes nothing.
use mathlib.Core.Path.{◌≡◌, refl, sym, ap, ◌∙◌}
use mathlib.Core.Bool.{true, false}
use mathlib.Core.List.{List, [], ◌∷◌, ◌++◌, append-nil}
use Prim.Native.Nat.{ℕ, suc, ◌+◌, ◌-◌, ◌^◌, ◌≤◌, ◌<◌, suc-le-suc}
use native.Mathlib.Nat.{le_refl, not-suc-le-zero}
use native.Mathlib.Omega.{arith}
use native.Mathlib.Numerals.{one-add}
use lib.ListN.{length, drop, take, set, length-set, length-drop, length-append, drop_of_length-le}
use lib.Seq.{drop-drop, drop-set-lt}
use borrow.Rule.Slice.PartMut.{put_mid}
use Rattle.rules.specs.Bytes.{byte}
use Rattle.rules.specs.Integers.{digits, decimal, negative, opposite}
use Rattle.laws.proofs.Runs.{rest}
use Rattle.rules.specs.Out.{Wrote}
use Rattle.laws.proofs.Cases.{by_cases}
use Rattle.wide.proofs.Digits.{digits_len, len_some}

-- a writer that found no room, and one that wrote all
pub wrote_none : {s before : List ℕ} {n : ℕ} → n ≡ length s → length before < n → Wrote s before before n
wrote_none e h = record { count = e; bytes = λ k. absurd (omega arith); long = refl }

pub wrote_all : {s before after : List ℕ} {n : ℕ} → n ≡ length s → n ≤ length before → after ≡ s ++ drop n before → Wrote s before after n
wrote_all {s} {before} {after} {n} e fits h =
    let long : length after ≡ length s + (length before - n) = ap length h ∙ length-append s (drop n before) ∙ rw length-drop in
    record { count = e; bytes = λ k. h ∙ ap (λ (m : ℕ). s ++ drop m before) e; long = omega arith }

-- what is left in out by a writer of d at the front of `&mut out[n..]`
write_rest : (out : List ℕ) (n r : ℕ) (d ys : List ℕ) → ys ≡ d ++ drop r (take (length out - n) (drop n out))
    → put_mid n (length out - n) out ys ≡ take n out ++ (d ++ drop (n + r) out)
write_rest out n r d ys e =
    let short : length (drop n out) ≤ length out - n = simp length-drop (le_refl _) in
    let none : drop (length out - n) (drop n out) ≡ [] = drop_of_length-le (drop n out) short in
    rw none (ap (λ (l : List ℕ). take n out ++ l) (append-nil ys ∙ e ∙ rw (rest out n, drop-drop)))

-- no sign
pub decimal_plain : (b : ℕ) → negative b ≡ false → digits b ≡ decimal b
unfolding decimal
decimal_plain b t = sym (rw t)

front-set : (out : List ℕ) (v : ℕ) → 0 < length out → take 1 (set out 0 v) ≡ v ∷ []
front-set [] v h = absurd (not-suc-le-zero h)
front-set (x ∷ out) v h = refl

-- the sign and then the digits
module _ (b : ℕ) (t : negative b ≡ true) where
  pub decimal_sign : decimal b ≡ byte "-" ∷ digits (opposite b)
  unfolding decimal
  decimal_sign = rw t

  pub sign_count : {m k : ℕ} → m ≡ opposite b → k ≡ length (digits m) → 1 + k ≡ length (decimal b)
  sign_count {m} {k} is e = one-add k ∙ ap suc (e ∙ ap (λ (x : ℕ). length (digits x)) is) ∙ sym (ap length decimal_sign)

  module _ {n : ℕ} (count : n ≡ length (decimal b)) where
    one_more : n ≡ suc (length (digits (opposite b)))
    one_more = count ∙ ap length decimal_sign

    pub sign_some : 1 ≤ n
    sign_some = let e = one_more in omega arith

    pub sign_digits : {m : ℕ} → m ≡ opposite b → n - 1 ≡ length (digits m)
    sign_digits is = rw is (let e = one_more in omega arith)

    module _ (out : List ℕ) (fits : n ≤ length out) where
      pub sign_place : 0 < length out
      sign_place = let e = sign_some in omega arith

      pub sign_room : n - 1 ≤ length (take (length (set out 0 (byte "-")) - 1) (drop 1 (set out 0 (byte "-"))))
      sign_room = rw (rest (set out 0 (byte "-")) 1, length-drop, length-set) (omega arith)

      pub sign_wrote : {m : ℕ} {ys : List ℕ} → m ≡ opposite b → ys ≡ digits m ++ drop (n - 1) (take (length (set out 0 (byte "-")) - 1) (drop 1 (set out 0 (byte "-"))))
          → put_mid 1 (length (set out 0 (byte "-")) - 1) (set out 0 (byte "-")) ys ≡ decimal b ++ drop n out
      sign_wrote {m} {ys} is e =
          let back : 1 + (n - 1) ≡ n = (let s = sign_some in omega arith) in
          let some : 0 < 1 + (n - 1) = omega arith in
          write_rest (set out 0 (byte "-")) 1 (n - 1) (digits m) ys e
          ∙ rw (front-set out (byte "-") sign_place, drop-set-lt (1 + (n - 1)) out 0 (byte "-") some, decimal_sign, back, is)

-- a decimal has from 1 to 40 bytes
pub decimal-most : (b : ℕ) → length (decimal b) ≤ 40
decimal-most b =
    by_cases (negative b)
    (λ t. rw (decimal_sign b t) (suc-le-suc (digits_len (opposite b))))
    (λ t. rw (← decimal_plain b t) (under (digits_len b)))
  where
    under : {n : ℕ} → n ≤ 39 → n ≤ 40
    under h = omega arith

pub decimal_some : (b : ℕ) → b < 2 ^ 128 → 1 ≤ length (decimal b)
decimal_some b h =
    by_cases (negative b)
    (λ t. rw (decimal_sign b t) (some (length (digits (opposite b)))))
    (λ t. rw (← decimal_plain b t) (len_some b h))
  where
    some : (n : ℕ) → 1 ≤ suc n
    some n = omega arith

pub sign_fits : (n m : ℕ) → n ≡ length (digits m) → 1 + n < 2 ^ 64
sign_fits n m e = let h = digits_len m in omega arith
