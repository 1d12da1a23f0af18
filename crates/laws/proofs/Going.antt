-- A function that writes piece after piece: what it has written, and what is left of the whole.
-- Assumes nothing.
use mathlib.Core.Path.{◌≡◌, refl, sym, ap, ◌∙◌, subst}
use mathlib.Core.List.{List, [], ◌∷◌, ◌++◌, append-nil, append_assoc}
use Prim.Native.Nat.{ℕ, ◌+◌, ◌-◌, ◌≤◌, ◌<◌, ◌^◌, min}
use native.Mathlib.Omega.{arith}
use lib.ListN.{length, take, drop, length-append, length-drop, drop_of_length-le}
use lib.Seq.{take_all, take-add, drop-drop, take-append_seam, drop-append_seam, length-take-le, take_at, drop_at}
use borrow.Rule.Slice.PartMut.{mid_of, post_of, put_mid, same_len_mid}
use Rattle.rules.specs.Out.{joined, Wrote}

pub record Going (whole : List ℕ) (rest : List (List ℕ)) (out₀ out : List ℕ) (n : ℕ) : Type 0 where
  pub low : n ≤ length whole
  pub left : drop n whole ≡ joined rest
  pub bytes : n ≤ length out₀ → out ≡ take n whole ++ drop n out₀
  pub long : length out ≡ length out₀

-- the rest of a list, lent and back
lent : (at : ℕ) (x : List ℕ) → at ≤ length x → mid_of at (length x - at) x ≡ drop at x
lent at x h = take_all (length x - at) (drop at x) (simp length-drop (omega arith))

none : (at : ℕ) (x : List ℕ) → at ≤ length x → post_of at (length x - at) x ≡ []
none at x h = drop_of_length-le (drop at x) {i = length x - at} (simp length-drop (omega arith))

back : (at : ℕ) (x y : List ℕ) → at ≤ length x → put_mid at (length x - at) x y ≡ take at x ++ y
back at x y h = ap (λ (l : List ℕ). take at x ++ (y ++ l)) (none at x h) ∙ ap (λ (l : List ℕ). take at x ++ l) (append-nil y)

pub going_begin : {ps : List (List ℕ)} {o : List ℕ} → Going (joined ps) ps o o 0
going_begin = record { low = omega arith; left = refl; bytes = λ h. refl; long = refl }

-- at the end of the whole list
pub going_done : {w o₀ o : List ℕ} {n : ℕ} → Going w [] o₀ o n → Wrote w o₀ o n
going_done {w} {o₀} {o} {n} g =
    let e : length w - n ≡ 0 = sym (length-drop n w) ∙ ap length g.left in
    let c : n ≡ length w = omega (arith, g.low, e) in
    record { count = c; bytes = λ h. g.bytes (omega arith) ∙ ap (λ (l : List ℕ). l ++ drop n o₀) (take_all n w (omega arith)) ∙ ap (λ (k : ℕ). w ++ drop k o₀) c; long = g.long }

-- the rest said otherwise
pub going_as : {w o₀ o : List ℕ} {ps qs : List (List ℕ)} {n : ℕ} → ps ≡ qs → Going w ps o₀ o n → Going w qs o₀ o n
going_as {w} {o₀} {o} {n = n} e g = subst (λ (l : List (List ℕ)). Going w l o₀ o n) e g

-- the pieces' lengths fit the whole's
going_room : {w p o₀ o : List ℕ} {ps : List (List ℕ)} {n : ℕ} → Going w (p ∷ ps) o₀ o n → n + length p ≤ length w
going_room {w} {p} {ps = ps} {n = n} g =
    let e : length w - n ≡ length p + length (joined ps) = sym (length-drop n w) ∙ ap length g.left ∙ length-append p (joined ps) in
    omega (arith, g.low, e)

pub going_short : {w p o₀ o : List ℕ} {ps : List (List ℕ)} {n : ℕ} → Going w (p ∷ ps) o₀ o n → length w < 2 ^ 64 → length p < 2 ^ 64
going_short g h = let room = going_room g in omega arith

pub going_fits : {w p o₀ o b a : List ℕ} {ps : List (List ℕ)} {n r : ℕ} → Going w (p ∷ ps) o₀ o n → length w < 2 ^ 64 → Wrote p b a r → n + r < 2 ^ 64
going_fits g h x = let room = going_room g in omega (arith, x.count)

-- a piece is written into the rest of the output
pub going_more : {w p o₀ o last : List ℕ} {ps : List (List ℕ)} {n at r : ℕ} → Going w (p ∷ ps) o₀ o n → at ≡ min n (length o)
    → Wrote p (mid_of at (length o - at) o) last r → Going w ps o₀ (put_mid at (length o - at) o last) (n + r)
going_more {w} {p} {o₀} {o} {last} {ps} {n} {at} {r} g h x =
    let room = going_room g in
    let rest = joined ps in
    let within : at ≤ length o = omega arith in
    let piece : take r (drop n w) ≡ p = ap (λ (k : ℕ). take k (drop n w)) x.count ∙ ap (take (length p)) g.left ∙ take-append_seam p rest in
    let front : take (n + r) w ≡ take n w ++ p = take-add n r w ∙ ap (λ (l : List ℕ). take n w ++ l) piece in
    let after : drop (n + r) w ≡ rest = sym (drop-drop r n w) ∙ ap (λ (k : ℕ). drop k (drop n w)) x.count ∙ ap (drop (length p)) g.left ∙ drop-append_seam p rest in
    let now : n + r ≤ length o₀ → put_mid at (length o - at) o last ≡ take (n + r) w ++ drop (n + r) o₀ = λ q.
    let m : at ≡ n = omega (arith, g.long) in
    let e : o ≡ take n w ++ drop n o₀ = g.bytes (omega arith) in
    let f : take at o ≡ take n w = ap (λ (k : ℕ). take k o) m ∙ ap (take n) e ∙ take_at (take n w) (drop n o₀) n (length-take-le n w g.low) in
    let d : drop at o ≡ drop n o₀ = ap (λ (k : ℕ). drop k o) m ∙ ap (drop n) e ∙ drop_at (take n w) (drop n o₀) n (length-take-le n w g.low) in
    let z : mid_of at (length o - at) o ≡ drop n o₀ = lent at o within ∙ d in
    let y : last ≡ p ++ drop (length p) (drop n o₀) = x.bytes (rw z (rw length-drop (omega (arith, x.count)))) ∙ ap (λ (l : List ℕ). p ++ drop (length p) l) z in
    let t : drop (length p) (drop n o₀) ≡ drop (n + r) o₀ = ap (λ (k : ℕ). drop k (drop n o₀)) (sym x.count) ∙ drop-drop r n o₀ in
    back at o last within
    ∙ ap (λ (l : List ℕ). l ++ last) f
    ∙ ap (λ (l : List ℕ). take n w ++ l) (y ∙ ap (λ (l : List ℕ). p ++ l) t)
    ∙ sym (append_assoc (take n w) p (drop (n + r) o₀))
    ∙ ap (λ (l : List ℕ). l ++ drop (n + r) o₀) (sym front) in
    record { low = omega (arith, x.count); left = after; bytes = now; long = same_len_mid at (length o - at) o last x.long ∙ g.long }

-- the first piece is written into the whole output
pub going_first : {p o₀ o : List ℕ} {ps : List (List ℕ)} {r : ℕ} → Wrote p o₀ o r → Going (joined (p ∷ ps)) ps o₀ o r
going_first {p} {o₀} {o} {ps} {r} x =
    let e = x.count in
    let rest = joined ps in
    let t : take r (p ++ rest) ≡ p = ap (λ (k : ℕ). take k (p ++ rest)) e ∙ take-append_seam p rest in
    record {
      low = simp length-append (omega arith);
      left = ap (λ (k : ℕ). drop k (p ++ rest)) e ∙ drop-append_seam p rest;
      bytes = λ h. x.bytes (omega arith) ∙ ap (λ (l : List ℕ). l ++ drop (length p) o₀) (sym t) ∙ ap (λ (k : ℕ). take r (p ++ rest) ++ drop k o₀) (sym e);
      long = x.long;
    }
