-- Words written one behind the other: what is written of a whole, and what is left of it.
-- Assumes nothing.
use mathlib.Core.Path.{◌≡◌, refl, sym, ap, ◌∙◌, subst}
use mathlib.Core.List.{List, [], ◌∷◌, ◌++◌, append-nil, append_assoc}
use Prim.Native.Nat.{ℕ, ◌+◌, ◌-◌, ◌≤◌, ◌<◌, ◌^◌, min}
use native.Mathlib.Omega.{arith}
use native.Mathlib.Nat.{add-zero, zero-add}
use Rattle.std.proofs.lemmas.List.{take-append-drop, take_at, take_min}
use lib.ListN.{length, take, drop, length-append, length-drop, drop_of_length-le}
use lib.Seq.{take_all, take-take, drop-drop, drop-append_seam, take-append_seam, length-take-le}
use borrow.Rule.Slice.PartMut.{mid_of, post_of, put_mid, same_len_mid}
use Rattle.rules.specs.Out.{joined, Wrote}
use Rattle.output.specs.declared.writer.Writer.{Writer}
use Rattle.output.specs.Writing.{largest, Put, Appended, Writes}

-- where the unwritten rest of an output starts
pub least_within : {at k : ℕ} (n : ℕ) → at ≡ min n k → at ≤ k
least_within n e = omega arith

-- the rest of a list, lent and back
lent : (at : ℕ) (x : List ℕ) → at ≤ length x → mid_of at (length x - at) x ≡ drop at x
lent at x h = take_all (length x - at) (drop at x) (simp length-drop (omega arith))

none : (at : ℕ) (x : List ℕ) → at ≤ length x → post_of at (length x - at) x ≡ []
none at x h = drop_of_length-le (drop at x) {i = length x - at} (simp length-drop (omega arith))

back : (at : ℕ) (x y : List ℕ) → at ≤ length x → put_mid at (length x - at) x y ≡ take at x ++ y
back at x y h = ap (λ (l : List ℕ). take at x ++ (y ++ l)) (none at x h) ∙ ap (λ (l : List ℕ). take at x ++ l) (append-nil y)

-- what stands before the unwritten rest stays
front_stays : (n at : ℕ) (o last : List ℕ) → at ≡ min n (length o) → length last ≡ length o - at → take n (take at o ++ last) ≡ take n o
front_stays n at o last h l =
    let x = take at o ++ last in
    let front : length (take at o) ≡ at = length-take-le at o (omega arith) in
    let long : length x ≡ length o = length-append (take at o) last ∙ omega arith in
    sym (take_min n x)
    ∙ ap (λ (k : ℕ). take (min n k) x) long
    ∙ ap (λ (k : ℕ). take k x) (sym h)
    ∙ take_at (take at o) last at front
    ∙ ap (λ (k : ℕ). take k o) h
    ∙ take_min n o

-- a word was written into the unwritten rest
pub appended : {s o last : List ℕ} {n at r m : ℕ} → n < 2 ^ 64 → at ≡ min n (length o) → Put s (mid_of at (length o - at) o) last r → m ≡ min (n + r) largest
    → Appended s o n (put_mid at (length o - at) o last) m
appended {s} {o} {last} {n} {at} {r} {m} small h x e =
    let within : at ≤ length o = least_within n h in
    let z : mid_of at (length o - at) o ≡ drop at o = lent at o within in
    record {
      count = omega (arith, x.count);
      grows = omega arith;
      front = ap (take n) (back at o last within) ∙ front_stays n at o last h (x.long ∙ ap length z ∙ length-drop at o);
      bytes = λ few q.
          let a : at ≡ n = omega arith in
          let y : last ≡ s ++ drop (length s) (drop at o) = x.bytes (omega arith) (rw z (rw length-drop (omega arith))) ∙ ap (λ (l : List ℕ). s ++ drop (length s) l) z in
          let t : drop (length s) (drop at o) ≡ drop (n + length s) o = ap (λ (k : ℕ). drop (length s) (drop k o)) a ∙ drop-drop (length s) n o in
          back at o last within
          ∙ ap (λ (k : ℕ). take k o ++ last) a
          ∙ ap (λ (l : List ℕ). take n o ++ l) (y ∙ ap (λ (l : List ℕ). s ++ l) t)
          ∙ sym (append_assoc (take n o) s (drop (n + length s) o));
      long = same_len_mid at (length o - at) o last x.long;
    }

-- a word whose length is counted, and one that is short
pub put_wrote : {s before after : List ℕ} {n : ℕ} → n < 2 ^ 64 → Wrote s before after n → Put s before after n
put_wrote h w = record { count = omega (arith, w.count); bytes = λ few. w.bytes; long = w.long }

pub appended_as : {s t before after : List ℕ} {n m : ℕ} → t ≡ s → Appended s before n after m → Appended t before n after m
appended_as {before = b} {after = a} {n = n} {m = m} e p = subst (λ (l : List ℕ). Appended l b n a m) (sym e) p

-- the front of a front
front_both : (n m : ℕ) (o a b : List ℕ) → n ≤ m → take n a ≡ take n o → take m b ≡ take m a → take n b ≡ take n o
front_both n m o a b h e d = sym (take-take n m b h) ∙ ap (take n) d ∙ take-take n m a h ∙ e

-- a full output stays
pub full_stays : {s before after : List ℕ} {n n' : ℕ} → length before ≤ n → Appended s before n after n' → after ≡ before
full_stays {before = b} {after = a} {n = n} h x =
    let l : length a ≤ n = omega (arith, x.long) in
    sym (take_all n a l) ∙ x.front ∙ take_all n b h

-- one word behind the other
pub appended_both : {s t o a b : List ℕ} {n m k : ℕ} → Appended s o n a m → Appended t a m b k → Appended (s ++ t) o n b k
appended_both {s} {t} {o} {a} {b} {n} {m} {k} x y =
    let all : length (s ++ t) ≡ length s + length t = length-append s t in
    record {
      count = omega (arith, all, x.count, y.count);
      grows = omega (arith, x.grows, y.grows);
      front = front_both n m o a b x.grows x.front y.front;
      bytes = λ few q.
          let c : m ≡ n + length s = omega (arith, all, x.count) in
          let before : a ≡ take n o ++ s ++ drop (n + length s) o = x.bytes (omega (arith, all)) (omega (arith, all)) in
          let now : b ≡ take m a ++ t ++ drop (m + length t) a = y.bytes (omega (arith, all)) (omega (arith, all, x.long)) in
          let whole : length (take n o ++ s) ≡ m = length-append (take n o) s ∙ ap (λ (j : ℕ). j + length s) (length-take-le n o (omega (arith, all))) ∙ sym c in
          let front : take m a ≡ take n o ++ s = ap (take m) before ∙ ap (λ (j : ℕ). take j (take n o ++ s ++ drop (n + length s) o)) (sym whole) ∙ take-append_seam (take n o ++ s) (drop (n + length s) o) in
          let behind : drop m a ≡ drop m o = ap (drop m) before ∙ ap (λ (j : ℕ). drop j (take n o ++ s ++ drop (n + length s) o)) (sym whole) ∙ drop-append_seam (take n o ++ s) (drop (n + length s) o) ∙ ap (λ (j : ℕ). drop j o) (sym c) in
          let past : m + length t ≡ n + length (s ++ t) = omega (arith, all) in
          let rest : drop (m + length t) a ≡ drop (n + length (s ++ t)) o =
          sym (drop-drop (length t) m a) ∙ ap (drop (length t)) behind ∙ drop-drop (length t) m o ∙ ap (λ (j : ℕ). drop j o) past in
          now
          ∙ ap (λ (l : List ℕ). l ++ t ++ drop (m + length t) a) front
          ∙ ap (λ (l : List ℕ). take n o ++ s ++ t ++ l) rest
          ∙ ap (λ (l : List ℕ). l ++ drop (n + length (s ++ t)) o) (append_assoc (take n o) s t);
      long = y.long ∙ x.long;
    }

-- some words of a whole are written, and others are left
pub record Puts (whole : List ℕ) (left : List (List ℕ)) (before : List ℕ) (n : ℕ) (after : List ℕ) (n' : ℕ) : Type 0 where
  pub word : List ℕ
  pub all : whole ≡ word ++ joined left
  pub written : Appended word before n after n'

pub puts_none : {whole : List ℕ} {ps : List (List ℕ)} {o : List ℕ} {n : ℕ} → whole ≡ joined ps → Puts whole ps o n o n
puts_none {o = o} {n = n} e =
    record { word = []; all = e; written = record { count = simp add-zero refl; grows = omega arith; front = refl; bytes = λ few q. sym (simp (append-nil, add-zero) (take-append-drop n o)); long = refl } }

pub puts_more : {whole p o₀ o a : List ℕ} {ps : List (List ℕ)} {n₀ n m : ℕ} → Puts whole (p ∷ ps) o₀ n₀ o n → Appended p o n a m → Puts whole ps o₀ n₀ a m
puts_more {p = p} {ps = ps} g x = record { word = g.word ++ p; all = g.all ∙ sym (append_assoc g.word p (joined ps)); written = appended_both g.written x }

pub puts_done : {whole o₀ o : List ℕ} {n₀ n : ℕ} → Puts whole [] o₀ n₀ o n → Appended whole o₀ n₀ o n
puts_done g = appended_as (g.all ∙ append-nil g.word) g.written

-- what is left said otherwise
pub puts_as : {w o₀ o : List ℕ} {ps qs : List (List ℕ)} {n₀ n : ℕ} → ps ≡ qs → Puts w ps o₀ n₀ o n → Puts w qs o₀ n₀ o n
puts_as {w} {o₀} {o} {n₀ = n₀} {n} e g = subst (λ (l : List (List ℕ)). Puts w l o₀ n₀ o n) e g

-- what a writer had written before, and whole words that it writes behind it
pub record Through (whole : List ℕ) (left : List (List ℕ)) (w w' : Writer) : Type 0 where
  pub same_reference : w'.out.ghost_name ≡ w.out.ghost_name
  pub puts : Puts whole left w.out.now w.count w'.out.now w'.count

pub begins : {whole : List ℕ} (w : Writer) {ps : List (List ℕ)} → whole ≡ joined ps → Through whole ps w w
begins w e = record { same_reference = refl; puts = puts_none e }

-- the first word, and the next
pub first : {whole p : List ℕ} {ps : List (List ℕ)} {w w' : Writer} → whole ≡ joined (p ∷ ps) → Writes p w w' → Through whole ps w w'
first e x = record { same_reference = x.same_reference; puts = record { word = _; all = e; written = x.appended } }

pub next : {whole p : List ℕ} {ps : List (List ℕ)} {w w' w″ : Writer} → Through whole (p ∷ ps) w w' → Writes p w' w″ → Through whole ps w w″
next g x = record { same_reference = x.same_reference ∙ g.same_reference; puts = puts_more g.puts x.appended }

-- the last word
pub last : {whole : List ℕ} {w w' : Writer} → Through whole [] w w' → Writes whole w w'
last g = record { same_reference = g.same_reference; appended = puts_done g.puts }

-- a word, and what is left, said otherwise
pub writes_as : {s t : List ℕ} {w w' : Writer} → t ≡ s → Writes s w w' → Writes t w w'
writes_as e x = record { same_reference = x.same_reference; appended = appended_as e x.appended }

pub left_as : {whole : List ℕ} {ps qs : List (List ℕ)} {w w' : Writer} → ps ≡ qs → Through whole ps w w' → Through whole qs w w'
left_as e g = record { same_reference = g.same_reference; puts = puts_as e g.puts }

-- nothing is written
pub writes_none : (w : Writer) → Writes [] w w
writes_none w = last (begins w refl)

-- what a writer of a whole output wrote
pub wrote_whole : {s out : List ℕ} {w w' : Writer} → w.out.now ≡ out → w.count ≡ 0 → length s < largest → Writes s w w' → Wrote s out w'.out.now w'.count
wrote_whole {s} {out} {w} {w'} e z h x =
    let a = x.appended in
    record {
      count = omega (arith, a.count, z);
      bytes = λ q. simp zero-add at (rw (z, e) at (a.bytes (omega (arith, z)) (omega (arith, z, ap length e))));
      long = a.long ∙ ap length e;
    }
