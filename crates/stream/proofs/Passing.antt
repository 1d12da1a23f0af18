-- To pass over white space or a whole token at once comes to what its bytes come to one by one.
-- Assumes nothing.
use mathlib.Core.Path.{◌≡◌, refl, sym, ap, subst, ◌∙◌}
use mathlib.Core.Bool.{Bool, true, false, cond, false≢true}
use mathlib.Core.List.{List, [], ◌∷◌}
use Prim.Native.Nat.{ℕ, suc, ◌+◌, ◌-◌, ◌≤◌, ◌<◌}
use native.Mathlib.Nat.{add-zero}
use native.Mathlib.Numerals.{add-one, one-add}
use native.Mathlib.Omega.{arith}
use borrow.Author.Tests.{leb-true, leb-false, ltb-false, le-leb, le-ltb, lt-ltb, ne_eqb}
use lib.Dec.{eqb, leb, ltb, eqb-suc-zero}
use lib.ListN.{length, get_or, take, drop, length-drop, drop_of_length-le}
use lib.Seq.{drop-cons, drop-drop}
use Rattle.std.specs.Prelude.{Option, None, Some, fold}
use Rattle.std.specs.Option.{ForSome}
use Rattle.std.proofs.lemmas.Option.{none-some, same_Some}
use Rattle.rules.specs.Bytes.{byte, digit, letter, name_byte, count}
use Rattle.rules.specs.Tokens.{ident, val_name, int, single, int_start}
use Rattle.lexer.specs.Blank.{blank}
use Rattle.laws.proofs.Cases.{by_cases}
use Rattle.laws.proofs.Ranges.{inside_over}
use Rattle.laws.proofs.Runs.{rest, count-le, rest-count, rest-fits}
use Rattle.stream.specs.declared.Sequence.{Sequence}
use Rattle.stream.specs.declared.Mode.{Mode}
use Rattle.stream.specs.declared.Mode.TheVariants.{Percent}
use Rattle.stream.specs.declared.Lexing.{Lexing}
use Rattle.stream.specs.declared.Stream.{Stream}
use Rattle.stream.specs.declared.skim.Skimmed.{Skimmed}
use Rattle.stream.specs.declared.skim.Leap.{Leap}
use Rattle.stream.specs.Steps as step
use Rattle.stream.specs.Skims.{standing, sure_of, name_of, Passes, Skims, Ready, Leaps}
use Rattle.stream.proofs.Begins.{more_suc}
use Rattle.stream.proofs.Split.{split}
use Rattle.stream.proofs.Meanings.{continuing}
use Rattle.stream.proofs.Modes.{continues_is}

-- what no byte past ASCII passes, an ASCII byte passes
low : (p : ℕ → Bool) → ((b : ℕ) → 0x7F < b → p b ≡ false) → (b : ℕ) → p b ≡ true → b ≤ 0x7F
low p f b e = by_cases (leb b 0x7F) (λ q. leb-true b 0x7F q) (λ q. absurd (false≢true (sym (f b (leb-false b 0x7F q)) ∙ e)))

no_digit : (b : ℕ) → 0x7F < b → digit b ≡ false
unfolding digit
no_digit b h = inside_over (byte "0") (byte "9") b (omega arith)

no_name : (b : ℕ) → 0x7F < b → name_byte b ≡ false
unfolding name_byte letter
no_name b h =
    rw (
      inside_over (byte "A") (byte "Z") b (omega arith),
      inside_over (byte "a") (byte "z") b (omega arith),
      no_digit b h,
      ne_eqb b (byte "_") (λ e. omega arith),
      ne_eqb b (byte ".") (λ e. omega arith),
    )

no_blank : (b : ℕ) → 0x7F < b → blank b ≡ false
unfolding blank
no_blank b h = rw (inside_over 9 13 b (omega arith), ne_eqb b (byte " ") (λ e. omega arith))

-- the byte behind what was counted does not pass
count_next : (p : ℕ → Bool) (s : List ℕ) → count p s < length s → p (get_or s (count p s) 0) ≡ false
count_next p [] h = absurd (omega arith)
count_next p (x ∷ s) h = by_cases (p x) (λ e. let g : suc (count p s) < suc (length s) = rw e at h in rw e (count_next p s (omega arith))) (λ e. rw e e)

-- an ASCII byte leaves the check of UTF-8 between sequences
step_ascii : (i b : ℕ) (l : Lexing) → i ≤ 65536 → b ≤ 0x7F → step.stepped (standing i l) b ≡ standing (i + 1) (step.spell l.mode l.count i b)
unfolding step.stepped step.follow step.opened step.lead
step_ascii i b l h a = rw (le-ltb 65536 i h, le-leb b 0x7F a)

-- white space
pub blanks_pass : (s : List ℕ) (i n : ℕ) → i + length s ≤ 65537 → step.fed (standing i (step.gapped n)) s ≡ step.fed (standing (i + count blank s) (step.gapped n)) (drop (count blank s) s)
unfolding step.spell step.begins
blanks_pass [] i n h = rw (add-zero i)
blanks_pass (b ∷ s) i n h =
    by_cases (blank b)
    (λ e.
    let a = low blank no_blank b e in
    let z : i + 1 + count blank s ≡ i + suc (count blank s) = omega arith in
    rw e (ap (λ (x : Stream). step.fed x s) (step_ascii i b (step.gapped n) (omega arith) a ∙ rw (le-leb b 0x7F a, e)) ∙ blanks_pass s (i + 1) n (omega arith) ∙ rw z))
    (λ e. rw (e, add-zero i))

module _ (k first n : ℕ) (plain : (b : ℕ) → continuing k b ≡ true → b ≤ 0x7F) where
  -- the bytes that go on with a token
  coast : (r : List ℕ) (i l : ℕ) → i + length r ≤ 65537 → l + length r < step.limit
      → step.fed (standing i (step.running k first l n)) r ≡ step.fed (standing (i + count (continuing k) r) (step.running k first (l + count (continuing k) r) n)) (drop (count (continuing k) r) r)
  unfolding step.spell step.runs
  coast [] i l h g = rw (add-zero i, add-zero l)
  coast (b ∷ r) i l h g =
      by_cases (continuing k b)
      (λ e.
      let z : i + 1 + count (continuing k) r ≡ i + suc (count (continuing k) r) = omega arith in
      let y : suc l + count (continuing k) r ≡ l + suc (count (continuing k) r) = omega arith in
      rw e
      (ap (λ (x : Stream). step.fed x r) (step_ascii i b (step.running k first l n) (omega arith) (plain b e) ∙ rw (continues_is k b, e, more_suc l (omega arith)))
      ∙ coast r (i + 1) (suc l) (omega arith) (omega arith)
      ∙ rw (z, y)))
      (λ e. rw (e, add-zero i, add-zero l))

  -- a byte that does not: it begins what follows
  closing : (x : ℕ) (t : List ℕ) (i l : ℕ) → i ≤ 65536 → l ≤ 4096 → continuing k x ≡ false → step.fed (standing i (step.running k first l n)) (x ∷ t) ≡ step.fed (standing i (step.gapped (step.more n))) (x ∷ t)
  unfolding step.stepped step.spell step.runs step.closes
  closing x t i l h g e = rw (le-ltb 65536 i h, continues_is k x, e, le-ltb 4096 l g)

  -- the rest of a token that ends inside r
  pub tail : (r : List ℕ) (i l : ℕ) → i + length r ≤ 65537 → count (continuing k) r < length r → l + count (continuing k) r ≤ 4096
      → step.fed (standing i (step.running k first l n)) r ≡ step.fed (standing (i + count (continuing k) r) (step.gapped (step.more n))) (drop (count (continuing k) r) r)
  tail r i l h c g =
      let m = count (continuing k) r in
      let d : drop m r ≡ get_or r m 0 ∷ drop (suc m) r = drop-cons r m 0 c in
      coast r i l h (omega arith)
      ∙ ap (step.fed (standing (i + m) (step.running k first (l + m) n))) d
      ∙ closing (get_or r m 0) (drop (suc m) r) (i + m) (l + m) (omega arith) g (count_next (continuing k) r c)
      ∙ ap (step.fed (standing (i + m) (step.gapped (step.more n)))) (sym d)

-- what is said of a token that is sure, where none is
pub none : (P : ℕ → Type 0) → ForSome None P
none P x e = absurd (none-some _ e)

pub given : (P : ℕ → Type 0) {m : ℕ} → P m → ForSome (Some m) P
given P p x e = rw (← same_Some _ _ e) p

sure_passes : (s : List ℕ) (m : ℕ) → (m < length s → m ≤ 4096 → Passes s m) → ForSome (sure_of m (length s)) (Passes s)
sure_passes s m f =
    split (λ o. ForSome o (Passes s)) (leb (length s) m)
    (λ e. none _)
    (λ e. split (λ o. ForSome o (Passes s)) (ltb 4096 m) (λ g. none _) (λ g. given _ (f (leb-false (length s) m e) (ltb-false 4096 m g))))

module _ (b : ℕ) (r : List ℕ) (a : b ≤ 0x7F) (w : blank b ≡ false) (c : eqb b (byte ";") ≡ false) where
  begun_by : (i n : ℕ) → i ≤ 65536 → step.stepped (standing i (step.gapped n)) b ≡ standing (i + 1) (cond (leb 1 (single b)) (step.gapped (step.more n)) (step.opens i n b))
  unfolding step.spell step.begins
  begun_by i n h = step_ascii i b (step.gapped n) h a ∙ rw (le-leb b 0x7F a, w, c)

  single_passes : leb 1 (single b) ≡ true → Passes (b ∷ r) 1
  single_passes e =
      record {
        some = omega arith;
        within = omega arith;
        onward = λ i n h. ap (λ (x : Stream). step.fed x r) (begun_by i n (omega arith) ∙ rw e);
      }

  module _ (s : leb 1 (single b) ≡ false) where
    run_passes : (k : ℕ) → ((b : ℕ) → continuing k b ≡ true → b ≤ 0x7F) → ((i n : ℕ) → step.opens i n b ≡ step.running k i 1 n)
        → 1 + count (continuing k) r < length (b ∷ r) → 1 + count (continuing k) r ≤ 4096 → Passes (b ∷ r) (1 + count (continuing k) r)
    run_passes k plain o q g =
        record {
          some = omega arith;
          within = omega arith;
          onward =
              λ i n h.
              let m = count (continuing k) r in
              let z : i + 1 + m ≡ i + suc m = omega arith in
              let f : standing (i + 1) (cond (leb 1 (single b)) (step.gapped (step.more n)) (step.opens i n b)) ≡ standing (i + 1) (step.running k i 1 n) = rw (s, o i n) in
              rw (one-add m)
              (ap (λ (x : Stream). step.fed x r) (begun_by i n (omega arith) ∙ f) ∙ tail k i n plain r (i + 1) 1 (omega arith) (omega arith) (omega arith) ∙ rw z);
        }

    word_passes : eqb b (byte "%") ≡ false → eqb b (byte "k") ≡ false → letter b ≡ true → ForSome (sure_of (1 + count name_byte r) (length (b ∷ r))) (Passes (b ∷ r))
    unfolding step.opens
    word_passes p k l = sure_passes (b ∷ r) (1 + count name_byte r) (run_passes ident (low name_byte no_name) (λ i n. rw (p, k, l)))

    int_passes : eqb b (byte "%") ≡ false → eqb b (byte "k") ≡ false → letter b ≡ false → int_start b ≡ true → ForSome (sure_of (1 + count digit r) (length (b ∷ r))) (Passes (b ∷ r))
    unfolding step.opens
    int_passes p k l d = sure_passes (b ∷ r) (1 + count digit r) (run_passes int (low digit no_digit) (λ i n. rw (p, k, l, d)))

-- a value name
module _ (b : ℕ) (a : b ≤ 0x7F) (w : blank b ≡ false) (c : eqb b (byte ";") ≡ false) (s : leb 1 (single b) ≡ false) (p : eqb b (byte "%") ≡ true) where
  percent_passes : (y : ℕ) (t : List ℕ) → name_byte y ≡ true → 1 + suc (count name_byte t) < length (b ∷ y ∷ t) → 1 + suc (count name_byte t) ≤ 4096 → Passes (b ∷ y ∷ t) (1 + suc (count name_byte t))
  unfolding step.opens step.spell step.named
  percent_passes y t e q g =
      record {
        some = omega arith;
        within = omega arith;
        onward =
            λ i n h.
            let m = count name_byte t in
            let z : i + 1 + 1 + m ≡ i + suc (suc m) = omega arith in
            rw (one-add (suc m))
            (ap (λ (x : Stream). step.fed x (y ∷ t)) (begun_by b (y ∷ t) a w c i n (omega arith) ∙ rw (s, p))
            ∙ ap (λ (x : Stream). step.fed x t) (step_ascii (i + 1) y (step.at (Percent i) n) (omega arith) (low name_byte no_name y e) ∙ rw e)
            ∙ tail val_name i n (low name_byte no_name) t (i + 1 + 1) 2 (omega arith) (omega arith) (omega arith)
            ∙ rw z);
      }

  name_passes : (r : List ℕ) → ForSome (name_of (b ∷ r)) (Passes (b ∷ r))
  name_passes [] = none _
  name_passes (y ∷ t) =
      by_cases (name_byte y)
      (λ e. rw (e, eqb-suc-zero (count name_byte t)) (sure_passes (b ∷ y ∷ t) (1 + suc (count name_byte t)) (percent_passes y t e)))
      (λ e. rw e (none _))

-- the same, told of a text by its first byte
module _ (s : List ℕ) (h : 1 ≤ length s) (a : get_or s 0 0 ≤ 0x7F) (w : blank (get_or s 0 0) ≡ false) (c : eqb (get_or s 0 0) (byte ";") ≡ false) where
  whole : get_or s 0 0 ∷ drop 1 s ≡ s
  whole = sym (drop-cons s 0 0 h)

  pub at_single : leb 1 (single (get_or s 0 0)) ≡ true → Passes s 1
  at_single e = subst (λ (x : List ℕ). Passes x 1) whole (single_passes (get_or s 0 0) (drop 1 s) a w c e)

  module _ (e : leb 1 (single (get_or s 0 0)) ≡ false) where
    pub at_name : eqb (get_or s 0 0) (byte "%") ≡ true → {o : Option ℕ} → o ≡ name_of s → ForSome o (Passes s)
    at_name p {o} q = rw q (subst (λ (x : List ℕ). ForSome (name_of x) (Passes x)) whole (name_passes (get_or s 0 0) a w c e p (drop 1 s)))

    module _ (p : eqb (get_or s 0 0) (byte "%") ≡ false) (k : eqb (get_or s 0 0) (byte "k") ≡ false) where
      pub at_word : letter (get_or s 0 0) ≡ true → {o : Option ℕ} {n : ℕ} → o ≡ sure_of (1 + n) (length s) → n ≡ count name_byte (drop 1 s) → ForSome o (Passes s)
      at_word l {o} {n} q d = rw (q, d) (subst (λ (x : List ℕ). ForSome (sure_of (1 + count name_byte (drop 1 s)) (length x)) (Passes x)) whole (word_passes (get_or s 0 0) (drop 1 s) a w c e p k l))

      pub at_int : letter (get_or s 0 0) ≡ false → int_start (get_or s 0 0) ≡ true → {o : Option ℕ} {n : ℕ} → o ≡ sure_of (1 + n) (length s) → n ≡ count digit (drop 1 s) → ForSome o (Passes s)
      at_int l i {o} {n} q d = rw (q, d) (subst (λ (x : List ℕ). ForSome (sure_of (1 + count digit (drop 1 s)) (length x)) (Passes x)) whole (int_passes (get_or s 0 0) (drop 1 s) a w c e p k l i))

-- white space at the front
pub blanks_first : (s : List ℕ) (n : ℕ) {k : ℕ} → k ≡ count blank s
    → (k ≤ length s) × ((i : ℕ) → i + length s ≤ 65537 → step.fed (standing i (step.gapped n)) s ≡ step.fed (standing (i + k) (step.gapped n)) (drop k s))
blanks_first s n e = rw e (count-le blank s, λ i h. blanks_pass s i n h)

-- a token, and the white space behind it, further on in a text
module _ (s : List ℕ) (at : ℕ) where
  pub token-within : {m : ℕ} → Passes (take (length s - at) (drop at s)) m → m ≤ length s - at
  token-within p = let q = p.within in omega (arith, length-drop at s, ap length (rest s at))

  pub further : (k : ℕ) {m : ℕ} → at ≤ length s → Passes (take (length s - at) (drop at s)) m → k ≡ count blank (take (length s - (at + m)) (drop (at + m) s)) → at + m + k ≤ length s
  further k {m} l p e =
      let q = token-within p in
      let f = rest-fits blank s (at + m) e in
      omega arith

  pub skim_more : (count₀ n : ℕ) {n' k m : ℕ} → at ≤ length s
      → ((i : ℕ) → i + length s ≤ 65537 → step.fed (standing i (step.gapped count₀)) s ≡ step.fed (standing (i + at) (step.gapped n)) (drop at s))
      → Passes (take (length s - at) (drop at s)) m → k ≡ count blank (take (length s - (at + m)) (drop (at + m) s)) → n' ≡ step.more n
      → (at + m + k ≤ length s) × ((i : ℕ) → i + length s ≤ 65537 → step.fed (standing i (step.gapped count₀)) s ≡ step.fed (standing (i + (at + m + k)) (step.gapped n')) (drop (at + m + k) s))
  skim_more count₀ n {k = k} {m = m} l inv p e g =
      let d : drop m (drop at s) ≡ drop (at + m) s = drop-drop m at s in
      let w = token-within p in
      let c = rest-count blank s (at + m) e in
      let t = subst (λ (x : List ℕ). Passes x m) (rest s at) p in (
        further k l p e,
        λ i b.
            let u = length-drop at s in
            let v = length-drop (at + m) s in
            let z : i + at + m + count blank (drop (at + m) s) ≡ i + (at + m + count blank (drop (at + m) s)) = omega arith in
            inv i b
            ∙ t.onward (i + at) n (omega arith)
            ∙ ap (step.fed (standing (i + at + m) (step.gapped (step.more n)))) d
            ∙ blanks_pass (drop (at + m) s) (i + at + m) (step.more n) (omega arith)
            ∙ rw (g, c, z, drop-drop (count blank (drop (at + m) s)) (at + m) s),
      )

-- a part fed byte by byte is a fold
pub folded : (l : List ℕ) (s : Stream) → fold step.stepped s l ≡ step.fed s l
folded [] s = refl
folded (b ∷ l) s = folded l (step.stepped s b)

-- one byte of a part, and the end of it
module _ (s : Stream) (l : List ℕ) (i : ℕ) where
  pub fed_more : i < length l → {t : Stream} → t ≡ step.stepped s (get_or l i 0) → step.fed s (drop i l) ≡ step.fed t (drop (i + 1) l)
  fed_more h e = rw (e, add-one, drop-cons l i 0 h)

  pub fed-end : length l ≤ i → step.fed s (drop i l) ≡ s
  fed-end h = rw (drop_of_length-le l h)

-- a state that is ready is between tokens
pub ready_passes : (s : Stream) (l : List ℕ) (k : Skimmed) {x : Lexing} → Ready s (length l) → Skims l s.lexing.count k → x ≡ step.gapped k.count
    → step.fed s l ≡ step.fed (standing (s.seen + k.past) x) (drop k.past l)
ready_passes s l k r p e =
    let z : s ≡ standing s.seen (step.gapped s.lexing.count) =
    ap (λ (q : Sequence). record { seen = s.seen; sequence = q; lexing = s.lexing }) r.between ∙ ap (λ (m : Mode). standing s.seen (record { mode = m; count = s.lexing.count })) r.gap in
    ap (λ (t : Stream). step.fed t l) z ∙ p.onward s.seen r.room ∙ ap (λ (t : Lexing). step.fed (standing (s.seen + k.past) t) (drop k.past l)) (sym e)

-- a leap further on in a part
pub leap_more : (s : Stream) (l : List ℕ) (i : ℕ) (r : Leap) → i ≤ length l → Leaps s (take (length l - i) (drop i l)) r
    → (i + r.past ≤ length l) × (step.fed s (drop i l) ≡ step.fed r.state (drop (i + r.past) l))
leap_more s l i r h p =
    let t = subst (λ (x : List ℕ). Leaps s x r) (rest l i) p in
    (omega (arith, t.within, length-drop i l), t.onward ∙ ap (step.fed r.state) (drop-drop r.past i l))

-- past the longest text a part changes nothing
pub fed_full : (l : List ℕ) (s : Stream) → 65536 < s.seen → step.fed s l ≡ s
unfolding step.stepped
fed_full [] s h = refl
fed_full (b ∷ l) s h = let e : step.stepped s b ≡ s = rw (lt-ltb 65536 s.seen h) in ap (λ (x : Stream). step.fed x l) e ∙ fed_full l s h
