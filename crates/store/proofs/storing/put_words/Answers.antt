-- `store::storing::put_words` meets its contract. The loop's invariant: i words stand over the front of the output, and the rest is as it was.
-- Assumes nothing.
use mathlib.Core.Path.{◌≡◌, refl, sym, ap, ◌∙◌}
use mathlib.Core.List.{List, [], ◌∷◌, ◌++◌}
use Prim.Native.Nat.{ℕ, ◌*◌}
use native.Mathlib.Omega.{arith}
use lib.ListN.{length, take, drop, get_or}
use lib.Seq.{sets, take-length, length-sets}
use Rattle.rules.specs.Stored.{in_bytes}
use Rattle.store.proofs.Bytes.{bytes-length, bytes_more}
use Rattle.store.proofs.storing.put_words.Goals as goal

pub overflow_mul-n : goal.overflow_mul-n
overflow_mul-n c = omega arith

pub returns-then-out-n : goal.returns-then-out-n
returns-then-out-n c = record { count = sym (bytes-length c.args.words.now); bytes = λ h. absurd (omega (arith, h, c.if-out-n.true, bytes-length c.args.words.now)); long = refl }

pub loop-i-init : goal.loop-i-init
loop-i-init c = (omega arith, (refl, (refl, c.if-out-n.false)))

pub offset_bounds-words-i : goal.offset_bounds-words-i
offset_bounds-words-i c = omega (arith, c.requires)

pub overflow_mul-i : goal.overflow_mul-i
overflow_mul-i c = omega (arith, c.requires)

pub put_word-requires : goal.put_word-requires
put_word-requires c = omega (arith, c.loop-i.invariant.1.1)

pub loop-i-preserved : goal.loop-i-preserved
loop-i-preserved c =
    let l = c.loop-i in
    let w = c.args.words.now in
    let o = c.args.out.now in
    let new = c.put_word.ensures ∙ ap (λ (x : List ℕ). sets x (l.i * 4) (in_bytes (get_or w l.i 0 ∷ []))) l.invariant.1.0 ∙ bytes_more w o l.i (omega arith) l.invariant.1.1.1 in
    (omega arith, (new, (ap length c.put_word.ensures ∙ length-sets l.out (l.i * 4) (in_bytes (get_or w l.i 0 ∷ [])) ∙ l.invariant.1.1.0, l.invariant.1.1.1)))

pub returns : goal.returns
returns c =
    let v = c.loop-i.invariant in
    let i = c.loop-i.i in
    let w = c.args.words.now in
    let o = c.args.out.now in
    let e : i ≡ length w = omega (arith, v.0) in
    let all : in_bytes (take i w) ≡ in_bytes w = ap in_bytes (ap (λ (k : ℕ). take k w) e ∙ take-length w) in
    let far : i * 4 ≡ length (in_bytes w) = omega (arith, e, bytes-length w) in
    record {
      count = sym (bytes-length w);
      bytes = λ h. v.1.0 ∙ ap (λ (l : List ℕ). l ++ drop (i * 4) o) all ∙ ap (λ (k : ℕ). in_bytes w ++ drop k o) far;
      long = v.1.1.0;
    }
