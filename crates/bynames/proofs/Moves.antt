-- The reader moves on: each rule that takes a token leaves less of the text ahead, and none leaves more.
-- Assumes nothing.
use mathlib.Core.Bool.{Bool, cond}
use mathlib.Core.List.{List, [], ◌∷◌}
use Prim.Native.Nat.{ℕ, zero, suc, ◌+◌, ◌≤◌, ◌<◌}
use native.Mathlib.Omega.{arith}
use lib.Dec.{eqb, leb}
use lib.ListN.{length, drop, take, length-take, length-drop}
use Rattle.rules.specs.Bytes.{bytes, digit, letter, name_byte, pattern_byte, count, same}
use Rattle.rules.specs.Space.{gap}
use Rattle.rules.specs.declared.Front.{Front}
use Rattle.rules.specs.declared.Front.TheVariants.{Spelt, Fault, Nothing}
use Rattle.rules.specs.Tokens.{ident, val_name, known_bits, int, single, int_start, named, pattern, word, start, front}
use Rattle.laws.proofs.Same.{by_cond}
use Rattle.bynames.proofs.Tokens.{Next, end, bad, found, cut, token}
use Rattle.bynames.proofs.Reader as R
use Rattle.bynames.proofs.Reader.{State, Res, go, stop, P, bind, ahead}
use Rattle.bynames.proofs.AcceptedParts.{Ok, seq, either}

-- ---- tokens: each has a byte, and all that is ahead of a text is in it
abbrev pub Some : Next → Type 0
Some end = Unit {0}
Some bad = Unit {0}
Some (found k l r) = 1 ≤ length l

spelt_some : (b k n : ℕ) (s : List ℕ) → 1 ≤ n → Some (cut (b ∷ s) (Spelt k n))
spelt_some b k zero s h = absurd (let z : ⊥ = omega arith in z)
spelt_some b k (suc n) s h = omega arith

pattern_some : (b : ℕ) (s rest : List ℕ) → Some (cut (b ∷ s) (pattern rest))
unfolding pattern
pattern_some b s [] = tt
pattern_some b s (c ∷ t) =
    by_cond (λ (f : Front). Some (cut (b ∷ s) f)) (eqb c 61) _ (Fault 9)
    (λ e. by_cond (λ (f : Front). Some (cut (b ∷ s) f)) (eqb (count pattern_byte t) 0) (Fault 10) (Spelt known_bits (10 + count pattern_byte t)) (λ k. tt) (λ k. spelt_some b known_bits (10 + count pattern_byte t) s (omega arith)))
    (λ e. tt)

start_some : (b : ℕ) (s : List ℕ) → Some (cut (b ∷ s) (start b s))
unfolding start word
start_some b s =
    by_cond G (leb 1 (single b)) (Spelt (single b) 1) _ (λ e. spelt_some b (single b) 1 s (omega arith))
    (λ e.
    by_cond G (eqb b 37) (named (count name_byte s)) _
    (λ h. by_cond G (eqb (count name_byte s) 0) (Fault 0) (Spelt val_name (1 + count name_byte s)) (λ k. tt) (λ k. spelt_some b val_name (1 + count name_byte s) s (omega arith)))
    (λ h.
    by_cond G (letter b) (word b s (count name_byte s)) _
    (λ k.
    by_cond G (same (b ∷ take (count name_byte s) s) (bytes "knownBits")) (pattern (drop (count name_byte s) s)) (Spelt ident (1 + count name_byte s))
    (λ q. pattern_some b s (drop (count name_byte s) s)) (λ q. spelt_some b ident (1 + count name_byte s) s (omega arith)))
    (λ k. by_cond G (int_start b) (Spelt int (1 + count digit s)) (Fault 0) (λ i. spelt_some b int (1 + count digit s) s (omega arith)) (λ i. tt))))
  where
    G : Front → Type 0
    G f = Some (cut (b ∷ s) f)

front_some : (s : List ℕ) → Some (cut s (front s))
front_some [] = tt
front_some (b ∷ s) = start_some b s

pub token_some : (text : List ℕ) → Some (token text)
unfolding token
token_some text = front_some (drop (gap text) text)

cut-ahead : (s : List ℕ) (f : Front) → ahead (cut s f) ≤ length s
cut-ahead s (Spelt k n) = omega (arith, length-take n s, length-drop n s)
cut-ahead s (Fault n) = omega arith
cut-ahead s Nothing = omega arith

pub token-ahead : (text : List ℕ) → ahead (token text) ≤ length text
unfolding token
token-ahead text = omega (arith, cut-ahead (drop (gap text) text) (front (drop (gap text) text)), length-drop (gap text) text)

-- ---- rules
-- fewer than n bytes are ahead
abbrev pub Within : {A : Type 0} → ℕ → A → State → Type 0
Within n a w = Some w.next × (ahead w.next < n)

-- a rule that leaves no more ahead than there was; one that leaves less
pub record Keeps {A : Type 0} (p : P A) : Type 0 where
  pub by : (n : ℕ) (w : State) → Some w.next → ahead w.next < n → Ok (Within n) (p w)

pub record Takes {A : Type 0} (p : P A) : Type 0 where
  pub by : (n : ℕ) (w : State) → Some w.next → ahead w.next < suc n → Ok (Within n) (p w)

weaken : {A : Type 0} (n : ℕ) (m : Res A) → Ok (Within n) m → Ok (Within (suc n)) m
weaken n (go a w) h = (h.0, omega arith)
weaken n stop h = tt

pub takes-keeps : {A : Type 0} {p : P A} → Takes p → Keeps p
takes-keeps {A} {p} t = record { by = less }
  where
    less : (n : ℕ) (w : State) → Some w.next → ahead w.next < n → Ok (Within n) (p w)
    less zero w s h = absurd (let z : ⊥ = omega arith in z)
    less (suc n) w s h = weaken n (p w) (t.by n w s h)

module _ {A B : Type 0} {p : P A} {f : A → P B} where
  pub keeps_then : Keeps p → ((a : A) → Keeps (f a)) → Keeps (λ w. bind (p w) f)
  keeps_then k g = record { by = λ n w s h. seq (Within n) (Within n) (p w) f (k.by n w s h) (λ a w₁ i. (g a).by n w₁ i.0 i.1) }

  pub takes_then : Takes p → ((a : A) → Keeps (f a)) → Takes (λ w. bind (p w) f)
  takes_then k g = record { by = λ n w s h. seq (Within n) (Within n) (p w) f (k.by n w s h) (λ a w₁ i. (g a).by n w₁ i.0 i.1) }

  pub then-takes : Keeps p → ((a : A) → Takes (f a)) → Takes (λ w. bind (p w) f)
  then-takes k g = record { by = λ n w s h. seq (Within (suc n)) (Within n) (p w) f (k.by (suc n) w s h) (λ a w₁ i. (g a).by n w₁ i.0 i.1) }

module _ {A : Type 0} (b : Bool) {p q : P A} where
  pub keeps_if : Keeps p → Keeps q → Keeps (cond b p q)
  keeps_if k l = record { by = λ n w s h. either (Within n) b p q w (λ e. k.by n w s h) (λ e. l.by n w s h) }

  pub takes_if : Takes p → Takes q → Takes (cond b p q)
  takes_if k l = record { by = λ n w s h. either (Within n) b p q w (λ e. k.by n w s h) (λ e. l.by n w s h) }

module _ {A : Type 0} where
  pub give-keeps : (a : A) → Keeps (R.give a)
  give-keeps a = record { by = λ n w s h. (s, h) }

  pub refuse-keeps : Keeps (R.refuse {A = A})
  refuse-keeps = record { by = λ n w s h. tt }

  pub refuse-takes : Takes (R.refuse {A = A})
  refuse-takes = record { by = λ n w s h. tt }

pub look_keeps : Keeps R.look
look_keeps = record { by = λ n w s h. looked n w w.next s h }
  where
    looked : (n : ℕ) (w : State) (x : Next) → Some w.next → ahead w.next < n → Ok (Within n) (R.seen x w)
    looked n w end s h = (s, h)
    looked n w bad s h = tt
    looked n w (found k l r) s h = (s, h)

pub demand_takes : Takes R.demand
demand_takes = record { by = λ n w s h. taken n w w.next s h }
  where
    taken : (n : ℕ) (w : State) (x : Next) → Some x → ahead x < suc n → Ok (Within n) (R.demanded x w)
    taken n w end s h = tt
    taken n w bad s h = tt
    taken n w (found k l r) s h = (token_some r, omega (arith, token-ahead r))

pub expect-takes : (k : ℕ) → Takes (R.expect k)
unfolding R.expect
expect-takes k = takes_then demand_takes (λ t. keeps_if (eqb t.kind k) (give-keeps t.letters) refuse-keeps)

pub expect-keeps : (k : ℕ) → Keeps (R.expect k)
expect-keeps k = takes-keeps (expect-takes k)
