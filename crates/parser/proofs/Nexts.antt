-- What looking and taking do, by the token ahead or by what is lexed.
-- Assumes nothing.
use Prim.Native.Nat.{ℕ, ◌≤◌}
use mathlib.Core.Path.{◌≡◌, refl, sym, ap, ◌∙◌}
use mathlib.Core.Bool.{cond}
use mathlib.Core.List.{List}
use native.Mathlib.Omega.{arith}
use borrow.Author.Tests.{eq-eqb, ne_eqb}
use lib.Dec.{eqb}
use Rattle.std.specs.Prelude.{Option, Some, None, Ok, Err}
use Rattle.rules.specs.declared.Lexed.{Lexed}
use Rattle.rules.specs.declared.Lexed.TheVariants.{Found, End, Refused}
use Rattle.rules.specs.declared.Spot.{Spot}
use Rattle.rules.specs.Faults as fault
use Rattle.rules.specs.Reading as R
use Rattle.rules.specs.Tokens.{token_at}
use Rattle.rules.specs.World.{World, go, stop, P, bind, standing}
use Rattle.laws.proofs.Tokens.{found-kind}
use Rattle.parser.specs.declared.Parser.{Parser}
use Rattle.parser.specs.declared.fault.Fault.{Fault}
use Rattle.parser.specs.declared.fault.What.TheVariants as what
use Rattle.parser.specs.Next.{next_of}
use Rattle.parser.specs.Stands.{world, number_of}

-- by what is lexed, what is seen
seen_token : (l : Lexed) (t : Spot) (w : World) → next_of l ≡ Ok (Some t) → R.seen l w ≡ go t (standing (record { at = t.past; ahead = t; last = t }) w)
unfolding next_of R.seen
seen_token (Found u) t w e = let same : R.spot_of u ≡ t = cc in rw (← same) refl
seen_token End t w e = let z : ◌≡◌ {A = ℕ} 0 1 = cc in absurd (omega arith)
seen_token (Refused p) t w e = let z : ◌≡◌ {A = ℕ} 0 1 = cc in absurd (omega arith)

seen_end : (l : Lexed) (w : World) → next_of l ≡ Ok None → R.seen l w ≡ go w.stand.ahead w
unfolding next_of R.seen
seen_end (Found u) w e = let z : ◌≡◌ {A = ℕ} 0 1 = cc in absurd (omega arith)
seen_end End w e = refl
seen_end (Refused p) w e = let z : ◌≡◌ {A = ℕ} 0 1 = cc in absurd (omega arith)

seen_fault : (l : Lexed) (f : Fault) (w : World) → next_of l ≡ Err f → R.seen l w ≡ stop (number_of f.what) f.at
unfolding next_of R.seen
seen_fault (Found u) f w e = let z : ◌≡◌ {A = ℕ} 0 1 = cc in absurd (omega arith)
seen_fault End f w e = let z : ◌≡◌ {A = ℕ} 0 1 = cc in absurd (omega arith)
seen_fault (Refused p) f w e = let same : record { what = what.Lexer; at = record { kind = 0; first = p; past = p } } ≡ f = cc in rw (← same) refl

kinds : (text : List ℕ) (from : ℕ) (l : Lexed) (t : Spot) → token_at text from ≡ l → next_of l ≡ Ok (Some t) → 1 ≤ t.kind
unfolding next_of
kinds text from (Found u) t e n = let same : R.spot_of u ≡ t = cc in rw (← same) (found-kind text from e).0
kinds text from End t e n = let z : ◌≡◌ {A = ℕ} 0 1 = cc in absurd (omega arith)
kinds text from (Refused p) t e n = let z : ◌≡◌ {A = ℕ} 0 1 = cc in absurd (omega arith)

-- a token that is lexed has a kind
pub kind_lexed : (text : List ℕ) (from : ℕ) (t : Spot) → next_of (token_at text from) ≡ Ok (Some t) → 1 ≤ t.kind
kind_lexed text from t n = kinds text from (token_at text from) t refl n

-- the same, of what a call gave
pub kind-known : (text : List ℕ) (from : ℕ) (t : Spot) {o : Option Spot} → Ok o ≡ next_of (token_at text from) → o ≡ Some t → 1 ≤ t.kind
kind-known text from t e s = kind_lexed text from t (sym e ∙ ap (λ (x : Option Spot). Ok x) s)

-- what is done with a token that was looked at, to take it
abbrev take : Spot → P Spot
take t = cond (eqb t.kind 0) (λ w. stop fault.end (R.last_byte w.text)) (R.taken t)

take-some : (t : Spot) (w : World) → 1 ≤ t.kind → take t w ≡ R.taken t w
take-some t w k = rw (ne_eqb t.kind 0 (λ z. omega arith))

take-none : (t : Spot) (w : World) → t.kind ≡ 0 → take t w ≡ stop fault.end (R.last_byte w.text)
take-none t w k = rw (eq-eqb _ _ k)

module _ (p : Parser) where
  -- where a token is ahead
  pub looks-ahead : (t : Spot) → p.stand.ahead ≡ Some t → R.lookahead (world p) ≡ go t (world p)
  unfolding R.lookahead world
  looks-ahead t e = let k = p.stand.seen t e in rw e (simp (ne_eqb t.kind 0 (λ z. omega arith)))

  pub takes-ahead : (t : Spot) → p.stand.ahead ≡ Some t → R.token (world p) ≡ R.taken t (world p)
  unfolding R.token
  takes-ahead t e = ap (λ r. bind r take) (looks-ahead t e) ∙ take-some t (world p) (p.stand.seen t e)

  -- where none is
  module _ (none : p.stand.ahead ≡ None) where
    looks : R.lookahead (world p) ≡ R.seen (token_at p.text.bytes.now p.stand.at) (world p)
    unfolding R.lookahead world
    looks = rw none refl

    pub looks_token : (t : Spot) → next_of (token_at p.text.bytes.now p.stand.at) ≡ Ok (Some t) → R.lookahead (world p) ≡ go t (standing (record { at = t.past; ahead = t; last = t }) (world p))
    looks_token t e = looks ∙ seen_token _ t (world p) e

    pub looks_end : next_of (token_at p.text.bytes.now p.stand.at) ≡ Ok None → R.lookahead (world p) ≡ go R.nothing (world p)
    unfolding world
    looks_end e = looks ∙ seen_end _ (world p) e ∙ rw none refl

    pub looks_fault : (f : Fault) → next_of (token_at p.text.bytes.now p.stand.at) ≡ Err f → R.lookahead (world p) ≡ stop (number_of f.what) f.at
    looks_fault f e = looks ∙ seen_fault _ f (world p) e

    pub takes_token : (t : Spot) → next_of (token_at p.text.bytes.now p.stand.at) ≡ Ok (Some t) → R.token (world p) ≡ go t (standing (record { at = t.past; ahead = R.nothing; last = t }) (world p))
    unfolding R.token
    takes_token t e = ap (λ r. bind r take) (looks_token t e) ∙ take-some t _ (kind_lexed _ _ t e)

    pub takes_end : next_of (token_at p.text.bytes.now p.stand.at) ≡ Ok None → R.token (world p) ≡ stop fault.end (R.last_byte p.text.bytes.now)
    unfolding R.token world
    takes_end e = ap (λ r. bind r take) (looks_end e) ∙ take-none R.nothing (world p) refl

    pub takes_fault : (f : Fault) → next_of (token_at p.text.bytes.now p.stand.at) ≡ Err f → R.token (world p) ≡ stop (number_of f.what) f.at
    unfolding R.token
    takes_fault f e = ap (λ r. bind r take) (looks_fault f e)
