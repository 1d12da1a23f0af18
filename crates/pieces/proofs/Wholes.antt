-- Each whole as the pieces that it is written in.
-- Assumes nothing.
use mathlib.Core.Path.{◌≡◌, refl, ap, ◌∙◌}
use mathlib.Core.List.{List, [], ◌∷◌, ◌++◌, append-nil}
use Prim.Native.Nat.{ℕ, zero, suc, ◌+◌, ◌-◌, ◌≤◌, ◌<◌}
use native.Mathlib.Omega.{arith}
use borrow.Author.Tests.{ne_eqb}
use lib.Dec.{eqb}
use Rattle.laws.proofs.Pieces.{next, stop}
use Rattle.laws.proofs.Tests.{cond-false}
use Rattle.rules.specs.declared.Span.{Span}
use Rattle.rules.specs.Bytes.{bytes}
use Rattle.rules.specs.Integers.{decimal}
use Rattle.rules.specs.Out.{joined}
use Rattle.rules.specs.Rows.{◌up_to◌}
use Rattle.rules.specs.Syntax as syntax
use Rattle.rules.specs.View.{each, along, typing_of}
use Rattle.rules.specs.Printing.{typing, operand, further, operands, attribute, root_attribute, attributes}
use Rattle.pieces.specs.Bounds.{Few}
use Rattle.proof_tails.proofs.Tails.{operand-tail, further_tail, attribute-tail, root_attribute_tail, attributes-tail}

-- Rows of a span, where a list is printed as its elements are, one after the other
module _ {A : Type 0} (print : List A → List ℕ) (none : print [] ≡ []) (split : (a : A) (l : List A) → print (a ∷ l) ≡ print (a ∷ []) ++ print l) where
  pub each-joined : (f : ℕ → A) (i n : ℕ) → print (each f i n) ≡ joined (each (λ j. print (f j ∷ [])) i n)
  each-joined f i zero = none
  each-joined f i (suc n) = split (f i) (each f (i + 1) n) ∙ ap (λ (l : List ℕ). print (f i ∷ []) ++ l) (each-joined f (i + 1) n)

pub further-joined : (f : ℕ → syntax.Operand) (s : Span) → further (along f s) [] ≡ joined (along (λ j. further (f j ∷ []) []) s)
further-joined f s = each-joined (λ l. further l []) refl (λ o l. further_tail (o ∷ []) (further l [])) f s.first (s.past - s.first)

-- an attribute in parentheses
enclosed : {A : Type 0} (one : A → List ℕ → List ℕ) → ((a : A) (r : List ℕ) → one a r ≡ one a [] ++ r) → (a : A) → attributes one (a ∷ []) [] ≡ bytes " (" ++ one a [] ++ bytes ")"
enclosed one tail a = ap (λ (l : List ℕ). bytes " (" ++ l) (tail a (bytes ")"))

module _ {A : Type 0} (one : A → List ℕ → List ℕ) (tail : (a : A) (r : List ℕ) → one a r ≡ one a [] ++ r) (f : ℕ → A) where
  enclosed_each : (i n : ℕ) → attributes one (each f i n) [] ≡ joined (each (λ j. bytes " (" ++ one (f j) [] ++ bytes ")") i n)
  enclosed_each i zero = refl
  enclosed_each i (suc n) =
      attributes-tail one tail (f i ∷ []) (attributes one (each f (i + 1) n) [])
      ∙ ap (λ (l : List ℕ). l ++ attributes one (each f (i + 1) n) []) (enclosed one tail (f i))
      ∙ ap (λ (l : List ℕ). bytes " (" ++ one (f i) [] ++ bytes ")" ++ l) (enclosed_each (i + 1) n)

pub attributes-joined : (f : ℕ → syntax.Attribute) (s : Span) → attributes attribute (along f s) [] ≡ joined (along (λ j. bytes " (" ++ attribute (f j) [] ++ bytes ")") s)
attributes-joined f s = enclosed_each attribute attribute-tail f s.first (s.past - s.first)

pub root_attributes_joined : (f : ℕ → syntax.RootAttribute) (s : Span) → attributes root_attribute (along f s) [] ≡ joined (along (λ j. bytes " (" ++ root_attribute (f j) [] ++ bytes ")") s)
root_attributes_joined f s = enclosed_each root_attribute root_attribute_tail f s.first (s.past - s.first)

-- a span without its first row
pub few-rest : (s : Span) → Few s → s.first < s.past → Few ((s.first + 1) up_to s.past)
few-rest s w h = record { first = omega (arith, w.past); past = w.past }

-- no type, and a type
pub typing_none : (w : ℕ) → w ≡ 0 → typing (typing_of w) [] ≡ []
typing_none w e = rw e

pub typing_pieces : (w : ℕ) → (w ≡ 0 → ⊥) → typing (typing_of w) [] ≡ joined (bytes ":i" ∷ decimal w ∷ [])
typing_pieces w n = ap (λ (t : syntax.Typing). typing t []) (cond-false (eqb w 0) syntax.untyped (syntax.typed w) (ne_eqb w 0 n))

pub constant_pieces : (c : ℕ) (t : syntax.Typing) → operand (syntax.constant c t) [] ≡ joined (decimal c ∷ typing t [] ∷ [])
constant_pieces c t = simp append-nil

pub pair_pieces : (x y : syntax.Operand) → operand x (bytes " " ++ operand y []) ≡ joined (operand x [] ∷ bytes " " ∷ operand y [] ∷ [])
pair_pieces x y = operand-tail x (bytes " " ++ operand y []) ∙ simp append-nil

pub next_pieces : (x : syntax.Operand) → further (x ∷ []) [] ≡ joined (bytes ", " ∷ operand x [] ∷ [])
next_pieces x = simp append-nil

pub no_operands : (f : ℕ → syntax.Operand) (s : Span) → s.past ≤ s.first → operands (along f s) [] ≡ []
no_operands f s h = ap (λ (l : List syntax.Operand). operands l []) (stop (each f s.first) s.first s.past h)

pub operands_pieces : (f : ℕ → syntax.Operand) (s : Span) → s.first < s.past
    → operands (along f s) [] ≡ joined (bytes " " ∷ operand (f s.first) [] ∷ further (along f ((s.first + 1) up_to s.past)) [] ∷ [])
operands_pieces f s h =
    let rest = (s.first + 1) up_to s.past in
    ap (λ (l : List syntax.Operand). operands l []) (next (each f s.first) s.first s.past h)
    ∙ ap (λ (l : List ℕ). bytes " " ++ l) (operand-tail (f s.first) (further (along f rest) []))
    ∙ simp append-nil

pub enclosed_pieces : (p : List ℕ) → bytes " (" ++ p ++ bytes ")" ≡ joined (bytes " (" ∷ p ∷ bytes ")" ∷ [])
enclosed_pieces p = refl
