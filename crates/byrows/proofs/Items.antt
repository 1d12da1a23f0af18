-- The rows that are listed for an item's roots say what the item lists: before its first closing line, and between infer and result.
-- Assumes nothing.
use Prim.Native.Nat.{ℕ, zero, suc, ◌+◌, ◌-◌, ◌≤◌, ◌<◌}
use mathlib.Core.Path.{◌≡◌, sym, ap, ◌∙◌}
use mathlib.Core.Bool.{Bool, false, cond}
use mathlib.Core.List.{List, [], ◌∷◌, ◌++◌, map, append-nil}
use native.Mathlib.Nat.{add-zero}
use native.Mathlib.Omega.{arith}
use lib.Dec.{eqb}
use Rattle.rules.specs.declared.Item.{Item}
use Rattle.rules.specs.Listing.{listed_before, listed_between}
use Rattle.rules.specs.Listing as names
use Rattle.rules.specs.Rows.{◌up_to◌, infer_result, candidate, left_hand_side, name_at}
use Rattle.rules.specs.Syntax as syntax
use Rattle.rules.specs.Syntax.{onto, scope, of_operand}
use Rattle.rules.specs.View.{each, along, operand_of, root_attribute_of, statement_of, as_closing, as_item}
use Rattle.rules.specs.Meaning.{All}
use Rattle.laws.proofs.Cases.{by_cases}
use Rattle.laws.proofs.Tests.{cond-true, cond-false}
use Rattle.listing.specs.Listing.{Marks, marked, listing}
use Rattle.listing.specs.References.{named, refers, Sound}
use Rattle.listing.specs.Roots.{first_roots, second_roots}
use Rattle.listing.proofs.Steps.{refers-earlier}
use Rattle.byrows.proofs.Names.{Says, Assigns, scope_of, listing-says, listing_alike}
use Rattle.byrows.proofs.Views.{assigning, Fit, operands-names, view_says}

-- ---- the scope
onto-each : (f : ℕ → syntax.Statement) (lo n k a : ℕ) → a ≡ lo + k → onto (each f a n) (scope_of f lo k) ≡ scope_of f lo (k + n)
onto-each f lo zero k a e = ap (scope_of f lo) (let z : k ≡ k + 0 = omega arith in z)
onto-each f lo (suc n) k a e =
    ap (λ (b : ℕ). onto (each f (a + 1) n) (f b ∷ scope_of f lo k)) e
    ∙ onto-each f lo n (suc k) (a + 1) (omega arith)
    ∙ ap (scope_of f lo) (let z : suc k + n ≡ k + suc n = omega arith in z)

-- ---- the roots by name
module _ (text S O A : List ℕ) (x : Item) where
  abbrev name : ℕ → syntax.Name
  name = name_at text S

  abbrev operand : ℕ → syntax.Operand
  operand = operand_of text S O

  abbrev at : ℕ
  at = x.operands.first

  abbrev is : ℕ → Bool
  is k = eqb x.kind k

  one_name : of_operand (operand at) ≡ map name (named O at 1)
  one_name = sym (append-nil (of_operand (operand at))) ∙ operands-names text S O 1 at

  two_names : of_operand (operand at) ++ of_operand (operand (at + 1)) ≡ map name (named O at 2)
  two_names = ap (λ (l : List syntax.Name). of_operand (operand at) ++ l) (sym (append-nil (of_operand (operand (at + 1))))) ∙ operands-names text S O 2 at

  abbrev attributes : List syntax.RootAttribute
  attributes = along (root_attribute_of text A) x.attributes

  abbrev by_both : syntax.Closing
  by_both = syntax.infer_result (name x.infer) attributes (operand at)

  abbrev by_cand : syntax.Closing
  by_cand = syntax.cand (operand at) (operand (at + 1)) attributes

  abbrev by_infer : syntax.Closing
  by_infer = syntax.infer (name x.infer) attributes

  abbrev by_result : syntax.Closing
  by_result = syntax.result (operand at)

  abbrev after_cand : syntax.Closing
  after_cand = cond (is left_hand_side) by_infer by_result

  abbrev after_both : syntax.Closing
  after_both = cond (is candidate) by_cand after_cand

  pub first-names : syntax.first_roots (as_closing text S O A x) ≡ map name (first_roots O x)
  unfolding as_closing first_roots
  first-names =
      by_cases (is infer_result)
      (λ e. ap syntax.first_roots (cond-true _ by_both after_both e) ∙ ap (map name) (sym (cond-true _ (x.infer ∷ []) rows₁ e)))
      (λ e. ap syntax.first_roots (cond-false _ by_both after_both e)
      ∙ by_cases (is candidate) (λ f. ap syntax.first_roots (cond-true _ by_cand after_cand f) ∙ two_names ∙ ap (map name) (sym (cond-true _ (named O at 2) rows₂ f)))
      (λ f. ap syntax.first_roots (cond-false _ by_cand after_cand f)
      ∙ by_cases (is left_hand_side) (λ g. ap syntax.first_roots (cond-true _ by_infer by_result g) ∙ ap (map name) (sym (cond-true _ (x.infer ∷ []) (named O at 1) g)))
      (λ g. ap syntax.first_roots (cond-false _ by_infer by_result g) ∙ one_name ∙ ap (map name) (sym (cond-false _ (x.infer ∷ []) (named O at 1) g)))
      ∙ ap (map name) (sym (cond-false _ (named O at 2) rows₂ f)))
      ∙ ap (map name) (sym (cond-false _ (x.infer ∷ []) rows₁ e)))
    where
      rows₂ : List ℕ
      rows₂ = cond (is left_hand_side) (x.infer ∷ []) (named O at 1)

      rows₁ : List ℕ
      rows₁ = cond (is candidate) (named O at 2) rows₂

  pub second-names : syntax.second_roots (as_closing text S O A x) ≡ map name (second_roots O x)
  unfolding as_closing second_roots
  second-names =
      by_cases (is infer_result)
      (λ e. ap syntax.second_roots (cond-true _ by_both after_both e) ∙ one_name ∙ ap (map name) (sym (cond-true _ (named O at 1) [] e)))
      (λ e. ap syntax.second_roots (cond-false _ by_both after_both e)
      ∙ by_cases (is candidate) (λ f. ap syntax.second_roots (cond-true _ by_cand after_cand f))
      (λ f. ap syntax.second_roots (cond-false _ by_cand after_cand f)
      ∙ by_cases (is left_hand_side) (λ g. ap syntax.second_roots (cond-true _ by_infer by_result g)) (λ g. ap syntax.second_roots (cond-false _ by_infer by_result g)))
      ∙ ap (map name) (sym (cond-false _ (named O at 1) [] e)))

-- ---- an item whose rows are its own, and whose names are distinct
pub record Whole (text S O : List ℕ) (s : ℕ) (x : Item) : Type 0 where
  pub counted : x.statements.past ≤ s
  pub begins : x.statements.first ≤ x.middle
  pub ends : x.middle ≤ x.statements.past
  pub rows : (i : ℕ) → x.statements.first ≤ i → i < x.statements.past → Fit S O x.statements.first i
  pub apart : (i j : ℕ) → Assigns (assigning S) x.statements.first x.statements.past i → Assigns (assigning S) x.statements.first x.statements.past j
      → name_at text S i ≡ name_at text S j → i ≡ j
  pub firsts : All (Assigns (assigning S) x.statements.first x.statements.past) (first_roots O x)
  pub seconds : All (Assigns (assigning S) x.statements.first x.statements.past) (second_roots O x)

module _ (text S O A : List ℕ) (s : ℕ) (so : Sound S O s) (x : Item) (h : Whole text S O s x) where
  abbrev say : ℕ → syntax.Statement
  say = statement_of text S O A

  abbrev lo : ℕ
  lo = x.statements.first

  abbrev hi : ℕ
  hi = x.statements.past

  abbrev r : ℕ → List ℕ
  r = refers S O s

  pub scope-rows : scope (as_item text S O A x) ≡ scope_of say lo (hi - lo)
  unfolding as_item
  scope-rows =
      ap (onto (along say (x.middle up_to hi))) (onto-each say lo (x.middle - lo) 0 lo (sym (add-zero lo)))
      ∙ onto-each say lo (hi - x.middle) (0 + (x.middle - lo)) x.middle (omega (arith, h.begins))
      ∙ ap (scope_of say lo) (let z : 0 + (x.middle - lo) + (hi - x.middle) ≡ hi - lo = omega (arith, h.begins, h.ends) in z)

  says : (i : ℕ) → lo ≤ i → i < hi → Says say (name_at text S) (assigning S) r lo i
  says i l u = view_says text S O A i s lo (omega (arith, h.counted)) (h.rows i l u)

  closed : lo + (hi - lo) ≡ hi
  closed = omega (arith, h.begins, h.ends)

  module _ (m : Marks) (fresh : (i : ℕ) → Assigns (assigning S) lo hi i → m i ≡ false) where
    pub before-rows : map say (listing r s m (first_roots O x)) ≡ listed_before (as_item text S O A x)
    unfolding listed_before as_item
    before-rows =
        sym (listing-says say (name_at text S) (assigning S) r (refers-earlier S O s so) lo hi says h.apart s (hi - lo) h.counted closed m [] (first_roots O x) h.firsts fresh)
        ∙ sym (ap (λ (t : List syntax.Statement). names.listing t [] (map (name_at text S) (first_roots O x))) scope-rows)
        ∙ sym (ap (names.listing (scope (as_item text S O A x)) []) (first-names text S O A x))

    pub between-rows : map say (listing r s (marked m (listing r s m (first_roots O x))) (second_roots O x)) ≡ listed_between (as_item text S O A x)
    unfolding listed_between as_item
    between-rows =
        sym
        (listing-says say (name_at text S) (assigning S) r (refers-earlier S O s so) lo hi says h.apart s (hi - lo) h.counted closed
        (marked m (listing r s m (first_roots O x))) (onto (map say (listing r s m (first_roots O x))) []) (second_roots O x) h.seconds
        (listing_alike say (name_at text S) (assigning S) r (refers-earlier S O s so) lo hi says h.apart s (hi - lo) h.counted closed m [] (first_roots O x) h.firsts fresh))
        ∙ ap (λ (t : List syntax.Statement). names.listing (scope_of say lo (hi - lo)) (onto t []) (map (name_at text S) (second_roots O x))) before-rows
        ∙ sym (ap (λ (t : List syntax.Statement). names.listing t (onto (listed_before (as_item text S O A x)) []) (map (name_at text S) (second_roots O x))) scope-rows)
        ∙ sym (ap (names.listing (scope (as_item text S O A x)) (onto (listed_before (as_item text S O A x)) [])) (second-names text S O A x))
