-- Keywords by their numbers.
-- Assumes nothing.
use Prim.Native.Nat.{ℕ}
use mathlib.Core.Path.{◌≡◌, refl, sym, ap, ◌∙◌}
use mathlib.Core.Bool.{true, false, cond, false≢true}
use borrow.Author.Tests.{eq-eqb, ne_eqb}
use borrow.Author.Rules.{rules}
use denote.Enum.Bare.{same_true}
use lib.Dec.{eqb}
use Rattle.std.specs.Option.{option_eq}
use Rattle.std.specs.Prelude.{Option, Some, None}
use Rattle.rules.specs.declared.keyword.Keyword.{Keyword}
use Rattle.rules.specs.declared.keyword.Keyword.TheVariants as word
use Rattle.rules.specs.contracts.keyword.Keyword.{the_type}
use Rattle.rules.specs.contracts.keyword.KeywordPartialEq.TheImpl.{eq-value}
use Rattle.rules.specs.Keywords.{keyword_number}

-- the keyword of a number
abbrev numbered : ℕ → Option Keyword
numbered n =
    cond (eqb n 0) (Some word.Var) (cond (eqb n 1) (Some word.Block) (cond (eqb n 2) (Some word.Phi) (cond (eqb n 3) (Some word.Reservedinst)
    (cond (eqb n 4) (Some word.Reservedconst) (cond (eqb n 5) (Some word.Pc) (cond (eqb n 6) (Some word.Blockpc) (cond (eqb n 7) (Some word.Infer)
    (cond (eqb n 8) (Some word.Result) (cond (eqb n 9) (Some word.Cand) (cond (eqb n 10) (Some word.PowerOfTwo) (cond (eqb n 11) (Some word.Negative)
    (cond (eqb n 12) (Some word.NonNegative) (cond (eqb n 13) (Some word.NonZero) (cond (eqb n 14) (Some word.HasExternalUses) (cond (eqb n 15) (Some word.SignBits)
    (cond (eqb n 16) (Some word.Range) (cond (eqb n 17) (Some word.DemandedBits) (cond (eqb n 18) (Some word.HarvestedFromUse) None))))))))))))))))))

numbered-back : (k : Option Keyword) → numbered (keyword_number k) ≡ k
numbered-back None = refl
numbered-back (Some word.Var) = refl
numbered-back (Some word.Block) = refl
numbered-back (Some word.Phi) = refl
numbered-back (Some word.Reservedinst) = refl
numbered-back (Some word.Reservedconst) = refl
numbered-back (Some word.Pc) = refl
numbered-back (Some word.Blockpc) = refl
numbered-back (Some word.Infer) = refl
numbered-back (Some word.Result) = refl
numbered-back (Some word.Cand) = refl
numbered-back (Some word.PowerOfTwo) = refl
numbered-back (Some word.Negative) = refl
numbered-back (Some word.NonNegative) = refl
numbered-back (Some word.NonZero) = refl
numbered-back (Some word.HasExternalUses) = refl
numbered-back (Some word.SignBits) = refl
numbered-back (Some word.Range) = refl
numbered-back (Some word.DemandedBits) = refl
numbered-back (Some word.HarvestedFromUse) = refl

-- the same keyword has the same number
pub same_word : (k j : Option Keyword) → k ≡ j → eqb (keyword_number k) (keyword_number j) ≡ true
same_word k j h = eq-eqb _ _ (ap keyword_number h)

-- another keyword has another number
pub other_word : (k j : Option Keyword) → (k ≡ j → ⊥) → eqb (keyword_number k) (keyword_number j) ≡ false
other_word k j h = ne_eqb _ _ (λ e. h (sym (numbered-back k) ∙ ap numbered e ∙ numbered-back j))

-- what the derived test for equality says
is_itself : (k : Keyword) → eq-value.it k k ≡ true
is_itself word.Var = refl
is_itself word.Block = refl
is_itself word.Phi = refl
is_itself word.Reservedinst = refl
is_itself word.Reservedconst = refl
is_itself word.Pc = refl
is_itself word.Blockpc = refl
is_itself word.Infer = refl
is_itself word.Result = refl
is_itself word.Cand = refl
is_itself word.PowerOfTwo = refl
is_itself word.Negative = refl
is_itself word.NonNegative = refl
is_itself word.NonZero = refl
is_itself word.HasExternalUses = refl
is_itself word.SignBits = refl
is_itself word.Range = refl
is_itself word.DemandedBits = refl
is_itself word.HarvestedFromUse = refl

pub asked_yes : (k : Option Keyword) (j : Keyword) → true ≡ option_eq eq-value.it k (Some j) → k ≡ Some j
asked_yes None j e = absurd (false≢true (sym e))
asked_yes (Some i) j e = ap (λ (x : Keyword). Some x) (same_true the_type (search rules) i j (sym e))

pub asked_no : (k : Option Keyword) (j : Keyword) → false ≡ option_eq eq-value.it k (Some j) → k ≡ Some j → ⊥
asked_no k j e h = false≢true (e ∙ ap (λ (x : Option Keyword). option_eq eq-value.it x (Some j)) h ∙ is_itself j)
