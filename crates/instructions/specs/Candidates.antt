-- Candidates: the words that a word may still be, each with what it means.
-- Assumes nothing.
use Rattle.std.specs.Prelude.{ℕ, suc, cond, List, [], ◌∷◌, eqb, length, get_or, Option, Some, None}
use Rattle.rules.specs.declared.keyword.Keyword.{Keyword}
use Rattle.rules.specs.declared.keyword.Keyword.TheVariants as keyword
use Rattle.rules.specs.Bytes.{same}
use Rattle.rules.specs.Instructions.{instructions, names, keywords}

pub record Candidate (T : Type 0) : Type 0 where
  pub meaning : T
  pub word : List ℕ

abbrev pub candidate : {T : Type 0} → T → List ℕ → Candidate T
candidate m w = record { meaning = m; word = w }

-- each word of a list by its place, the first at place k
abbrev pub placed : ℕ → List (List ℕ) → List (Candidate ℕ)
placed k [] = []
placed k (x ∷ l) = candidate k x ∷ placed (suc k) l

-- each word of a list with the meaning at its place in another
abbrev pub paired : {T : Type 0} → List T → List (List ℕ) → List (Candidate T)
paired [] l = []
paired (m ∷ ms) [] = []
paired (m ∷ ms) (x ∷ l) = candidate m x ∷ paired ms l

-- what a word means among candidates, if it is one of them
abbrev pub among : {T : Type 0} → List ℕ → List (Candidate T) → Option T
among w [] = None
among w (c ∷ l) = cond (same w c.word) (Some c.meaning) (among w l)

-- the candidates that have k where f looks at them
abbrev pub those : {T : Type 0} → (List ℕ → ℕ) → ℕ → List (Candidate T) → List (Candidate T)
those f k [] = []
those f k (c ∷ l) = cond (eqb (f c.word) k) (c ∷ those f k l) (those f k l)

-- letter i of a word
abbrev pub letter : ℕ → List ℕ → ℕ
letter i w = get_or w i 0

-- the candidates whose first letter is b
abbrev pub beginning : {T : Type 0} → ℕ → List (Candidate T) → List (Candidate T)
beginning b l = those (letter 0) b l

-- every instruction by its place, and every keyword
abbrev pub all_instructions : List (Candidate ℕ)
all_instructions = placed 0 (names instructions)

abbrev pub all_keywords : List (Candidate Keyword)
all_keywords =
    paired
    (keyword.Var ∷
    keyword.Block ∷
    keyword.Phi ∷
    keyword.Reservedinst ∷
    keyword.Reservedconst ∷
    keyword.Pc ∷
    keyword.Blockpc ∷
    keyword.Infer ∷
    keyword.Result ∷
    keyword.Cand ∷
    keyword.PowerOfTwo ∷
    keyword.Negative ∷
    keyword.NonNegative ∷
    keyword.NonZero ∷
    keyword.HasExternalUses ∷
    keyword.SignBits ∷
    keyword.Range ∷
    keyword.DemandedBits ∷
    keyword.HarvestedFromUse ∷ [])
    keywords

-- the instructions and the keywords of a length
abbrev pub instructions_of : ℕ → List (Candidate ℕ)
instructions_of n = those length n all_instructions

abbrev pub keywords_of : ℕ → List (Candidate Keyword)
keywords_of n = those length n all_keywords
