-- The instructions' names and the keywords: each is an identifier, each is found at its place, and none is both.
-- Each fact is one test that antt computes over the list.
-- Assumes nothing.
use mathlib.Core.Path.{◌≡◌, refl, sym, ◌∙◌}
use mathlib.Core.Bool.{Bool, true, false, not, ◌&&◌}
use mathlib.Core.List.{List, [], ◌∷◌}
use Prim.Native.Nat.{ℕ, zero, suc, ◌≤◌, ◌<◌}
use lib.Dec.{eqb, leb}
use lib.ListN.{length, get_or}
use borrow.Author.Tests.{eqb-true, leb-true}
use Rattle.rules.specs.Bytes.{bytes, inside, digit, letter, name_byte, count, same}
use Rattle.rules.specs.Instructions.{Instruction, ◌takes◌, instructions, names, place_of, instruction_of, arity_of, instruction_name, keywords, keyword_of}
use Rattle.laws.proofs.Every.{every, every_at}
use Rattle.laws.proofs.Places.{place-holds}

-- a letter and name bytes, and not knownBits
unfoldable pub is_word : List ℕ → Bool
is_word [] = false
is_word (b ∷ w) = letter b && (eqb (count name_byte w) (length w) && not (same (b ∷ w) (bytes "knownBits")))

-- the names of a list of instructions, one by one
name_of : (l : List Instruction) (k : ℕ) → get_or (names l) k [] ≡ (get_or l k ("" takes 0)).name
name_of [] k = refl
name_of (i ∷ l) zero = refl
name_of (i ∷ l) (suc k) = name_of l k

-- the tests
words : ℕ → List ℕ → Bool
words k w = is_word w

placed : List (List ℕ) → ℕ → List ℕ → Bool
placed l k w = eqb (place_of w l) k

absent : List (List ℕ) → ℕ → List ℕ → Bool
absent l k w = eqb (place_of w l) (length l)

short : ℕ → List ℕ → Bool
short k w = leb (length w) 18

few : ℕ → Instruction → Bool
few k i = leb i.arity 3

module _ (k : ℕ) (h : k < 59) where
  at_name : (f : ℕ → List ℕ → Bool) → every f 0 (names instructions) ≡ true → f k (instruction_name k) ≡ true
  unfolding instruction_name
  at_name f t = rw (← name_of instructions k) (every_at f [] (names instructions) t k h)

  pub instruction-word : is_word (instruction_name k) ≡ true
  unfolding words is_word letter digit name_byte inside same
  instruction-word = at_name words refl

  pub instruction-place : instruction_of (instruction_name k) ≡ k
  unfolding instruction_of placed same
  instruction-place = eqb-true (instruction_of (instruction_name k)) k (at_name (placed (names instructions)) refl)

  pub instruction_no_keyword : keyword_of (instruction_name k) ≡ 19
  unfolding keyword_of absent same
  instruction_no_keyword = eqb-true (keyword_of (instruction_name k)) 19 (at_name (absent keywords) refl)

  pub instruction-short : length (instruction_name k) ≤ 18
  unfolding short
  instruction-short = leb-true (length (instruction_name k)) 18 (at_name short refl)

  pub arity-few : arity_of k ≤ 3
  unfolding arity_of few
  arity-few = leb-true (arity_of k) 3 (every_at few ("" takes 0) instructions refl k h)

module _ (k : ℕ) (h : k < 19) where
  pub keyword_word : is_word (get_or keywords k []) ≡ true
  unfolding words is_word letter digit name_byte inside same
  keyword_word = every_at words [] keywords refl k h

  pub keyword_place : keyword_of (get_or keywords k []) ≡ k
  unfolding keyword_of placed same
  keyword_place = eqb-true (keyword_of (get_or keywords k [])) k (every_at (placed keywords) [] keywords refl k h)

  pub keyword_no_instruction : instruction_of (get_or keywords k []) ≡ 59
  unfolding instruction_of absent same
  keyword_no_instruction = eqb-true (instruction_of (get_or keywords k [])) 59 (every_at (absent (names instructions)) [] keywords refl k h)

-- a word that names an instruction is its name, and so of keywords
pub instruction-named : (w : List ℕ) → instruction_of w < 59 → instruction_name (instruction_of w) ≡ w
unfolding instruction_of instruction_name
instruction-named w h = sym (name_of instructions (place_of w (names instructions))) ∙ place-holds w (names instructions) h

pub keyword_named : (w : List ℕ) → keyword_of w < 19 → get_or keywords (keyword_of w) [] ≡ w
unfolding keyword_of
keyword_named w h = place-holds w keywords h
