-- What a store keeps, over the contracts of the public calls: what was written loads as the same text, counts and rows; an accepted file is
-- exactly what the writer writes of what was loaded; and what is loaded prints alike. Whatever output, text and tables were lent, as long as they are enough.
-- Assumes nothing.
use Prim.Native.Nat.{ℕ, ◌*◌, ◌/◌, ◌≤◌}
use mathlib.Core.Path.{◌≡◌, refl, sym, ap, subst, ◌∙◌}
use mathlib.Core.List.{List, ◌++◌}
use native.Mathlib.Omega.{arith}
use lib.ListN.{length, take, drop}
use lib.Seq.{take_at}
use Rattle.rules.specs.Answer.{Answer}
use Rattle.rules.specs.StoreAnswer.{StoreAnswer}
use Rattle.rules.specs.StoreAnswer.{Stored}
use Rattle.rules.specs.LoadAnswer.{LoadAnswer}
use Rattle.rules.specs.LoadAnswer.{Loaded, Refused}
use Rattle.rules.specs.Answers.{padded}
use Rattle.rules.specs.Rows.{item_length, statement_length, operand_length, attribute_length}
use Rattle.rules.specs.WellFormed.{Counts, counts}
use Rattle.rules.specs.Prints.{Print, printing, print_answer, work_after, output_after, Prints}
use Rattle.rules.specs.Stored.{counted_rows, stored, Storing, writes, storing, storing_answer, stored_output, room, Loading, refused, loads, loading, loading_answer, text_after, items_after, statements_after, operands_after, attributes_after, Stores, Loads}
use Rattle.proof_store.proofs.Written.{Bytes}
use Rattle.proof_store.proofs.Written as written
use Rattle.proof_store.proofs.Stores.{stored-front}
use Rattle.proof_store.proofs.Stores.{Written as Front}
use Rattle.proof_store.proofs.Back as back

-- lent memory is enough for a text and so many rows
pub record Enough (text : List ℕ) (c : Counts) (text₀ I₀ S₀ O₀ A₀ : List ℕ) : Type 0 where
  pub letters : length text ≤ length text₀
  pub items : c.items * item_length ≤ length I₀
  pub statements : c.statements * statement_length ≤ length S₀
  pub operands : c.operands * operand_length ≤ length O₀
  pub attributes : c.attributes * attribute_length ≤ length A₀

-- a text, its counts, and its counted rows with zeros behind them, loaded over what was lent
pub record LoadsBack (text I S O A : List ℕ) (c : Counts) (text₀ I₀ S₀ O₀ A₀ : List ℕ) (r : LoadAnswer) (text₁ I₁ S₁ O₁ A₁ : List ℕ) : Type 0 where
  pub answer : r ≡ Loaded (length text) c.items c.statements c.operands c.attributes
  pub letters : text₁ ≡ text ++ drop (length text) text₀
  pub items : I₁ ≡ padded (length I₀) (counted_rows item_length I c.items)
  pub statements : S₁ ≡ padded (length S₀) (counted_rows statement_length S c.statements)
  pub operands : O₁ ≡ padded (length O₀) (counted_rows operand_length O c.operands)
  pub attributes : A₁ ≡ padded (length A₀) (counted_rows attribute_length A c.attributes)

-- A store that wrote n bytes, and a load of these.
module _ (text I S O A : List ℕ) (c : Counts) (output : List ℕ) (n : ℕ) (output' : List ℕ)
    (stores : Stores text I S O A c output (Stored n) output')
    (text₀ I₀ S₀ O₀ A₀ : List ℕ) (enough : Enough text c text₀ I₀ S₀ O₀ A₀)
    (r : LoadAnswer) (text₁ I₁ S₁ O₁ A₁ : List ℕ)
    (loads_it : Loads (take n output') text₀ I₀ S₀ O₀ A₀ r text₁ I₁ S₁ O₁ A₁) where
  front : Front text I S O A c n output'
  front = stored-front text I S O A c output n output' stores

  loads_file : Loads (stored text I S O A c) text₀ I₀ S₀ O₀ A₀ r text₁ I₁ S₁ O₁ A₁
  loads_file = subst (λ (file : List ℕ). Loads file text₀ I₀ S₀ O₀ A₀ r text₁ I₁ S₁ O₁ A₁) front.front loads_it

  -- What was written loads as the same text, counts and rows.
  pub written-loads-back : LoadsBack text I S O A c text₀ I₀ S₀ O₀ A₀ r text₁ I₁ S₁ O₁ A₁
  written-loads-back =
      record {
        answer = back.same_counts text I S O A c front.formed text₀ I₀ S₀ O₀ A₀ r text₁ I₁ S₁ O₁ A₁ enough.letters enough.items enough.statements enough.operands enough.attributes loads_file;
        letters = back.same_text text I S O A c front.formed text₀ I₀ S₀ O₀ A₀ r text₁ I₁ S₁ O₁ A₁ enough.letters enough.items enough.statements enough.operands enough.attributes loads_file;
        items = back.same_items text I S O A c front.formed text₀ I₀ S₀ O₀ A₀ r text₁ I₁ S₁ O₁ A₁ enough.letters enough.items enough.statements enough.operands enough.attributes loads_file;
        statements = back.same_statements text I S O A c front.formed text₀ I₀ S₀ O₀ A₀ r text₁ I₁ S₁ O₁ A₁ enough.letters enough.items enough.statements enough.operands enough.attributes loads_file;
        operands = back.same_operands text I S O A c front.formed text₀ I₀ S₀ O₀ A₀ r text₁ I₁ S₁ O₁ A₁ enough.letters enough.items enough.statements enough.operands enough.attributes loads_file;
        attributes = back.same_attributes text I S O A c front.formed text₀ I₀ S₀ O₀ A₀ r text₁ I₁ S₁ O₁ A₁ enough.letters enough.items enough.statements enough.operands enough.attributes loads_file;
      }

  -- the bytes of text that a load told are the text that was stored
  text-back : take (length text) text₁ ≡ text
  text-back = ap (take (length text)) written-loads-back.letters ∙ take_at text (drop (length text) text₀) (length text) refl

  same_printing : (words bytes : ℕ) → printing text I S O A c words bytes ≡ printing (take (length text) text₁) I₁ S₁ O₁ A₁ c words bytes
  same_printing words bytes =
      back.same_print text I S O A c front.formed text₀ I₀ S₀ O₀ A₀ r text₁ I₁ S₁ O₁ A₁ enough.letters enough.items enough.statements enough.operands enough.attributes loads_file words bytes
      ∙ ap (λ (s : List ℕ). printing s I₁ S₁ O₁ A₁ c words bytes) (sym text-back)

  -- What is loaded prints alike: a print of it, into any work area and any output, answers and leaves what a print of what was stored does.
  pub loaded_prints_alike : (work output : List ℕ) (r₁ r₂ : Answer) (work₁ output₁ work₂ output₂ : List ℕ)
      → Prints text I S O A c work output r₁ work₁ output₁
      → Prints (take (length text) text₁) I₁ S₁ O₁ A₁ c work output r₂ work₂ output₂
      → (r₁ ≡ r₂) × ((work₁ ≡ work₂) × (output₁ ≡ output₂))
  loaded_prints_alike work output r₁ r₂ work₁ output₁ work₂ output₂ x y =
      let same = same_printing (length work) (length output) in (
        x.answers ∙ ap print_answer same ∙ sym y.answers,
        (
          x.words ∙ ap (λ (p : Print). work_after p work) same ∙ sym y.words,
          x.bytes ∙ ap (λ (p : Print). output_after p output) same ∙ sym y.bytes,
        ),
      )

abbrev is_loaded : LoadAnswer → ℕ
is_loaded (Loaded t i s o a) = 1
is_loaded (Refused n p) = 0

-- A file that was loaded, and a store of what was loaded.
module _ (file : List ℕ) (bytes : Bytes file) (text₀ I₀ S₀ O₀ A₀ : List ℕ) (t i s o a : ℕ) (text₁ I₁ S₁ O₁ A₁ : List ℕ)
    (loads_it : Loads file text₀ I₀ S₀ O₀ A₀ (Loaded t i s o a) text₁ I₁ S₁ O₁ A₁) where
  by_loading : (l : Loading) → loading file (room text₀ I₀ S₀ O₀ A₀) ≡ l → Loaded t i s o a ≡ loading_answer l
      → text₁ ≡ text_after l text₀ → I₁ ≡ items_after l I₀ → S₁ ≡ statements_after l S₀ → O₁ ≡ operands_after l O₀ → A₁ ≡ attributes_after l A₀
      → (n : ℕ) → length file ≤ n → storing (take t text₁) I₁ S₁ O₁ A₁ (counts i s o a) n ≡ writes file
  unfolding loading_answer text_after items_after statements_after operands_after attributes_after
  by_loading (refused k) h told x xi xs xo xa n fits = let z : ◌≡◌ {A = ℕ} 1 0 = ap is_loaded told in absurd (omega (arith, z))
  by_loading (loads T I S O A) h told x xi xs xo xa n fits =
      let et : t ≡ length T = cc in
      let ei : i ≡ length I / item_length = cc in
      let es : s ≡ length S / statement_length = cc in
      let eo : o ≡ length O / operand_length = cc in
      let ea : a ≡ length A / attribute_length = cc in
      let letters : take t text₁ ≡ T = ap (take t) x ∙ take_at T (drop (length T) text₀) t (sym et) in
      rw (letters, xi, xs, xo, xa, ei, es, eo, ea)
      (written.accepted_is_written file (room text₀ I₀ S₀ O₀ A₀) T I S O A bytes h n fits)

  -- An accepted file is exactly what the writer writes of what was loaded.
  pub accepted_is_written : (output : List ℕ) → length file ≤ length output → (r : StoreAnswer) (output' : List ℕ)
      → Stores (take t text₁) I₁ S₁ O₁ A₁ (counts i s o a) output r output'
      → (r ≡ Stored (length file)) × (output' ≡ file ++ drop (length file) output)
  unfolding storing_answer stored_output
  accepted_is_written output fits r output' x =
      let e = by_loading (loading file (room text₀ I₀ S₀ O₀ A₀)) refl loads_it.answers loads_it.leaves.bytes loads_it.leaves.items loads_it.leaves.statements loads_it.leaves.operands loads_it.leaves.attributes (length output) fits in
      (x.answers ∙ ap storing_answer e, x.bytes ∙ ap (λ (k : Storing). stored_output k output) e)
