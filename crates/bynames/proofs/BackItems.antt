-- Reading back: items, up to what follows.
-- Assumes nothing.
use mathlib.Core.Path.{◌≡◌, refl, sym, ◌∙◌, subst}
use mathlib.Core.Bool.{true}
use mathlib.Core.List.{List, [], ◌++◌}
use Prim.Native.Nat.{ℕ}
use Rattle.rules.specs.Bytes.{bytes, inside, digit, letter, name_byte, same}
use Rattle.rules.specs.Tokens as T
use Rattle.rules.specs.Syntax.{Name, Operand, value, constant, RootAttribute, Statement, Closing, infer_result, cand, infer, result, Item, onto, of_operand, first_roots, second_roots}
use Rattle.rules.specs.Listing.{has}
use Rattle.rules.specs.Printing.{name, feed, typing, operand, root_attribute, attributes, lines, result_line, first_closing, laid}
use Rattle.rules.specs.Integers.{decimal}
use Rattle.rules.specs.Meaning.{All}
use Rattle.laws.proofs.Members.{all_left, all_right}
use Rattle.bynames.proofs.WellFormed.{OperandOk, RootAttributeOk, ClosingOk, Known, Wf}
use Rattle.bynames.proofs.Tokens.{found, token, token-space}
use Rattle.bynames.proofs.Pieces.{name-token, int-token, is_word, is_word_lem}
use Rattle.bynames.proofs.Decimals.{decimal-printed}
use Rattle.bynames.proofs.Reader as R
use Rattle.bynames.proofs.Reader.{Res, go, at, Entry, replacements, left_hand_sides, right_hand_sides, item_of}
use Rattle.bynames.proofs.Steps.{step, looks, expects, keywords, over_space, over_feed, Ends, Shut, feed-ends}
use Rattle.bynames.proofs.BackOperands.{stops_digit, typing_stops, operand-reads}
use Rattle.bynames.proofs.BackAttributes.{attributes-end, attributes-read, root_sort}
use Rattle.bynames.proofs.BackLines.{Plain, Closes, closes_shut, wf_below, lines_shut, lines-read}

-- ---- closing lines begin with their words, and close
infer-token : (x : List ℕ) → token (bytes "infer " ++ x) ≡ found T.ident (bytes "infer") (bytes " " ++ x)
unfolding is_word letter name_byte digit inside same
infer-token x = is_word_lem (bytes "infer") (bytes " " ++ x) refl refl

result-token : (x : List ℕ) → token (bytes "result " ++ x) ≡ found T.ident (bytes "result") (bytes " " ++ x)
unfolding is_word letter name_byte digit inside same
result-token x = is_word_lem (bytes "result") (bytes " " ++ x) refl refl

cand-token : (x : List ℕ) → token (bytes "cand " ++ x) ≡ found T.ident (bytes "cand") (bytes " " ++ x)
unfolding is_word letter name_byte digit inside same
cand-token x = is_word_lem (bytes "cand") (bytes " " ++ x) refl refl

infer-closes : (x : List ℕ) → Closes (bytes "infer " ++ x)
unfolding same
infer-closes x = record { word = bytes "infer"; behind = bytes " " ++ x; lexed = infer-token x; no_pc = refl; no_blockpc = refl }

result-closes : (x : List ℕ) → Closes (bytes "result " ++ x)
unfolding same
result-closes x = record { word = bytes "result"; behind = bytes " " ++ x; lexed = result-token x; no_pc = refl; no_blockpc = refl }

cand-closes : (x : List ℕ) → Closes (bytes "cand " ++ x)
unfolding same
cand-closes x = record { word = bytes "cand"; behind = bytes " " ++ x; lexed = cand-token x; no_pc = refl; no_blockpc = refl }

pub first-closes : (c : Closing) (r : List ℕ) → Closes (first_closing c r)
first-closes (infer_result n l o) r = infer-closes (name n (attributes root_attribute l (feed r)))
first-closes (cand x y l) r = cand-closes (operand x (bytes " " ++ operand y (attributes root_attribute l (feed r))))
first-closes (infer n l) r = infer-closes (name n (attributes root_attribute l (feed r)))
first-closes (result o) r = result-closes (operand o (feed r))

-- ---- a second operand may follow the first
operand-ends : (o : Operand) (r : List ℕ) → OperandOk o → Ends r → Ends (bytes " " ++ operand o r)
unfolding name_byte letter digit inside
operand-ends (value n) r l b =
    record { stops = refl; tok = record { kind = T.val_name; letters = n }; sees = λ t. looks t (token-space (name n r) ∙ name-token n r l b.stops); colon = refl }
operand-ends (constant c y) r l b =
    record {
      stops = refl;
      tok = record { kind = T.int; letters = decimal c };
      sees = λ t. looks t (token-space (decimal c ++ typing y r) ∙ int-token (decimal c) (typing y r) (decimal-printed c l.0).token (stops_digit (typing y r) (typing_stops y r b.stops)));
      colon = refl;
    }

-- ---- closing lines
module _ (t : List Statement) (r : List ℕ) (b : Shut r) where
  -- behind the word 'infer'
  inferred_reads : (n : Name) (l : List RootAttribute) → ClosingOk (infer n l) → has n t ≡ true
      → R.inferred (at t (bytes " " ++ name n (attributes root_attribute l (feed r)))) ≡ go (record { name = n; attributes = l }) (at t r)
  unfolding R.inferred
  inferred_reads n l o h =
      let rest : List ℕ = attributes root_attribute l (feed r) in
      step _ (expects t (token-space (name n rest) ∙ name-token n rest o.0 (attributes-end root_attribute R.root_attribute RootAttributeOk root_sort l r b).stops))
      (rw h (step _ (attributes-read root_attribute R.root_attribute RootAttributeOk root_sort t l r o.1 b) refl))

  -- behind the word 'cand'
  candidate-reads : (s : List Statement) (x y : Operand) (l : List RootAttribute) → ClosingOk (cand x y l) → Known t (of_operand x ++ of_operand y)
      → R.candidate s (at t (bytes " " ++ operand x (bytes " " ++ operand y (attributes root_attribute l (feed r))))) ≡ go (record { before = s; between = []; closing = cand x y l }) (at t r)
  unfolding R.candidate
  candidate-reads s x y l o k =
      let rest : List ℕ = attributes root_attribute l (feed r) in
      let e = attributes-end root_attribute R.root_attribute RootAttributeOk root_sort l r b in
      step _ (over_space R.operand t (operand x (bytes " " ++ operand y rest)) (operand-reads t x (bytes " " ++ operand y rest) o.0 (all_left (λ m. has m t ≡ true) (of_operand x) (of_operand y) k) (operand-ends y rest o.1 e)))
      (step _ (over_space R.operand t (operand y rest) (operand-reads t y rest o.1 (all_right (λ m. has m t ≡ true) (of_operand x) (of_operand y) k) e))
      (step _ (attributes-read root_attribute R.root_attribute RootAttributeOk root_sort t l r o.2 b) refl))

  -- behind the word 'result'
  result-reads : (o : Operand) → OperandOk o → Known t (of_operand o) → R.operand (at t (bytes " " ++ operand o (feed r))) ≡ go o (at t r)
  result-reads o l k = over_feed t r (over_space R.operand t (operand o (feed r)) (operand-reads t o (feed r) l k (feed-ends r b)))

-- ---- items
-- which closing lines an entry point reads
abbrev pub Of : Entry → Closing → Type 0
Of replacements (infer_result n l o) = Unit {0}
Of replacements (cand x y l) = Unit {0}
Of replacements (infer n l) = ⊥
Of replacements (result o) = ⊥
Of left_hand_sides (infer_result n l o) = ⊥
Of left_hand_sides (cand x y l) = ⊥
Of left_hand_sides (infer n l) = Unit {0}
Of left_hand_sides (result o) = ⊥
Of right_hand_sides (infer_result n l o) = ⊥
Of right_hand_sides (cand x y l) = ⊥
Of right_hand_sides (infer n l) = ⊥
Of right_hand_sides (result o) = Unit {0}

-- an item's halves and closing lines, as they are printed
pub record Laid (t u : List Statement) (c : Closing) : Type 0 where
  pub plain : All Plain t
  pub plain_between : All Plain u
  pub wf : Wf (onto u (onto t []))
  pub ok : ClosingOk c
  pub first : Known (onto t []) (first_roots c)
  pub second : Known (onto u (onto t [])) (second_roots c)

abbrev made : List Statement → List Statement → Closing → Item
made t u c = record { before = t; between = u; closing = c }

module _ (t u : List Statement) (r : List ℕ) (b : Shut r) where
  abbrev done : Closing → Res Item
  done c = go (made t u c) (at (onto u (onto t [])) r)

  pair_reads : (n : Name) (l : List RootAttribute) (o : Operand) → Laid t u (infer_result n l o) → R.replacement (at [] (laid t u (infer_result n l o) r)) ≡ done (infer_result n l o)
  unfolding R.replacement R.pair same
  pair_reads n l o h =
      let last : List ℕ = result_line o r in
      let more : List ℕ = name n (attributes root_attribute l (feed (lines u last))) in
      let closes = result-closes (operand o (feed r)) in
      step _ (lines-read t [] h.plain (wf_below u (onto t []) h.wf) (bytes "infer " ++ more) (infer-closes more))
      (step _ (expects (onto t []) (infer-token more))
      (step _ (inferred_reads (onto t []) (lines u last) (lines_shut u (onto t []) h.plain_between h.wf last (closes_shut last closes)) n l (h.ok.0, h.ok.1) h.first.0)
      (step _ (lines-read u (onto t []) h.plain_between h.wf last closes)
      (step _ (keywords (onto u (onto t [])) (result-token (operand o (feed r)))) (step _ (result-reads (onto u (onto t [])) r b o h.ok.2 h.second) refl)))))

module _ (t : List Statement) (r : List ℕ) (b : Shut r) where
  cand-reads : (x y : Operand) (l : List RootAttribute) → Laid t [] (cand x y l) → R.replacement (at [] (laid t [] (cand x y l) r)) ≡ done t [] r b (cand x y l)
  unfolding R.replacement same
  cand-reads x y l h =
      let more : List ℕ = operand x (bytes " " ++ operand y (attributes root_attribute l (feed r))) in
      step _ (lines-read t [] h.plain h.wf (bytes "cand " ++ more) (cand-closes more))
      (step _ (expects (onto t []) (cand-token more)) (candidate-reads (onto t []) r b t x y l h.ok h.first))

  left-reads : (n : Name) (l : List RootAttribute) → Laid t [] (infer n l) → R.left_hand_side (at [] (laid t [] (infer n l) r)) ≡ done t [] r b (infer n l)
  unfolding R.left_hand_side
  left-reads n l h =
      let more : List ℕ = name n (attributes root_attribute l (feed r)) in
      step _ (lines-read t [] h.plain h.wf (bytes "infer " ++ more) (infer-closes more))
      (step _ (keywords (onto t []) (infer-token more)) (step _ (inferred_reads (onto t []) r b n l h.ok h.first.0) refl))

  right_reads : (o : Operand) → Laid t [] (result o) → R.right_hand_side (at [] (laid t [] (result o) r)) ≡ done t [] r b (result o)
  unfolding R.right_hand_side
  right_reads o h =
      let more : List ℕ = operand o (feed r) in
      step _ (lines-read t [] h.plain h.wf (bytes "result " ++ more) (result-closes more))
      (step _ (keywords (onto t []) (result-token more)) (step _ (result-reads (onto t []) r b o h.ok h.first) refl))

-- only between infer and result are statements of a second half
abbrev pub Halves : Closing → List Statement → Type 0
Halves (infer_result n l o) u = Unit {0}
Halves (cand x y l) u = u ≡ []
Halves (infer n l) u = u ≡ []
Halves (result o) u = u ≡ []

-- what holds with no second half holds with one that is empty
one_half : (e : Entry) (t u : List Statement) (c : Closing) (r : List ℕ) (b : Shut r) → u ≡ []
    → (Laid t [] c → item_of e (at [] (laid t [] c r)) ≡ done t [] r b c) → Laid t u c → item_of e (at [] (laid t u c r)) ≡ done t u r b c
one_half e t u c r b q f = subst (λ (z : List Statement). Laid t z c → item_of e (at [] (laid t z c r)) ≡ done t z r b c) (sym q) f

pub item_reads : (e : Entry) (t u : List Statement) (c : Closing) → Of e c → Halves c u → Laid t u c → (r : List ℕ) (b : Shut r) → item_of e (at [] (laid t u c r)) ≡ done t u r b c
item_reads replacements t u (infer_result n l o) f q h r b = pair_reads t u r b n l o h
item_reads replacements t u (cand x y l) f q h r b = one_half replacements t u (cand x y l) r b q (cand-reads t r b x y l) h
item_reads replacements t u (infer n l) f q h r b = absurd f
item_reads replacements t u (result o) f q h r b = absurd f
item_reads left_hand_sides t u (infer_result n l o) f q h r b = absurd f
item_reads left_hand_sides t u (cand x y l) f q h r b = absurd f
item_reads left_hand_sides t u (infer n l) f q h r b = one_half left_hand_sides t u (infer n l) r b q (left-reads t r b n l) h
item_reads left_hand_sides t u (result o) f q h r b = absurd f
item_reads right_hand_sides t u (infer_result n l o) f q h r b = absurd f
item_reads right_hand_sides t u (cand x y l) f q h r b = absurd f
item_reads right_hand_sides t u (infer n l) f q h r b = absurd f
item_reads right_hand_sides t u (result o) f q h r b = one_half right_hand_sides t u (result o) r b q (right_reads t r b o) h
