-- What the grammar says, the reader by names takes: items, lists, and whole texts.
-- Assumes nothing.
use mathlib.Core.Path.{◌≡◌, refl, ap}
use mathlib.Core.Bool.{true}
use mathlib.Core.List.{List, [], ◌∷◌, ◌++◌}
use Prim.Native.Nat.{ℕ, zero, suc, ◌≤◌, ◌<◌}
use native.Mathlib.Omega.{arith}
use lib.ListN.{length, length-append}
use Rattle.rules.specs.declared.Entry.{Entry}
use Rattle.rules.specs.Bytes.{same}
use Rattle.rules.specs.Syntax as syntax
use Rattle.rules.specs.Syntax.{Name, onto, scope}
use Rattle.rules.specs.Listing.{has}
use Rattle.bynames.proofs.Tokens.{Next, end, token}
use Rattle.bynames.proofs.Reader as R
use Rattle.bynames.proofs.Reader.{State, go, reading, accepted}
use Rattle.bynames.proofs.Moves.{Some, token_some, token-ahead}
use Rattle.bynames.proofs.Steps.{step, before, looks, expects, keywords}
use Rattle.simulation.proofs.Items.{entry_of}
use Rattle.rules.specs.Grammar.{Token, valname, word, Scope, Operand, RootAttributeInner, Attributes, Statements, Infer, an_infer, Result, a_result, Cand, a_cand, Item, a_pair, a_candidate, a_left_hand_side, a_right_hand_side, Items, no_items, one_item}
use Rattle.grammar.proofs.Leads.{First, Leads, here, over, leads_cons, leads_split, leads_some, leads_long}
use Rattle.grammar.proofs.Complete.{Ends, Shut, shut_ends, at_ident, at_valname, operand_complete, operand-ends, attributes-end, root_sort, attributes_complete}
use Rattle.grammar.proofs.CompleteStatements.{Begins, begins_shut, statements_begin, Closes, closes, closes-begins, statements_complete}

-- ---- closing lines begin with their words
infer-closes : {s : Scope} {t : List Token} {x : Name} {l : List syntax.RootAttribute} {n m : Next} → Infer s t x l → Leads n t m → Closes n
unfolding same
infer-closes (an_infer e a) (over f p) = closes f refl refl

result-closes : {s : Scope} {t : List Token} {o : syntax.Operand} {n m : Next} → Result s t o → Leads n t m → Closes n
unfolding same
result-closes (a_result d) (over f p) = closes f refl refl

cand-closes : {s : Scope} {t : List Token} {c : syntax.Closing} {n m : Next} → Cand s t c → Leads n t m → Closes n
unfolding same
cand-closes (a_cand x y a) (over f p) = closes f refl refl

-- ---- behind their words
module _ (s : Scope) where
  inferred_complete : {x : Name} {t : List Token} {l : List syntax.RootAttribute} {n m : Next} → has x s ≡ true → Attributes RootAttributeInner t l → (f : First (valname x) n) → Leads (token f.behind) t m → Shut m
      → R.inferred (before s n) ≡ go (record { name = x; attributes = l }) (before s m)
  unfolding R.inferred
  inferred_complete e a f p h = step _ (expects s (at_valname f)) (rw e (step _ (attributes_complete (root_sort s) a p (token_some f.behind) h) refl))

-- ---- items, behind their first statements
module _ (b : List syntax.Statement) where
  abbrev S : Scope
  S = onto b []

  candidate_complete : {t u v : List Token} {x y : syntax.Operand} {l : List syntax.RootAttribute} {n m : Next} → Operand S t x → Operand S u y → Attributes RootAttributeInner v l → Leads n (t ++ (u ++ v)) m → Some n → Shut m
      → R.candidate b (before S n) ≡ go (record { before = b; between = []; closing = syntax.cand x y l }) (before S m)
  unfolding R.candidate
  candidate_complete {t} {u} {v} {m = m} x y a p e h =
      let q = leads_split t (u ++ v) p in
      let r = leads_split u v q.right in
      step _ (operand_complete S x q.left (operand-ends S y r.left))
      (step _ (operand_complete S y r.left (attributes-end a r.right (shut_ends m h)))
      (step _ (attributes_complete (root_sort S) a r.right (leads_some r.left (leads_some q.left e)) h) refl))

  pair_complete : {u v w : List Token} {x : Name} {l : List syntax.RootAttribute} {d : List syntax.Statement} {o : syntax.Operand} {n m : Next}
      → has x S ≡ true → Attributes RootAttributeInner u l → Statements S v d → Operand (onto d S) w o → (f : First (valname x) n) → Leads (token f.behind) (u ++ (v ++ (word "result" ∷ w))) m → Ends m
      → R.pair b (before S n) ≡ go (record { before = b; between = d; closing = syntax.infer_result x l o }) (before (onto d S) m)
  unfolding R.pair same
  pair_complete {u} {v} {w} {d = d} e a r o f p h =
      let q = leads_split u (v ++ (word "result" ∷ w)) p in
      let c = leads_split v (word "result" ∷ w) q.right in
      let g = leads_cons c.right in
      let z : Closes c.mid = closes g.0 refl refl in
      step _ (inferred_complete S e a f q.left (begins_shut (statements_begin r c.left (closes-begins z))))
      (step _ (statements_complete r c.left (leads_some q.left (token_some f.behind)) z)
      (step _ (keywords (onto d S) (at_ident g.0)) (step _ (operand_complete (onto d S) o g.1 h) refl)))

-- ---- items
item_complete : {e : Entry} {t : List Token} {x : syntax.Item} {n m : Next} → Item e t x → Leads n t m → Some n → Shut m → R.item_of (entry_of e) (before [] n) ≡ go x (before (scope x) m)
unfolding entry_of R.replacement R.left_hand_side R.right_hand_side same
item_complete {m = m} (a_pair {t = t} {v = v} {b = b} d (an_infer {n = x} {t = u} e a) r (a_result {t = w} o)) p z h =
    let q = leads_split t (word "infer" ∷ valname x ∷ (u ++ (v ++ (word "result" ∷ w)))) p in
    let f = leads_cons q.right in
    let g = leads_cons f.1 in
    step _ (statements_complete d q.left z (closes f.0 refl refl)) (step _ (expects (onto b []) (at_ident f.0)) (pair_complete b e a r o g.0 g.1 (shut_ends m h)))
item_complete (a_candidate {t = t} {b = b} d (a_cand {t = x} {u = y} {v = v} o k a)) p z h =
    let q = leads_split t (word "cand" ∷ (x ++ (y ++ v))) p in
    let f = leads_cons q.right in
    step _ (statements_complete d q.left z (closes f.0 refl refl)) (step _ (expects (onto b []) (at_ident f.0)) (candidate_complete b o k a f.1 (token_some f.0.behind) h))
item_complete (a_left_hand_side {t = t} {b = b} d (an_infer {n = x} {t = u} e a)) p z h =
    let q = leads_split t (word "infer" ∷ valname x ∷ u) p in
    let f = leads_cons q.right in
    let g = leads_cons f.1 in
    step _ (statements_complete d q.left z (closes f.0 refl refl)) (step _ (keywords (onto b []) (at_ident f.0)) (step _ (inferred_complete (onto b []) e a g.0 g.1 h) refl))
item_complete {m = m} (a_right_hand_side {t = t} {b = b} d (a_result {t = w} o)) p z h =
    let q = leads_split t (word "result" ∷ w) p in
    let f = leads_cons q.right in
    step _ (statements_complete d q.left z (closes f.0 refl refl)) (step _ (keywords (onto b []) (at_ident f.0)) (step _ (operand_complete (onto b []) o f.1 (shut_ends m h)) refl))

-- an item begins with a statement or its closing line, and so has a token
item_begins : {e : Entry} {t : List Token} {x : syntax.Item} {n m : Next} → Item e t x → Leads n t m → Begins n
item_begins (a_pair {t} {u} {v} {w} d i r o) p =
    let q = leads_split t (u ++ (v ++ w)) p in
    statements_begin d q.left (closes-begins (infer-closes i (leads_split u (v ++ w) q.right).left))
item_begins (a_candidate {t} {u} d c) p = let q = leads_split t u p in statements_begin d q.left (closes-begins (cand-closes c q.right))
item_begins (a_left_hand_side {t} {u} d i) p = let q = leads_split t u p in statements_begin d q.left (closes-begins (infer-closes i q.right))
item_begins (a_right_hand_side {t} {u} d o) p = let q = leads_split t u p in statements_begin d q.left (closes-begins (result-closes o q.right))

item_some : {e : Entry} {t : List Token} {x : syntax.Item} → Item e t x → 1 ≤ length t
item_some (a_pair {t} {u} {v} {w} d i r o) = omega (arith, length-append t (u ++ (v ++ w)), length-append u (v ++ w), infer_some i)
  where
    infer_some : {s : Scope} {t : List Token} {x : Name} {l : List syntax.RootAttribute} → Infer s t x l → 1 ≤ length t
    infer_some (an_infer e a) = omega arith
item_some (a_candidate {t} d (a_cand {t = x} {u = y} {v = v} o k a)) = omega (arith, length-append t (word "cand" ∷ (x ++ (y ++ v))))
item_some (a_left_hand_side {t} d (an_infer {n = x} {t = u} e a)) = omega (arith, length-append t (word "infer" ∷ valname x ∷ u))
item_some (a_right_hand_side {t} d (a_result {t = w} o)) = omega (arith, length-append t (word "result" ∷ w))

-- ---- lists
items_shut : {e : Entry} {t : List Token} {l : List syntax.Item} {n : Next} → Items e t l → Leads n t end → Shut n
items_shut no_items here = tt
items_shut (one_item {t} {u} d r) p = begins_shut (item_begins d (leads_split t u p).left)

items-count : {e : Entry} {t : List Token} {l : List syntax.Item} → Items e t l → length l ≤ length t
items-count no_items = omega arith
items-count (one_item {t} {u} d r) = omega (arith, items-count r, length-append t u, item_some d)

list_complete : {e : Entry} {t : List Token} {l : List syntax.Item} {n : Next} → Items e t l → Leads n t end → Some n → (g : ℕ) → length l < g → (s : Scope) → (w : State) × (R.list (entry_of e) g (before s n) ≡ go l w)
unfolding R.list
list_complete no_items here z zero h s = absurd (let y : ⊥ = omega arith in y)
list_complete no_items here z (suc g) h s = (before s end, refl)
list_complete (one_item d r) p z zero h s = absurd (let y : ⊥ = omega arith in y)
list_complete (one_item {t} {u} {x} d r) p z (suc g) h s =
    let q = leads_split t u p in
    let b = item_begins d q.left in
    let more = list_complete r q.right (leads_some q.left z) g (omega arith) (scope x) in
    (more.0, step _ (looks s b.is) (rw b.some (step _ (item_complete d q.left z (items_shut r q.right)) (step _ more.1 refl))))

-- what the grammar says is accepted
pub complete : {e : Entry} (text : List ℕ) {t : List Token} {xs : List syntax.Item} → Leads (token text) t end → Items e t xs → reading (entry_of e) text ≡ accepted xs
unfolding reading
complete text p d =
    ap R.answer (list_complete d p (token_some text) (suc (length text)) (omega (arith, items-count d, leads_long p (token_some text), token-ahead text)) []).1
