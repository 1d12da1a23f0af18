-- All items of a text: each is well formed, and together they own every row.
-- Assumes nothing.
use Prim.Native.Nat.{ℕ, zero, suc, ◌+◌, ◌-◌, ◌≤◌, ◌<◌}
use mathlib.Core.Path.{◌≡◌, refl, sym, subst}
use mathlib.Core.Bool.{true, true≢false}
use mathlib.Core.List.{List, ◌∷◌}
use native.Mathlib.Omega.{arith}
use borrow.Author.Tests.{eqb-true, eqb-false, ltb-false}
use lib.Dec.{eqb, ltb}
use lib.ListN.{length}
use Rattle.std.specs.Prelude.{Ok, Err}
use Rattle.rules.specs.declared.Span.{Span}
use Rattle.rules.specs.declared.Item.{Item}
use Rattle.rules.specs.declared.Entry.{Entry}
use Rattle.rules.specs.Utf8.{checked, Checked}
use Rattle.rules.specs.Rows.{item_at}
use Rattle.rules.specs.Syntax.{flat}
use Rattle.rules.specs.View.{each}
use Rattle.rules.specs.WellFormed.{consecutive, operand_spans, attribute_spans, kind_ok, item_ok}
use Rattle.rules.specs.World.{Stand, Tables, Res, P, bind, repeated, many}
use Rattle.rules.specs.Reading as R
use Rattle.rules.specs.Answers.{Lent, start, accepted, outcome, read_checked, reading}
use Rattle.laws.proofs.Cases.{by_cases}
use Rattle.wellformed.proofs.Along.{each_more}
use Rattle.simulation.proofs.Tokens.{world}
use Rattle.simulation.proofs.Stable.{Later, later_same, later_than}
use Rattle.accepted.proofs.Going.{Any, Sits, look_reads}
use Rattle.accepted.proofs.Going as going
use Rattle.accepted.proofs.Operands.{Holds}
use Rattle.accepted.proofs.Spans.{join, no_span_lem, no_rows}
use Rattle.accepted.proofs.Bodies.{first_row}
use Rattle.accepted.proofs.Items.{Itemed, Closes, closes, open_still, read-closes, either_closes, begin, item_goes}

-- items were claimed
pub record ItemedAll (text : List ℕ) (t u : Tables) : Type 0 where
  pub later : Later t u
  pub holds : Holds u
  pub kinds : (v : Tables) → Later u v → (i : ℕ) → t.items.count ≤ i → i < u.items.count → kind_ok (item_at v.items.words i) ≡ true
  pub oks : (v : Tables) → Later u v → (i : ℕ) → t.items.count ≤ i → i < u.items.count → item_ok text v.statements.words v.operands.words v.attributes.words (item_at v.items.words i) ≡ true
  pub statements : (v : Tables) → Later u v → consecutive t.statements.count u.statements.count (each (λ i. (item_at v.items.words i).statements) t.items.count (u.items.count - t.items.count)) ≡ true
  pub operands : (v : Tables) → Later u v → consecutive t.operands.count u.operands.count (flat (operand_spans v.statements.words) (each (item_at v.items.words) t.items.count (u.items.count - t.items.count))) ≡ true
  pub attributes : (v : Tables) → Later u v → consecutive t.attributes.count u.attributes.count (flat (attribute_spans v.statements.words) (each (item_at v.items.words) t.items.count (u.items.count - t.items.count))) ≡ true

-- the spans of an item's rows before those of others
no_items : (g : Item → List Span) (F : ℕ → Item) (o m : ℕ) → consecutive o o (flat g (each F m (m - m))) ≡ true
no_items g F o m = let z : m - m ≡ 0 = omega arith in rw z (no_span_lem o)

first_item : (g : Item → List Span) (F : ℕ → Item) (c c₁ past a b d : ℕ) → c₁ ≡ c + 1 → c₁ ≤ past → consecutive a b (g (F c)) ≡ true → consecutive b d (flat g (each F c₁ (past - c₁))) ≡ true → consecutive a d (flat g (each F c (past - c))) ≡ true
first_item g F c c₁ past a b d e h k r =
    let more : each F c (past - c) ≡ F c ∷ each F (c + 1) (past - (c + 1)) = each_more F c past (omega arith) in
    let rest : consecutive b d (flat g (each F (c + 1) (past - (c + 1)))) ≡ true = subst (λ (i : ℕ). consecutive b d (flat g (each F i (past - i))) ≡ true) e r in
    subst (λ (l : List Item). consecutive a d (flat g l) ≡ true) (sym more) (join a b d (g (F c)) (flat g (each F (c + 1) (past - (c + 1)))) k rest)

none_itemed : {text : List ℕ} {t : Tables} → Holds t → ItemedAll text t t
none_itemed {t = t} h =
    let c = t.items.count in
    record {
      later = later_same t;
      holds = h;
      kinds = λ v l i a b. absurd (let q : ⊥ = omega arith in q);
      oks = λ v l i a b. absurd (let q : ⊥ = omega arith in q);
      statements = λ v l. no_rows (λ i. (item_at v.items.words i).statements) t.statements.count c c refl;
      operands = λ v l. no_items (operand_spans v.statements.words) (item_at v.items.words) t.operands.count c;
      attributes = λ v l. no_items (attribute_spans v.statements.words) (item_at v.items.words) t.attributes.count c;
    }

-- what holds of a row and of those behind it
from_first : (Q : ℕ → Type 0) (c c₁ n : ℕ) → c₁ ≡ c + 1 → Q c → ((i : ℕ) → c₁ ≤ i → i < n → Q i) → (i : ℕ) → c ≤ i → i < n → Q i
from_first Q c c₁ n e q h i a b =
    by_cases (eqb c i)
    (λ k. subst Q (eqb-true _ _ k) q)
    (λ k. let ne : c ≡ i → ⊥ = eqb-false c i k in h i (omega arith) b)

more_itemed : {text : List ℕ} {t u w : Tables} → Itemed text t u → ItemedAll text u w → ItemedAll text t w
more_itemed {text} {t} {u} {w} x y =
    let up = y.later.items in
    record {
      later = later_than x.later y.later;
      holds = y.holds;
      kinds = λ v l. from_first (λ i. kind_ok (item_at v.items.words i) ≡ true) t.items.count u.items.count w.items.count x.items (x.kind v (later_than y.later l)) (y.kinds v l);
      oks =
          λ v l.
          from_first (λ i. item_ok text v.statements.words v.operands.words v.attributes.words (item_at v.items.words i) ≡ true) t.items.count u.items.count w.items.count x.items
          (x.ok v (later_than y.later l)) (y.oks v l);
      statements =
          λ v l.
          first_row (λ i. (item_at v.items.words i).statements) t.items.count u.items.count w.items.count t.statements.count u.statements.count w.statements.count x.items up
          (x.statements v (later_than y.later l)) x.later.statements (y.statements v l);
      operands =
          λ v l.
          first_item (operand_spans v.statements.words) (item_at v.items.words) t.items.count u.items.count w.items.count t.operands.count u.operands.count w.operands.count x.items up
          (x.operands v (later_than y.later l)) (y.operands v l);
      attributes =
          λ v l.
          first_item (attribute_spans v.statements.words) (item_at v.items.words) t.items.count u.items.count w.items.count t.attributes.count u.attributes.count w.attributes.count x.items up
          (x.attributes v (later_than y.later l)) (y.attributes v l);
    }

closes_then : {text : List ℕ} {Q Z : Tables → Type 0} {m : Res (Unit {0})} (F : Unit {0} → P (Unit {0})) → Closes text Q m → ((s : Stand) (t : Tables) → Sits text s → Q t → Closes text Z (F tt (world text t.statements.count s t))) → Closes text Z (bind m F)
closes_then F (closes s t z q) k = k s t z q
closes_then F (open_still n p) k = open_still n p

closes_as : {text : List ℕ} {Q Z : Tables → Type 0} {m : Res (Unit {0})} → Closes text Q m → ((t : Tables) → Q t → Z t) → Closes text Z m
closes_as (closes s t z q) k = closes s t z (k t q)
closes_as (open_still n p) k = open_still n p

module _ {text : List ℕ} (short : length text ≤ 65536) (e : Entry) where
  ahead-reads : (t : Tables) (s : Stand) → Sits text s → going.Reads text (begin t) t Any (R.item_ahead (world text (begin t) s t))
  unfolding R.item_ahead
  ahead-reads t s z = going.read_then _ (look_reads t s z) (λ x v y q. going.reads _ v y tt)

  turns : (n : ℕ) (t : Tables) → Holds t → (s : Stand) → Sits text s → Closes text (ItemedAll text t) (repeated n R.item_ahead (R.item_of e) (world text (begin t) s t))
  unfolding repeated
  turns zero t hd s z = open_still _ _
  turns (suc n) t hd s z =
      read-closes _ (ahead-reads t s z) (λ more v y q.
      either_closes more _ _ (world text (begin t) v t)
      (closes_then _ (item_goes short t hd e v y) (λ v₁ u y₁ x. closes_as (turns n u x.holds v₁ y₁) (λ w h. more_itemed x h)))
      (closes v t y (none_itemed hd)))

  items_goes : (t : Tables) → Holds t → (s : Stand) → Sits text s → Closes text (ItemedAll text t) (R.items e (world text (begin t) s t))
  unfolding R.items many
  items_goes t hd s z = turns (suc t.items.cap) t hd s z

-- ---- the whole text
start-holds : (text : List ℕ) (l : Lent) → Holds (start text l).tables
unfolding start
start-holds text l =
    record {
      sized = record { items = refl; statements = refl; operands = refl; attributes = refl };
      items = tt;
      statements = tt;
      operands = tt;
      attributes = tt;
      statements_few = (omega arith, omega arith);
      operands_few = (omega arith, omega arith);
      attributes_few = (omega arith, omega arith);
    }

module _ (e : Entry) (text : List ℕ) (l : Lent) where
  abbrev none : Tables
  none = (start text l).tables

  whole : length text ≤ 65536 → Closes text (ItemedAll text none) (R.items e (start text l))
  unfolding start
  whole short = items_goes short e none (start-holds text l) (start text l).stand (λ h. absurd (true≢false h))

  ended : (m : Res (Unit {0})) → Closes text (ItemedAll text none) m → (t : Tables) → outcome m ≡ accepted t → ItemedAll text none t
  unfolding outcome
  ended m (closes s u z q) t h = let same : u ≡ t = cc in subst (ItemedAll text none) same q
  ended m (open_still n p) t h = absurd (let z : ◌≡◌ {A = ℕ} 0 1 = cc in omega arith)

  checked_itemed : length text ≤ 65536 → (c : Checked) (t : Tables) → read_checked c e text l ≡ accepted t → ItemedAll text none t
  unfolding read_checked
  checked_itemed short (Ok u) t h = ended (R.items e (start text l)) (whole short) t h
  checked_itemed short (Err p) t h = absurd (let z : ◌≡◌ {A = ℕ} 0 1 = cc in omega arith)

  pub accepted-short : (t : Tables) → reading e text l ≡ accepted t → length text ≤ 65536
  unfolding reading
  accepted-short t =
      by_cases (ltb 65536 (length text))
      (λ long. rw long (λ h. absurd (let z : ◌≡◌ {A = ℕ} 0 1 = cc in omega arith)))
      (λ short h. ltb-false 65536 (length text) short)

  -- What is accepted is items, one after another.
  pub accepted_itemed : (t : Tables) → reading e text l ≡ accepted t → ItemedAll text none t
  unfolding reading
  accepted_itemed t =
      by_cases (ltb 65536 (length text))
      (λ long. rw long (λ h. absurd (let z : ◌≡◌ {A = ℕ} 0 1 = cc in omega arith)))
      (λ short. rw short (checked_itemed (ltb-false 65536 (length text) short) (checked text) t))
