-- What an index holds: at the start of a text, behind a row that has no slot, behind one that enters, under other words that name the rows alike, and at the next item.
-- Assumes nothing.
use Prim.Native.Nat.{ℕ, ◌+◌, ◌-◌, ◌≤◌, ◌<◌, max}
use mathlib.Core.Path.{◌≡◌, sym, ap, ◌∙◌}
use mathlib.Core.List.{List}
use native.Mathlib.Omega.{arith}
use lib.Dec.{eqb, leb}
use lib.ListN.{length, get_or, set, length-set}
use lib.Seq.{get_or-set_same, get_or-set_other}
use borrow.Author.Tests.{eqb-true, eqb-false, leb-true, leb-false}
use Rattle.laws.proofs.Cases.{by_cases}
use Rattle.index.specs.Linked.{Leads, Linked}

-- a head that is not above the first row, where there is no row yet
pub none_linked : {slots : ℕ → ℕ} {index : List ℕ} {first : ℕ} → ((h : ℕ) → h < 1024 → get_or index h 0 ≤ first) → Linked slots index first first
none_linked low =
    record {
      heads = λ h l. record { within = low h l; slot = λ above. absurd (let k = low h l in omega arith); skipped = λ r a b c e. omega arith };
      links = λ r a b l. absurd (omega arith);
    }

-- at the start of a text: all heads are 0
pub zeros_linked : {slots : ℕ → ℕ} {index : List ℕ} → ((h : ℕ) → h < 1024 → get_or index h 0 ≡ 0) → Linked slots index 0 0
zeros_linked z = none_linked (λ h l. let k = z h l in omega arith)

-- rows that are all below the first are as good as none
pub linked_near : {slots : ℕ → ℕ} {index : List ℕ} {first past from : ℕ} → from ≡ max first past → Linked slots index first past → Linked slots index first from
linked_near {first = first} {past = past} {from = from} e d =
    by_cases (leb past first)
    (λ t.
    let b = leb-true past first t in
    let same : from ≡ first = omega arith in
    rw same (none_linked (λ h l. let k = (d.heads h l).within in omega arith)))
    (λ t.
    let b = leb-false past first t in
    let same : from ≡ past = omega arith in
    rw same d)

-- the first row moves up
module _ {slots : ℕ → ℕ} {first later : ℕ} (up : first ≤ later) where
  leads_later : {h b v : ℕ} → Leads slots first h b v → Leads slots later h b v
  leads_later d = record { within = d.within; slot = λ above. d.slot (omega arith); skipped = λ r a. d.skipped r (omega arith) }

  pub linked_later : {index : List ℕ} {past : ℕ} → Linked slots index first past → Linked slots index later past
  linked_later d =
      record {
        heads = λ h l. leads_later (d.heads h l);
        links = λ r a b l. leads_later (d.links r (omega arith) b l);
      }

-- other slots, that are the same below a row
module _ {slots others : ℕ → ℕ} {first : ℕ} where
  leads_alike : {h b v : ℕ} → ((r : ℕ) → r < b → others r ≡ slots r) → Leads slots first h b v → Leads others first h b v
  leads_alike {h} {b} {v} e d =
      let w = d.within in
      record {
        within = d.within;
        slot = λ above. e (v - 1) (omega arith) ∙ d.slot above;
        skipped = λ r a c l k. d.skipped r a c l (sym (e r l) ∙ k);
      }

  pub linked_alike : {index : List ℕ} {past : ℕ} → ((r : ℕ) → r < past → others r ≡ slots r) → Linked slots index first past → Linked others index first past
  linked_alike {index} e d =
      record {
        heads = λ h l. leads_alike e (d.heads h l);
        links =
            λ r a b l.
            let same = e r b in
            let low : slots r < 1024 = omega arith in
            rw (e r b) (leads_alike (λ q k. e q (omega arith)) (d.links r a b low));
      }

-- a row that has another slot stands behind
leads_more : {slots : ℕ → ℕ} {first h b v : ℕ} → (slots b ≡ h → ⊥) → Leads slots first h b v → Leads slots first h (b + 1) v
leads_more {slots} {first} {h} {b} {v} other d =
    let w = d.within in
    record {
      within = omega arith;
      slot = d.slot;
      skipped =
          λ r a c l k.
          by_cases (eqb r b)
          (λ t. other (ap slots (sym (eqb-true r b t)) ∙ k))
          (λ t. let n = eqb-false r b t in d.skipped r a c (omega arith) k);
    }

-- a row that has no slot is passed by
module _ {slots : ℕ → ℕ} {index : List ℕ} {first n : ℕ} (none : 1024 ≤ slots n) where
  pub linked_passed : Linked slots index first n → Linked slots index first (n + 1)
  linked_passed d =
      record {
        heads = λ h l. leads_more (λ e. omega arith) (d.heads h l);
        links =
            λ r a b l.
            let before : r ≡ n → ⊥ = λ e. let k : slots r ≡ slots n = ap slots e in omega arith in
            d.links r a (omega arith) l;
      }

-- a row enters under its slot: its link is the head, and the head is 1 and the row
module _ (slots : ℕ → ℕ) (index : List ℕ) (first n h : ℕ) (e : slots n ≡ h) (low : h < 1024) (long : 1025 + n < length index) where
  abbrev linking : List ℕ
  linking = set index (1025 + n) (get_or index h 0)

  abbrev entered : List ℕ
  entered = set linking h (n + 1)

  head-here : get_or entered h 0 ≡ n + 1
  head-here = get_or-set_same linking h (n + 1) 0 (rw (length-set index (1025 + n) (get_or index h 0)) (omega arith))

  apart : (k : ℕ) → (k ≡ h → ⊥) → (k ≡ 1025 + n → ⊥) → get_or entered k 0 ≡ get_or index k 0
  apart k p q = get_or-set_other linking h k (n + 1) 0 p ∙ get_or-set_other index (1025 + n) k (get_or index h 0) 0 q

  link_here : get_or entered (1025 + n) 0 ≡ get_or index h 0
  link_here = get_or-set_other linking h (1025 + n) (n + 1) 0 (λ k. omega arith) ∙ get_or-set_same index (1025 + n) (get_or index h 0) 0 long

  module _ (d : Linked slots index first n) where
    heads_entered : (k : ℕ) → k < 1024 → Leads slots first k (n + 1) (get_or entered k 0)
    heads_entered k l =
        by_cases (eqb k h)
        (λ t.
        let q = eqb-true k h t in
        rw (q, head-here)
        (record {
          within = omega arith;
          slot = λ above. let m : n + 1 - 1 ≡ n = omega arith in rw m e;
          skipped = λ r a b c f. omega arith;
        }))
        (λ t.
        let q = eqb-false k h t in
        rw (apart k q (λ f. omega arith)) (leads_more (λ f. q (sym f ∙ e)) (d.heads k l)))

    links_entered : (r : ℕ) → first ≤ r → r < n + 1 → slots r < 1024 → Leads slots first (slots r) r (get_or entered (1025 + r) 0)
    links_entered r a b l =
        by_cases (eqb r n)
        (λ t. let q = eqb-true r n t in rw (q, link_here, e) (d.heads h low))
        (λ t.
        let q = eqb-false r n t in
        rw (apart (1025 + r) (λ f. omega arith) (λ f. q (omega arith))) (d.links r a (omega arith) l))

    pub linked_entered : Linked slots entered first (n + 1)
    linked_entered = record { heads = heads_entered; links = links_entered }

-- the word that says how many rows are held is none of the others
pub linked-held : {slots : ℕ → ℕ} (index : List ℕ) {first past : ℕ} (n : ℕ) → Linked slots index first past → Linked slots (set index 1024 n) first past
linked-held index n d =
    record {
      heads = λ h l. rw (get_or-set_other index 1024 h n 0 (λ e. omega arith)) (d.heads h l);
      links = λ r a b l. rw (get_or-set_other index 1024 (1025 + r) n 0 (λ e. omega arith)) (d.links r a b l);
    }
