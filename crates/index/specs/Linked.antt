-- An index of rows by slots: 1,024 heads, a word that says how many rows are held, then a link for each row. A head or a link is 0, or 1 and a row.
-- Assumes nothing.
use Rattle.std.specs.Prelude.{ℕ, ◌+◌, ◌-◌, ◌≤◌, ◌<◌, min, ◌≡◌, List, length, get_or}
use Rattle.index.specs.Slots.{slots_in}

-- how many rows an index has links for
unfoldable pub room : List ℕ → ℕ
room index = min 65535 (length index - 1025)

-- how many rows an index holds: those before have been entered, if they have a slot
abbrev pub held : List ℕ → ℕ
held index = get_or index 1024 0

-- v is 1 and the last row below b that has the slot h, or not above the first row
pub record Leads (slots : ℕ → ℕ) (first h b v : ℕ) : Type 0 where
  pub within : v ≤ b
  pub slot : first < v → slots (v - 1) ≡ h
  pub skipped : (r : ℕ) → first ≤ r → v ≤ r → r < b → slots r ≡ h → ⊥

-- each head leads to the last row of its slot, and each row of a slot to the one before it
pub record Linked (slots : ℕ → ℕ) (index : List ℕ) (first past : ℕ) : Type 0 where
  pub heads : (h : ℕ) → h < 1024 → Leads slots first h past (get_or index h 0)
  pub links : (r : ℕ) → first ≤ r → r < past → slots r < 1024 → Leads slots first (slots r) r (get_or index (1025 + r) 0)

-- an index holds rows of an item, whose statement rows are those from one up to another: none past the last
pub record Holds (text words index : List ℕ) (first past : ℕ) : Type 0 where
  pub low : first ≤ past
  pub within : held index ≤ past
  pub linked : Linked (slots_in text words) index first (held index)
