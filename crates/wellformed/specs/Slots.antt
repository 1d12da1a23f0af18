-- Slots of names among marks.
-- Assumes nothing.
use Rattle.std.specs.Prelude.{ℕ, ◌+◌, ◌*◌, ◌%◌, List, [], ◌∷◌}

-- the number of some letters, where those before them have the number h
abbrev pub number_of : ℕ → List ℕ → ℕ
number_of h [] = h
number_of h (b ∷ s) = number_of ((h * 37 + b) % 65536) s

-- the slot of a name among n marks
unfoldable pub slot_of : ℕ → List ℕ → ℕ
slot_of n s = number_of 0 s % n
