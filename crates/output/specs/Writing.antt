-- Words written one behind the other. Lengths are counted up to the largest number, 2^64 - 1, and what is written is said of shorter words.
-- Assumes nothing.
use Rattle.std.specs.Prelude.{◌≡◌, List, ◌++◌, ℕ, ◌+◌, ◌-◌, ◌≤◌, ◌<◌, ◌^◌, length, take, drop, min}
use Rattle.output.specs.declared.writer.Writer.{Writer}

-- the largest number
abbrev pub largest : ℕ
largest = 2 ^ 64 - 1

-- s was written over the front of an output that has room for it; the answer is its length
pub record Put (s before after : List ℕ) (r : ℕ) : Type 0 where
  pub count : r ≡ min (length s) largest
  pub bytes : length s < largest → length s ≤ length before → after ≡ s ++ drop (length s) before
  pub long : length after ≡ length before

-- s was written behind the n bytes that stood there, in an output that has room for both; whether it has or not, those n bytes stay, and so all of a full output
pub record Appended (s before : List ℕ) (n : ℕ) (after : List ℕ) (n' : ℕ) : Type 0 where
  pub count : min n' largest ≡ min (n + length s) largest
  pub grows : n ≤ n'
  pub front : take n after ≡ take n before
  pub bytes : n + length s < largest → n + length s ≤ length before → after ≡ take n before ++ s ++ drop (n + length s) before
  pub long : length after ≡ length before

-- s was written behind all that a writer had written
pub record Writes (s : List ℕ) (w w' : Writer) : Type 0 where
  pub same_reference : w'.out.ghost_name ≡ w.out.ghost_name
  pub appended : Appended s w.out.now w.count w'.out.now w'.count
