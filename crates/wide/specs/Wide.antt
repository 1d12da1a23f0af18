-- The declared types by their numbers.
-- Assumes nothing.
use Rattle.std.specs.Prelude.{ℕ, ◌+◌, ◌*◌, ◌^◌, Option, Some, None}
use Rattle.rules.specs.Integers.{Read, number, refused}
use Rattle.wide.specs.declared.Wide.{Wide}

-- the two's complement bits, as a number below 2^128
abbrev pub bits : Wide → ℕ
bits w = w.hi * 2 ^ 64 + w.lo

-- what was read
abbrev pub as_read : Option Wide → Read
as_read (Some w) = number (bits w)
as_read None = refused

-- what fits a field
abbrev pub as_field : Option ℕ → Read
as_field (Some n) = number n
as_field None = refused
