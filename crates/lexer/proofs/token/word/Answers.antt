-- `word` meets its contract: a word of another length is not knownBits, and one of nine letters is compared with it.
-- Assumes nothing.
use mathlib.Core.Path.{◌≡◌, sym, ap, ◌∙◌}
use mathlib.Core.Bool.{false}
use Prim.Native.Nat.{◌+◌}
use native.Mathlib.Omega.{arith}
use lib.ListN.{length, take}
use lib.Seq.{length-take-le}
use Rattle.rules.specs.Bytes.{bytes, same}
use Rattle.rules.specs.Tokens.{pattern}
use Rattle.laws.proofs.Runs.{rest, same_long}
use Rattle.laws.proofs.Tests.{said}
use Rattle.laws.proofs.Tokens.{word-whole}
use borrow.Author.Rules.{rules}
use Rattle.lexer.proofs.token.word.Goals as goal

pub returns-then-past-ne9 : goal.returns-then-past-ne9
returns-then-past-ne9 c =
    let s = c.args.s.now in
    let n = c.args.n in
    let l : length (take (1 + n) s) ≡ 1 + n = length-take-le (1 + n) s (omega arith) in
    let e : same (take (1 + n) s) (bytes "knownBits") ≡ false = same_long (take (1 + n) s) (bytes "knownBits") (λ e. omega arith) in
    rw (word-whole s n (omega arith), e)

pub slice_bounds-same-end : goal.slice_bounds-same-end
slice_bounds-same-end c = sym (length-take-le _ c.args.s.now (search rules))

pub returns-then-same : goal.returns-then-same
returns-then-same c =
    let s = c.args.s.now in
    let n = c.args.n in
    let nine : 1 + n ≡ 9 = omega arith in
    rw (word-whole s n (omega arith), nine, said c.same.ensures c.if-same.true) (c.pattern.ensures ∙ ap pattern (rest s 9))

pub returns : goal.returns
returns c =
    let s = c.args.s.now in
    let n = c.args.n in
    let nine : 1 + n ≡ 9 = omega arith in
    rw (word-whole s n (omega arith), nine, said c.same.ensures c.if-same.false)
