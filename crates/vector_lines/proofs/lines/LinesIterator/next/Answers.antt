-- A line ends within the text.
use Rattle.std.proofs.Common.{arith}
use Rattle.rules.specs.Bytes.{line_byte}
use Rattle.laws.proofs.Runs.{count-le}
use Rattle.vector_lines.proofs.lines.LinesIterator.next.Goals as goal

pub overflow_add-len : goal.overflow_add-len
overflow_add-len c = omega (arith, c.line_len-len.ensures, count-le line_byte c.args.self.now.rest.now)
