use Rattle.peldarox.proofs.Endings.{zeros_read}
use Rattle.peldarox.proofs.read_checked.Goals as goal

pub read_indexed-requires : goal.read_indexed-requires
read_indexed-requires c = zeros_read 0

pub read_indexed-requires-then-text-le8192 : goal.read_indexed-requires-then-text-le8192
read_indexed-requires-then-text-le8192 c = zeros_read 2391

pub read_indexed-requires-2 : goal.read_indexed-requires-2
read_indexed-requires-2 c = zeros_read 11948
