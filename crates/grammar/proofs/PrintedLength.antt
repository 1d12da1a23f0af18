-- What a text's items print has at most twice as many bytes as the text: by names, into tables, and by the public read calls.
-- Assumes nothing.
use Prim.Native.Nat.{ℕ, ◌*◌, ◌≤◌}
use mathlib.Core.Path.{◌≡◌}
use mathlib.Core.List.{List}
use native.Mathlib.Omega.{arith}
use lib.ListN.{length}
use Rattle.rules.specs.declared.Entry.{Entry}
use Rattle.rules.specs.Syntax.{Item}
use Rattle.rules.specs.Printing.{printed_all}
use Rattle.rules.specs.World.{Tables}
use Rattle.rules.specs.Answers.{Lent, accepted, reading}
use Rattle.rules.specs.Calls.{Call, said_by}
use Rattle.bynames.proofs.Reader as names
use Rattle.bynames.proofs.Listed.{print_lists}
use Rattle.simulation.proofs.Said.{items_in}
use Rattle.simulation.proofs.Items.{entry_of}
use Rattle.simulation.proofs.Whole.{accepted_by_names}
use Rattle.simulation.proofs.Calls.{call-reads}
use Rattle.simulation.proofs.Left.{left_say}
use Rattle.grammar.proofs.SoundItems.{accepted-sound}
use Rattle.grammar.proofs.Weights.{text_weighs}
use Rattle.grammar.proofs.Lengths.{items-long}

pub printed_by_names : (e : Entry) (text : List ℕ) (xs : List Item) → names.reading (entry_of e) text ≡ names.accepted xs → length (printed_all xs) ≤ 2 * length text
printed_by_names e text xs h =
    let g = accepted-sound e text xs h in
    let long = items-long g.2 (print_lists (entry_of e) text xs h) in
    omega (arith, text_weighs text g.1)

pub printed-length : (e : Entry) (text : List ℕ) (l : Lent) (t : Tables) → reading e text l ≡ accepted t → length (printed_all (items_in text t)) ≤ 2 * length text
printed-length e text l t h = printed_by_names e text (items_in text t) (accepted_by_names e text l t h)

pub call-printed-length : {e : Entry} (c : Call e) → length (printed_all (said_by c)) ≤ 2 * length c.text
call-printed-length {e} c =
    let y = left_say e c.text c.I c.S c.O c.A c.I' c.S' c.O' c.A' c.items c.statements c.operands c.attributes (call-reads c) in
    rw y.says (printed-length e c.text _ y.tables y.reads)
