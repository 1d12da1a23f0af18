-- `store::loading::take_parts` meets its contract.
-- Assumes nothing.
use Prim.Native.Nat.{ℕ, ◌+◌, ◌≤◌}
use mathlib.Core.Path.{◌≡◌, ap, ◌∙◌}
use mathlib.Core.List.{◌++◌}
use native.Mathlib.Omega.{arith}
use lib.ListN.{length, take, drop}
use lib.Seq.{length-take-le}
use Rattle.rules.specs.Stored.{statements_from, operands_from, attributes_from}
use Rattle.store.proofs.Parts.{part_room}
use Rattle.store.proofs.Loads.{fits}
use Rattle.store.proofs.loading.take_parts.Goals as goal

pub take_rows-requires : goal.take_rows-requires
take_rows-requires c =
    let l = c.args.l in
    let inside : l.text + l.items ≤ length c.args.file.now = omega (arith, c.requires.within) in
    rw c.parts_of-p.ensures.items (part_room c.args.file.now l.text l.items _ inside (fits l _ c.requires.roomy).items)

pub take_rows-requires-2 : goal.take_rows-requires-2
take_rows-requires-2 c =
    let l = c.args.l in
    let inside : statements_from l + l.statements ≤ length c.args.file.now = omega (arith, c.requires.within) in
    rw c.parts_of-p.ensures.statements (part_room c.args.file.now (statements_from l) l.statements _ inside (fits l _ c.requires.roomy).statements)

pub take_rows-requires-3 : goal.take_rows-requires-3
take_rows-requires-3 c =
    let l = c.args.l in
    let inside : operands_from l + l.operands ≤ length c.args.file.now = omega (arith, c.requires.within) in
    rw c.parts_of-p.ensures.operands (part_room c.args.file.now (operands_from l) l.operands _ inside (fits l _ c.requires.roomy).operands)

pub take_rows-requires-4 : goal.take_rows-requires-4
take_rows-requires-4 c =
    let l = c.args.l in
    rw c.parts_of-p.ensures.attributes (part_room c.args.file.now (attributes_from l) l.attributes _ c.requires.within (fits l _ c.requires.roomy).attributes)

pub returns-clause-text_after : goal.returns-clause-text_after
returns-clause-text_after c =
    let l = c.args.l in
    let file = c.args.file.now in
    let size : length (take l.text file) ≡ l.text = length-take-le l.text file (omega (arith, c.requires.within)) in
    let room : length (take l.text file) ≤ length c.args.text.now = omega (arith, size, (fits l _ c.requires.roomy).text) in
    let put = rw c.parts_of-p.ensures.text at c.put.ensures.bytes in
    put room ∙ ap (λ (k : ℕ). take l.text file ++ drop k c.args.text.now) size
