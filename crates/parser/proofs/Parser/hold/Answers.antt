use mathlib.Core.Path.{◌≡◌, refl}
use borrow.Author.Rules.{rules}
use Rattle.parser.specs.Stands.{rests, world}
use Rattle.parser.proofs.Chains.{kept}
use Rattle.parser.proofs.Parser.hold.Goals as goal

pub returns-clause-runs : goal.returns-clause-runs
unfolding rests world
returns-clause-runs c =
    let k = kept c.args.self.now in
    let e : c.take-words.result.now ≡ c.args.self.now.index.now = search rules in
    let name : c.take-words.result.ghost_name ≡ c.args.self.now.index.ghost_name = search rules in
    record {
      tells = refl;
      keeps = record { text = refl; items = k.items; statements = k.statements; operands = k.operands; attributes = k.attributes; index = record { same = name; long = rw (← e) c.hold_in.auto.index } };
      ready = λ h. record { holds = c.hold_in.ensures (rw e h.holds) };
    }
