use mathlib.Core.Path.{refl, ap, ◌∙◌}
use borrow.Author.Rules.{rules}
use Rattle.rules.specs.Answers.{outcome, start}
use Rattle.parser.specs.Stands.{world}
use Rattle.peldarox.proofs.Endings.{holds_none, same_ends}
use Rattle.peldarox.proofs.read_indexed.Goals as goal

pub items_of-ended-requires : goal.items_of-ended-requires
items_of-ended-requires c = record { holds = holds_none c.requires }

pub returns : goal.returns
unfolding world start
returns c =
    let k = c.items_of-ended.ensures.keeps in
    same_ends (ap outcome c.items_of-ended.ensures.tells) c.finish.ensures.ends k.items.long k.statements.long k.operands.long k.attributes.long (search rules) (search rules) (search rules) (search rules)
