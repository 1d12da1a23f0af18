-- What a rule that leaves all lent words leaves of them: those of one table fewer, and the items.
-- Assumes nothing.
use Rattle.std.proofs.Common.{◌≡◌}
use Rattle.parser.specs.declared.Parser.{Parser}
use Rattle.parser.specs.Stands.{lent_words, lent_tables, but_statements, but_operands, but_attributes}

module _ (p q : Parser) where
  pub all_but_operands : lent_words q ≡ lent_words p → but_operands q ≡ but_operands p
  unfolding lent_words but_operands
  all_but_operands e = cc

  pub all_but_attributes : lent_words q ≡ lent_words p → but_attributes q ≡ but_attributes p
  unfolding lent_words but_attributes
  all_but_attributes e = cc

  pub items_of_all : lent_words q ≡ lent_words p → q.items.now ≡ p.items.now
  unfolding lent_words
  items_of_all e = cc

  pub items_of_tables : lent_tables q ≡ lent_tables p → q.items.now ≡ p.items.now
  unfolding lent_tables
  items_of_tables e = cc

  pub items_but_statements : but_statements q ≡ but_statements p → q.items.now ≡ p.items.now
  unfolding but_statements
  items_but_statements e = cc

  pub items_but_operands : but_operands q ≡ but_operands p → q.items.now ≡ p.items.now
  unfolding but_operands
  items_but_operands e = cc

  pub items_but_attributes : but_attributes q ≡ but_attributes p → q.items.now ≡ p.items.now
  unfolding but_attributes
  items_but_attributes e = cc

pub ruleset leaves = (all_but_operands, all_but_attributes, items_of_all, items_of_tables, items_but_statements, items_but_operands, items_but_attributes)
