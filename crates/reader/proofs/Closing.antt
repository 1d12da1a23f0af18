-- The scope that ends with an item.
-- Assumes nothing.
use Rattle.std.proofs.Common.{ℕ, ◌≡◌, refl, sym, ◌∙◌, Ok, ap}
use Rattle.rules.specs.declared.Item.{Item}
use Rattle.rules.specs.World.{World, go, claim_item, scoped}
use Rattle.reading.proofs.Ends.{gone, claim_item-ends}
use Rattle.parser.specs.declared.Parser.{Parser}
use Rattle.parser.specs.Stands.{Runs, world, end_scope}

count_kept : (row : Item) (w v : World) → claim_item row w ≡ go tt v → v.tables.statements.count ≡ w.tables.statements.count
count_kept row w v e = gone (rw e at (claim_item-ends {Q = λ u x. x.tables.statements.count ≡ w.tables.statements.count} {F = λ n t. Unit {0}} row w (λ h. refl) (λ h. tt)))

pub scope_ends : (row : Item) (p q s : Parser) → Runs (claim_item row) p (Ok tt) q → Runs end_scope q (Ok tt) s → Runs (λ w. go (tt {0}) (scoped p.counts.statements w)) q (Ok tt) s
unfolding end_scope world
scope_ends row p q s x y =
    record {
      tells = y.tells ∙ ap (λ (n : ℕ). go (tt {0}) (scoped n (world q))) (count_kept row (world p) (world q) (sym x.tells));
      keeps = y.keeps;
      ready = y.ready;
    }
