-- Two tables with the same places are the same table. Assumes nothing.
use Rattle.std.proofs.Common.{◌≡◌, List, Option, ap, subst}
use Rattle.tasks.specs.declared.row.Row.{Row}
use Rattle.tasks.specs.declared.table.Table.{Table}
use Rattle.tasks.specs.contracts.row.Row as row
use Rattle.tasks.specs.contracts.table.Table as table
use Rattle.std.specs.contracts.option.Option as option

pub same_table : (t u : Table) → t.places ≡ u.places → t ≡ u
same_table t u e =
    subst (λ (ps : List (Option Row)). (g : table.the_ghost (ps, tt)) → t ≡ (table.struct).make (ps, tt) g) e (λ g. ap ((table.struct).make (t.places, tt)) (table.the_propositions (option.the_row row.the_row).coded (row.the_row).coded (t.places, tt) ((table.struct).ghosts t) g)) ((table.struct).ghosts u)
