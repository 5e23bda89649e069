use Rattle.std.proofs.Common.{◌≡◌, subst, map, IfSome, List}
use Rattle.cell_values.specs.declared.datum.Datum.{Datum}
use Rattle.cell_values.specs.declared.datum.Datum.TheVariants.{Int}
use Rattle.array_rows.proofs.ColumnLaws.{column_held}
use Rattle.array_rows.proofs.columns.rows.Rows.numbers.Goals as goal

pub returns-then-place-columns : goal.returns-then-place-columns
returns-then-place-columns c =
    subst (λ (vs : List Datum). IfSome c.numbers.result (λ ns. vs ≡ map Int ns.now))
    (column_held c.self.inside.count c.self.inside.columns.items c.as_slice-columns.result.now c.args.self.now c.args.place _ c.as_slice-columns.ensures.value c.if-place-columns.true c.index-columns-place.is c.self.invariant c.self.view_is)
    c.numbers.ensures
