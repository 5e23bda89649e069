use Rattle.std.proofs.Common.{◌≡◌, true, ◌<◌, length, List, arith, subst}
use Rattle.cell_values.specs.declared.datum.Row.{Row}
use Rattle.array_rows.specs.Boxes.{is_inside, bounds_of}
use Rattle.array_geom.proofs.NearLemmas.{valid_placed}
use Rattle.chunk_cells.specs.Inner.Numbers.{NameCores}
use Rattle.chunk_cells.proofs.CellLaws.{cores_more, row_at, take_with}
use Rattle.chunk_cells.proofs.assembly.numbers.numbers_of.Goals as goal

pub loop-row-preserved : goal.loop-row-preserved
loop-row-preserved c =
    let dims = c.args.schema.now.dimensions in
    let rows = c.args.rows.now in
    let row = c.row-item.result in
    let i = c.loop-row.row-index in
    let below : i < length rows = omega arith in
    let inside : is_inside (bounds_of dims) row.at.items ≡ true = row_at (λ (r : Row). is_inside (bounds_of dims) r.at.items ≡ true) rows i row c.requires.are_rows.in_bounds below c.row-item.is in
    subst (λ (rs : List Row). NameCores dims rs c.push_other.new.found) (take_with rows i row below c.row-item.is)
    (cores_more dims _ row c.chunk_of.result c.loop-row.found c.push_other.new.found (valid_placed c.args.schema.now c.requires.valid).near inside c.chunk_of.ensures c.loop-row.invariant c.in_ok-push_other.ensures.sized c.in_ok-push_other.ensures.listed)

pub chunk_of-requires-clause-inside : goal.chunk_of-requires-clause-inside
chunk_of-requires-clause-inside c =
    row_at (λ (r : Row). is_inside (bounds_of c.args.schema.now.dimensions) r.at.items ≡ true) c.args.rows.now c.loop-row.row-index c.row-item.result
    c.requires.are_rows.in_bounds c.loop-row-test.true c.row-item.is
