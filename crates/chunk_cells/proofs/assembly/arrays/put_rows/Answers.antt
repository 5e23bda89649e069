use Rattle.std.proofs.Common.{◌<◌, length, List, take, arith, subst, ◌≡◌, true}
use Rattle.std.proofs.lemmas.List.{take_all}
use Rattle.std.specs.List.{AllByRecursion}
use Rattle.array_rows.specs.Boxes.{bounds_of, is_inside}
use Rattle.cell_values.specs.declared.datum.Row.{Row}
use Rattle.array_geom.specs.Link.{IsPart}
use Rattle.chunk_cells.proofs.CellLaws.{take_with, row_at}
use Rattle.chunk_cells.proofs.assembly.arrays.put_rows.Goals as goal

pub loop-row-preserved : goal.loop-row-preserved
loop-row-preserved c =
    let rows = c.args.rows.now in
    let i = c.loop-row.row-index in
    let below : i < length rows = omega arith in
    record {
      same = c.in_ok-put_row.ensures.same;
      parts = subst (λ (rs : List Row). AllByRecursion (IsPart c.args.schema.now.dimensions c.args.margins.now.items rs) c.put_row.new.chunks.items) (take_with rows i c.row-item.result below c.row-item.is) (c.in_ok-put_row.ensures.row (take i rows) c.loop-row.invariant.parts);
    }

pub put_row-requires-clause-inside : goal.put_row-requires-clause-inside
put_row-requires-clause-inside c =
    row_at (λ (r : Row). is_inside (bounds_of c.args.schema.now.dimensions) r.at.items ≡ true) c.args.rows.now c.loop-row.row-index c.row-item.result
    c.requires.rows.are_rows.in_bounds c.loop-row-test.true c.row-item.is

pub returns-clause-parts : goal.returns-clause-parts
returns-clause-parts c =
    subst (λ (rs : List Row). AllByRecursion (IsPart c.args.schema.now.dimensions c.args.margins.now.items rs) c.loop-row.chunks.items)
    (take_all c.loop-row.row-index c.args.rows.now c.loop-row-test.false) c.loop-row.invariant.parts
