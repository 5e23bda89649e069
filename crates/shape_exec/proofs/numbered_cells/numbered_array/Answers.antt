use Rattle.std.proofs.Common.{◌≡◌, List, Result, Ok, Err, map, sym, ap, ◌∙◌, subst}
use Rattle.std.specs.Prelude.{IfOk}
use Rattle.cell_values.specs.declared.datum.Broken.{Broken}
use Rattle.cell_values.specs.declared.datum.Cell.{Cell}
use Rattle.cell_values.specs.declared.datum.Row.{Row}
use Rattle.array_rows.specs.Arrays.{AreRowsOf}
use Rattle.array_geom.specs.Link.{Is}
use Rattle.area_cells.specs.Found.{found_rows}
use Rattle.logical_plan.specs.Ordered.{numbered}
use Rattle.logical_plan.specs.Shapes.{unpack_rows}
use Rattle.shape_exec.specs.Inner.Unpacked.{IsFirstDoubt, unpacked_cell, unpacked_found}
use Rattle.shape_exec.proofs.NumberedCells.{mapped_found}
use Rattle.shape_exec.proofs.numbered_cells.numbered_array.Goals as goal

pub returns-in-Some-clause-array : goal.returns-in-Some-clause-array
returns-in-Some-clause-array c =
    let rows = found_rows c.args.grid.now c.args.found.now in
    let broke : unpack_rows rows ≡ Err c.in-Some.broken = subst (IsFirstDoubt 0 rows) c.in-Some.is c.first_doubt.ensures in
    subst (λ (r : Result (List Row) Broken). IfOk c.broken_array.result (λ made. Is made (record { schema = c.args.target.now; rows = r }))) (sym broke) c.broken_array.ensures.array

pub returns-in_ok-parts-in-None-clause-array : goal.returns-in_ok-parts-in-None-clause-array
returns-in_ok-parts-in-None-clause-array c =
    let grid = c.args.grid.now in
    let found = c.args.found.now in
    let rows = found_rows grid found in
    let made = numbered 0 (map (unpacked_found grid) found) in
    let whole : unpack_rows rows ≡ Ok (numbered 0 (map unpacked_cell rows)) = subst (IsFirstDoubt 0 rows) c.in-None.is c.first_doubt.ensures in
    let same : unpack_rows rows ≡ Ok made = whole ∙ ap (λ (cells : List Cell). Ok (numbered 0 cells)) (mapped_found grid found) in
    let are : AreRowsOf c.args.target.now made = subst (λ (r : Result (List Row) Broken). IfOk r (AreRowsOf c.args.target.now)) same c.requires.rows in
    subst (λ (r : Result (List Row) Broken). IfOk c.array_of_parts.result (λ array. Is array (record { schema = c.args.target.now; rows = r }))) (sym same)
    (c.array_of_parts.ensures.array made are c.in_ok-parts-in-None.ensures.parts)
