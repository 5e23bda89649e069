use Rattle.std.proofs.Common.{◌≡◌, ◌≤◌, List, length, map, sym, subst}
use Rattle.std.specs.List.{AllByRecursion, AllZip}
use Rattle.cell_values.specs.declared.datum.Row.{Row}
use Rattle.array_geom.specs.Geometry.{core, volume}
use Rattle.array_geom.specs.Link.{chunk_rows}
use Rattle.group_rows.specs.Counts.{cells_in}
use Rattle.redimension_exec.specs.Inner.Dense.{AreTargetsIn, IsColumn, landed_there}
use Rattle.redimension_exec.specs.Inner.Places.{origin}
use Rattle.redimension_exec.proofs.GridChunks.{as_many_cells, few_targets, groups_landed, many_targets, rows_rise, same_cells, same_rows}
use Rattle.redimension_exec.proofs.GridGroups.{columns_long}
use Rattle.redimension_exec.proofs.TargetLaws.{targets_below}
use Rattle.redimension_exec.proofs.dense.chunks.groups_in_grid.Goals as goal

pub columns_of-requires-clause-below : goal.columns_of-requires-clause-below
columns_of-requires-clause-below c =
    let dims = c.args.source.now.dimensions in
    let to = c.args.to.now in
    let are : AreTargetsIn dims c.args.margins.now.items c.args.chunk.now (map origin to.places.now) to.bounds.now to.grid.now c.as_slice-targets.result.now =
    subst (AreTargetsIn dims c.args.margins.now.items c.args.chunk.now (map origin to.places.now) to.bounds.now to.grid.now) (sym c.as_slice-targets.ensures) (rw c.in-Some.is at c.in_ok-targets.ensures) in
    targets_below (core dims c.args.chunk.now.at.items) (map origin to.places.now) to.bounds.now to.grid.now (chunk_rows dims c.args.margins.now.items c.args.chunk.now) c.as_slice-targets.result.now are

pub columns_of-requires-clause-each : goal.columns_of-requires-clause-each
columns_of-requires-clause-each c =
    let dims = c.args.source.now.dimensions in
    let to = c.args.to.now in
    let are : AreTargetsIn dims c.args.margins.now.items c.args.chunk.now (map origin to.places.now) to.bounds.now to.grid.now c.as_slice-targets.result.now =
    subst (AreTargetsIn dims c.args.margins.now.items c.args.chunk.now (map origin to.places.now) to.bounds.now to.grid.now) (sym c.as_slice-targets.ensures) (rw c.in-Some.is at c.in_ok-targets.ensures) in
    as_many_cells c.args.source.now c.args.margins.now.items c.args.chunk.now (map origin to.places.now) to.bounds.now to.grid.now c.as_slice-targets.result.now c.requires.bands are

pub columns_of-requires-clause-few : goal.columns_of-requires-clause-few
columns_of-requires-clause-few c =
    let dims = c.args.source.now.dimensions in
    let to = c.args.to.now in
    let are : AreTargetsIn dims c.args.margins.now.items c.args.chunk.now (map origin to.places.now) to.bounds.now to.grid.now c.as_slice-targets.result.now =
    subst (AreTargetsIn dims c.args.margins.now.items c.args.chunk.now (map origin to.places.now) to.bounds.now to.grid.now) (sym c.as_slice-targets.ensures) (rw c.in-Some.is at c.in_ok-targets.ensures) in
    few_targets c.args.source.now c.args.margins.now.items c.args.chunk.now (map origin to.places.now) to.bounds.now to.grid.now c.as_slice-targets.result.now c.requires.bands are

pub groups_of_columns-requires-clause-below : goal.groups_of_columns-requires-clause-below
groups_of_columns-requires-clause-below c =
    let dims = c.args.source.now.dimensions in
    let to = c.args.to.now in
    let are : AreTargetsIn dims c.args.margins.now.items c.args.chunk.now (map origin to.places.now) to.bounds.now to.grid.now c.as_slice-targets.result.now =
    subst (AreTargetsIn dims c.args.margins.now.items c.args.chunk.now (map origin to.places.now) to.bounds.now to.grid.now) (sym c.as_slice-targets.ensures) (rw c.in-Some.is at c.in_ok-targets.ensures) in
    targets_below (core dims c.args.chunk.now.at.items) (map origin to.places.now) to.bounds.now to.grid.now (chunk_rows dims c.args.margins.now.items c.args.chunk.now) c.as_slice-targets.result.now are

pub groups_of_columns-requires-clause-long : goal.groups_of_columns-requires-clause-long
groups_of_columns-requires-clause-long c =
    let source = c.args.source.now in
    let dims = source.dimensions in
    let margins = c.args.margins.now.items in
    let chunk = c.args.chunk.now in
    let to = c.args.to.now in
    let targets = c.as_slice-targets.result.now in
    let are : AreTargetsIn dims margins chunk (map origin to.places.now) to.bounds.now to.grid.now targets =
    subst (AreTargetsIn dims margins chunk (map origin to.places.now) to.bounds.now to.grid.now) (sym c.as_slice-targets.ensures) (rw c.in-Some.is at c.in_ok-targets.ensures) in
    subst (AllByRecursion (λ states. length states ≡ volume to.grid.now.lengths.items)) (sym c.as_slice.ensures)
    (columns_long c.args.aggregates.now to.grid.now (landed_there to.grid.now targets (chunk_rows dims margins chunk)) c.in-Some-2.columns
    ((rw c.in-Some-2.is at c.in_ok-columns.ensures) (chunk_rows dims margins chunk) (rows_rise source margins chunk (map origin to.places.now) to.bounds.now to.grid.now targets c.requires.bands are)
    (same_cells source margins chunk (map origin to.places.now) to.bounds.now to.grid.now targets c.requires.bands are)))

pub returns-clause-groups : goal.returns-clause-groups
returns-clause-groups c =
    let source = c.args.source.now in
    let dims = source.dimensions in
    let margins = c.args.margins.now.items in
    let chunk = c.args.chunk.now in
    let to = c.args.to.now in
    let targets = c.as_slice-targets.result.now in
    let are : AreTargetsIn dims margins chunk (map origin to.places.now) to.bounds.now to.grid.now targets =
    subst (AreTargetsIn dims margins chunk (map origin to.places.now) to.bounds.now to.grid.now) (sym c.as_slice-targets.ensures) (rw c.in-Some.is at c.in_ok-targets.ensures) in
    let rise = rows_rise source margins chunk (map origin to.places.now) to.bounds.now to.grid.now targets c.requires.bands are in
    let columns : AllZip (λ g states. IsColumn g to.grid.now (landed_there to.grid.now targets (chunk_rows dims margins chunk)) states) c.args.aggregates.now c.as_slice.result.now =
    subst (AllZip (λ g states. IsColumn g to.grid.now (landed_there to.grid.now targets (chunk_rows dims margins chunk)) states) c.args.aggregates.now) (sym c.as_slice.ensures)
    ((rw c.in-Some-2.is at c.in_ok-columns.ensures) (chunk_rows dims margins chunk) rise (same_cells source margins chunk (map origin to.places.now) to.bounds.now to.grid.now targets c.requires.bands are)) in
    groups_landed source margins chunk (map origin to.places.now) to.bounds.now to.grid.now targets c.requires.bands are c.args.aggregates.now c.in_ok-groups.groups c.requires.to.plain
    (c.in_ok-groups.ensures.groups (chunk_rows dims margins chunk) rise (many_targets source margins chunk (map origin to.places.now) to.bounds.now to.grid.now targets c.requires.bands are) columns)

pub returns-clause-cells : goal.returns-clause-cells
returns-clause-cells c =
    let source = c.args.source.now in
    let dims = source.dimensions in
    let margins = c.args.margins.now.items in
    let chunk = c.args.chunk.now in
    let to = c.args.to.now in
    let targets = c.as_slice-targets.result.now in
    let are : AreTargetsIn dims margins chunk (map origin to.places.now) to.bounds.now to.grid.now targets =
    subst (AreTargetsIn dims margins chunk (map origin to.places.now) to.bounds.now to.grid.now) (sym c.as_slice-targets.ensures) (rw c.in-Some.is at c.in_ok-targets.ensures) in
    let rise = rows_rise source margins chunk (map origin to.places.now) to.bounds.now to.grid.now targets c.requires.bands are in
    let columns : AllZip (λ g states. IsColumn g to.grid.now (landed_there to.grid.now targets (chunk_rows dims margins chunk)) states) c.args.aggregates.now c.as_slice.result.now =
    subst (AllZip (λ g states. IsColumn g to.grid.now (landed_there to.grid.now targets (chunk_rows dims margins chunk)) states) c.args.aggregates.now) (sym c.as_slice.ensures)
    ((rw c.in-Some-2.is at c.in_ok-columns.ensures) (chunk_rows dims margins chunk) rise (same_cells source margins chunk (map origin to.places.now) to.bounds.now to.grid.now targets c.requires.bands are)) in
    subst (λ (rows : List Row). cells_in c.in_ok-groups.groups.groups ≤ length rows) (sym (same_rows source margins chunk (map origin to.places.now) to.bounds.now to.grid.now targets c.requires.bands are))
    (c.in_ok-groups.ensures.cells (chunk_rows dims margins chunk) rise (many_targets source margins chunk (map origin to.places.now) to.bounds.now to.grid.now targets c.requires.bands are) columns)
