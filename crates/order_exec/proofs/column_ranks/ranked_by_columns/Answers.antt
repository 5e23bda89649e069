use Rattle.std.proofs.Common.{IsTrue, List, sym, subst, ◌∙◌}
use Rattle.std.specs.Prelude.{IfSome, Option}
use Rattle.std.specs.List.{AllByRecursion}
use Rattle.array_geom.specs.declared.chunk.Chunk.{Chunk}
use Rattle.array_geom.specs.declared.chunk.ChunkedArray.{ChunkedArray}
use Rattle.array_geom.specs.Geometry.{has_core}
use Rattle.array_geom.specs.Link.{Is}
use Rattle.array_parts.specs.Cores.{meant_by_cores}
use Rattle.array_parts.specs.Placed.{HasPlaces}
use Rattle.order_exec.specs.Meant.{rank_meant}
use Rattle.order_exec.proofs.AlongLaws.{all_follows}
use Rattle.order_exec.proofs.column_ranks.ranked_by_columns.Goals as goal

pub box_of_cores-requires-clause-cores : goal.box_of_cores-requires-clause-cores
box_of_cores-requires-clause-cores c =
    let schema = c.args.array.now.schema in
    subst (λ (chunks : List Chunk). AllByRecursion (λ chunk. IsTrue (has_core schema.dimensions chunk.at.items)) chunks) (sym c.as_slice-chunks.ensures)
    (all_follows (HasPlaces schema c.args.array.now.margins.items) (λ chunk. IsTrue (has_core schema.dimensions chunk.at.items)) (λ chunk placed. placed.framed.core) c.args.array.now.chunks c.requires.cells.placed.all)

pub ranked_in_grid-requires-clause-to : goal.ranked_in_grid-requires-clause-to
ranked_in_grid-requires-clause-to c = record { few = c.requires.names; grid_is = c.in-Some-grid_between.ensures.grid; held = c.in-Some-grid_between.ensures.held }

pub with_overlaps-requires-clause-array : goal.with_overlaps-requires-clause-array
with_overlaps-requires-clause-array c =
    let meant = rank_meant c.args.attribute c.args.dims.now (meant_by_cores c.args.array.now) in
    let is = subst (λ (o : Option ChunkedArray). IfSome o (λ (made : ChunkedArray). Is made meant)) c.in-Some-2.is c.in_ok-parts.ensures in
    (meant, is)

pub with_overlaps-requires-clause-schema : goal.with_overlaps-requires-clause-schema
with_overlaps-requires-clause-schema c =
    let meant = rank_meant c.args.attribute c.args.dims.now (meant_by_cores c.args.array.now) in
    let is = subst (λ (o : Option ChunkedArray). IfSome o (λ (made : ChunkedArray). Is made meant)) c.in-Some-2.is c.in_ok-parts.ensures in
    is.schema ∙ sym c.requires.target

pub returns-clause-array : goal.returns-clause-array
returns-clause-array c =
    let meant = rank_meant c.args.attribute c.args.dims.now (meant_by_cores c.args.array.now) in
    let is = subst (λ (o : Option ChunkedArray). IfSome o (λ (made : ChunkedArray). Is made meant)) c.in-Some-2.is c.in_ok-parts.ensures in
    c.in_ok-made.ensures.array meant is
