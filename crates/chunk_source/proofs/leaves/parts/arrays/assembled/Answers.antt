use Rattle.std.proofs.Common.{◌≡◌, ℕ, List, ap, ◌∙◌, subst}
use Rattle.std.specs.List.{flat_map}
use Rattle.std.specs.Prelude.{IfOk}
use Rattle.cell_values.specs.declared.datum.Row.{Row}
use Rattle.array_rows.specs.Rows.{in_order}
use Rattle.array_geom.specs.Geometry.{overlaps}
use Rattle.array_geom.specs.Link.{Is, chunk_rows}
use Rattle.array_geom.proofs.MarginLaws.{overlap_each, overlap_places}
use Rattle.logical_plan.specs.Meaning.{whole}
use Rattle.chunk_source.proofs.AssembledLaws.{are_rows, their_places}
use Rattle.chunk_source.proofs.leaves.parts.arrays.assembled.Goals as goal

pub rows_in_order-requires : goal.rows_in_order-requires
rows_in_order-requires c =
    their_places c.args.schema.now c.margins_of-margins.result.items c.args.chunks c.margins_of-margins.ensures c.requires.valid c.requires.chunks

pub assemble-requires-clause-rows : goal.assemble-requires-clause-rows
assemble-requires-clause-rows c =
    are_rows c.args.schema.now c.margins_of-margins.result.items c.args.chunks c.margins_of-margins.ensures c.requires.valid c.requires.chunks c.as_slice.result.now (c.as_slice.ensures ∙ c.in_ok-rows.ensures)

pub assemble-requires-clause-margins : goal.assemble-requires-clause-margins
assemble-requires-clause-margins c = overlap_each c.args.schema.now c.margins_of-margins.result.items c.margins_of-margins.ensures

pub assemble-requires-clause-places : goal.assemble-requires-clause-places
assemble-requires-clause-places c = overlap_places c.args.schema.now c.margins_of-margins.result.items c.margins_of-margins.ensures c.requires.valid

pub returns-clause-array : goal.returns-clause-array
returns-clause-array c =
    let schema = c.args.schema.now in
    let same : c.as_slice.result.now ≡ in_order (flat_map (chunk_rows schema.dimensions (overlaps schema.dimensions)) c.args.chunks)
    = c.as_slice.ensures ∙ c.in_ok-rows.ensures ∙ ap (λ (ms : List ℕ). in_order (flat_map (chunk_rows schema.dimensions ms) c.args.chunks)) c.margins_of-margins.ensures in
    subst (λ (rs : List Row). IfOk c.assemble.result (λ array. Is array (whole schema rs))) same c.assemble.ensures.array
