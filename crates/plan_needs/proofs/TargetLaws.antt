-- What an insert needs of its target is sufficient.
use Rattle.std.proofs.Common.{List, sym, ap, ◌∙◌}
use Rattle.cell_values.specs.declared.datum.Row.{Row}
use Rattle.cell_values.specs.declared.schema.Bounds.{Bounds}
use Rattle.array_rows.specs.Boxes.{is_inside, within}
use Rattle.array_rows.specs.Rows.{put_all}
use Rattle.array_rows.proofs.RowSets.{rows_where-put_all}
use Rattle.array_geom.specs.Geometry.{frame, overlaps}
use Rattle.plan_needs.specs.Target.{TargetNeedsAreSufficient, OtherChunksStay}
use Rattle.plan_needs.proofs.AlikeScans.{scans_alike, empty_part}

pub target_needs_are_sufficient : TargetNeedsAreSufficient
target_needs_are_sufficient schema new a b ia ib h k long touched =
    let area : Bounds = frame schema.dimensions (overlaps schema.dimensions) k in
    rows_where-put_all (is_inside area) new a ia.are_rows.rising
    ∙ ap (λ (l : List Row). put_all (within area new) l) (scans_alike schema area a b ia ib (h k long touched))
    ∙ sym (rows_where-put_all (is_inside area) new b ib.are_rows.rising)

pub other_chunks_stay : OtherChunksStay
other_chunks_stay dims new old rising k e =
    let area : Bounds = frame dims (overlaps dims) k in
    rows_where-put_all (is_inside area) new old rising ∙ ap (λ (l : List Row). put_all l (within area old)) (empty_part (within area new) e)
