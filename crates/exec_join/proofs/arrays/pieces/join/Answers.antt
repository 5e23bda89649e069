use Rattle.std.proofs.Common.{refl, ap, ◌∙◌}
use Rattle.std.proofs.lemmas.Result.{IfOk-weaker}
use Rattle.array_geom.proofs.MarginLaws.{overlap_each, overlap_places}
use Rattle.array_parts.specs.Cores.{cores_of}
use Rattle.logical_plan.specs.Joins.{join_rows}
use Rattle.exec_join.proofs.MadeLaws.{means_whole, of_cores, stands_for}
use Rattle.exec_join.proofs.PieceLaws.{joined_parts}
use Rattle.exec_join.proofs.SideLaws.{join_are_rows}
use Rattle.exec_join.proofs.arrays.pieces.join.Goals as goal

pub join_parts-requires-clause-frames : goal.join_parts-requires-clause-frames
join_parts-requires-clause-frames g c κs lives =
    let schema = c.args.schema.now in
    let margins = c.margins_of-margins in
    record { valid = c.requires.valid; each = overlap_each schema margins.result.items margins.ensures; places = overlap_places schema margins.result.items margins.ensures c.requires.valid }

pub returns-clause-array : goal.returns-clause-array
returns-clause-array g c =
    let left = c.args.left in
    let right = c.args.right in
    let rows = join_rows (cores_of left) (cores_of right) in
    stands_for c.array_of_parts.result _ _ (means_whole join_rows c.args.schema.now left right (cores_of left) (cores_of right) rows c.requires.left_whole c.requires.right_whole refl refl refl)
    (c.array_of_parts.ensures.array rows
    (join_are_rows left.schema right.schema c.args.schema.now (cores_of left) (cores_of right) (of_cores left (cores_of left) refl (c.requires.left_cells c.requires.left_whole)) (of_cores right (cores_of right) refl (c.requires.right_cells c.requires.right_whole)) c.requires.schema c.requires.valid)
    (joined_parts left.schema right.schema c.args.schema.now left.margins.items c.margins_of-margins.result.items (cores_of left) (cores_of right) left.chunks c.in_ok-parts.parts c.requires.schema refl (c.requires.left_cells c.requires.left_whole) c.in_ok-parts.ensures.numbers
    c.in_ok-parts.ensures.parts))

pub array_of_parts-requires : goal.array_of_parts-requires
array_of_parts-requires g c =
    let schema = c.args.schema.now in
    let margins = c.margins_of-margins in
    let left = c.args.left in
    let right = c.args.right in
    let parts =
    joined_parts left.schema right.schema schema left.margins.items margins.result.items (cores_of left) (cores_of right) left.chunks c.in_ok-parts.parts c.requires.schema refl (c.requires.left_cells c.requires.left_whole) c.in_ok-parts.ensures.numbers
    c.in_ok-parts.ensures.parts in
    record {
      valid = c.requires.valid;
      each = overlap_each schema margins.result.items margins.ensures;
      places = overlap_places schema margins.result.items margins.ensures c.requires.valid;
      rising = parts.in_order;
      sized = parts.sized;
      all = c.in_ok-parts.ensures.places;
    }

pub returns-clause-margins : goal.returns-clause-margins
returns-clause-margins g c =
    IfOk-weaker c.array_of_parts.result _ _ (λ made same. ap (λ m. m.items) same ∙ c.margins_of-margins.ensures) c.array_of_parts.ensures.margins
