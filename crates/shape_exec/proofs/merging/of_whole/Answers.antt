use Rattle.std.proofs.Common.{sym, ap, ◌∙◌}
use Rattle.std.proofs.lemmas.Result.{IfOk-weaker}
use Rattle.cell_values.specs.declared.schema.Bounds.{Bounds}
use Rattle.cell_values.specs.declared.schema.Schema.{Schema}
use Rattle.array_rows.specs.Boxes.{bounds_of, is_inside}
use Rattle.array_rows.specs.Rows.{put_all}
use Rattle.array_geom.specs.Geometry.{HasFrame}
use Rattle.array_geom.proofs.MarginLaws.{overlap_each, overlap_places}
use Rattle.array_parts.specs.Cores.{HaveCells, cores_of}
use Rattle.exec_box.proofs.ReachLaws.{each_accepted, made_places}
use Rattle.shape_rows.proofs.PairLaws.{bounds_same}
use Rattle.shape_exec.proofs.PairParts.{cores_over, listed_parts, merge_made, merged_listed, merged_rows, typed_bounds, typed_kinds}
use Rattle.shape_exec.proofs.merging.of_whole.Goals as goal

pub numbers_of_side-requires-clause-inside : goal.numbers_of_side-requires-clause-inside
numbers_of_side-requires-clause-inside g c = λ at i. ap (λ (s : Schema). is_inside (bounds_of s.dimensions) at) c.requires.schema ∙ i

pub numbers_of_side-requires-2-clause-inside : goal.numbers_of_side-requires-2-clause-inside
numbers_of_side-requires-2-clause-inside g c = λ at i.
    ap (λ (s : Schema). is_inside (bounds_of s.dimensions) at) c.requires.schema
    ∙ ap (λ (b : Bounds). is_inside b at) (sym (bounds_same c.args.left.now.schema.dimensions c.args.right.now.schema.dimensions (typed_bounds c.args.left.now.schema c.args.right.now.schema c.requires.typed))) ∙ i

pub over_pieces-requires-after_bounds : goal.over_pieces-requires-after_bounds
over_pieces-requires-after_bounds g c κs within =
    let left = c.args.left.now in
    let right = c.args.right.now in
    let schema = c.args.schema.now in
    let margins = c.margins_of-margins.result.items in
    each_accepted schema margins
    (λ number. HaveCells left.schema left.margins.items left.chunks × HaveCells right.schema right.margins.items right.chunks × HasFrame schema margins number.items)
    c.in_ok-numbers.numbers c.requires.valid
    (overlap_each schema margins c.margins_of-margins.ensures) (overlap_places schema margins c.margins_of-margins.ensures c.requires.valid)
    (λ number framed. (c.requires.left, c.requires.right, framed))
    (c.in_ok-numbers.ensures.cores schema.dimensions c.in_ok-of_left.ensures.cores c.in_ok-of_right.ensures.cores)

pub array_of_parts-requires : goal.array_of_parts-requires
array_of_parts-requires g c =
    let schema = c.args.schema.now in
    let margins = c.margins_of-margins.result.items in
    made_places schema margins (put_all (cores_of c.args.left.now) (cores_of c.args.right.now)) c.in_ok-numbers.numbers c.in_ok-parts.parts c.requires.valid
    (overlap_each schema margins c.margins_of-margins.ensures) (overlap_places schema margins c.margins_of-margins.ensures c.requires.valid) c.in_ok-numbers.ensures.in_order (c.in_ok-numbers.ensures.cores schema.dimensions c.in_ok-of_left.ensures.cores c.in_ok-of_right.ensures.cores) c.in_ok-parts.ensures.each

pub returns-clause-array : goal.returns-clause-array
returns-clause-array g c =
    let left = c.args.left.now in
    let right = c.args.right.now in
    let schema = c.args.schema.now in
    let rows = put_all (cores_of left) (cores_of right) in
    merge_made left right schema c.array_of_parts.result c.requires.left_whole c.requires.right_whole c.requires.schema (cores_over left right c.requires.right)
    (c.array_of_parts.ensures.array rows
    (merged_rows schema left right c.requires.valid c.requires.schema (typed_kinds left.schema right.schema c.requires.typed) (typed_bounds left.schema right.schema c.requires.typed) c.requires.left c.requires.right)
    (listed_parts schema c.margins_of-margins.result.items rows c.in_ok-numbers.numbers c.in_ok-parts.parts c.requires.valid c.in_ok-parts.ensures.each c.in_ok-numbers.ensures.in_order
    (c.in_ok-numbers.ensures.cores schema.dimensions c.in_ok-of_left.ensures.cores c.in_ok-of_right.ensures.cores)
    (merged_listed schema.dimensions (cores_of left) (cores_of right) c.in_ok-of_left.of_left c.in_ok-of_right.of_right c.in_ok-numbers.numbers c.in_ok-numbers.ensures.left c.in_ok-numbers.ensures.right
    c.in_ok-of_left.ensures.listed c.in_ok-of_right.ensures.listed)))

pub returns-clause-margins : goal.returns-clause-margins
returns-clause-margins g c =
    IfOk-weaker c.array_of_parts.result _ _ (λ made same. ap (λ m. m.items) same ∙ c.margins_of-margins.ensures) c.array_of_parts.ensures.margins
