use Rattle.std.proofs.Common.{ap, ◌∙◌}
use Rattle.std.proofs.lemmas.Result.{IfOk-weaker}
use Rattle.array_geom.specs.Geometry.{HasFrame}
use Rattle.array_geom.proofs.MarginLaws.{overlap_each, overlap_places}
use Rattle.array_parts.specs.Cores.{HaveCells, cores_of}
use Rattle.exec_box.proofs.ReachLaws.{each_accepted, made_places}
use Rattle.logical_plan.specs.Shapes.{concat_rows}
use Rattle.shape_exec.specs.Inner.Added.{CanConcat, step_of}
use Rattle.shape_exec.proofs.ConcatParts.{concat_are_rows, concat_listed, concat_made, follow_kinds, stay_comes, typed_concat}
use Rattle.shape_exec.proofs.PairParts.{listed_parts}
use Rattle.shape_exec.proofs.concatenation.of_whole.Goals as goal

pub numbers_of_side-requires-clause-inside : goal.numbers_of_side-requires-clause-inside
numbers_of_side-requires-clause-inside g c = stay_comes (step_of c.args.left.now.schema c.args.right.now.schema) c.args.left.now.schema c.args.right.now.schema c.args.schema.now
    (typed_concat c.args.left.now c.args.right.now c.args.schema.now c.requires.left c.requires.right c.requires.typed c.requires.schema c.requires.valid)

pub over_pieces-requires-after_bounds : goal.over_pieces-requires-after_bounds
over_pieces-requires-after_bounds g c κs within =
    let left = c.args.left.now in
    let right = c.args.right.now in
    let schema = c.args.schema.now in
    let margins = c.margins_of-margins.result.items in
    let can = typed_concat c.args.left.now c.args.right.now c.args.schema.now c.requires.left c.requires.right c.requires.typed c.requires.schema c.requires.valid in
    each_accepted schema margins
    (λ number. HaveCells left.schema left.margins.items left.chunks × HaveCells right.schema right.margins.items right.chunks
    × CanConcat (step_of c.args.left.now.schema c.args.right.now.schema) left.schema right.schema schema × HasFrame schema margins number.items)
    c.in_ok-numbers.numbers c.requires.valid
    (overlap_each schema margins c.margins_of-margins.ensures) (overlap_places schema margins c.margins_of-margins.ensures c.requires.valid)
    (λ number framed. (c.requires.left, c.requires.right, can, framed))
    (c.in_ok-numbers.ensures.cores schema.dimensions c.in_ok-of_left.ensures.cores c.in_ok-of_right.ensures.cores)

pub array_of_parts-requires : goal.array_of_parts-requires
array_of_parts-requires g c =
    let schema = c.args.schema.now in
    let margins = c.margins_of-margins.result.items in
    made_places schema margins (concat_rows (step_of c.args.left.now.schema c.args.right.now.schema) (cores_of c.args.left.now) (cores_of c.args.right.now)) c.in_ok-numbers.numbers c.in_ok-parts.parts c.requires.valid
    (overlap_each schema margins c.margins_of-margins.ensures) (overlap_places schema margins c.margins_of-margins.ensures c.requires.valid) c.in_ok-numbers.ensures.in_order (c.in_ok-numbers.ensures.cores schema.dimensions c.in_ok-of_left.ensures.cores c.in_ok-of_right.ensures.cores) c.in_ok-parts.ensures.each

pub returns-clause-array : goal.returns-clause-array
returns-clause-array g c =
    let left = c.args.left.now in
    let right = c.args.right.now in
    let schema = c.args.schema.now in
    let rows = concat_rows (step_of c.args.left.now.schema c.args.right.now.schema) (cores_of left) (cores_of right) in
    concat_made left right schema c.array_of_parts.result c.requires.left_whole c.requires.right_whole c.requires.schema
    (c.array_of_parts.ensures.array rows
    (concat_are_rows (step_of c.args.left.now.schema c.args.right.now.schema) left right schema (typed_concat c.args.left.now c.args.right.now c.args.schema.now c.requires.left c.requires.right c.requires.typed c.requires.schema c.requires.valid) (follow_kinds left.schema right.schema c.requires.typed) c.requires.left c.requires.right)
    (listed_parts schema c.margins_of-margins.result.items rows c.in_ok-numbers.numbers c.in_ok-parts.parts c.requires.valid c.in_ok-parts.ensures.each c.in_ok-numbers.ensures.in_order
    (c.in_ok-numbers.ensures.cores schema.dimensions c.in_ok-of_left.ensures.cores c.in_ok-of_right.ensures.cores)
    (concat_listed schema.dimensions (step_of c.args.left.now.schema c.args.right.now.schema) (cores_of left) (cores_of right) c.in_ok-of_left.of_left c.in_ok-of_right.of_right c.in_ok-numbers.numbers c.in_ok-numbers.ensures.left c.in_ok-numbers.ensures.right
    c.in_ok-of_left.ensures.listed c.in_ok-of_right.ensures.listed)))

pub returns-clause-margins : goal.returns-clause-margins
returns-clause-margins g c =
    IfOk-weaker c.array_of_parts.result _ _ (λ made same. ap (λ m. m.items) same ∙ c.margins_of-margins.ensures) c.array_of_parts.ensures.margins

pub numbers_of_shift-requires-clause-able : goal.numbers_of_shift-requires-clause-able
numbers_of_shift-requires-clause-able g c = typed_concat c.args.left.now c.args.right.now c.args.schema.now c.requires.left c.requires.right c.requires.typed c.requires.schema c.requires.valid
