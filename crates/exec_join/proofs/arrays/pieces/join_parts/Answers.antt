use Rattle.std.proofs.Common.{ℕ, List, subst}
use Rattle.std.specs.List.{AllZip}
use Rattle.std.proofs.lemmas.Result.{IfOk-weaker}
use Rattle.arrayvec.specs.ArrayVec.{ArrayVec}
use Rattle.array_parts.specs.Cores.{cores_of}
use Rattle.logical_plan.specs.Joins.{join_rows}
use Rattle.area_cells.specs.Pieces.{IsPartAt}
use Rattle.area_cells.proofs.PieceLaws.{parts_each, parts_numbers, parts_places}
use Rattle.exec_join.proofs.PieceLaws.{can_join}
use Rattle.exec_join.proofs.arrays.pieces.join_parts.Goals as goal

pub over_pieces-requires-after_bounds : goal.over_pieces-requires-after_bounds
over_pieces-requires-after_bounds g c κs within =
    can_join c.args.left.now c.args.right.now c.args.schema.now c.args.margins.now.items c.in_ok-pieces.pieces c.in_ok-pieces.ensures c.requires.schema c.requires.frames c.requires.left_cells c.requires.right_cells

pub returns-clause-numbers : goal.returns-clause-numbers
returns-clause-numbers g c =
    let rows = join_rows (cores_of c.args.left.now) (cores_of c.args.right.now) in
    IfOk-weaker c.over_pieces.result _ _
    (λ parts h. parts_numbers c.args.schema.now c.args.margins.now.items rows c.args.left.now.chunks parts
    (subst (λ (ks : List (ArrayVec ℕ)). AllZip (IsPartAt c.args.schema.now c.args.margins.now.items rows) ks parts) c.in_ok-pieces.ensures h))
    c.over_pieces.ensures.each

pub returns-clause-places : goal.returns-clause-places
returns-clause-places g c =
    IfOk-weaker c.over_pieces.result _ _
    (λ parts h. parts_places c.args.schema.now c.args.margins.now.items (join_rows (cores_of c.args.left.now) (cores_of c.args.right.now)) c.in_ok-pieces.pieces parts h)
    c.over_pieces.ensures.each

pub returns-clause-parts : goal.returns-clause-parts
returns-clause-parts g c =
    IfOk-weaker c.over_pieces.result _ _
    (λ parts h. parts_each c.args.schema.now c.args.margins.now.items (join_rows (cores_of c.args.left.now) (cores_of c.args.right.now)) c.in_ok-pieces.pieces parts h)
    c.over_pieces.ensures.each
