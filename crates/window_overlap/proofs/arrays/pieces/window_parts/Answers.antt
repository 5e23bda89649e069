use Rattle.std.proofs.Common.{ℕ, List, subst}
use Rattle.std.specs.List.{AllZip}
use Rattle.std.proofs.lemmas.Result.{IfOk-weaker}
use Rattle.arrayvec.specs.ArrayVec.{ArrayVec}
use Rattle.array_parts.specs.Cores.{cores_of}
use Rattle.logical_plan.specs.Groups.{window_rows}
use Rattle.area_cells.specs.Pieces.{IsPartAt}
use Rattle.area_cells.proofs.PieceLaws.{parts_each, parts_numbers, parts_places}
use Rattle.window_overlap.proofs.PieceLaws.{can_have_windows}
use Rattle.window_overlap.proofs.arrays.pieces.window_parts.Goals as goal

pub over_pieces-requires-after_bounds : goal.over_pieces-requires-after_bounds
over_pieces-requires-after_bounds g c κs within =
    can_have_windows c.args.array.now c.args.reach.now c.args.aggs.now c.args.target.now c.args.margins.now.items c.in_ok-pieces.pieces c.in_ok-pieces.ensures c.requires.frames c.requires.cells c.requires.reach c.requires.typed c.requires.same

pub returns-clause-numbers : goal.returns-clause-numbers
returns-clause-numbers g c =
    let rows = window_rows c.args.reach.now c.args.aggs.now (cores_of c.args.array.now) in
    IfOk-weaker c.over_pieces.result _ _
    (λ parts h. parts_numbers c.args.target.now c.args.margins.now.items rows c.args.array.now.chunks parts
    (subst (λ (ks : List (ArrayVec ℕ)). AllZip (IsPartAt c.args.target.now c.args.margins.now.items rows) ks parts) c.in_ok-pieces.ensures h))
    c.over_pieces.ensures.each

pub returns-clause-places : goal.returns-clause-places
returns-clause-places g c =
    IfOk-weaker c.over_pieces.result _ _
    (λ parts h. parts_places c.args.target.now c.args.margins.now.items (window_rows c.args.reach.now c.args.aggs.now (cores_of c.args.array.now)) c.in_ok-pieces.pieces parts h)
    c.over_pieces.ensures.each

pub returns-clause-parts : goal.returns-clause-parts
returns-clause-parts g c =
    IfOk-weaker c.over_pieces.result _ _
    (λ parts h. parts_each c.args.target.now c.args.margins.now.items (window_rows c.args.reach.now c.args.aggs.now (cores_of c.args.array.now)) c.in_ok-pieces.pieces parts h)
    c.over_pieces.ensures.each
