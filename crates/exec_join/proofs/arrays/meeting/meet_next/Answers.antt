use Rattle.std.proofs.Common.{[], ◌∷◌, ◌++◌, slice_index_or, refl, sym, ap, ◌∙◌}
use Rattle.logical_plan.specs.Joins.{cell_beside}
use Rattle.area_cells.specs.declared.finding.Found.{Found}
use Rattle.area_cells.specs.Found.{found_cell}
use Rattle.std.specs.declared.cmp.Ordering.TheVariants.{Less, Equal, Greater}
use Rattle.std.proofs.lemmas.Cmp.{ranked}
use Rattle.area_cells.proofs.FoundLaws.{at_less, at_same, same_found}
use Rattle.exec_join.proofs.MeetLaws.{joins, skips_left, skips_right}
use Rattle.exec_join.proofs.arrays.meeting.meet_next.Goals as goal

pub returns-in-Less-clause-made : goal.returns-in-Less-clause-made
returns-in-Less-clause-made c =
    let f = c.index-left-at_left.result in
    let g = c.index-right-at_right.result in
    skips_left c.args.grid.now c.args.left.now c.args.right.now c.args.made.now c.args.at_left c.args.at_right f g c.requires.grid c.requires.right c.requires.in_left c.requires.in_right c.index-left-at_left.is c.index-right-at_right.is
    (at_less f (slice_index_or c.args.left.now c.args.at_left f) g (slice_index_or c.args.right.now c.args.at_right g) c.index-left-at_left.is c.index-right-at_right.is (ranked _ _ Less c.in-Less.ensures))

pub returns-in-Greater-clause-made : goal.returns-in-Greater-clause-made
returns-in-Greater-clause-made c =
    let f = c.index-left-at_left.result in
    let g = c.index-right-at_right.result in
    skips_right c.args.grid.now c.args.left.now c.args.right.now c.args.made.now c.args.at_left c.args.at_right f g c.requires.grid c.requires.left c.requires.in_left c.requires.in_right c.index-left-at_left.is c.index-right-at_right.is
    (at_less g (slice_index_or c.args.right.now c.args.at_right g) f (slice_index_or c.args.left.now c.args.at_left f) c.index-right-at_right.is c.index-left-at_left.is (ranked _ _ Greater c.in-Greater.ensures))

pub returns-in_ok-push_beside-in-Equal-clause-made : goal.returns-in_ok-push_beside-in-Equal-clause-made
returns-in_ok-push_beside-in-Equal-clause-made c =
    let f = c.index-left-at_left.result in
    let g = c.index-right-at_right.result in
    let x = c.index-left-at_left-in-Equal.result in
    let same = at_same f (slice_index_or c.args.left.now c.args.at_left f) g (slice_index_or c.args.right.now c.args.at_right g) c.index-left-at_left.is c.index-right-at_right.is (ranked _ _ Equal c.in-Equal.ensures) in
    let first = same_found c.args.left.now c.args.at_left f x c.requires.in_left c.index-left-at_left.is c.index-left-at_left-in-Equal.is in
    let one = same_found c.args.left.now c.args.at_left f c.index-left-at_left-in-Equal-2.result c.requires.in_left c.index-left-at_left.is c.index-left-at_left-in-Equal-2.is in
    let other = same_found c.args.right.now c.args.at_right g c.index-right-at_right-in-Equal.result c.requires.in_right c.index-right-at_right.is c.index-right-at_right-in-Equal.is in
    joins c.args.grid.now c.args.left.now c.args.right.now c.args.made.now _ c.args.at_left c.args.at_right _ f g c.requires.left c.requires.in_left c.requires.in_right c.index-left-at_left.is c.index-right-at_right.is same
    (ap (λ (z : Found). z.position) (sym c.index-left-at_left-in-Equal.is ∙ sym first)) refl c.in_ok-push-in-Equal.ensures.ok
    (c.in_ok-push_beside-in-Equal.ensures ∙ (λ t. c.args.made.now.cells ++ cell_beside (found_cell (sym one t)) (found_cell (sym other t)) ∷ []))
