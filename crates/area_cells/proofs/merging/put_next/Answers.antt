use Rattle.std.proofs.Common.{◌<◌, slice_index_or, subst}
use Rattle.std.specs.declared.cmp.Ordering.TheVariants.{Less, Equal, Greater}
use Rattle.std.proofs.lemmas.Cmp.{ranked}
use Rattle.area_cells.specs.declared.finding.Found.{Found}
use Rattle.area_cells.proofs.FoundLaws.{at_less, at_same, goes_left, goes_past, goes_right, same_found}
use Rattle.area_cells.proofs.merging.put_next.Goals as goal

pub returns-in_ok-push-in-Less-clause-made : goal.returns-in_ok-push-in-Less-clause-made
returns-in_ok-push-in-Less-clause-made c =
    let f = c.index-left-at_left.result in
    let g = c.index-right-at_right.result in
    let same = same_found c.args.left.now c.args.at_left f c.index-left-at_left-in-Less.result c.requires.in_left c.index-left-at_left.is c.index-left-at_left-in-Less.is in
    goes_left c.args.grid.now c.args.left.now c.args.right.now c.args.made.now c.push.new.self c.args.at_left c.args.at_right c.index-left-at_left-in-Less.result g c.requires.grid c.requires.left c.requires.right c.requires.in_left c.requires.in_right
    c.index-left-at_left-in-Less.is c.index-right-at_right.is
    (subst (λ (x : Found). x.position < g.position) same
    (at_less f (slice_index_or c.args.left.now c.args.at_left f) g (slice_index_or c.args.right.now c.args.at_right g) c.index-left-at_left.is c.index-right-at_right.is (ranked _ _ Less c.in-Less.ensures))) c.in_ok-push-in-Less.ensures.ok

pub returns-in_ok-push-in-Greater-clause-made : goal.returns-in_ok-push-in-Greater-clause-made
returns-in_ok-push-in-Greater-clause-made c =
    let f = c.index-left-at_left.result in
    let g = c.index-right-at_right.result in
    let same = same_found c.args.right.now c.args.at_right g c.index-right-at_right-in-Greater.result c.requires.in_right c.index-right-at_right.is c.index-right-at_right-in-Greater.is in
    goes_right c.args.grid.now c.args.left.now c.args.right.now c.args.made.now c.push-in-Greater.new.self c.args.at_left c.args.at_right f c.index-right-at_right-in-Greater.result c.requires.grid c.requires.left c.requires.right c.requires.in_left c.requires.in_right
    c.index-left-at_left.is c.index-right-at_right-in-Greater.is
    (subst (λ (x : Found). x.position < f.position) same
    (at_less g (slice_index_or c.args.right.now c.args.at_right g) f (slice_index_or c.args.left.now c.args.at_left f) c.index-right-at_right.is c.index-left-at_left.is (ranked _ _ Greater c.in-Greater.ensures))) c.in_ok-push-in-Greater.ensures.ok

pub returns-in-Equal-clause-made : goal.returns-in-Equal-clause-made
returns-in-Equal-clause-made c =
    let f = c.index-left-at_left.result in
    let g = c.index-right-at_right.result in
    goes_past c.args.grid.now c.args.left.now c.args.right.now c.args.made.now c.args.at_left c.args.at_right f g c.requires.in_left c.requires.in_right c.index-left-at_left.is c.index-right-at_right.is
    (at_same f (slice_index_or c.args.left.now c.args.at_left f) g (slice_index_or c.args.right.now c.args.at_right g) c.index-left-at_left.is c.index-right-at_right.is (ranked _ _ Equal c.in-Equal.ensures))
