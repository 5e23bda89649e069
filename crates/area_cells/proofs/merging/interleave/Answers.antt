use Rattle.std.proofs.Common.{◌≡◌, ◌≤◌, ◌⊎◌, inl, inr, length, sym, ap, ◌∙◌, subst, List, arith}
use Rattle.std.specs.List.{AllByRecursion}
use Rattle.array_rows.specs.Rows.{IsRising, put_all}
use Rattle.area_cells.specs.declared.finding.Found.{Found}
use Rattle.area_cells.specs.Found.{AreFound, IsFound, found_rows}
use Rattle.area_cells.proofs.FoundLaws.{are_merged, begun, goes_on}
use Rattle.area_cells.proofs.merging.interleave.Goals as goal
use Rattle.area_cells.proofs.merging.interleave.Goals.{then-merging-test+else-at_right-other, else-merging-test}

pub returns : goal.returns
returns c =
    let grid = c.args.grid.now in
    let one = c.as_slice-one.ensures in
    let other = c.as_slice-other.ensures in
    let end : (length c.as_slice-one.result.now ≤ c.merging.at_left) ⊎ (length c.as_slice-other.result.now ≤ c.merging.at_right) =
    elim c.merging-test.branch [ then-merging-test+else-at_right-other w ↦ inr (omega arith) | else-merging-test w ↦ inl (omega arith) ] in
    subst (λ (fs : List Found). AreFound grid (put_all (found_rows grid fs) (found_rows grid c.args.right)) c.push_rest-2.new.made) one
    (subst (λ (fs : List Found). AreFound grid (put_all (found_rows grid c.as_slice-one.result.now) (found_rows grid fs)) c.push_rest-2.new.made) other
    (are_merged grid c.as_slice-one.result.now c.as_slice-other.result.now c.merging.made c.push_rest.new.made c.push_rest-2.new.made c.merging.at_left c.merging.at_right
    (subst (AllByRecursion (IsFound grid)) (sym one) c.requires.left) (subst (AllByRecursion (IsFound grid)) (sym other) c.requires.right)
    (subst (λ (fs : List Found). IsRising (found_rows grid fs)) (sym one) c.requires.left_rise) (subst (λ (fs : List Found). IsRising (found_rows grid fs)) (sym other) c.requires.right_rise)
    c.merging.invariant.goes end c.in_ok-push_rest.ensures c.in_ok-push_rest-2.ensures))
