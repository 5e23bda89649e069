use Rattle.std.proofs.Common.{◌≤◌, ◌⊎◌, inl, inr, List, length, sym, subst, arith}
use Rattle.std.specs.List.{AllByRecursion}
use Rattle.array_rows.specs.Rows.{IsRising, put_all}
use Rattle.area_cells.specs.declared.finding.Found.{Found}
use Rattle.area_cells.specs.Found.{IsFound, found_rows}
use Rattle.area_cells.specs.Inner.Filled.{IsFilled}
use Rattle.shape_exec.proofs.MergedCells.{all_merged, none_merged}
use Rattle.shape_exec.proofs.found_chunks.chunk_of_both_found.Goals as goal
use Rattle.shape_exec.proofs.found_chunks.chunk_of_both_found.Goals.{then-merging-test+else-at_right-other, else-merging-test}

pub merging-init : goal.merging-init
merging-init c = record {
  number = c.copy_numbers.ensures;
  merged = none_merged c.args.grid.now c.as_slice-one.result.now c.as_slice-other.result.now (record { at = c.copy_numbers.result; positions = c.in_ok-positions.positions; cells = c.new.result }) c.in_ok-positions.ensures c.new.ensures;
  left_within = omega arith;
  right_within = omega arith;
}

pub put_next-requires-clause-left : goal.put_next-requires-clause-left
put_next-requires-clause-left c = subst (AllByRecursion (IsFound c.args.grid.now)) (sym c.as_slice-one.ensures) c.requires.left

pub put_next-requires-clause-right : goal.put_next-requires-clause-right
put_next-requires-clause-right c = subst (AllByRecursion (IsFound c.args.grid.now)) (sym c.as_slice-other.ensures) c.requires.right

pub push_rest-requires-clause-found : goal.push_rest-requires-clause-found
push_rest-requires-clause-found c = subst (AllByRecursion (IsFound c.args.grid.now)) (sym c.as_slice-one.ensures) c.requires.left

pub push_rest-requires-2-clause-found : goal.push_rest-requires-2-clause-found
push_rest-requires-2-clause-found c = subst (AllByRecursion (IsFound c.args.grid.now)) (sym c.as_slice-other.ensures) c.requires.right

pub returns-clause-filled : goal.returns-clause-filled
returns-clause-filled c =
    let grid = c.args.grid.now in
    let one = c.as_slice-one.ensures in
    let other = c.as_slice-other.ensures in
    let end : (length c.as_slice-one.result.now ≤ c.merging.at_left) ⊎ (length c.as_slice-other.result.now ≤ c.merging.at_right) =
    elim c.merging-test.branch [ then-merging-test+else-at_right-other w ↦ inr (omega arith) | else-merging-test w ↦ inl (omega arith) ] in
    subst (λ (fs : List Found). IsFilled grid.low.items grid.lengths.items (put_all (found_rows grid fs) (found_rows grid c.args.right)) c.push_rest-2.new.chunk) one
    (subst (λ (fs : List Found). IsFilled grid.low.items grid.lengths.items (put_all (found_rows grid c.as_slice-one.result.now) (found_rows grid fs)) c.push_rest-2.new.chunk) other
    (all_merged grid c.as_slice-one.result.now c.as_slice-other.result.now c.merging.chunk c.push_rest.new.chunk c.push_rest-2.new.chunk c.merging.at_left c.merging.at_right
    (subst (AllByRecursion (IsFound grid)) (sym one) c.requires.left) (subst (AllByRecursion (IsFound grid)) (sym other) c.requires.right)
    (subst (λ (fs : List Found). IsRising (found_rows grid fs)) (sym one) c.requires.left_rise) (subst (λ (fs : List Found). IsRising (found_rows grid fs)) (sym other) c.requires.right_rise)
    c.merging.invariant.merged end c.in_ok-push_rest.ensures.filled c.in_ok-push_rest-2.ensures.filled))
