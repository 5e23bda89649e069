use Rattle.std.proofs.Common.{◌≡◌, ℕ, ℤ, List, [], ◌++◌, ap, ◌∙◌, rules}
use Rattle.array_rows.specs.Boxes.{by_pairs}
use Rattle.redimension_exec.specs.Inner.Spans.{span}
use Rattle.arrayvec.specs.ArrayVec.{ArrayVec}
use Rattle.redimension_exec.proofs.SpanLaws.{grid_holds, grid_is}
use Rattle.redimension_exec.proofs.dense.grids.grid_between.Goals as goal

pub returns-then-push_spans-clause-grid : goal.returns-then-push_spans-clause-grid
returns-then-push_spans-clause-grid c =
    let none : c.new-lengths.result.items ≡ [] = search rules in
    grid_is c.args.area.now.lo.items c.args.area.now.hi.items c.as_slice.result.now c.as_slice-2.result.now _ c.as_slice.ensures.value c.as_slice-2.ensures.value (ap (λ (z : ArrayVec ℤ). z.items) c.copy_coord.ensures)
    (c.push_spans.ensures.lengths c.if-push_spans.true ∙ ap (λ (l : List ℕ). l ++ by_pairs span c.as_slice.result.now c.as_slice-2.result.now) none) (c.push_spans.ensures.spans c.if-push_spans.true)

pub returns-then-push_spans-clause-held : goal.returns-then-push_spans-clause-held
returns-then-push_spans-clause-held c =
    let none : c.new-lengths.result.items ≡ [] = search rules in
    grid_holds c.args.area.now.lo.items c.args.area.now.hi.items c.as_slice.result.now c.as_slice-2.result.now _ c.as_slice.ensures.value c.as_slice-2.ensures.value (ap (λ (z : ArrayVec ℤ). z.items) c.copy_coord.ensures)
    (c.push_spans.ensures.lengths c.if-push_spans.true ∙ ap (λ (l : List ℕ). l ++ by_pairs span c.as_slice.result.now c.as_slice-2.result.now) none) (c.push_spans.ensures.spans c.if-push_spans.true)
