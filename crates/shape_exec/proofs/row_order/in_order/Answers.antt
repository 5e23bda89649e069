use Rattle.std.proofs.Common.{◌≡◌, List, rules, subst, ◌∙◌}
use Rattle.std.proofs.lemmas.Fn.{dedup_same}
use Rattle.std.proofs.lemmas.List.Sorted.{answers_always, ranks_by}
use Rattle.std.specs.List.{dedup}
use Rattle.std.specs.List.Sorted.{IsSortedBy, IsStableBy}
use Rattle.cell_values.specs.declared.datum.Row.{Row}
use Rattle.array_rows.proofs.RowsLemmas.{row_major_total}
use Rattle.shape_exec.proofs.OrderLaws.{comes_before, stands_at, sorted_once}
use Rattle.shape_exec.proofs.row_order.in_order.Goals as goal

pub returns : goal.returns
returns c =
    let sorted : List Row = c.sort_by.new.self.items in
    let up : IsSortedBy comes_before sorted = c.in_ok-sort_by.ensures.sorted comes_before (ranks_by row_major_total (λ (row : Row). row.at.items)) (answers_always _ _ _ (λ f a r g h. search rules)) in
    let stable = c.sort_by.ensures.stable comes_before (ranks_by row_major_total (λ (row : Row). row.at.items)) (answers_always _ _ _ (λ f a r g h. search rules)) in
    let same : IsStableBy comes_before c.args.rows sorted = subst (λ (rows : List Row). IsStableBy comes_before rows sorted) c.into_vec-rows.ensures stable in
    let once : c.dedup_by.new.self.items ≡ dedup stands_at sorted = dedup_same _ stands_at _ (λ x y b f' x' y' k. search rules) _ _ c.dedup_by.ensures.filtered in
    c.from_vec.ensures ∙ once ∙ sorted_once c.args.rows sorted up same
