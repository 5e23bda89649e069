use Rattle.std.proofs.Common.{◌∙◌, ◌++◌, List, length, sym, ap, subst, arith}
use Rattle.cell_values.specs.declared.datum.Row.{Row}
use Rattle.group_rows.specs.Counts.{cells_in}
use Rattle.group_rows.specs.Grouped.{AreGroupsOf}
use Rattle.group_rows.specs.Sets.{sets_by}
use Rattle.group_rows.proofs.WholeLaws.{if_ok}
use Rattle.order_exec.specs.Inner.Running.{running}
use Rattle.order_exec.specs.Lines.{CanAggregate, LinesRise, line_start}
use Rattle.order_exec.proofs.ByChunkLaws.{made_in_frame}
use Rattle.order_exec.proofs.TreeLaws.{few_in_core}
use Rattle.order_exec.proofs.line_parts.chunk_after.Goals as goal

pub running-requires : goal.running-requires
running-requires c =
    let kept = c.in_ok-tree.ensures.cells in
    let slice = ap cells_in c.as_slice.ensures in
    let rows = ap length (c.as_slice-2.ensures ∙ c.in_ok-rows.ensures) in
    let few = few_in_core c.args.schema.now c.args.margins.now.items c.args.chunk c.requires.cells in
    let room = c.requires.room in
    record { room = omega (arith, kept, slice, rows, few, room) }

pub chunk_of_rows-requires-clause-inside : goal.chunk_of_rows-requires-clause-inside
chunk_of_rows-requires-clause-inside c =
    made_in_frame c.args.schema.now c.args.margins.now.items c.copy_numbers-at.result c.args.chunk c.as_slice-2.result.now c.in_ok-made.made c.requires.cells (c.as_slice-2.ensures ∙ c.in_ok-rows.ensures) c.copy_numbers-at.ensures
    c.in_ok-made.ensures.places

pub returns-clause-rows : goal.returns-clause-rows
returns-clause-rows c =
    let line = line_start c.args.along.now.place c.args.along.now.low in
    let gs = c.args.along.now.aggs.now in
    let same = c.as_slice-2.ensures ∙ c.in_ok-rows.ensures in
    if_ok c.chunk_of_rows.result c.chunk_of_rows.ensures.rows (λ chunk e earlier are rise can.
    let keeps = c.in_ok-tree.ensures.states gs (sets_by line earlier) (subst (AreGroupsOf gs (sets_by line earlier)) (sym c.as_slice.ensures) are) in
    e ∙ c.in_ok-made.ensures.rows earlier keeps (subst (λ (zs : List Row). LinesRise line (earlier ++ zs)) (sym same) rise) (subst (λ (zs : List Row). CanAggregate gs (earlier ++ zs)) (sym same) can)
    ∙ ap (running line gs earlier) same)
