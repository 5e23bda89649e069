use Rattle.std.proofs.Common.{◌∙◌, ◌++◌, List, sym, ap, subst}
use Rattle.cell_values.specs.declared.datum.Row.{Row}
use Rattle.group_rows.proofs.WholeLaws.{if_ok}
use Rattle.group_rows.specs.Sets.{sets_by}
use Rattle.group_rows.specs.Taken.{KeepsGroups}
use Rattle.order_exec.specs.Inner.Running.{running}
use Rattle.order_exec.specs.Lines.{CanAggregate, LinesRise, line_start}
use Rattle.order_exec.proofs.ByChunkLaws.{made_inside}
use Rattle.order_exec.proofs.RunLaws.{always_ok}
use Rattle.order_exec.proofs.running_chunks.part_of.Goals as goal

pub chunk_of_rows-requires-clause-inside : goal.chunk_of_rows-requires-clause-inside
chunk_of_rows-requires-clause-inside c =
    made_inside c.args.schema.now.dimensions c.args.target.now.dimensions c.args.margins.now.items c.args.none.now.items c.copy_numbers-at.result c.args.chunk c.as_slice.result.now c.in_ok-made.made
    (c.as_slice.ensures ∙ c.in_ok-rows.ensures) c.requires.none c.requires.same c.copy_numbers-at.ensures c.in_ok-made.ensures.places

pub returns-clause-rows : goal.returns-clause-rows
returns-clause-rows c =
    let line = line_start c.args.along.now.place c.args.along.now.low in
    let gs = c.args.along.now.aggs.now in
    let same = c.as_slice.ensures ∙ c.in_ok-rows.ensures in
    if_ok c.chunk_of_rows.result c.chunk_of_rows.ensures.rows (λ chunk e earlier keeps rise can.
    e ∙ c.in_ok-made.ensures.rows earlier keeps (subst (λ (zs : List Row). LinesRise line (earlier ++ zs)) (sym same) rise) (subst (λ (zs : List Row). CanAggregate gs (earlier ++ zs)) (sym same) can)
    ∙ ap (running line gs earlier) same)

pub returns-clause-states : goal.returns-clause-states
returns-clause-states c =
    let line = line_start c.args.along.now.place c.args.along.now.low in
    let gs = c.args.along.now.aggs.now in
    let same = c.as_slice.ensures ∙ c.in_ok-rows.ensures in
    always_ok c.chunk_of_rows.result (λ earlier keeps rise.
    subst (λ (zs : List Row). KeepsGroups gs (sets_by line (earlier ++ zs)) c.running.new.lines) same
    (c.in_ok-made.ensures.states earlier keeps (subst (λ (zs : List Row). LinesRise line (earlier ++ zs)) (sym same) rise)))
