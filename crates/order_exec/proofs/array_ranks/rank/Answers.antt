use Rattle.std.proofs.Common.{ap, ◌∙◌}
use Rattle.logical_plan.specs.Ordered.{rank_rows}
use Rattle.logical_plan.specs.PlanSchema.{rank_schema}
use Rattle.group_rows.proofs.WholeLaws.{means_whole, of_cores, stands_for}
use Rattle.order_exec.proofs.FewLaws.{can_be, few_named}
use Rattle.group_rows.proofs.RankedLaws.{ranked_are_rows}
use Rattle.order_exec.proofs.array_ranks.rank.Goals as goal

pub counted_ranks-requires : goal.counted_ranks-requires
counted_ranks-requires c = few_named c.args.array.schema c.args.target.now c.args.attribute c.args.dims.now c.requires.target c.requires.valid c.requires.ranks

pub ranked_by_columns-requires-clause-names : goal.ranked_by_columns-requires-clause-names
ranked_by_columns-requires-clause-names c = few_named c.args.array.schema c.args.target.now c.args.attribute c.args.dims.now c.requires.target c.requires.valid c.requires.ranks

pub assemble-requires-clause-rows : goal.assemble-requires-clause-rows
assemble-requires-clause-rows c =
    ranked_are_rows c.args.array.schema c.args.target.now c.args.attribute c.args.dims.now c.in_ok-rows.rows c.as_slice.result.now (of_cores c.args.array c.in_ok-rows.rows c.in_ok-rows.ensures.rows (c.requires.cells c.requires.whole))
    c.requires.target c.requires.valid (can_be c.args.array.schema c.args.attribute c.args.dims.now c.requires.ranks) c.in_ok-ranked.ensures.few (c.as_slice.ensures ∙ c.in_ok-ranked.ensures.made_of)

pub returns-clause-array : goal.returns-clause-array
returns-clause-array c =
    stands_for c.assemble.result _ _
    (means_whole (rank_schema c.args.attribute) (λ s. rank_rows c.args.attribute c.args.dims.now) c.args.array c.args.target.now c.as_slice.result.now c.requires.whole c.requires.target
    (c.as_slice.ensures ∙ c.in_ok-ranked.ensures.made_of ∙ ap (rank_rows c.args.attribute c.args.dims.now) c.in_ok-rows.ensures.rows))
    c.assemble.ensures.array
