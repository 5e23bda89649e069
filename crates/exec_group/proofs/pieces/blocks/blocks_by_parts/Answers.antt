use Rattle.std.proofs.Common.{rules, arith, ◌<◌, ◌^◌}
use Rattle.std.proofs.lemmas.Result.{IfOk-weaker}
use Rattle.exec_group.specs.Inner.Parts.{block_sets_of, cells_held}
use Rattle.exec_group.proofs.CoreSets.{whole_blocks}
use Rattle.exec_group.proofs.PiecesPartLaws.{block_parts_found, few_in_block_parts}
use Rattle.exec_group.proofs.pieces.blocks.blocks_by_parts.Goals as goal

pub merge_all-requires : goal.merge_all-requires
merge_all-requires g c =
    let few = few_in_block_parts c.args.aggs.now c.args.blocks.now c.args.schema.now.dimensions c.args.margins.now.items c.args.chunks c.in_ok-parts.parts c.in_ok-parts.ensures in
    let held : cells_held c.args.chunks < 2 ^ 63 = search rules in
    record { room = omega arith }

pub returns-clause-whole : goal.returns-clause-whole
returns-clause-whole g c =
    whole_blocks c.args.aggs.now c.args.blocks.now c.args.schema.now c.args.margins.now.items c.args.chunks c.merge_all.result c.requires.cells
    (λ apart. c.merge_all.ensures.groups c.args.aggs.now (block_sets_of c.args.blocks.now c.args.schema.now.dimensions c.args.margins.now.items c.args.chunks)
    (block_parts_found c.args.aggs.now c.args.blocks.now c.args.schema.now.dimensions c.args.margins.now.items c.args.chunks c.in_ok-parts.parts c.in_ok-parts.ensures) apart)

pub returns-clause-cells : goal.returns-clause-cells
returns-clause-cells g c =
    let few = few_in_block_parts c.args.aggs.now c.args.blocks.now c.args.schema.now.dimensions c.args.margins.now.items c.args.chunks c.in_ok-parts.parts c.in_ok-parts.ensures in
    let held : cells_held c.args.chunks < 2 ^ 63 = search rules in
    IfOk-weaker c.merge_all.result _ _ (λ all h. omega arith) c.merge_all.ensures.cells
