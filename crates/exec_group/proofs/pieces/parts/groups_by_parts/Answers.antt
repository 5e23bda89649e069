use Rattle.std.proofs.Common.{rules, arith, ◌<◌, ◌^◌}
use Rattle.std.proofs.lemmas.Result.{IfOk-weaker}
use Rattle.exec_group.specs.Inner.Parts.{sets_of, cells_held}
use Rattle.exec_group.proofs.CoreSets.{whole_groups}
use Rattle.exec_group.proofs.PiecesPartLaws.{parts_found, few_in_parts}
use Rattle.exec_group.proofs.pieces.parts.groups_by_parts.Goals as goal

pub merge_all-requires : goal.merge_all-requires
merge_all-requires g c =
    let few = few_in_parts c.args.aggs.now c.args.dims.now c.args.schema.now.dimensions c.args.margins.now.items c.args.chunks c.in_ok-parts.parts c.in_ok-parts.ensures in
    let held : cells_held c.args.chunks < 2 ^ 63 = search rules in
    record { room = omega arith }

pub returns-clause-groups : goal.returns-clause-groups
returns-clause-groups g c = λ apart.
    c.merge_all.ensures.groups c.args.aggs.now (sets_of c.args.dims.now c.args.schema.now.dimensions c.args.margins.now.items c.args.chunks)
    (parts_found c.args.aggs.now c.args.dims.now c.args.schema.now.dimensions c.args.margins.now.items c.args.chunks c.in_ok-parts.parts c.in_ok-parts.ensures) apart

pub returns-clause-whole : goal.returns-clause-whole
returns-clause-whole g c = λ some.
    whole_groups c.args.aggs.now c.args.dims.now c.args.schema.now c.args.margins.now.items c.args.chunks c.merge_all.result c.requires.cells some
    (λ apart. c.merge_all.ensures.groups c.args.aggs.now (sets_of c.args.dims.now c.args.schema.now.dimensions c.args.margins.now.items c.args.chunks)
    (parts_found c.args.aggs.now c.args.dims.now c.args.schema.now.dimensions c.args.margins.now.items c.args.chunks c.in_ok-parts.parts c.in_ok-parts.ensures) apart)

pub returns-clause-cells : goal.returns-clause-cells
returns-clause-cells g c =
    let few = few_in_parts c.args.aggs.now c.args.dims.now c.args.schema.now.dimensions c.args.margins.now.items c.args.chunks c.in_ok-parts.parts c.in_ok-parts.ensures in
    let held : cells_held c.args.chunks < 2 ^ 63 = search rules in
    IfOk-weaker c.merge_all.result _ _ (λ all h. omega arith) c.merge_all.ensures.cells
