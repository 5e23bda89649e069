use Rattle.std.proofs.Common.{◌∙◌, rules}
use Rattle.array_geom.specs.Inner.Ranges.{IsNear}
use Rattle.array_geom.proofs.Meetings.{meets_nowhere, meets_no_low, meets_no_high, meets_on, meets_off}
use Rattle.array_geom.proofs.Fronts.{all_first, all_rest, shorter}
use Rattle.array_geom.proofs.cores.+meets.Goals as goal

pub returns-in-empty-chunk : goal.returns-in-empty-chunk
returns-in-empty-chunk t c = meets_nowhere c.args.dims.now c.args.chunk.now c.args.lo.now c.args.hi.now c.in-empty-chunk.len_below

pub returns-in-empty-lo : goal.returns-in-empty-lo
returns-in-empty-lo t c =
    c.is_empty.ensures ∙ meets_no_low c.args.dims.now c.args.chunk.now c.args.lo.now c.args.hi.now c.in-len1-up.len_at_least
    c.in-len1-up-chunk.len_at_least c.in-empty-lo.len_below

pub returns-in-empty-hi : goal.returns-in-empty-hi
returns-in-empty-hi t c =
    meets_no_high c.args.dims.now c.args.chunk.now c.args.lo.now c.args.hi.now c.in-len1-up.len_at_least c.in-len1-up-chunk.len_at_least
    c.in-len1-up-lo.len_at_least c.in-empty-hi.len_below

pub returns-then-meets_side : goal.returns-then-meets_side
returns-then-meets_side t c =
    meets_on c.d-item.result c.args.dims.now c.args.chunk.now c.args.lo.now c.args.hi.now c.meets_side.result c.meets.result
    c.in-len1-up.len_at_least c.in-len1-up-chunk.len_at_least c.in-len1-up-lo.len_at_least c.in-len1-up-hi.len_at_least c.d-item.is (search rules)
    c.if-meets_side.true c.meets.ensures

pub returns-else-meets_side : goal.returns-else-meets_side
returns-else-meets_side t c =
    c.if-meets_side.false ∙ meets_off c.d-item.result c.args.dims.now c.args.chunk.now c.args.lo.now c.args.hi.now c.meets_side.result
    c.in-len1-up.len_at_least c.in-len1-up-chunk.len_at_least c.in-len1-up-lo.len_at_least c.in-len1-up-hi.len_at_least c.d-item.is (search rules)
    c.if-meets_side.false

pub meets_side-requires : goal.meets_side-requires
meets_side-requires t c = all_first IsNear c.args.dims.now c.d-item.result c.in-len1-up.len_at_least c.d-item.is c.requires

pub meets-requires : goal.meets-requires
meets-requires t c =
    let less = shorter c.args.dims.now c.in-len1-up.len_at_least in
    (search rules, all_rest IsNear c.args.dims.now c.in-len1-up.len_at_least c.requires)
