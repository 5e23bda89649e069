use Rattle.std.proofs.Common.{ap, ◌∙◌}
use Rattle.std.specs.List.{count_by}
use Rattle.array_geom.specs.Geometry.{core_meets}
use Rattle.changed_chunks.specs.Listed.{is_sized}
use Rattle.changed_chunks.proofs.Counting.{asking_counted}
use Rattle.changed_chunks.proofs.traces.asking.asking_for.Goals as goal

pub returns : goal.returns
returns c =
    let dims = c.args.leaf.now.schema.dimensions in
    asking_counted dims (core_meets dims c.args.area.now) c.args.listed.now c.count_chunks-asked.result c.count_chunks-stored.result
    (c.count_chunks-asked.ensures ∙ ap (count_by (is_sized dims)) (c.as_slice.ensures ∙ c.in_ok-wanted.ensures)) c.count_chunks-stored.ensures
