use Rattle.std.proofs.Common.{◌∙◌, ap}
use Rattle.std.proofs.lemmas.List.{take_all}
use Rattle.std.specs.List.{count_by}
use Rattle.changed_chunks.specs.Listed.{is_sized}
use Rattle.changed_chunks.proofs.traces.asking.count_chunks.Goals as goal

pub returns : goal.returns
returns c =
    c.loop-at.invariant.count ∙ ap (count_by (is_sized c.args.schema.now.dimensions)) (take_all c.loop-at.at-index c.args.chunks.now c.loop-at-test.false)
