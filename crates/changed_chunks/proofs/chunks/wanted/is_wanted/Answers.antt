use Rattle.std.proofs.Common.{◌≡◌, true, sym, ◌∙◌}
use Rattle.array_geom.specs.Geometry.{has_core}
use Rattle.changed_chunks.proofs.Written.{is_wanted_there, own_is_wanted, same_answer}
use Rattle.changed_chunks.proofs.chunks.wanted.is_wanted.Goals as goal

pub returns : goal.returns
returns c =
    let put = c.args.put.now in
    let cored : has_core put.schema.dimensions c.args.number.now.items ≡ true = sym c.has_core.ensures ∙ c.if-not-has_core.false in
    same_answer c.has_row_in.result _ _ (is_wanted_there put c.requires c.args.number.now.items c.reach-area.result cored c.reach-area.ensures) c.has_row_in.ensures

pub returns-then-has_chunk : goal.returns-then-has_chunk
returns-then-has_chunk c =
    let put = c.args.put.now in
    let cored : has_core put.schema.dimensions c.args.number.now.items ≡ true = sym c.has_core.ensures ∙ c.if-not-has_core.false in
    own_is_wanted put c.requires c.args.number.now.items cored (c.has_chunk.ensures c.if-has_chunk.true)
