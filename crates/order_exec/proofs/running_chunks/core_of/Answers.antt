use Rattle.std.proofs.Common.{◌≡◌, ◌∙◌, ◌++◌, ◌∷◌, [], List, ap}
use Rattle.array_geom.specs.declared.chunk.Chunk.{Chunk}
use Rattle.group_rows.proofs.WholeLaws.{if_ok}
use Rattle.order_exec.proofs.ByChunkLaws.{alone_core, alone_rises}
use Rattle.order_exec.proofs.running_chunks.core_of.Goals as goal

pub into_core_rows-requires-clause-rise : goal.into_core_rows-requires-clause-rise
into_core_rows-requires-clause-rise c =
    let one : c.push.new.self ≡ c.args.chunk ∷ [] = c.in_ok-push.ensures.ok ∙ ap (λ (zs : List Chunk). zs ++ c.args.chunk ∷ []) c.another-chunks.ensures in
    alone_rises c.args.schema.now c.in_ok-copy.field-0 c.args.margins.now c.copy_numbers.result c.args.chunk c.push.new.self c.in_ok-copy.ensures c.copy_numbers.ensures one c.requires

pub returns : goal.returns
returns c =
    let one : c.push.new.self ≡ c.args.chunk ∷ [] = c.in_ok-push.ensures.ok ∙ ap (λ (zs : List Chunk). zs ++ c.args.chunk ∷ []) c.another-chunks.ensures in
    if_ok c.into_core_rows.result c.into_core_rows.ensures (λ rows e. e ∙ alone_core c.args.schema.now c.in_ok-copy.field-0 c.args.margins.now c.copy_numbers.result c.args.chunk c.push.new.self c.in_ok-copy.ensures c.copy_numbers.ensures one c.requires)
