use Rattle.std.proofs.Common.{List, refl, subst}
use Rattle.cell_values.specs.declared.schema.Dimension.{Dimension}
use Rattle.chunk_cells.proofs.MergeLaws.{if_ok}
use Rattle.shape_exec.specs.Inner.Merged.{ShareChunks}
use Rattle.shape_exec.proofs.SharedChunks.{shared_cores, shared_listed}
use Rattle.shape_exec.proofs.PairParts.{reached_cores, reached_moved, stay_move}
use Rattle.shape_exec.proofs.pair_numbers.numbers_of_side.Goals as goal

pub numbers_reached-requires-clause-sound : goal.numbers_reached-requires-clause-sound
numbers_reached-requires-clause-sound c = (c.requires.valid, c.requires.valid, refl, stay_move c.args.array.now.schema.dimensions c.args.schema.now.dimensions c.requires.inside)

pub returns-clause-cores : goal.returns-clause-cores
returns-clause-cores c = reached_cores c.args.schema.now.dimensions (λ c. c) c.args.array.now.schema.dimensions c.args.array.now.margins.items c.args.array.now.chunks c.numbers_reached.result c.numbers_reached.ensures.reached

pub returns-clause-listed : goal.returns-clause-listed
returns-clause-listed c = reached_moved c.args.schema.now.dimensions (λ c. c) (λ c. c) c.args.array.now c.numbers_reached.result c.requires.cells (stay_move c.args.array.now.schema.dimensions c.args.schema.now.dimensions c.requires.inside) c.numbers_reached.ensures.reached

pub returns-then-share_chunks-clause-cores : goal.returns-then-share_chunks-clause-cores
returns-then-share_chunks-clause-cores c =
    let array = c.args.array.now in
    let target = c.args.schema.now.dimensions in
    let shared = subst (λ (s : List Dimension). ShareChunks s target) c.as_slice-source.ensures (subst (ShareChunks c.as_slice-source.result.now) c.as_slice-target.ensures (c.share_chunks.ensures c.if-share_chunks.true)) in
    if_ok c.numbers_of.result c.numbers_of.ensures (λ found e. shared_cores array.schema array.margins.items array.chunks target found c.requires.cells shared e)

pub returns-then-share_chunks-clause-listed : goal.returns-then-share_chunks-clause-listed
returns-then-share_chunks-clause-listed c =
    let array = c.args.array.now in
    let target = c.args.schema.now.dimensions in
    let shared = subst (λ (s : List Dimension). ShareChunks s target) c.as_slice-source.ensures (subst (ShareChunks c.as_slice-source.result.now) c.as_slice-target.ensures (c.share_chunks.ensures c.if-share_chunks.true)) in
    if_ok c.numbers_of.result c.numbers_of.ensures (λ found e. shared_listed array.schema array.margins.items array.chunks target found c.requires.cells shared e)
