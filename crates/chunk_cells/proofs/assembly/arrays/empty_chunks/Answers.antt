use Rattle.std.proofs.Common.{ap, ◌∙◌, sym, subst}
use Rattle.std.specs.List.{AllByRecursion}
use Rattle.std.proofs.lemmas.List.{take_all}
use Rattle.array_geom.specs.declared.chunk.Chunk.{Chunk}
use Rattle.array_geom.specs.Link.{numbers}
use Rattle.chunk_cells.specs.Frames.{HasNoCells}
use Rattle.chunk_cells.specs.Inner.Numbers.{numbers_in}
use Rattle.chunk_cells.proofs.ChunkLaws.{all_and_last, numbers_more}
use Rattle.chunk_cells.proofs.assembly.arrays.empty_chunks.Goals as goal

pub loop-number-preserved : goal.loop-number-preserved
loop-number-preserved c =
    let chunk : Chunk = record { at = c.copy_numbers.result; positions = c.new.result; cells = c.new-in-loop-number.result } in
    let pushed = c.in_ok-push.ensures.ok in record {
      same = numbers_more c.loop-number.chunks c.push.new.self chunk c.args.listed.now c.loop-number.number-index c.number-item.result pushed c.loop-number.invariant.same
          c.copy_numbers.ensures c.loop-number-test.true c.number-item.is;
      empty = subst (AllByRecursion HasNoCells) (sym pushed)
          (all_and_last HasNoCells c.loop-number.chunks chunk c.loop-number.invariant.empty (c.new.ensures, c.new-in-loop-number.ensures));
    }

pub returns-clause-same : goal.returns-clause-same
returns-clause-same c = ap numbers c.into_vec.ensures ∙ c.loop-number.invariant.same ∙ ap numbers_in (take_all c.loop-number.number-index c.args.listed.now c.loop-number-test.false)
