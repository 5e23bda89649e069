use Rattle.exec_cellwise.proofs.ChunkLaws.{highest_inside, numbers_walked}
use Rattle.exec_cellwise.proofs.build.chunks.chunks.all_numbers.Goals as goal

pub chunk_of-last-requires-clause-inside : goal.chunk_of-last-requires-clause-inside
chunk_of-last-requires-clause-inside c = highest_inside c.args.schema.now c.args.bounds.now c.requires.valid c.requires.bounds

pub returns : goal.returns
returns c = numbers_walked c.args.schema.now.dimensions c.args.bounds.now _ c.push_numbers.new.out _ c.as_slice.result.now c.chunk_of-last.result c.requires.bounds c.new-listed.ensures c.new.ensures c.as_slice.ensures.value c.chunk_of-last.ensures c.in_ok-push_numbers.ensures
