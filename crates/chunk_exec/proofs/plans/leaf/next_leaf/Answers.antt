use Rattle.chunk_exec.proofs.ComputedLaws.{scan_asked, scan_computed}
use Rattle.chunk_exec.proofs.plans.leaf.next_leaf.Goals as goal

pub returns-in-Some-clause-computed : goal.returns-in-Some-clause-computed
returns-in-Some-clause-computed g c =
    let read = c.read_part.ensures in
    scan_computed c.args.next.now c.args.boxes.now c.index-boxes-number.result (g.S.ChunkSource.state c.args.source.now) (g.S.ChunkSource.state c.read_part.new.source) c.args.leaf.now c.requires.enough c.index-boxes-number.is
    c.read_part.result read.read read.told read.asked

pub returns-in-Some-clause-front : goal.returns-in-Some-clause-front
returns-in-Some-clause-front g c =
    scan_asked c.args.next.now c.args.boxes.now c.index-boxes-number.result (g.S.ChunkSource.state c.args.source.now) (g.S.ChunkSource.state c.read_part.new.source) c.args.leaf.now c.requires.enough c.index-boxes-number.is
    c.read_part.result c.read_part.ensures.front
