use Rattle.std.proofs.Common.{◌∙◌, List, IsTrue, subst, sym}
use Rattle.arrayvec.specs.ArrayVec.{ArrayVec}
use Rattle.chunk_source.specs.Source.{is_among}
use Rattle.test_stores.proofs.Seeing.{chunks_stay, one_among}
use Rattle.test_stores.proofs.reading.add_chunks.Goals as goal

pub read_chunk-requires-clause-listed : goal.read_chunk-requires-clause-listed
read_chunk-requires-clause-listed g c =
    let l = c.loop-at in
    let among = one_among c.args.numbers.now l.at-index c.at-item.result c.loop-at-test.true c.at-item.is in
    subst (λ (ks : List (ArrayVec _)). IsTrue (is_among c.at-item.result ks)) l.invariant.numbers among

pub loop-at-preserved : goal.loop-at-preserved
loop-at-preserved g c =
    let l = c.loop-at in
    let e = c.read_chunk.ensures in
    let stay = chunks_stay g.D.Disk.moment c.args.shared.now l.seat c.read_chunk.new.seat e.adds.own c.args.pinned.now c.args.leaf.now l.invariant.seat.0 l.invariant.pin e.adds.adds in
    record { seat = e.seat; pin = e.pin; numbers = l.invariant.numbers ∙ sym stay }
