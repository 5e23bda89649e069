use Rattle.std.proofs.Common.{◌∙◌, [], sym}
use Rattle.test_stores.proofs.Seeing.{chunks_stay}
use Rattle.test_stores.proofs.reading.told_cells.Goals as goal

pub add_chunks-read-requires-clause-numbers : goal.add_chunks-read-requires-clause-numbers
add_chunks-read-requires-clause-numbers g c =
    let stay = chunks_stay g.D.Disk.moment c.args.shared.now c.args.seat.now c.listed.new.seat [] c.args.pinned.now c.in-Some.leaf c.requires.seat.0 c.requires.pin.holds c.listed.ensures.adds in
    c.as_slice-chunks.ensures ∙ c.in-Ok.ensures.listed ∙ sym stay

pub returns-in-Ok-clause-seat : goal.returns-in-Ok-clause-seat
returns-in-Ok-clause-seat g c = c.add_chunks-read.ensures.seat

pub returns-in-Ok-clause-pin : goal.returns-in-Ok-clause-pin
returns-in-Ok-clause-pin g c = record { holds = c.add_chunks-read.ensures.pin; stored = c.requires.pin.stored }

pub returns-in-Some-clause-seat : goal.returns-in-Some-clause-seat
returns-in-Some-clause-seat g c = c.listed.ensures.seat

pub returns-in-Some-clause-pin : goal.returns-in-Some-clause-pin
returns-in-Some-clause-pin g c = record { holds = c.listed.ensures.pin; stored = c.requires.pin.stored }
