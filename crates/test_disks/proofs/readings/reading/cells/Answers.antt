use Rattle.test_disks.proofs.readings.reading.cells.Goals as goal

pub loop-place-preserved : goal.loop-place-preserved
loop-place-preserved g c = record { open_pin = c.chunk_at-found.ensures.open; all = λ session held h. c.chunk_at-found.ensures.all session held (c.loop-place.invariant.all session held h) }

pub returns-in-Err : goal.returns-in-Err
returns-in-Err g c = λ session held h. c.chunk_at-found.ensures.all session held (c.loop-place.invariant.all session held h)
