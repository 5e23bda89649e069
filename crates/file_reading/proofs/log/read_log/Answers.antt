use Rattle.std.proofs.Common.{◌<◌, ◌∙◌, length, Ok, arith}
use Rattle.page_chain.proofs.RunLemmas.{reads_on, rose_on, same_fault}
use Rattle.file_reading.proofs.LogLaws.{LogAt, log_goes, log_stops}
use Rattle.file_reading.proofs.log.read_log.Goals as goal

pub returns-in-Err-clause-fault : goal.returns-in-Err-clause-fault
returns-in-Err-clause-fault g c = λ is. rose_on _ _ _ c.loop-number.invariant.reads.same.later (c.in-Err.ensures.fault (same_fault _ _ is))

pub returns-in-Err-clause-exact : goal.returns-in-Err-clause-exact
returns-in-Err-clause-exact g c =
    let first = c.args.file.now in
    let so_far = c.loop-number.invariant in
    let old : LogAt = record { taken = c.args.taken.now; catalog = c.args.catalog.now; logged = c.args.logged.now } in
    let set : LogAt = record { taken = c.loop-number.taken; catalog = c.loop-number.catalog; logged = c.loop-number.logged } in
    let now : LogAt = record { taken = c.read_logged.new.taken; catalog = c.read_logged.new.catalog; logged = c.read_logged.new.logged } in
    let low : c.loop-number.number < length first.slots.records = omega arith in
    log_stops first.slots c.loop-number.file.slots (g.D.Disk.moment first.disk).state.seen (g.D.Disk.moment c.loop-number.file.disk).state.seen old set now c.loop-number.number c.in-Err.cause
    (λ seen. Ok (record { pages = now.logged; catalog = now.catalog; taken = now.taken })) so_far.slots so_far.reads.seen low c.in-Err.ensures.exact so_far.told

pub returns-in-Err-clause-reads : goal.returns-in-Err-clause-reads
returns-in-Err-clause-reads g c = reads_on _ _ _ _ _ _ _ _ _ c.loop-number.invariant.reads c.in-Err.ensures.reads

pub loop-number-preserved : goal.loop-number-preserved
loop-number-preserved g c =
    let first = c.args.file.now in
    let so_far = c.loop-number.invariant in
    let old : LogAt = record { taken = c.args.taken.now; catalog = c.args.catalog.now; logged = c.args.logged.now } in
    let set : LogAt = record { taken = c.loop-number.taken; catalog = c.loop-number.catalog; logged = c.loop-number.logged } in
    let now : LogAt = record { taken = c.read_logged.new.taken; catalog = c.read_logged.new.catalog; logged = c.read_logged.new.logged } in
    let low : c.loop-number.number < length first.slots.records = omega arith in
    record {
      slots = c.in-Ok.ensures.slots ∙ so_far.slots;
      reads = reads_on _ _ _ _ _ _ _ _ _ so_far.reads c.in-Ok.ensures.reads;
      rules = c.in-Ok.ensures.rules;
      held = λ others all. c.in-Ok.ensures.held others (so_far.held others all);
      count = so_far.count;
      told = log_goes first.slots c.loop-number.file.slots (g.D.Disk.moment first.disk).state.seen (g.D.Disk.moment c.loop-number.file.disk).state.seen old set now c.loop-number.number
          so_far.slots so_far.reads.seen low c.in-Ok.ensures.exact so_far.told;
    }
