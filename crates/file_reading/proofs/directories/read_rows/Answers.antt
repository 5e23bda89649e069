use Rattle.std.proofs.Common.{◌≡◌, ◌<◌, ◌≤◌, ◌∙◌, List, length, get_or, refl, sym, ap, subst, arith}
use Rattle.page_chain.proofs.RunLemmas.{reads_none, reads_on, rose_on, same_fault}
use Rattle.chunk_map.specs.declared.directory.Directory.{Directory}
use Rattle.file_reading.specs.Reading.{AreDirectories}
use Rattle.file_reading.specs.Inner.Rows.{IsRowBeside, rules_of}
use Rattle.file_reading.proofs.CatalogLaws.{blobs_at, stored_at}
use Rattle.file_reading.proofs.RowLaws.{GoingRows, Zipping, rows_begin, rows_end, rows_go, rows_stop, zip_begins, zip_ends, zip_goes}
use Rattle.file_reading.proofs.directories.read_rows.Goals as goal

pub read_row-requires-clause-stored : goal.read_row-requires-clause-stored
read_row-requires-clause-stored g c =
    let arrays = c.args.catalog.now.arrays in
    let i = c.loop-array.array-index in
    let array = c.array-item.result in
    let low : i < length arrays = omega (arith, c.loop-array-test.true, ap length c.as_slice-array-items.ensures) in
    let is : array ≡ get_or arrays i array = rw c.as_slice-array-items.ensures at c.array-item.is in
    stored_at c.args.catalog.now i array low is c.requires

pub read_row-requires-clause-blobs : goal.read_row-requires-clause-blobs
read_row-requires-clause-blobs g c =
    let arrays = c.args.catalog.now.arrays in
    let i = c.loop-array.array-index in
    let array = c.array-item.result in
    let low : i < length arrays = omega (arith, c.loop-array-test.true, ap length c.as_slice-array-items.ensures) in
    let is : array ≡ get_or arrays i array = rw c.as_slice-array-items.ensures at c.array-item.is in
    blobs_at c.args.catalog.now i array low is c.requires

pub returns-in-Err-clause-reads : goal.returns-in-Err-clause-reads
returns-in-Err-clause-reads g c = reads_on _ _ _ _ _ _ _ _ _ c.loop-array.invariant.reads c.in-Err.ensures.reads

pub returns-in-Err-clause-fault : goal.returns-in-Err-clause-fault
returns-in-Err-clause-fault g c = λ is. rose_on _ _ _ c.loop-array.invariant.reads.same.later (c.in-Err.ensures.fault (same_fault _ _ is))

pub returns-in-Err-clause-exact : goal.returns-in-Err-clause-exact
returns-in-Err-clause-exact g c =
    let arrays = c.args.catalog.now.arrays in
    let i = c.loop-array.array-index in
    let array = c.array-item.result in
    let low : i < length arrays = omega (arith, c.loop-array-test.true, ap length c.as_slice-array-items.ensures) in
    let is : array ≡ get_or arrays i array = rw c.as_slice-array-items.ensures at c.array-item.is in
    rows_stop (rules_of c.args.base.now) arrays (g.D.Disk.moment c.args.file.now.disk).state.seen (g.D.Disk.moment c.loop-array.file.disk).state.seen c.args.taken.now c.loop-array.taken c.read_row.new.taken i c.loop-array.rows array c.in-Err.cause
    low is c.loop-array.invariant.reads.seen c.in-Err.ensures.exact c.loop-array.invariant.told

pub loop-array-preserved : goal.loop-array-preserved
loop-array-preserved g c =
    let arrays = c.args.catalog.now.arrays in
    let i = c.loop-array.array-index in
    let array = c.array-item.result in
    let so_far = c.loop-array.invariant in
    let low : i < length arrays = omega (arith, c.loop-array-test.true, ap length c.as_slice-array-items.ensures) in
    let is : array ≡ get_or arrays i array = rw c.as_slice-array-items.ensures at c.array-item.is in
    let more = c.in_ok-push-in-Ok.ensures.ok in
    record {
      slots = c.in-Ok.ensures.slots ∙ so_far.slots;
      reads = reads_on _ _ _ _ _ _ _ _ _ so_far.reads c.in-Ok.ensures.reads;
      each = zip_goes AreDirectories arrays i array c.loop-array.rows c.push.new.self c.in-Ok.row low is more c.in-Ok.ensures.rules so_far.each;
      beside = λ tells others has.
          let before = so_far.beside tells others has in
          let one = c.in-Ok.ensures.beside tells others before.0 in
          (one.0, zip_goes (IsRowBeside others) arrays i array c.loop-array.rows c.push.new.self c.in-Ok.row low is more one.1 before.1);
      told = rows_go (rules_of c.args.base.now) arrays (g.D.Disk.moment c.args.file.now.disk).state.seen (g.D.Disk.moment c.loop-array.file.disk).state.seen c.args.taken.now c.loop-array.taken c.read_row.new.taken i c.loop-array.rows c.push.new.self c.in-Ok.row array
          low is so_far.reads.seen more c.in-Ok.ensures.exact so_far.told;
    }

pub returns-clause-exact : goal.returns-clause-exact
returns-clause-exact g c =
    let arrays = c.args.catalog.now.arrays in
    let past : length arrays ≤ c.loop-array.array-index = omega (arith, c.loop-array-test.false, ap length c.as_slice-array-items.ensures) in
    rows_end (rules_of c.args.base.now) arrays (g.D.Disk.moment c.args.file.now.disk).state.seen c.args.taken.now c.loop-array.taken c.loop-array.array-index c.loop-array.rows past c.loop-array.invariant.told

pub returns-clause-rules : goal.returns-clause-rules
returns-clause-rules g c =
    let arrays = c.args.catalog.now.arrays in
    let past : length arrays ≤ c.loop-array.array-index = omega (arith, c.loop-array-test.false, ap length c.as_slice-array-items.ensures) in
    zip_ends AreDirectories arrays c.loop-array.array-index c.loop-array.rows past c.loop-array.invariant.each

pub returns-clause-beside : goal.returns-clause-beside
returns-clause-beside g c = λ tells others has.
    let arrays = c.args.catalog.now.arrays in
    let past : length arrays ≤ c.loop-array.array-index = omega (arith, c.loop-array-test.false, ap length c.as_slice-array-items.ensures) in
    zip_ends (IsRowBeside others) arrays c.loop-array.array-index c.loop-array.rows past (c.loop-array.invariant.beside tells others has).1

pub loop-array-init : goal.loop-array-init
loop-array-init g c =
    let arrays = c.args.catalog.now.arrays in
    let rules = rules_of c.args.base.now in
    let moment = g.D.Disk.moment c.args.file.now.disk in
    let none = sym c.new-rows.ensures in
    record {
      slots = refl;
      reads = reads_none moment.state _ _ (g.met.D.Disk.only_now c.args.file.now.disk);
      each = subst (Zipping AreDirectories arrays 0) none (zip_begins AreDirectories arrays);
      beside = λ tells others has. (has, subst (Zipping (IsRowBeside others) arrays 0) none (zip_begins (IsRowBeside others) arrays));
      told = subst (λ (rows : List (List Directory)). GoingRows rules arrays moment.state.seen c.args.taken.now 0 rows c.args.taken.now) none (rows_begin rules arrays moment.state.seen c.args.taken.now);
    }
