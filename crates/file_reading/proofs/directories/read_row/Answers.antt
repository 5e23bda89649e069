use Rattle.std.proofs.Common.{◌≡◌, ◌<◌, ◌≤◌, ◌∙◌, ℕ, ◌+◌, List, [], length, get_or, Ok, Err, refl, sym, ap, subst, arith, length-append}
use Rattle.std.specs.List.{AllByRecursion}
use Rattle.page_chain.proofs.RunLemmas.{reads_none, reads_on, rose_on, same_fault}
use Rattle.chunk_map.specs.Spelling.{IsDirectory}
use Rattle.version_catalog.specs.Catalogs.{IsBlob}
use Rattle.chunk_map.specs.declared.directory.Directory.{Directory}
use Rattle.file_reading.specs.Inner.Rows.{ArePaidBeside, IsBeside, entries_of, rules_of}
use Rattle.file_reading.proofs.BesideLaws.{RowGoes, paid_more}
use Rattle.file_reading.proofs.CatalogLaws.{at_index}
use Rattle.file_reading.proofs.RowLaws.{AskedRow, GoingRow, ReadsOne, all_rising, each_more, row_begins, row_ends, row_goes, row_stops, zip_begins, zip_ends, zip_goes}
use Rattle.file_reading.proofs.directories.read_row.Goals as goal

pub read_version-requires-clause-blob : goal.read_version-requires-clause-blob
read_version-requires-clause-blob g c =
    let array = c.args.array.now in
    let i = c.loop-at.at-index in
    let at = c.at-item.result in
    let low : i < length array.directories = omega (arith, c.loop-at-test.true, ap length c.as_slice-at-items.ensures) in
    let is : at ≡ get_or array.directories i at = rw c.as_slice-at-items.ensures at c.at-item.is in
    at_index IsBlob array.directories i at low is c.requires.blobs.blobs

pub read_version-requires-clause-rising : goal.read_version-requires-clause-rising
read_version-requires-clause-rising g c =
    all_rising (length c.args.array.now.entry.schema.dimensions) c.loop-at.row c.as_slice.result.now c.as_slice.ensures c.loop-at.invariant.each

pub returns-in-Err-clause-reads : goal.returns-in-Err-clause-reads
returns-in-Err-clause-reads g c = reads_on _ _ _ _ _ _ _ _ _ c.loop-at.invariant.reads c.in-Err.ensures.reads

pub returns-in-Err-clause-fault : goal.returns-in-Err-clause-fault
returns-in-Err-clause-fault g c = λ is. rose_on _ _ _ c.loop-at.invariant.reads.same.later (c.in-Err.ensures.fault (same_fault _ _ is))

pub returns-in-Err-clause-exact : goal.returns-in-Err-clause-exact
returns-in-Err-clause-exact g c =
    let array = c.args.array.now in
    let a : AskedRow = record { rules = rules_of c.args.base.now; dims = array.entry.schema.dimensions; blobs = array.directories } in
    let i = c.loop-at.at-index in
    let at = c.at-item.result in
    let first = (g.D.Disk.moment c.args.file.now.disk).state.seen in
    let mid = (g.D.Disk.moment c.loop-at.file.disk).state.seen in
    let low : i < length array.directories = omega (arith, c.loop-at-test.true, ap length c.as_slice-at-items.ensures) in
    let is : at ≡ get_or array.directories i at = rw c.as_slice-at-items.ensures at c.at-item.is in
    let reads : ReadsOne a mid c.loop-at.taken c.loop-at.row at (Err c.in-Err.cause) c.read_version.new.taken =
    subst (λ (ds : List Directory). ReadsOne a mid c.loop-at.taken ds at (Err c.in-Err.cause) c.read_version.new.taken) c.as_slice.ensures c.in-Err.ensures.exact in
    row_stops a first mid c.args.taken.now c.loop-at.taken c.read_version.new.taken i c.loop-at.row at c.in-Err.cause low is c.loop-at.invariant.reads.seen reads c.loop-at.invariant.told

pub loop-at-preserved : goal.loop-at-preserved
loop-at-preserved g c =
    let array = c.args.array.now in
    let a : AskedRow = record { rules = rules_of c.args.base.now; dims = array.entry.schema.dimensions; blobs = array.directories } in
    let i = c.loop-at.at-index in
    let at = c.at-item.result in
    let first = (g.D.Disk.moment c.args.file.now.disk).state.seen in
    let mid = (g.D.Disk.moment c.loop-at.file.disk).state.seen in
    let so_far = c.loop-at.invariant in
    let low : i < length array.directories = omega (arith, c.loop-at-test.true, ap length c.as_slice-at-items.ensures) in
    let is : at ≡ get_or array.directories i at = rw c.as_slice-at-items.ensures at c.at-item.is in
    let reads : ReadsOne a mid c.loop-at.taken c.loop-at.row at (Ok c.in-Ok.directory) c.read_version.new.taken =
    subst (λ (ds : List Directory). ReadsOne a mid c.loop-at.taken ds at (Ok c.in-Ok.directory) c.read_version.new.taken) c.as_slice.ensures c.in-Ok.ensures.exact in
    let more = c.in_ok-push-in-Ok.ensures.ok in
    record {
      slots = c.in-Ok.ensures.slots ∙ so_far.slots;
      reads = reads_on _ _ _ _ _ _ _ _ _ so_far.reads c.in-Ok.ensures.reads;
      count = ap length more ∙ length-append c.loop-at.row _ ∙ ap (λ (n : ℕ). n + 1) so_far.count;
      each = each_more (IsDirectory (length array.entry.schema.dimensions)) c.loop-at.row c.push.new.self c.in-Ok.directory more so_far.each c.in-Ok.ensures.rules;
      told = row_goes a first mid c.args.taken.now c.loop-at.taken c.read_version.new.taken i c.loop-at.row c.push.new.self c.in-Ok.directory at low is so_far.reads.seen more reads so_far.told;
      beside = λ tells others has.
          let before = so_far.beside tells others has in
          let dims = array.entry.schema.dimensions in
          let paid : ArePaidBeside others (entries_of [] c.as_slice.result.now) = subst (λ (ds : List Directory). ArePaidBeside others (entries_of [] ds)) (sym c.as_slice.ensures) before.before in
          let one = c.in-Ok.ensures.beside tells others before.taken paid in
          record {
            taken = one.0;
            before = paid_more others c.loop-at.row c.push.new.self c.in-Ok.directory more before.before one.1.paid;
            zipping = zip_goes (IsBeside others dims) array.directories i at c.loop-at.row c.push.new.self c.in-Ok.directory low is more one.1 before.zipping;
          };
    }

pub returns-clause-exact : goal.returns-clause-exact
returns-clause-exact g c =
    let array = c.args.array.now in
    let a : AskedRow = record { rules = rules_of c.args.base.now; dims = array.entry.schema.dimensions; blobs = array.directories } in
    let past : length array.directories ≤ c.loop-at.at-index = omega (arith, c.loop-at-test.false, ap length c.as_slice-at-items.ensures) in
    row_ends a (g.D.Disk.moment c.args.file.now.disk).state.seen c.args.taken.now c.loop-at.taken c.loop-at.at-index c.loop-at.row past c.loop-at.invariant.told

pub returns-clause-beside : goal.returns-clause-beside
returns-clause-beside g c = λ tells others has.
    let array = c.args.array.now in
    let past : length array.directories ≤ c.loop-at.at-index = omega (arith, c.loop-at-test.false, ap length c.as_slice-at-items.ensures) in
    let all = c.loop-at.invariant.beside tells others has in
    (all.taken, zip_ends (IsBeside others array.entry.schema.dimensions) array.directories c.loop-at.at-index c.loop-at.row past all.zipping)

pub loop-at-init : goal.loop-at-init
loop-at-init g c =
    let array = c.args.array.now in
    let dims = array.entry.schema.dimensions in
    let a : AskedRow = record { rules = rules_of c.args.base.now; dims = dims; blobs = array.directories } in
    let moment = g.D.Disk.moment c.args.file.now.disk in
    let none = sym c.new-row.ensures in
    record {
      slots = refl;
      reads = reads_none moment.state _ _ (g.met.D.Disk.only_now c.args.file.now.disk);
      count = ap length c.new-row.ensures;
      each = subst (AllByRecursion (IsDirectory (length dims))) none tt;
      told = subst (λ (row : List Directory). GoingRow a moment.state.seen c.args.taken.now 0 row c.args.taken.now) none (row_begins a moment.state.seen c.args.taken.now);
      beside = λ tells others has. subst (λ (row : List Directory). RowGoes tells others dims array.directories 0 row c.args.taken.now) none
          (record { taken = has; before = tt; zipping = zip_begins (IsBeside others dims) array.directories });
    }
