use Rattle.std.proofs.Common.{◌+◌, List, map, take, subst, arith}
use Rattle.backup_format.specs.Pieces.{PiecesArray}
use Rattle.backup_format.specs.PiecePlaces.{array_in}
use Rattle.backup_restoring.specs.Restores.{array_pages}
use Rattle.backup_restoring.specs.Inner.Layout.{array_at, HoldsArray}
use Rattle.backup_restoring.specs.Inner.Writing.{Lays}
use Rattle.backup_restoring.proofs.Sums.{map_taken, map_whole, sum_part}
use Rattle.backup_restoring.proofs.Written.{array_stays, lays_none, lays_more}
use Rattle.backup_restoring.proofs.arrays.write_arrays.Goals as goal

pub loop-array-init : goal.loop-array-init
loop-array-init g c = lays_none array_pages array_at HoldsArray c.args.first c.new-catalog.result c.args.file.now.slots (g.D.Disk.moment c.args.file.now.disk) c.requires.awaits c.new-catalog.ensures

pub write_array-requires : goal.write_array-requires
write_array-requires g c =
    let so_far = c.loop-array.invariant in
    let next = so_far.next_is in
    let part = sum_part array_pages (array_in c.args.whole.now) c.args.arrays.now c.loop-array.array-index c.array-item.result c.loop-array-test.true c.array-item.is in
    record {
      awaits = so_far.writes.awaits;
      least = omega (arith, next, c.requires.least);
      room = omega (arith, next, part, c.requires.room);
    }

pub loop-array-preserved : goal.loop-array-preserved
loop-array-preserved g c =
    let xs = c.args.arrays.now in
    let i = c.loop-array.array-index in
    let x = c.array-item.result in
    let one = array_in c.args.whole.now x in
    let next = c.loop-array.next in
    lays_more array_pages array_at HoldsArray array_stays c.args.first (map (array_in c.args.whole.now) (take i xs)) (map (array_in c.args.whole.now) (take (i + 1) xs)) one next c.in-Ok.behind c.loop-array.catalog c.push.new.self c.in-Ok.entry
    c.args.file.now.slots c.loop-array.file.slots c.write_array.new.file.slots (g.D.Disk.moment c.args.file.now.disk) (g.D.Disk.moment c.loop-array.file.disk) (g.D.Disk.moment c.write_array.new.file.disk)
    (map_taken (array_in c.args.whole.now) xs i x c.loop-array-test.true c.array-item.is) c.loop-array.invariant c.in-Ok.ensures.array c.in-Ok.ensures.next c.in-Ok-push.ensures.ok c.in-Ok.ensures.written

pub returns-clause-laid : goal.returns-clause-laid
returns-clause-laid g c =
    subst (λ (xs : List PiecesArray). Lays array_pages array_at HoldsArray c.args.first xs c.loop-array.next c.loop-array.catalog c.args.file.now.slots c.loop-array.file.slots (g.D.Disk.moment c.args.file.now.disk) (g.D.Disk.moment c.loop-array.file.disk))
    (map_whole (array_in c.args.whole.now) c.args.arrays.now c.loop-array.array-index c.loop-array-test.false) c.loop-array.invariant
