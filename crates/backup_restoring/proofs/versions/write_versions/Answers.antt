use Rattle.std.proofs.Common.{◌+◌, List, map, take, subst, arith}
use Rattle.backup_format.specs.Pieces.{PiecesVersion}
use Rattle.backup_format.specs.PiecePlaces.{version_in}
use Rattle.backup_restoring.specs.Restores.{version_pages}
use Rattle.backup_restoring.specs.Inner.Layout.{blob_at, HoldsPieces}
use Rattle.backup_restoring.specs.Inner.Writing.{Lays}
use Rattle.backup_restoring.proofs.Sums.{map_taken, map_whole, sum_part}
use Rattle.backup_restoring.proofs.Written.{pieces_stay, lays_none, lays_more}
use Rattle.backup_restoring.proofs.versions.write_versions.Goals as goal

pub loop-version-init : goal.loop-version-init
loop-version-init g c = lays_none version_pages blob_at HoldsPieces c.args.first c.new-directories.result c.args.file.now.slots (g.D.Disk.moment c.args.file.now.disk) c.requires.awaits c.new-directories.ensures

pub write_version-requires : goal.write_version-requires
write_version-requires g c =
    let so_far = c.loop-version.invariant in
    let next = so_far.next_is in
    let part = sum_part version_pages (version_in c.args.whole.now) c.args.versions.now c.loop-version.version-index c.version-item.result c.loop-version-test.true c.version-item.is in
    record {
      awaits = so_far.writes.awaits;
      least = omega (arith, next, c.requires.least);
      room = omega (arith, next, part, c.requires.room);
    }

pub loop-version-preserved : goal.loop-version-preserved
loop-version-preserved g c =
    let xs = c.args.versions.now in
    let i = c.loop-version.version-index in
    let x = c.version-item.result in
    let one = version_in c.args.whole.now x in
    let next = c.loop-version.next in
    lays_more version_pages blob_at HoldsPieces pieces_stay c.args.first (map (version_in c.args.whole.now) (take i xs)) (map (version_in c.args.whole.now) (take (i + 1) xs)) one next c.in-Ok.behind c.loop-version.directories c.push.new.self c.in-Ok.directory
    c.args.file.now.slots c.loop-version.file.slots c.write_version.new.file.slots (g.D.Disk.moment c.args.file.now.disk) (g.D.Disk.moment c.loop-version.file.disk) (g.D.Disk.moment c.write_version.new.file.disk)
    (map_taken (version_in c.args.whole.now) xs i x c.loop-version-test.true c.version-item.is) c.loop-version.invariant c.in-Ok.ensures.blob c.in-Ok.ensures.next c.in-Ok-push.ensures.ok c.in-Ok.ensures.written

pub returns-clause-laid : goal.returns-clause-laid
returns-clause-laid g c =
    subst (λ (xs : List PiecesVersion). Lays version_pages blob_at HoldsPieces c.args.first xs c.loop-version.next c.loop-version.directories c.args.file.now.slots c.loop-version.file.slots (g.D.Disk.moment c.args.file.now.disk) (g.D.Disk.moment c.loop-version.file.disk))
    (map_whole (version_in c.args.whole.now) c.args.versions.now c.loop-version.version-index c.loop-version-test.false) c.loop-version.invariant
