use Rattle.std.proofs.Common.{◌≡◌, ◌+◌, ℕ, List, length, map, take, ◌∙◌, ap, subst, arith}
use Rattle.chunk_map.specs.declared.directory.DirEntry.{DirEntry}
use Rattle.backup_format.specs.Pieces.{Piece}
use Rattle.backup_format.specs.PiecePlaces.{piece_in}
use Rattle.backup_restoring.specs.Restores.{payload_pages}
use Rattle.backup_restoring.specs.Inner.Layout.{entry_at, HoldsPayload}
use Rattle.backup_restoring.specs.Inner.Writing.{Lays}
use Rattle.backup_restoring.proofs.Laid.{length_from}
use Rattle.backup_restoring.proofs.Sums.{map_taken, map_whole, sum_part}
use Rattle.backup_restoring.proofs.Written.{payload_stays, lays_none, lays_more}
use Rattle.backup_restoring.proofs.versions.write_payloads.Goals as goal

pub loop-piece-init : goal.loop-piece-init
loop-piece-init g c = lays_none payload_pages entry_at HoldsPayload c.args.first c.new-entries.result c.args.file.now.slots (g.D.Disk.moment c.args.file.now.disk) c.requires.awaits c.new-entries.ensures

pub write_payload-requires : goal.write_payload-requires
write_payload-requires g c =
    let so_far = c.loop-piece.invariant in
    let next = so_far.next_is in
    let part = sum_part payload_pages (piece_in c.args.whole.now) c.args.pieces.now c.loop-piece.piece-index c.piece-item.result c.loop-piece-test.true c.piece-item.is in
    record {
      awaits = so_far.writes.awaits;
      least = omega (arith, next, c.requires.least);
      room = omega (arith, next, part, c.requires.room);
    }

pub overflow_cast-next : goal.overflow_cast-next
overflow_cast-next g c =
    let one = piece_in c.args.whole.now c.piece-item.result in
    let long : c.len.result ≡ payload_pages one = c.len.ensures ∙ ap (λ (e : DirEntry). length e.pages) c.in-Ok.ensures.entry ∙ length_from c.loop-piece.next (payload_pages one) in
    let next = c.loop-piece.invariant.next_is in
    let part = sum_part payload_pages (piece_in c.args.whole.now) c.args.pieces.now c.loop-piece.piece-index c.piece-item.result c.loop-piece-test.true c.piece-item.is in
    omega (arith, long, next, part, c.requires.room)

pub overflow_add-next : goal.overflow_add-next
overflow_add-next g c =
    let one = piece_in c.args.whole.now c.piece-item.result in
    let long : c.len.result ≡ payload_pages one = c.len.ensures ∙ ap (λ (e : DirEntry). length e.pages) c.in-Ok.ensures.entry ∙ length_from c.loop-piece.next (payload_pages one) in
    let next = c.loop-piece.invariant.next_is in
    let part = sum_part payload_pages (piece_in c.args.whole.now) c.args.pieces.now c.loop-piece.piece-index c.piece-item.result c.loop-piece-test.true c.piece-item.is in
    omega (arith, long, next, part, c.requires.room)

pub loop-piece-preserved : goal.loop-piece-preserved
loop-piece-preserved g c =
    let xs = c.args.pieces.now in
    let i = c.loop-piece.piece-index in
    let x = c.piece-item.result in
    let one = piece_in c.args.whole.now x in
    let next = c.loop-piece.next in
    let long : c.len.result ≡ payload_pages one = c.len.ensures ∙ ap (λ (e : DirEntry). length e.pages) c.in-Ok.ensures.entry ∙ length_from next (payload_pages one) in
    lays_more payload_pages entry_at HoldsPayload payload_stays c.args.first (map (piece_in c.args.whole.now) (take i xs)) (map (piece_in c.args.whole.now) (take (i + 1) xs)) one next (next + c.len.result) c.loop-piece.entries c.push.new.self c.in-Ok.entry
    c.args.file.now.slots c.loop-piece.file.slots c.write_payload.new.file.slots (g.D.Disk.moment c.args.file.now.disk) (g.D.Disk.moment c.loop-piece.file.disk) (g.D.Disk.moment c.write_payload.new.file.disk)
    (map_taken (piece_in c.args.whole.now) xs i x c.loop-piece-test.true c.piece-item.is) c.loop-piece.invariant c.in-Ok.ensures.entry (ap (λ (n : ℕ). next + n) long) c.in-Ok-push.ensures.ok c.in-Ok.ensures.written

pub returns-clause-laid : goal.returns-clause-laid
returns-clause-laid g c =
    subst (λ (xs : List Piece). Lays payload_pages entry_at HoldsPayload c.args.first xs c.loop-piece.next c.loop-piece.entries c.args.file.now.slots c.loop-piece.file.slots (g.D.Disk.moment c.args.file.now.disk) (g.D.Disk.moment c.loop-piece.file.disk))
    (map_whole (piece_in c.args.whole.now) c.args.pieces.now c.loop-piece.piece-index c.loop-piece-test.false) c.loop-piece.invariant
