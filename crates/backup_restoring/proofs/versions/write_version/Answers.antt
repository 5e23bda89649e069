use Rattle.std.proofs.Common.{◌≡◌, ◌+◌, List, length, ◌∙◌, subst}
use Rattle.file_items.specs.Pages.{pages_needed}
use Rattle.page_chain.specs.Pages.{page_size, HoldsBlob}
use Rattle.backup_format.specs.PiecePlaces.{pieces_in, version_in}
use Rattle.backup_format.specs.declared.pieces.PieceAt.{PieceAt}
use Rattle.backup_restoring.specs.Restores.{payload_pages, version_pages}
use Rattle.backup_restoring.specs.Inner.Layout.{pages_from, blob_at, entry_at, HoldsPayload, HoldsPieces}
use Rattle.backup_restoring.specs.Inner.Writing.{Lays, Writes}
use Rattle.backup_restoring.proofs.Entries.{is_text, version_room, blob_is, behind_is, version_written}
use Rattle.backup_restoring.proofs.News.{ok_on}
use Rattle.backup_restoring.proofs.versions.write_version.Goals as goal

pub write_directory-requires-clause-room : goal.write_directory-requires-clause-room
write_directory-requires-clause-room g c =
    let version = version_in c.args.whole.now c.args.version.now in
    let bytes = c.as_slice-in-Ok-directory_bytes.result.now in
    let s0 = c.args.file.now.slots in
    let s1 = c.write_payloads.new.file.slots in
    let m0 = g.D.Disk.moment c.args.file.now.disk in
    let m1 = g.D.Disk.moment c.write_payloads.new.file.disk in
    let lays : Lays payload_pages entry_at HoldsPayload c.args.first version.pieces c.in-Ok.next c.in-Ok.entries s0 s1 m0 m1
    = subst (λ (ps : List PieceAt). Lays payload_pages entry_at HoldsPayload c.args.first (pieces_in c.args.whole.now ps) c.in-Ok.next c.in-Ok.entries s0 s1 m0 m1) c.as_slice.ensures c.in-Ok.ensures.laid in
    version_room c.args.first version c.in-Ok.next bytes c.requires.room
    (is_text c.args.first version c.in-Ok.next c.in-Ok.entries bytes s0 s1 m0 m1 lays (c.as_slice-in-Ok-directory_bytes.ensures ∙ c.in-Ok-directory_bytes.ensures))

pub returns-in-Ok-directory_bytes-clause-blob : goal.returns-in-Ok-directory_bytes-clause-blob
returns-in-Ok-directory_bytes-clause-blob g c =
    let version = version_in c.args.whole.now c.args.version.now in
    let bytes = c.as_slice-in-Ok-directory_bytes.result.now in
    let s0 = c.args.file.now.slots in
    let s1 = c.write_payloads.new.file.slots in
    let m0 = g.D.Disk.moment c.args.file.now.disk in
    let m1 = g.D.Disk.moment c.write_payloads.new.file.disk in
    let lays : Lays payload_pages entry_at HoldsPayload c.args.first version.pieces c.in-Ok.next c.in-Ok.entries s0 s1 m0 m1
    = subst (λ (ps : List PieceAt). Lays payload_pages entry_at HoldsPayload c.args.first (pieces_in c.args.whole.now ps) c.in-Ok.next c.in-Ok.entries s0 s1 m0 m1) c.as_slice.ensures c.in-Ok.ensures.laid in
    let text = is_text c.args.first version c.in-Ok.next c.in-Ok.entries bytes s0 s1 m0 m1 lays (c.as_slice-in-Ok-directory_bytes.ensures ∙ c.in-Ok-directory_bytes.ensures) in
    ok_on c.write_directory.result (λ x. x.0 ≡ record { length = length bytes; pages = pages_from c.in-Ok.next (pages_needed (length bytes)) }) (λ x. x.0 ≡ blob_at c.args.first version)
    (λ x is. blob_is c.args.first version c.in-Ok.next bytes x.0 text is) c.write_directory.ensures.blob

pub returns-in-Ok-directory_bytes-clause-next : goal.returns-in-Ok-directory_bytes-clause-next
returns-in-Ok-directory_bytes-clause-next g c =
    let version = version_in c.args.whole.now c.args.version.now in
    let bytes = c.as_slice-in-Ok-directory_bytes.result.now in
    let s0 = c.args.file.now.slots in
    let s1 = c.write_payloads.new.file.slots in
    let m0 = g.D.Disk.moment c.args.file.now.disk in
    let m1 = g.D.Disk.moment c.write_payloads.new.file.disk in
    let lays : Lays payload_pages entry_at HoldsPayload c.args.first version.pieces c.in-Ok.next c.in-Ok.entries s0 s1 m0 m1
    = subst (λ (ps : List PieceAt). Lays payload_pages entry_at HoldsPayload c.args.first (pieces_in c.args.whole.now ps) c.in-Ok.next c.in-Ok.entries s0 s1 m0 m1) c.as_slice.ensures c.in-Ok.ensures.laid in
    let text = is_text c.args.first version c.in-Ok.next c.in-Ok.entries bytes s0 s1 m0 m1 lays (c.as_slice-in-Ok-directory_bytes.ensures ∙ c.in-Ok-directory_bytes.ensures) in
    ok_on c.write_directory.result (λ x. x.1 ≡ c.in-Ok.next + pages_needed (length bytes)) (λ x. x.1 ≡ c.args.first + version_pages version)
    (λ x is. behind_is c.args.first version c.in-Ok.next bytes x.1 text is) c.write_directory.ensures.next

pub returns-in-Ok-directory_bytes-clause-written : goal.returns-in-Ok-directory_bytes-clause-written
returns-in-Ok-directory_bytes-clause-written g c =
    let version = version_in c.args.whole.now c.args.version.now in
    let bytes = c.as_slice-in-Ok-directory_bytes.result.now in
    let first = c.args.first in
    let next = c.in-Ok.next in
    let s0 = c.args.file.now.slots in
    let s1 = c.write_payloads.new.file.slots in
    let s2 = c.write_directory.new.file.slots in
    let m0 = g.D.Disk.moment c.args.file.now.disk in
    let m1 = g.D.Disk.moment c.write_payloads.new.file.disk in
    let m2 = g.D.Disk.moment c.write_directory.new.file.disk in
    let lays : Lays payload_pages entry_at HoldsPayload c.args.first version.pieces c.in-Ok.next c.in-Ok.entries s0 s1 m0 m1
    = subst (λ (ps : List PieceAt). Lays payload_pages entry_at HoldsPayload c.args.first (pieces_in c.args.whole.now ps) c.in-Ok.next c.in-Ok.entries s0 s1 m0 m1) c.as_slice.ensures c.in-Ok.ensures.laid in
    let text = is_text c.args.first version c.in-Ok.next c.in-Ok.entries bytes s0 s1 m0 m1 lays (c.as_slice-in-Ok-directory_bytes.ensures ∙ c.in-Ok-directory_bytes.ensures) in
    ok_on c.write_directory.result (λ x. Writes next (pages_needed (length bytes)) (λ now. HoldsBlob page_size now (pages_from next (pages_needed (length bytes))) bytes) s1 s2 m1 m2)
    (λ x. Writes first (version_pages version) (λ now. HoldsPieces now first version) s0 s2 m0 m2)
    (λ x writes. version_written first version next c.in-Ok.entries bytes s0 s1 s2 m0 m1 m2 text lays writes) c.write_directory.ensures.written
