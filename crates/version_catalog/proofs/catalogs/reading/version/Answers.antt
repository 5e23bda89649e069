use Rattle.std.proofs.Common.{◌≡◌, Ok, refl}
use Rattle.std.specs.Int.{w32}
use Rattle.std.proofs.lemmas.Bool.{and_from, lt-ltb}
use Rattle.file_items.specs.Items.{number_at, item}
use Rattle.file_items.proofs.Puts.{stops_then}
use Rattle.version_catalog.specs.Table.{blob_at, is_version, version_at}
use Rattle.version_catalog.proofs.Handing.{stops_behind, reads_behind, item_stops, item_passes}
use Rattle.version_catalog.proofs.catalogs.reading.version.Goals as goal

pub returns-in-Err : goal.returns-in-Err
unfolding version_at
returns-in-Err c =
    stops_then c.in-Err.stop (item (number_at w32) (is_version c.args.next c.args.last) c.args.bytes.now) _
    (item_stops (number_at w32) (is_version c.args.next c.args.last) c.args.bytes.now c.in-Err.stop c.in-Err.ensures.read)

pub returns-in-Err-blob : goal.returns-in-Err-blob
unfolding version_at
returns-in-Err-blob c =
    let number = c.in-Ok.read.0 in
    let rest = c.in-Ok.read.1.now in
    let passes : item (number_at w32) (is_version c.args.next c.args.last) c.args.bytes.now ≡ Ok (number, rest) =
    item_passes (number_at w32) (is_version c.args.next c.args.last) c.args.bytes.now number rest c.in-Ok.ensures.read
    (and_from _ _ (lt-ltb c.args.last number c.if-not-number-next.false.0) (lt-ltb number c.args.next c.if-not-number-next.false.1)) in
    stops_behind c.in-Err-blob.stop (item (number_at w32) (is_version c.args.next c.args.last) c.args.bytes.now) (number, rest) _ passes
    (stops_then c.in-Err-blob.stop (blob_at rest) _ c.in-Err-blob.ensures)

pub returns-in-Ok-blob : goal.returns-in-Ok-blob
unfolding version_at
returns-in-Ok-blob c =
    let number = c.in-Ok.read.0 in
    let rest = c.in-Ok.read.1.now in
    let passes : item (number_at w32) (is_version c.args.next c.args.last) c.args.bytes.now ≡ Ok (number, rest) =
    item_passes (number_at w32) (is_version c.args.next c.args.last) c.args.bytes.now number rest c.in-Ok.ensures.read
    (and_from _ _ (lt-ltb c.args.last number c.if-not-number-next.false.0) (lt-ltb number c.args.next c.if-not-number-next.false.1)) in
    reads_behind (item (number_at w32) (is_version c.args.next c.args.last) c.args.bytes.now) (number, rest) _ _ passes
    (reads_behind (blob_at rest) (c.in-Ok-blob.directory, c.in-Ok-blob.rest.now) _ _ c.in-Ok-blob.ensures refl)
