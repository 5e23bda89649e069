use Rattle.file_items.specs.Table.{name_at}
use Rattle.file_items.proofs.Puts.{stops_then}
use Rattle.version_catalog.specs.Table.{blob_at, named_blob_at, record_at}
use Rattle.version_catalog.proofs.Handing.{stops_behind}
use Rattle.version_catalog.proofs.catalogs.records.next.Goals as goal

pub returns-in-Err-blob : goal.returns-in-Err-blob
unfolding record_at named_blob_at
returns-in-Err-blob c =
    let stop = c.in-Err-blob.stop in
    stops_then stop (named_blob_at c.args.bytes.now) _
    (stops_behind stop (name_at c.args.bytes.now) (c.in-Ok.name, c.in-Ok.rest.now) _ c.in-Ok.ensures (stops_then stop (blob_at c.in-Ok.rest.now) _ c.in-Err-blob.ensures))
