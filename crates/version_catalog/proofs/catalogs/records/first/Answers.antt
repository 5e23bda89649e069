use Rattle.file_items.proofs.Puts.{stops_then}
use Rattle.version_catalog.specs.Table.{blob_at, named_schema_at, first_version_at, record_at}
use Rattle.version_catalog.proofs.Handing.{stops_behind}
use Rattle.version_catalog.proofs.catalogs.records.first.Goals as goal

pub returns-in-Err : goal.returns-in-Err
unfolding record_at first_version_at
returns-in-Err c = stops_then c.in-Err.stop (first_version_at c.args.bytes.now) _ (stops_then c.in-Err.stop (named_schema_at c.args.bytes.now) _ c.in-Err.ensures)

pub returns-in-Err-blob : goal.returns-in-Err-blob
unfolding record_at first_version_at
returns-in-Err-blob c =
    let stop = c.in-Err-blob.stop in
    stops_then stop (first_version_at c.args.bytes.now) _
    (stops_behind stop (named_schema_at c.args.bytes.now) (record { name = c.in-Ok.name; schema = c.in-Ok.schema }, c.in-Ok.rest.now) _ c.in-Ok.ensures
    (stops_then stop (blob_at c.in-Ok.rest.now) _ c.in-Err-blob.ensures))
