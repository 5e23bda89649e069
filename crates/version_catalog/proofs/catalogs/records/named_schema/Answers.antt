use Rattle.file_items.specs.Table.{name_at, schema_at}
use Rattle.file_items.proofs.Puts.{stops_then}
use Rattle.version_catalog.specs.Table.{named_schema_at}
use Rattle.version_catalog.proofs.Handing.{stops_behind}
use Rattle.version_catalog.proofs.catalogs.records.named_schema.Goals as goal

pub returns-in-Err-schema : goal.returns-in-Err-schema
unfolding named_schema_at
returns-in-Err-schema c =
    stops_behind c.in-Err-schema.stop (name_at c.args.bytes.now) (c.in-Ok.name, c.in-Ok.rest.now) _ c.in-Ok.ensures
    (stops_then c.in-Err-schema.stop (schema_at c.in-Ok.rest.now) _ c.in-Err-schema.ensures)
