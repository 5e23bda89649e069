use Rattle.file_items.proofs.Puts.{stops_then}
use Rattle.file_items.specs.Pages.{positive_at, pages_at}
use Rattle.version_catalog.specs.Table.{blob_at}
use Rattle.version_catalog.proofs.Handing.{stops_behind}
use Rattle.version_catalog.proofs.catalogs.reading.blob.Goals as goal

pub returns-in-Err-pages : goal.returns-in-Err-pages
unfolding blob_at
returns-in-Err-pages c =
    stops_behind c.in-Err-pages.stop (positive_at c.args.bytes.now) (c.in-Ok.length, c.in-Ok.rest.now) _ c.in-Ok.ensures
    (stops_then c.in-Err-pages.stop (pages_at c.in-Ok.length c.in-Ok.rest.now) _ c.in-Err-pages.ensures)

pub returns-in-Err : goal.returns-in-Err
unfolding blob_at
returns-in-Err c = stops_then c.in-Err.stop (positive_at c.args.bytes.now) _ c.in-Err.ensures
