use Rattle.std.specs.Int.{w32}
use Rattle.file_items.specs.Items.{number_at}
use Rattle.file_items.specs.Table.{name_at}
use Rattle.file_items.proofs.Puts.{stops_then}
use Rattle.version_catalog.specs.Table.{named_number_at, record_at}
use Rattle.version_catalog.proofs.Handing.{stops_behind}
use Rattle.version_catalog.proofs.catalogs.records.cut.Goals as goal

pub returns-in-Err-u32_at : goal.returns-in-Err-u32_at
unfolding record_at named_number_at
returns-in-Err-u32_at c =
    let stop = c.in-Err-u32_at.stop in
    stops_then stop (named_number_at c.args.bytes.now) _
    (stops_behind stop (name_at c.args.bytes.now) (c.in-Ok.name, c.in-Ok.rest.now) _ c.in-Ok.ensures (stops_then stop (number_at w32 c.in-Ok.rest.now) _ c.in-Err-u32_at.ensures.read))

pub returns-in-Err : goal.returns-in-Err
unfolding record_at named_number_at
returns-in-Err c = stops_then c.in-Err.stop (named_number_at c.args.bytes.now) _ (stops_then c.in-Err.stop (name_at c.args.bytes.now) _ c.in-Err.ensures)
