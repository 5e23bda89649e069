use Rattle.std.proofs.Common.{◌≡◌, Ok, sym}
use Rattle.std.specs.Option.{option_copied}
use Rattle.file_items.specs.Items.{item}
use Rattle.file_items.specs.Table.{name_at, schema_at}
use Rattle.file_items.proofs.Puts.{stops_then}
use Rattle.version_catalog.specs.Table.{numbered_at, content_at, is_next_name, items_at, array_at}
use Rattle.version_catalog.proofs.Arrays.{array_read}
use Rattle.version_catalog.proofs.Handing.{stops_behind, item_stops, item_passes}
use Rattle.version_catalog.proofs.catalogs.reading.array.Goals as goal

pub returns-in-Ok-numbered : goal.returns-in-Ok-numbered
returns-in-Ok-numbered c =
    array_read (option_copied c.args.before) c.args.bytes.now c.in-Ok.name c.in-Ok.rest.now c.in-Ok-schema.schema c.in-Ok-schema.rest.now c.in-Ok-numbered.next c.in-Ok-numbered.versions c.in-Ok-numbered.directories c.in-Ok-numbered.rest.now
    c.in-Ok.ensures (sym c.if-not-is_next_name.ensures) c.in-Ok-schema.ensures c.in-Ok-numbered.ensures.read c.in-Ok-numbered.ensures.one_each

pub returns : goal.returns
unfolding array_at items_at
returns c =
    let before = option_copied c.args.before in
    stops_then c.in-Err.stop (items_at before c.args.bytes.now) _
    (stops_then c.in-Err.stop (item name_at (is_next_name before) c.args.bytes.now) _ (item_stops name_at (is_next_name before) c.args.bytes.now c.in-Err.stop c.in-Err.ensures))

pub returns-in-Ok : goal.returns-in-Ok
unfolding array_at items_at content_at
returns-in-Ok c =
    let before = option_copied c.args.before in
    let stop = c.in-Err-schema.stop in
    let name = c.in-Ok.name in
    let rest = c.in-Ok.rest.now in
    let passes : item name_at (is_next_name before) c.args.bytes.now ≡ Ok (name, rest) = item_passes name_at (is_next_name before) c.args.bytes.now name rest c.in-Ok.ensures (sym c.if-not-is_next_name.ensures) in
    stops_then stop (items_at before c.args.bytes.now) _
    (stops_behind stop (item name_at (is_next_name before) c.args.bytes.now) (name, rest) _ passes
    (stops_then stop (content_at rest) _ (stops_then stop (schema_at rest) _ c.in-Err-schema.ensures)))

pub returns-in-Ok-schema : goal.returns-in-Ok-schema
unfolding array_at items_at content_at
returns-in-Ok-schema c =
    let before = option_copied c.args.before in
    let stop = c.in-Err-numbered.stop in
    let name = c.in-Ok.name in
    let rest = c.in-Ok.rest.now in
    let behind = c.in-Ok-schema.rest.now in
    let passes : item name_at (is_next_name before) c.args.bytes.now ≡ Ok (name, rest) = item_passes name_at (is_next_name before) c.args.bytes.now name rest c.in-Ok.ensures (sym c.if-not-is_next_name.ensures) in
    stops_then stop (items_at before c.args.bytes.now) _
    (stops_behind stop (item name_at (is_next_name before) c.args.bytes.now) (name, rest) _ passes
    (stops_then stop (content_at rest) _
    (stops_behind stop (schema_at rest) (c.in-Ok-schema.schema, behind) _ c.in-Ok-schema.ensures (stops_then stop (numbered_at behind) _ c.in-Err-numbered.ensures.read))))
