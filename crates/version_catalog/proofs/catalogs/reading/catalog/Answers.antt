use Rattle.std.proofs.Common.{◌≡◌, ℕ, Bool, cond, nat_le, length, None, Result, Ok, Err, refl, sym, ap}
use Rattle.std.specs.Int.{w32}
use Rattle.std.proofs.lemmas.Bool.{le-leb}
use Rattle.file_items.specs.Items.{number_at, item, counted}
use Rattle.file_items.proofs.Puts.{stops_then}
use Rattle.version_catalog.specs.declared.rules.catalog.Catalog.{Catalog}
use Rattle.version_catalog.specs.Table.{next_array, name_in, arrays_at}
use Rattle.version_catalog.proofs.Handing.{stops_behind, reads_behind, item_stops, item_passes}
use Rattle.version_catalog.proofs.catalogs.reading.catalog.Goals as goal

abbrev are_few : ℕ → Bool
are_few count = nat_le count 1024

abbrev ok_catalog : Catalog → Result Catalog ℕ
ok_catalog catalog = Ok catalog

pub returns-in-Err : goal.returns-in-Err
unfolding arrays_at
returns-in-Err c =
    let stop = c.in-Err.stop in
    stops_then stop (arrays_at c.args.bytes.now) _
    (stops_then stop (counted w32 are_few next_array name_in None c.args.bytes.now) _
    (stops_then stop (item (number_at w32) are_few c.args.bytes.now) _ (item_stops (number_at w32) are_few c.args.bytes.now stop c.in-Err.ensures.read)))

pub returns-in-Err-arrays : goal.returns-in-Err-arrays
unfolding arrays_at
returns-in-Err-arrays c =
    let stop = c.in-Err-arrays.stop in
    let count = c.in-Ok.read.0 in
    let rest = c.in-Ok.read.1.now in
    let passes : item (number_at w32) are_few c.args.bytes.now ≡ Ok (count, rest) =
    item_passes (number_at w32) are_few c.args.bytes.now count rest c.in-Ok.ensures.read (le-leb count 1024 c.if-count-gt1024.false) in
    stops_then stop (arrays_at c.args.bytes.now) _
    (stops_then stop (counted w32 are_few next_array name_in None c.args.bytes.now) _
    (stops_behind stop (item (number_at w32) are_few c.args.bytes.now) (count, rest) _ passes c.in-Err-arrays.ensures))

pub returns-then-is_empty : goal.returns-then-is_empty
unfolding arrays_at
returns-then-is_empty c =
    let count = c.in-Ok.read.0 in
    let rest = c.in-Ok.read.1.now in
    let passes : item (number_at w32) are_few c.args.bytes.now ≡ Ok (count, rest) =
    item_passes (number_at w32) are_few c.args.bytes.now count rest c.in-Ok.ensures.read (le-leb count 1024 c.if-count-gt1024.false) in
    let catalog : Catalog = record { arrays = c.in-Ok-arrays.arrays } in
    let behind = c.in-Ok-arrays.rest.now in
    reads_behind (arrays_at c.args.bytes.now) (catalog, behind) _ _
    (reads_behind (counted w32 are_few next_array name_in None c.args.bytes.now) (c.in-Ok-arrays.arrays, behind) _ _
    (reads_behind (item (number_at w32) are_few c.args.bytes.now) (count, rest) _ _ passes c.in-Ok-arrays.ensures) refl)
    (ap (λ (b : Bool). cond b (ok_catalog catalog) (Err (length behind))) (sym c.if-is_empty.ensures))

pub returns-else-is_empty : goal.returns-else-is_empty
unfolding arrays_at
returns-else-is_empty c =
    let count = c.in-Ok.read.0 in
    let rest = c.in-Ok.read.1.now in
    let passes : item (number_at w32) are_few c.args.bytes.now ≡ Ok (count, rest) =
    item_passes (number_at w32) are_few c.args.bytes.now count rest c.in-Ok.ensures.read (le-leb count 1024 c.if-count-gt1024.false) in
    let catalog : Catalog = record { arrays = c.in-Ok-arrays.arrays } in
    let behind = c.in-Ok-arrays.rest.now in
    reads_behind (arrays_at c.args.bytes.now) (catalog, behind) _ _
    (reads_behind (counted w32 are_few next_array name_in None c.args.bytes.now) (c.in-Ok-arrays.arrays, behind) _ _
    (reads_behind (item (number_at w32) are_few c.args.bytes.now) (count, rest) _ _ passes c.in-Ok-arrays.ensures) refl)
    (ap (λ (b : Bool). cond b (ok_catalog catalog) (Err (length behind))) (sym c.if-is_empty.ensures))
