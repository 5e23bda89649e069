use Rattle.std.proofs.Common.{◌≡◌, ℕ, Bool, true, ◌&&◌, nat_le, Ok, refl}
use Rattle.std.specs.Int.{w32}
use Rattle.std.proofs.lemmas.Bool.{and_from, le-leb}
use Rattle.file_items.specs.Items.{number_at, item, counted}
use Rattle.file_items.proofs.Puts.{stops_then}
use Rattle.version_catalog.specs.Spelling.{versions_at}
use Rattle.version_catalog.specs.Table.{next_version, number_in, numbered_at}
use Rattle.version_catalog.proofs.Handing.{stops_behind, reads_behind, item_stops, item_passes}
use Rattle.version_catalog.proofs.catalogs.reading.numbered.Goals as goal

abbrev is_next : ℕ → Bool
is_next next = nat_le 1 next && nat_le next 65536

pub returns-in-Ok-versions-clause-one_each : goal.returns-in-Ok-versions-clause-one_each
returns-in-Ok-versions-clause-one_each c = c.in-Ok-versions.ensures.one_each

pub returns-in-Err-clause-read : goal.returns-in-Err-clause-read
unfolding numbered_at
returns-in-Err-clause-read c =
    stops_then c.in-Err.stop (item (number_at w32) is_next c.args.bytes.now) _ (item_stops (number_at w32) is_next c.args.bytes.now c.in-Err.stop c.in-Err.ensures.read)

pub returns-in-Err-u32_at-clause-read : goal.returns-in-Err-u32_at-clause-read
unfolding numbered_at
returns-in-Err-u32_at-clause-read c =
    let stop = c.in-Err-u32_at.stop in
    let next = c.in-Ok.read.0 in
    let rest = c.in-Ok.read.1.now in
    let passes : item (number_at w32) is_next c.args.bytes.now ≡ Ok (next, rest) =
    item_passes (number_at w32) is_next c.args.bytes.now next rest c.in-Ok.ensures.read (and_from _ _ (le-leb 1 next c.if-not-next.false.0) (le-leb next 65536 c.if-not-next.false.1)) in
    stops_behind stop (item (number_at w32) is_next c.args.bytes.now) (next, rest) _ passes
    (stops_then stop (counted w32 (λ count. true) (next_version next) number_in 0 rest) _
    (stops_then stop (item (number_at w32) (λ count. true) rest) _ (item_stops (number_at w32) (λ count. true) rest stop c.in-Err-u32_at.ensures.read)))

pub returns-in-Err-versions-clause-read : goal.returns-in-Err-versions-clause-read
unfolding numbered_at
returns-in-Err-versions-clause-read c =
    let stop = c.in-Err-versions.stop in
    let next = c.in-Ok.read.0 in
    let rest = c.in-Ok.read.1.now in
    let passes : item (number_at w32) is_next c.args.bytes.now ≡ Ok (next, rest) =
    item_passes (number_at w32) is_next c.args.bytes.now next rest c.in-Ok.ensures.read (and_from _ _ (le-leb 1 next c.if-not-next.false.0) (le-leb next 65536 c.if-not-next.false.1)) in
    let count = c.in-Ok-u32_at.read.0 in
    let behind = c.in-Ok-u32_at.read.1.now in
    let counts : item (number_at w32) (λ count. true) rest ≡ Ok (count, behind) = item_passes (number_at w32) (λ count. true) rest count behind c.in-Ok-u32_at.ensures.read refl in
    stops_behind stop (item (number_at w32) is_next c.args.bytes.now) (next, rest) _ passes
    (stops_then stop (counted w32 (λ count. true) (next_version next) number_in 0 rest) _
    (stops_behind stop (item (number_at w32) (λ count. true) rest) (count, behind) _ counts c.in-Err-versions.ensures.read))

pub returns-in-Ok-versions-clause-read : goal.returns-in-Ok-versions-clause-read
unfolding numbered_at
returns-in-Ok-versions-clause-read c =
    let next = c.in-Ok.read.0 in
    let rest = c.in-Ok.read.1.now in
    let passes : item (number_at w32) is_next c.args.bytes.now ≡ Ok (next, rest) =
    item_passes (number_at w32) is_next c.args.bytes.now next rest c.in-Ok.ensures.read (and_from _ _ (le-leb 1 next c.if-not-next.false.0) (le-leb next 65536 c.if-not-next.false.1)) in
    let count = c.in-Ok-u32_at.read.0 in
    let behind = c.in-Ok-u32_at.read.1.now in
    let counts : item (number_at w32) (λ count. true) rest ≡ Ok (count, behind) = item_passes (number_at w32) (λ count. true) rest count behind c.in-Ok-u32_at.ensures.read refl in
    reads_behind (item (number_at w32) is_next c.args.bytes.now) (next, rest) _ _ passes
    (reads_behind (counted w32 (λ count. true) (next_version next) number_in 0 rest) (versions_at c.in-Ok-versions.numbers c.in-Ok-versions.directories, c.in-Ok-versions.rest.now) _ _
    (reads_behind (item (number_at w32) (λ count. true) rest) (count, behind) _ _ counts c.in-Ok-versions.ensures.read) refl)
