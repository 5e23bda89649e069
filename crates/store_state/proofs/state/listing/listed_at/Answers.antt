use Rattle.array_geom.specs.Link.{NumbersRise}
use Rattle.file_meaning.specs.Source.{numbers_of, AreNumbersIn}
use Rattle.plan_changes.specs.Databases.{Database, rows_of}
use Rattle.event_core.specs.Cells.{at}
use Rattle.store_versions.specs.Seen.{seen}
use Rattle.store_state.specs.At.{keeping, standing}
use Rattle.store_state.specs.Calls.{history_at}
use Rattle.store_state.specs.Standings.{BeganAs}
use Rattle.store_state.proofs.Listings.{chunks_of, if_ok, listing_rises, listing_told}
use Rattle.store_state.proofs.state.listing.listed_at.Goals as goal
use Rattle.std.proofs.Common.{◌≡◌}

pub returns-clause-rising : goal.returns-clause-rising
returns-clause-rising g c =
    let moment = g.D.Disk.moment in
    let parts = c.args.parts.now in
    let leaf = c.args.leaf.now in
    let s = standing moment parts in
    if_ok (λ chunks. chunks ≡ chunks_of (seen c.args.place parts.table.rows) leaf) (λ chunks. NumbersRise (numbers_of chunks)) c.numbers_at.result
    (λ chunks e. listing_rises moment s (keeping parts) c.args.place (history_at s c.args.place) leaf c.requires.sees c.requires.leaf chunks e) c.numbers_at.ensures

pub returns-clause-told : goal.returns-clause-told
returns-clause-told g c =
    let moment = g.D.Disk.moment in
    let parts = c.args.parts.now in
    let leaf = c.args.leaf.now in
    let s = standing moment parts in
    if_ok (λ chunks. chunks ≡ chunks_of (seen c.args.place parts.table.rows) leaf)
    (λ chunks. (db : Database) → BeganAs (moment s.opened.disk).state db → AreNumbersIn (rows_of (at db (history_at s c.args.place))) leaf chunks) c.numbers_at.result
    (λ chunks e db began. listing_told moment s (keeping parts) c.args.place (history_at s c.args.place) leaf c.requires.sees c.requires.leaf chunks e db
    (c.requires.cells db began) (g.met.D.Disk.as_read s.disk)) c.numbers_at.ensures
