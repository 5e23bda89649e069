use Rattle.std.proofs.Common.{List, map, ◌∙◌, ap}
use Rattle.backup_format.specs.PiecePlaces.{version_in}
use Rattle.backup_format.specs.declared.versions.VersionPiecesAt.{VersionPiecesAt}
use Rattle.backup_restoring.specs.Restores.{version_pages}
use Rattle.backup_restoring.specs.Inner.Layout.{laid, blob_at}
use Rattle.backup_restoring.proofs.Entries.{array_is}
use Rattle.backup_restoring.proofs.arrays.write_array.Goals as goal

pub returns-in-Ok-with_entry-clause-array : goal.returns-in-Ok-with_entry-clause-array
returns-in-Ok-with_entry-clause-array g c =
    c.in-Ok-with_entry.ensures
    ∙ array_is c.args.whole.now c.args.first c.args.array.now c.in-Ok.directories
    (c.in-Ok.ensures.laid.made_is ∙ ap (λ (vs : List VersionPiecesAt). laid version_pages blob_at c.args.first (map (version_in c.args.whole.now) vs)) c.as_slice.ensures)
