-- The entries of each directory that is found rise.
use Rattle.std.proofs.Common.{◌≡◌, subst}
use Rattle.std.specs.Prelude.{Ok}
use Rattle.version_catalog.specs.declared.rules.catalog.Catalog.{Catalog}
use Rattle.file_meaning.specs.Opening.{Rules, rows_in, sequence_of}
use Rattle.file_meaning.proofs.Elsewhere.{found_steps}
use Rattle.file_meaning.specs.NextLaws.{FoundDirectoriesRise}
use Rattle.file_meaning.proofs.Both.{directories_rise}

pub found_rise : FoundDirectoriesRise
found_rise file slots db found stands =
    let steps = found_steps file slots found stands.finds in
    let rules : Rules = record { first = slots.current.root.first; sequence = sequence_of slots } in
    directories_rise file rules steps.logged.taken db found stands.database stands.holds.names
    (subst (λ (k : Catalog). rows_in file rules steps.logged.taken k.arrays ≡ Ok found.directories) steps.catalog steps.rows)
