-- The names after a history are those of the database after it.
use Rattle.std.proofs.Common.{◌∙◌, [], ◌∷◌, ap, sym}
use Rattle.plan_changes.specs.Changes.{names_after}
use Rattle.plan_changes.specs.Databases.{NamesDependOnNoRow}
use Rattle.event_core.specs.declared.entry.Entry.TheVariants.{Pin, Unpin, Commit, Reap}
use Rattle.event_core.specs.Cells.{at}
use Rattle.store_versions.specs.LegalLaws.{NamesAreOfTheDatabase}

pub names_are_of_the_database : NamesDependOnNoRow → NamesAreOfTheDatabase
names_are_of_the_database law db base [] e = sym e
names_are_of_the_database law db base (Commit session change used ∷ before) e =
    law (at db before) change ∙ ap (λ names. names_after names change) (names_are_of_the_database law db base before e)
names_are_of_the_database law db base (Pin session ∷ before) e = names_are_of_the_database law db base before e
names_are_of_the_database law db base (Unpin session ∷ before) e = names_are_of_the_database law db base before e
names_are_of_the_database law db base (Reap ∷ before) e = names_are_of_the_database law db base before e
