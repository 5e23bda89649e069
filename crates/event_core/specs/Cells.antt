-- The database after a history.
use Rattle.std.specs.Prelude.{[], ◌∷◌}
use Rattle.plan_changes.specs.Databases.{Database, after}
use Rattle.event_core.specs.declared.entry.Entry.TheVariants.{Pin, Unpin, Commit, Reap}
use Rattle.event_core.specs.History.{History}

-- the changes of the commits, in order
abbrev pub at : Database → History → Database
at db [] = db
at db (Commit session change used ∷ before) = after (at db before) change
at db (Pin session ∷ before) = at db before
at db (Unpin session ∷ before) = at db before
at db (Reap ∷ before) = at db before
