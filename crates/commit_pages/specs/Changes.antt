-- The chunks that a change writes over a database.
use Rattle.std.specs.Prelude.{◌≡◌, Bool, true, false, ◌&&◌, length, Option, Some, None}
use Rattle.std.specs.List.{AllByRecursion}
use Rattle.cell_values.specs.declared.schema.Schema.{Schema}
use Rattle.array_rows.specs.Arrays.{AreRowsOf}
use Rattle.array_geom.specs.declared.chunk.Changed.{Changed}
use Rattle.array_geom.specs.Geometry.{ChunkNumber, overlaps}
use Rattle.array_geom.specs.Link.{IsPart, NumbersRise, numbers, is_listed, has_cell}
use Rattle.chunk_rle.specs.Stored.{IsStored}
use Rattle.plan_changes.specs.declared.change.Change.{Change}
use Rattle.plan_changes.specs.declared.change.Change.TheVariants.{Create, Store, Insert, Remove, RemoveVersions}
use Rattle.plan_changes.specs.Databases.{Database, fitted, fault_of_change, new_rows, rows_if_whole}
use Rattle.commit_pages.specs.Lengths.{meets}

-- the schema of the array of which a change makes a version, and whether it is the whole version that comes
abbrev pub IsOf : Schema → Bool → Changed → Type 0
IsOf schema whole changed = (changed.schema ≡ schema) × (changed.whole ≡ whole)

-- chunks come with a store or an insert, with the change's schema, all of the version with a store
abbrev pub ComesWith : Change → Option Changed → Type 0
ComesWith (Create name schema) changed = changed ≡ None
ComesWith (Store name schema plan) None = ⊥
ComesWith (Store name schema plan) (Some changed) = IsOf schema true changed
ComesWith (Insert name schema plan) None = ⊥
ComesWith (Insert name schema plan) (Some changed) = IsOf schema false changed
ComesWith (Remove name) changed = changed ≡ None
ComesWith (RemoveVersions name below) changed = changed ≡ None

-- their numbers rise, and each is one that is stored
pub record AreValid (changed : Changed) : Type 0 where
  pub rising : NumbersRise (numbers changed.chunks)
  pub stored : AllByRecursion (IsStored changed.schema) changed.chunks

-- a store writes each chunk whose core then holds a cell, an insert those of them whose frame holds a cell that is put in
abbrev pub is_written : Database → Change → ChunkNumber → Bool
is_written db (Create name schema) k = false
is_written db (Store name schema plan) k = has_cell schema.dimensions (new_rows db (Store name schema plan)) k
is_written db (Insert name schema plan) k =
    has_cell schema.dimensions (new_rows db (Insert name schema plan)) k && meets schema.dimensions (rows_if_whole (fitted schema plan db)) k
is_written db (Remove name) k = false
is_written db (RemoveVersions name below) k = false

-- THE CHUNKS ARE THOSE OF THE CHANGE: it has no fault, they are those that it writes, and each is its part of the new version's rows
pub record IsChangeOf (db : Database) (change : Change) (changed : Changed) : Type 0 where
  pub fault : fault_of_change db change ≡ None
  pub rows : AreRowsOf changed.schema (new_rows db change)
  pub listed : (k : ChunkNumber) → length k ≡ length changed.schema.dimensions → is_listed k (numbers changed.chunks) ≡ is_written db change k
  pub parts : AllByRecursion (IsPart changed.schema.dimensions (overlaps changed.schema.dimensions) (new_rows db change)) changed.chunks
