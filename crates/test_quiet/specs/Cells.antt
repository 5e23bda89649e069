-- A version of an array, and a chunk that was read of it.
use Rattle.std.specs.Prelude.{◌≡◌, ℕ, nat_eq, List, IsTrue}
use Rattle.std.specs.List.{list_any}
use Rattle.cell_values.specs.declared.schema.Schema.{Schema}
use Rattle.array_geom.specs.declared.chunk.Chunk.{Chunk}
use Rattle.logical_plan.specs.declared.names.NameEntry.{NameEntry}
use Rattle.logical_plan.specs.declared.parts.Leaf.{Leaf}
use Rattle.chunk_source.specs.Source.{IsStored}

-- one of an array's versions, under this name
pub record IsVersionIn (entry : NameEntry) (name : List ℕ) (leaf : Leaf) : Type 0 where
  pub called : leaf.name ≡ name
  pub schema : leaf.schema ≡ entry.schema
  pub stands : IsTrue (list_any (λ v. nat_eq v leaf.version) entry.versions)

-- a stored chunk of its number
abbrev pub IsRead : Schema → Chunk → Type 0
IsRead schema chunk = IsStored schema chunk.at chunk
