-- What a source of chunks means, and what its calls do to it.
use Rattle.std.specs.Prelude.{◌≡◌, ℕ, zero, suc, ◌≤◌, Bool, List, [], ◌∷◌, ◌++◌, map, length, Option, Some, Result, Ok, Err, IsTrue, ◌⊎◌, ◌↔◌}
use Rattle.std.specs.List.{AllByRecursion}
use Rattle.arrayvec.specs.ArrayVec.{ArrayVec}
use Rattle.cell_values.specs.declared.datum.Row.{Row}
use Rattle.cell_values.specs.declared.schema.Schema.{Schema}
use Rattle.cell_values.specs.Schemas.{IsValid}
use Rattle.afl_outside.specs.Counts.{Rose}
use Rattle.array_geom.specs.Arrays.{AreRowsOf}
use Rattle.array_geom.specs.declared.chunk.Chunk.{Chunk}
use Rattle.array_geom.specs.declared.chunk.ChunkedArray.{ChunkedArray}
use Rattle.array_geom.specs.Chunks.{IsChunk}
use Rattle.array_geom.specs.Geometry.{ChunkNumber, overlaps}
use Rattle.array_geom.specs.Link.{is_listed, has_cell, Is, IsPart}
use Rattle.logical_plan.specs.declared.parts.Leaf.{Leaf}
use Rattle.logical_plan.specs.Meaning.{Database, version_rows, whole}
use Rattle.logical_plan.specs.Typing.{is_sound, AreSound}
use Rattle.chunk_source.specs.declared.sources.asked.Asked.{Asked}
use Rattle.chunk_source.specs.declared.sources.fault.SourceFault.{SourceFault}
use Rattle.chunk_source.specs.declared.sources.fault.SourceFault.TheVariants.{Failed, Damaged, Memory}

-- A source of chunks, seen from outside.
pub record SourceState : Type 1 where
  -- the schema of each stored version of each name
  pub stored : List ℕ → ℕ → Option Schema
  -- the numbers of its chunks
  pub chunks : List ℕ → ℕ → List (ArrayVec ℕ)
  -- it tells that its versions have the rows of this database
  pub tells : Database → Type 0
  -- the chunks that were asked for, the first one first
  pub asked : List Asked
  pub damaged : Option ℕ
  pub faults : ℕ

-- the leaf is one of the source's, or of version 0
abbrev pub Reads : SourceState → Leaf → Type 0
Reads source leaf = (leaf.version ≡ 0) ⊎ (source.stored leaf.name leaf.version ≡ Some leaf.schema)

-- version 0 stands for an array without versions: it has no chunks
abbrev pub version_chunks : (List ℕ → ℕ → List (ArrayVec ℕ)) → List ℕ → ℕ → List (ArrayVec ℕ)
version_chunks chunks name zero = []
version_chunks chunks name (suc n) = chunks name (suc n)

abbrev pub listed : SourceState → Leaf → List (ArrayVec ℕ)
listed source leaf = version_chunks source.chunks leaf.name leaf.version

abbrev pub numbers_of : List (ArrayVec ℕ) → List ChunkNumber
numbers_of = map (λ at. at.items)

abbrev pub is_among : ArrayVec ℕ → List (ArrayVec ℕ) → Bool
is_among at chunks = is_listed at.items (numbers_of chunks)

-- a chunk as it is stored: of this number, with the schema's overlaps as margins, without a fault, and without a null where none
-- may be
pub record IsStored (schema : Schema) (at : ArrayVec ℕ) (chunk : Chunk) : Type 0 where
  pub number : chunk.at ≡ at
  pub valid : IsChunk schema (overlaps schema.dimensions) chunk
  pub sound : AllByRecursion (λ cell. IsTrue (is_sound schema.attributes cell)) chunk.cells

-- these are the chunks of an array with these rows, which has no fault: one for each core that holds a cell
pub record HasArray (leaf : Leaf) (rows : List Row) (chunks : List (ArrayVec ℕ)) : Type 0 where
  pub rows_of : AreRowsOf leaf.schema rows
  pub sound : AreSound leaf.schema rows
  pub listed : (k : ChunkNumber) → length k ≡ length leaf.schema.dimensions → is_listed k (numbers_of chunks) ≡ has_cell leaf.schema.dimensions rows k

-- a leaf in a database: the numbers of its chunks, one of them, and its array
abbrev pub AreNumbersIn : Database → Leaf → List (ArrayVec ℕ) → Type 0
AreNumbersIn db leaf chunks = IsValid leaf.schema → HasArray leaf (version_rows db leaf.name leaf.version) chunks

abbrev pub IsChunkIn : Database → Leaf → Chunk → Type 0
IsChunkIn db leaf = IsPart leaf.schema.dimensions (overlaps leaf.schema.dimensions) (version_rows db leaf.name leaf.version)

abbrev pub IsArrayIn : Database → Leaf → ChunkedArray → Type 0
IsArrayIn db leaf array = Is array (whole leaf.schema (version_rows db leaf.name leaf.version))

-- what no call changes, what is told neither, and a count that never falls
pub record Keeps (old new : SourceState) : Type 0 where
  pub stored : new.stored ≡ old.stored
  pub chunks : new.chunks ≡ old.chunks
  pub tells : (db : Database) → new.tells db ↔ old.tells db
  pub later : old.faults ≤ new.faults

-- A call fails only where the count of faults rises. It answers that a page is damaged only where the source then says so of that
-- page, which nothing else makes it say.
abbrev pub Blames : {T : Type 0} → SourceState → SourceState → Result T SourceFault → Type 0
Blames old new (Ok x) = new.damaged ≡ old.damaged
Blames old new (Err Failed) = Rose old.faults new.faults × (new.damaged ≡ old.damaged)
Blames old new (Err (Damaged page)) = new.damaged ≡ Some page
Blames old new (Err Memory) = new.damaged ≡ old.damaged

abbrev pub asks : ℕ → ArrayVec ℕ → Asked
asks number at = record { leaf = number; at = at }

-- A call adds its own chunk to those that were asked for. One without an answer may add nothing.
abbrev pub AsksFor : {T : Type 0} → ℕ → ArrayVec ℕ → SourceState → SourceState → Result T SourceFault → Type 0
AsksFor number at old new (Ok x) = new.asked ≡ old.asked ++ asks number at ∷ []
AsksFor number at old new (Err fault) = (new.asked ≡ old.asked) ⊎ (new.asked ≡ old.asked ++ asks number at ∷ [])

-- some first ones of these chunks were asked for, and no other
pub record AsksFront (all : List Asked) (old new : SourceState) : Type 0 where
  pub done : List Asked
  pub rest : List Asked
  pub in_order : all ≡ done ++ rest
  pub asked : new.asked ≡ old.asked ++ done
