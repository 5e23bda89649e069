-- Leaves and the arrays that they are.
use Rattle.std.proofs.Common.{◌≡◌, ◌⊎◌, inl, inr, ℕ, zero, suc, Bool, true, false, cond, List, [], ◌∷◌, map, length, find, Option, Some, None, Result, Ok, Err, refl, sym, ap, ◌∙◌, subst}
use Rattle.std.specs.Prelude.{IfOk}
use Rattle.std.specs.List.{AllByRecursion, Contains}
use Rattle.arrayvec.specs.ArrayVec.{ArrayVec}
use Rattle.cell_values.specs.declared.datum.Row.{Row}
use Rattle.cell_values.specs.declared.schema.Schema.{Schema}
use Rattle.cell_values.specs.Schemas.{IsValid}
use Rattle.array_geom.specs.declared.chunk.Chunk.{Chunk}
use Rattle.array_geom.specs.Chunks.{IsChunk}
use Rattle.array_geom.specs.Geometry.{ChunkNumber, overlaps}
use Rattle.array_geom.specs.Link.{NumbersRise, numbers, is_listed, has_cell, IsPart}
use Rattle.logical_plan.specs.declared.parts.Leaf.{Leaf}
use Rattle.logical_plan.specs.Meaning.{Database, version_rows}
use Rattle.chunk_source.specs.Source.{version_chunks, numbers_of, is_among, IsStored, HasArray}
use Rattle.chunk_source.specs.Laws.{HasSoundCells}
use Rattle.chunk_source.proofs.ValidLaws.{valid_chunks, sound_chunks}
use Rattle.chunk_source.specs.declared.memory.leaf_array.LeafArray.{LeafArray}
use Rattle.chunk_source.specs.Found.{IsStoredArray, rows_of, array_of, schema_of, numbers_in, chunks_of, rows_found, database_of, IsRead, listed_of, leaf_rows}
use Rattle.chunk_source.proofs.SearchLaws.{of_each}

-- what holds of each array holds of one that is found
found_of_each : (P : LeafArray → Type 0) (test : LeafArray → Bool) (arrays : List LeafArray) (stored : LeafArray) → AllByRecursion P arrays → find test arrays ≡ Some stored → P stored
found_of_each P test [] stored a e = absurd cc
found_of_each P test (s ∷ arrays) stored a e = cases (test s) e (found_of_each P test arrays stored a.1)
  where
    cases : (t : Bool) → cond t (Some s) (find test arrays) ≡ Some stored → (find test arrays ≡ Some stored → P stored) → P stored
    cases true e rest = let f : s ≡ stored = cc in subst P f a.0
    cases false e rest = rest e

later_rows : (db : Database) (name : List ℕ) (version : ℕ) → (version ≡ 0 → ⊥) → version_rows db name version ≡ db name version
later_rows db name zero h = absurd (h refl)
later_rows db name (suc n) h = refl

later_chunks : (chunks : List ℕ → ℕ → List (ArrayVec ℕ)) (name : List ℕ) (version : ℕ) → (version ≡ 0 → ⊥) → version_chunks chunks name version ≡ chunks name version
later_chunks chunks name zero h = absurd (h refl)
later_chunks chunks name (suc n) h = refl

no_rows : (db : Database) (name : List ℕ) (version : ℕ) → version ≡ 0 → version_rows db name version ≡ []
no_rows db name version e = ap (version_rows db name) e

pub no_chunks : (chunks : List ℕ → ℕ → List (ArrayVec ℕ)) (name : List ℕ) (version : ℕ) → version ≡ 0 → version_chunks chunks name version ≡ []
no_chunks chunks name version e = ap (version_chunks chunks name) e

-- the array of a leaf
pub record IsFound (arrays : List LeafArray) (leaf : Leaf) (stored : LeafArray) : Type 0 where
  pub schema : stored.leaf.schema ≡ leaf.schema
  pub kept : IsStoredArray stored
  pub rows : leaf_rows arrays leaf ≡ rows_of stored
  pub chunks : listed_of arrays leaf ≡ numbers_in stored.array.chunks

same_some : (a b : Schema) → Some a ≡ Some b → a ≡ b
same_some a b e = cc

pub found : (arrays : List LeafArray) (leaf : Leaf) (stored : LeafArray) → AllByRecursion IsStoredArray arrays → IsRead arrays leaf → (leaf.version ≡ 0 → ⊥) → array_of arrays leaf.name leaf.version ≡ Some stored → IsFound arrays leaf stored
found arrays leaf stored a reads later e = record {
  schema = cases reads;
  kept = found_of_each IsStoredArray _ arrays stored a e;
  rows = later_rows (database_of arrays) leaf.name leaf.version later ∙ ap rows_found e;
  chunks = later_chunks (λ name version. chunks_of (array_of arrays name version)) leaf.name leaf.version later ∙ ap chunks_of e;
}
  where
    cases : IsRead arrays leaf → stored.leaf.schema ≡ leaf.schema
    cases (inl zero_version) = absurd (later zero_version)
    cases (inr known) = same_some stored.leaf.schema leaf.schema (sym (ap schema_of e) ∙ known)

-- ---- the list of a leaf

numbers_twice : (chunks : List Chunk) → map (λ (at : ArrayVec ℕ). at.items) (numbers_in chunks) ≡ numbers chunks
numbers_twice [] = refl
numbers_twice (chunk ∷ chunks) = ap (λ (z : List ChunkNumber). chunk.at.items ∷ z) (numbers_twice chunks)

pub found_rising : (arrays : List LeafArray) (leaf : Leaf) (stored : LeafArray) → IsFound arrays leaf stored → NumbersRise (numbers_of (numbers_in stored.array.chunks))
found_rising arrays leaf stored f = subst NumbersRise (sym (numbers_twice stored.array.chunks)) f.kept.rows.chunks.in_order

pub found_array : (arrays : List LeafArray) (leaf : Leaf) (stored : LeafArray) → IsFound arrays leaf stored → HasArray leaf (leaf_rows arrays leaf) (numbers_in stored.array.chunks)
found_array arrays leaf stored f = subst (λ (rows : List Row). HasArray leaf rows (numbers_in stored.array.chunks)) (sym f.rows) (at_schema f.schema)
  where
    its_own : HasArray stored.leaf (rows_of stored) (numbers_in stored.array.chunks)
    its_own = record {
      rows_of = f.kept.rows.rows_of;
      sound = f.kept.sound;
      listed = λ k l. ap (is_listed k) (numbers_twice stored.array.chunks) ∙ f.kept.rows.chunks.listed k l;
    }

    moved : (leaf : Leaf) (schema : Schema) → stored.leaf.schema ≡ schema → leaf.schema ≡ schema → HasArray leaf (rows_of stored) (numbers_in stored.array.chunks)
    moved leaf schema e g = record {
      rows_of = rw (g ∙ sym e) its_own.rows_of;
      sound = rw (g ∙ sym e) its_own.sound;
      listed = rw (g ∙ sym e) its_own.listed;
    }

    at_schema : stored.leaf.schema ≡ leaf.schema → HasArray leaf (rows_of stored) (numbers_in stored.array.chunks)
    at_schema e = moved leaf leaf.schema e refl

-- a version 0 has no cells
pub empty_array : (arrays : List LeafArray) (leaf : Leaf) → leaf.version ≡ 0 → IsValid leaf.schema → HasArray leaf (leaf_rows arrays leaf) []
empty_array arrays leaf e valid = subst (λ (rows : List Row). HasArray leaf rows []) (sym (no_rows (database_of arrays) leaf.name leaf.version e)) (record {
  rows_of = record { valid = valid; are_rows = record { rising = tt; in_bounds = tt }; kinds = tt };
  sound = tt;
  listed = λ k l. refl;
})

-- ---- a chunk of a leaf

-- a leaf with a chunk is of no version 0
pub later_version : (arrays : List LeafArray) (leaf : Leaf) (at : ArrayVec ℕ) → is_among at (listed_of arrays leaf) ≡ true → leaf.version ≡ 0 → ⊥
later_version arrays leaf at e z =
    let f : false ≡ true = sym (ap (is_among at) (no_chunks (λ name version. chunks_of (array_of arrays name version)) leaf.name leaf.version z)) ∙ e in cc

pub found_listed : (arrays : List LeafArray) (leaf : Leaf) (stored : LeafArray) (at : ArrayVec ℕ) → IsFound arrays leaf stored → is_among at (listed_of arrays leaf) ≡ true → is_listed at.items (numbers stored.array.chunks) ≡ true
found_listed arrays leaf stored at f e = sym (ap (is_listed at.items) (ap numbers_of f.chunks ∙ numbers_twice stored.array.chunks)) ∙ e

pub found_stored : (arrays : List LeafArray) (leaf : Leaf) (stored : LeafArray) (at : ArrayVec ℕ) (chunk : Chunk) → IsFound arrays leaf stored → Contains stored.array.chunks chunk → chunk.at ≡ at → IsStored leaf.schema at chunk
found_stored arrays leaf stored at chunk f among e = record {
  number = e;
  valid = subst (λ (s : Schema). IsChunk s (overlaps s.dimensions) chunk) f.schema
      (subst (λ (margins : List ℕ). IsChunk stored.leaf.schema margins chunk) f.kept.margins (of_each (IsChunk stored.leaf.schema stored.array.margins.items) stored.array.chunks chunk (valid_chunks stored.leaf.schema stored.array (rows_of stored) f.kept.rows) among));
  sound = subst (λ (s : Schema). HasSoundCells s chunk) f.schema (of_each (HasSoundCells stored.leaf.schema) stored.array.chunks chunk (sound_chunks stored.leaf.schema stored.array (rows_of stored) f.kept.rows f.kept.sound) among);
}

pub found_part : (arrays : List LeafArray) (leaf : Leaf) (stored : LeafArray) (chunk : Chunk) → IsFound arrays leaf stored → Contains stored.array.chunks chunk → IsPart leaf.schema.dimensions (overlaps leaf.schema.dimensions) (leaf_rows arrays leaf) chunk
found_part arrays leaf stored chunk f among =
    subst (λ (rows : List Row). IsPart leaf.schema.dimensions (overlaps leaf.schema.dimensions) rows chunk) (sym f.rows)
    (subst (λ (s : Schema). IsPart s.dimensions (overlaps s.dimensions) (rows_of stored) chunk) f.schema
    (subst (λ (margins : List ℕ). IsPart stored.leaf.schema.dimensions margins (rows_of stored) chunk) f.kept.margins (of_each (IsPart stored.leaf.schema.dimensions stored.array.margins.items (rows_of stored)) stored.array.chunks chunk f.kept.rows.chunks.parts among)))

-- what holds of a value holds of its copy
pub of_copy : {A E : Type 0} (P : A → Type 0) (answer : Result A E) (x : A) → IfOk answer (λ copy. copy ≡ x) → P x → IfOk answer P
of_copy P (Err e) x is h = tt
of_copy P (Ok copy) x is h = subst P (sym is) h
