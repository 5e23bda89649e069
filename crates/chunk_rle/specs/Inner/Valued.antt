-- The values of runs, where a payload is read into columns.
use Rattle.std.specs.Prelude.{◌≡◌, ℕ, ℤ, List, length, Option, Some, None, Result, Ok}
use Rattle.arrayvec.specs.ArrayVec.{ArrayVec}
use Rattle.file_items.specs.Items.{◌>>=◌, repeat}
use Rattle.array_geom.specs.Datum.{Datum}
use Rattle.array_geom.specs.Datum.TheVariants.{Int}
use Rattle.array_geom.specs.Attribute.{Attribute}
use Rattle.array_geom.specs.declared.chunk.Chunk.{Chunk}
use Rattle.chunk_rle.specs.declared.runs.NumberRun.{NumberRun}
use Rattle.chunk_rle.specs.declared.runs.PosRun.{PosRun}
use Rattle.chunk_rle.specs.declared.runs.Run.{Run}
use Rattle.chunk_rle.specs.declared.runs.Column.{Column}
use Rattle.chunk_rle.specs.declared.runs.ChunkRuns.{ChunkRuns}
use Rattle.chunk_rle.specs.Chunks.{all_values, cells_from}
use Rattle.chunk_rle.specs.Longest.{positions_of, values_of}
use Rattle.chunk_rle.specs.Table.{run_at, with_values, no_values}

abbrev pub as_value : Option ℤ → Option Datum
as_value None = None
as_value (Some number) = Some (Int number)

abbrev pub as_run : NumberRun → Run
as_run run = record { length = run.length; value = Int run.number }

-- what is read, and the bytes after it
abbrev pub Gives : {A : Type 0} → Result (A × List ℕ) ℕ → A → List ℕ → Type 0
Gives read x rest = read ≡ Ok (x, rest)

abbrev pub valued : Result (List Run × List ℕ) ℕ → Result (List Datum × List ℕ) ℕ
valued read = read >>= λ x. Ok (values_of x.0, x.1)

abbrev pub valued_column : Result (Column × List ℕ) ℕ → Result (List Datum × List ℕ) ℕ
valued_column read = read >>= λ x. Ok (values_of x.0.runs, x.1)

abbrev pub valued_columns : Result (List Column × List ℕ) ℕ → Result (List (List Datum) × List ℕ) ℕ
valued_columns read = read >>= λ x. Ok (all_values x.0, x.1)

abbrev pub valued_payload : Result ChunkRuns ℕ → Result (List PosRun × List (List Datum)) ℕ
valued_payload read = read >>= λ runs. Ok (runs.positions, all_values runs.columns)

-- the values of so many runs of an attribute, and the bytes after them
abbrev pub AreValuesOf : Attribute → ℕ → ℕ → List ℕ → List Datum → List ℕ → Type 0
AreValuesOf attribute n count bytes values rest = Gives (valued (repeat (run_at attribute n) with_values count no_values bytes)) values rest

abbrev pub chunk_of_values : ArrayVec ℕ → List PosRun → List (List Datum) → Chunk
chunk_of_values at runs columns = record { at = at; positions = positions_of runs; cells = cells_from 0 (length (positions_of runs)) columns }
