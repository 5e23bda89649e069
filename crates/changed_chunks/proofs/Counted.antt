-- How many chunks of its target an insert asks for.
use Rattle.std.proofs.Common.{◌≡◌, ℕ, List, Result, Ok, Err, ap, ◌∙◌}
use Rattle.std.specs.Prelude.{IfOk}
use Rattle.std.specs.List.{count_by}
use Rattle.arrayvec.specs.ArrayVec.{ArrayVec}
use Rattle.cell_values.specs.declared.datum.Row.{Row}
use Rattle.cell_values.specs.declared.schema.Schema.{Schema}
use Rattle.cell_values.specs.Schemas.{IsValid}
use Rattle.array_geom.specs.Link.{NumbersRise}
use Rattle.logical_plan.specs.declared.parts.Leaf.{Leaf}
use Rattle.logical_plan.specs.Meaning.{Database, version_rows}
use Rattle.chunk_source.specs.Source.{AreNumbersIn, SourceState, listed, numbers_of}
use Rattle.changed_chunks.specs.declared.traces.asking.Asking.{Asking}
use Rattle.changed_chunks.specs.Listed.{chunks_among, is_sized}
use Rattle.changed_chunks.specs.Traced.{asking_where}
use Rattle.changed_chunks.proofs.Counting.{asking_counted, told_where}
use Rattle.changed_chunks.specs.Targets.{asking_over, asking_put}
use Rattle.changed_chunks.specs.Wanted.{is_wanted, target_wanted}

-- what holds of each value holds of an answer
pub whatever : {T E : Type 0} (answer : Result T E) (P : T → Type 0) → ((x : T) → P x) → IfOk answer P
whatever (Ok x) P holds = holds x
whatever (Err fault) P holds = tt

abbrev these : ℕ → ℕ → Asking
these asked stored = record { asked = asked; stored = stored }

-- of these numbers, where these rows are put in
abbrev pub asking_among : Leaf → List Row → List (ArrayVec ℕ) → Asking
asking_among leaf rows numbers = asking_where (is_wanted leaf.schema.dimensions rows) (chunks_among leaf.schema.dimensions numbers)

-- the schema is that of the array that is put in, and both lists are counted as slices
pub asking_is : (leaf : Leaf) (schema : Schema) (rows : List Row) (numbers wanted first last : List (ArrayVec ℕ)) (asked stored : ℕ) → schema ≡ leaf.schema
    → wanted ≡ target_wanted schema.dimensions rows numbers → first ≡ numbers → last ≡ wanted
    → asked ≡ count_by (is_sized leaf.schema.dimensions) last → stored ≡ count_by (is_sized leaf.schema.dimensions) first → these asked stored ≡ asking_among leaf rows numbers
asking_is leaf schema rows numbers wanted first last asked stored same w f l a s =
    let dims = leaf.schema.dimensions in
    let chosen : last ≡ target_wanted dims rows numbers = l ∙ w ∙ ap (λ (z : Schema). target_wanted z.dimensions rows numbers) same in
    asking_counted dims (is_wanted dims rows) numbers asked stored (a ∙ ap (count_by (is_sized dims)) chosen) (s ∙ ap (count_by (is_sized dims)) f)

module _ (leaf : Leaf) (rows : List Row) (numbers : List (ArrayVec ℕ)) (asking : Asking) (is : asking ≡ asking_among leaf rows numbers) where
  pub asking_told : (db : Database) → IsValid leaf.schema → NumbersRise (numbers_of numbers) → AreNumbersIn db leaf numbers
      → asking ≡ asking_put leaf.schema.dimensions rows (version_rows db leaf.name leaf.version)
  asking_told db valid rise told = is ∙ told_where db leaf numbers (is_wanted leaf.schema.dimensions rows) valid rise told

  pub asking_listed : (source : SourceState) → numbers ≡ listed source leaf → asking ≡ asking_over source rows leaf
  asking_listed source same = is ∙ ap (asking_among leaf rows) same
