-- The rows of a plan's array, fitted to the schema under which they are stored.
use Rattle.std.proofs.Common.{◌≡◌, suc, List, [], ◌∷◌, length, Option, Some, None, Result, Ok, Err, refl, sym, ap, ◌∙◌, subst}
use Rattle.std.specs.Prelude.{IfOk}
use Rattle.std.specs.List.{AllByRecursion}
use Rattle.std.proofs.lemmas.Bool.{and_parts}
use Rattle.cell_values.specs.declared.datum.Broken.{Broken}
use Rattle.cell_values.specs.declared.datum.Cell.{Cell}
use Rattle.cell_values.specs.declared.datum.Cell.TheVariants.{Full, Doubt}
use Rattle.cell_values.specs.declared.datum.Datum.{Datum}
use Rattle.cell_values.specs.declared.datum.Row.{Row}
use Rattle.cell_values.specs.declared.schema.Attribute.{Attribute}
use Rattle.cell_values.specs.declared.schema.Schema.{Schema}
use Rattle.cell_values.specs.Cells.{AreOfKinds, IsCellOf}
use Rattle.cell_values.specs.Schemas.{IsValid}
use Rattle.array_rows.specs.Arrays.{AreRowsOf}
use Rattle.array_geom.specs.declared.chunk.ChunkedArray.{ChunkedArray}
use Rattle.array_geom.specs.Link.{HoldsResult, Is}
use Rattle.array_parts.specs.Cores.{HaveCells, cores_of}
use Rattle.array_parts.proofs.CoreLaws.{arrays_are_their_cores, cores_are_rows}
use Rattle.chunk_cells.specs.Fitted.{HasValues}
use Rattle.logical_plan.specs.declared.names.NameEntry.{NameEntry}
use Rattle.logical_plan.specs.CellOps.{fit_rows}
use Rattle.logical_plan.specs.Faults.{first_fault, if_whole}
use Rattle.logical_plan.specs.Meaning.{Meant, meaning}
use Rattle.logical_plan.specs.PlanSchema.{schema_of}
use Rattle.logical_plan.specs.Query.{Query}
use Rattle.logical_plan.specs.Typing.{same_bounds}
use Rattle.plan_changes.specs.Databases.{Database, fitted, rows_of}
use Rattle.plan_changes.specs.Kept.{MeansArray}
use Rattle.plan_changes.specs.Typed.{FitsInto, same_kinds}
use Rattle.plan_changes.proofs.FitLaws.{bounds_alike, fit_array, fit_sound, kinds_alike}
use Rattle.chunk_source.specs.Source.{SourceState}
use Rattle.changed_chunks.specs.Changing.{CanStore}
use Rattle.changed_chunks.specs.Inner.Input.{IsFound, MayBeStored, TakesRows, fitted_cores, found_cores}

-- ---- a schema that takes the rows of a plan's array

pub takes_rows : (source : SourceState) (schema : Schema) (plan : Query) → CanStore source schema plan → TakesRows schema (schema_of plan)
takes_rows source schema plan can = by_entry can.fits.0 can.fits.1
  where
    by_entry : (o : Option NameEntry) → FitsInto o schema plan → TakesRows schema (schema_of plan)
    by_entry None f = subst (TakesRows schema) f (record { bounds = refl; kinds = λ vs all. all })
    by_entry (Some entry) f =
        let both = and_parts (same_kinds schema.attributes (schema_of plan).attributes) (same_bounds schema.dimensions (schema_of plan).dimensions) f.1 in
        record { bounds = bounds_alike schema.dimensions (schema_of plan).dimensions both.1; kinds = kinds_alike schema.attributes (schema_of plan).attributes both.0 }

as_many : (attributes : List Attribute) (vs : List Datum) → AreOfKinds attributes vs → length vs ≡ length attributes
as_many [] [] all = refl
as_many [] (v ∷ vs) all = absurd all
as_many (a ∷ attributes) [] all = absurd all
as_many (a ∷ attributes) (v ∷ vs) all = ap suc (as_many attributes vs all.1)

has_values : (schema from : Schema) → TakesRows schema from → (cell : Cell) → IsCellOf from.attributes cell → HasValues schema.attributes cell
has_values schema from takes (Full vs) is = as_many schema.attributes vs (takes.kinds vs is)
has_values schema from takes (Doubt kind) is = tt

have_values : (schema from : Schema) → TakesRows schema from → (rows : List Row) → AllByRecursion (λ row. IsCellOf from.attributes row.cell) rows → AllByRecursion (λ row. HasValues schema.attributes row.cell) rows
have_values schema from takes [] all = tt
have_values schema from takes (row ∷ rows) all = (has_values schema from takes row.cell all.0, have_values schema from takes rows all.1)

-- the rows of an array's cores can be fitted
pub can_fit : (schema : Schema) (array : ChunkedArray) (attributes : List Attribute) (rows : List Row) → HaveCells array.schema array.margins.items array.chunks → TakesRows schema array.schema → attributes ≡ schema.attributes → rows ≡ cores_of array
    → AllByRecursion (λ row. HasValues attributes row.cell) rows
can_fit schema array attributes rows cells takes a e =
    let are = cores_are_rows array.schema array.margins.items array.chunks cells in
    let have = have_values schema array.schema takes (cores_of array) are.kinds in
    subst (λ (rs : List Row). AllByRecursion (λ row. HasValues attributes row.cell) rs) (sym e)
    (subst (λ (z : List Attribute). AllByRecursion (λ row. HasValues z row.cell) (cores_of array)) (sym a) have)

-- ---- what a plan means

rows_held : (schema : Schema) (array : ChunkedArray) (rows : Result (List Row) Broken) → HoldsResult schema array rows → IfOk rows (AreRowsOf schema)
rows_held schema array (Ok rows) holds = holds.rows_of
rows_held schema array (Err broken) holds = tt

-- where an array of its schema is what a plan means, it means an array
pub means_array : (db : Database) (plan : Query) (array : ChunkedArray) → array.schema ≡ schema_of plan → Is array (meaning (rows_of db) plan) → MeansArray db plan
means_array db plan array same is =
    subst (λ (schema : Schema). IfOk (meaning (rows_of db) plan).rows (AreRowsOf schema)) (sym is.schema ∙ same) (rows_held (meaning (rows_of db) plan).schema array (meaning (rows_of db) plan).rows is.cells)

-- ---- what is found

-- fitted rows without a fault may be stored
pub may_be_stored : (schema : Schema) (array : ChunkedArray) (rows : List Row) (found : Result (List Row) Broken) → IsValid schema → HaveCells array.schema array.margins.items array.chunks → TakesRows schema array.schema
    → rows ≡ fit_rows schema.attributes (cores_of array) → IsFound (Ok rows) found → IfOk found (MayBeStored schema)
may_be_stored schema array rows (Err broken) valid cells takes f is = tt
may_be_stored schema array rows (Ok some) valid cells takes f is =
    let from = array.schema in
    let cores = cores_of array in
    let same : some ≡ fit_rows schema.attributes cores = let e : rows ≡ some = cc in sym e ∙ f in
    let none : first_fault (fit_rows schema.attributes cores) ≡ None = ap first_fault (sym f) ∙ is.1 in
    subst (MayBeStored schema) (sym same) (record {
      rows_of = fit_array schema from cores valid takes.bounds takes.kinds (cores_are_rows from array.margins.items array.chunks cells);
      sound = fit_sound schema cores none;
    })

-- what is found of an array is found of what it stands for
pub found_there : (db : Database) (schema : Schema) (plan : Query) (array : ChunkedArray) (found : Result (List Row) Broken) → Is array (meaning (rows_of db) plan) → IsFound (fitted_cores schema array) found → IsFound (fitted schema plan db) found
found_there db schema plan array found is f =
    subst (λ (m : Meant). IsFound (if_whole (fit_rows schema.attributes) m.rows) found) (arrays_are_their_cores array (meaning (rows_of db) plan) is) f

-- what is found of rows is found of an array of them
pub found_on : {E : Type 0} (fitted found : Result (List Row) Broken) (answer : Result (Result ChunkedArray Broken) E) → IsFound fitted found → IfOk answer (λ made. found_cores made ≡ found) → IfOk answer (λ made. IsFound fitted (found_cores made))
found_on fitted found (Ok made) is e = subst (IsFound fitted) (sym e) is
found_on fitted found (Err error) is e = tt
