-- A catalogue, and changes that its names allow.
use Rattle.std.specs.Prelude.{ℕ, ℤ, pos, Bool, true, false, List, [], ◌∷◌, codes}
use Rattle.cell_values.specs.declared.schema.Kind.TheVariants.{Int64}
use Rattle.cell_values.specs.declared.schema.Schema.{Schema}
use Rattle.logical_plan.specs.Query.{listed}
use Rattle.plan_changes.specs.declared.change.Change.{Change}
use Rattle.plan_changes.specs.declared.change.Change.TheVariants.{Create, Store, Insert}
use Rattle.version_catalog.specs.declared.rules.catalog.BlobAt.{BlobAt}
use Rattle.version_catalog.specs.declared.rules.catalog.Catalog.{Catalog}

-- <v:int64>[i=0:hi,2,0]
abbrev pub schema_to : ℤ → Schema
schema_to hi = record {
  attributes = record { name = codes "v"; kind = Int64; nullable = true } ∷ [];
  dimensions = record { name = codes "i"; lo = pos 0; hi = hi; chunk = 2; overlap = 0 } ∷ [];
}

-- <v:int64>[i=0:3,2,0]
abbrev pub worked_schema : Schema
worked_schema = schema_to (pos 3)

abbrev pub blob_in : ℕ → ℕ → BlobAt
blob_in length page = record { length = length; pages = page ∷ [] }

-- the array A with its versions 1 and 2
abbrev pub worked_catalog : Catalog
worked_catalog = record {
  arrays = record {
    entry = record { name = codes "A"; schema = worked_schema; next = 3; versions = 1 ∷ 2 ∷ [] };
    directories = blob_in 44 7 ∷ blob_in 8 8 ∷ [];
  } ∷ [];
}

-- no cells, inserted into an array of a name or stored in it
abbrev pub written : List ℕ → Bool → Change
written name true = Insert name worked_schema (listed worked_schema [])
written name false = Store name worked_schema (listed worked_schema [])

abbrev pub worked_create : Change
worked_create = Create (codes "B") worked_schema
