-- What holds of the stored arrays at every moment.
use Rattle.std.specs.Prelude.{ℕ, ◌<◌, ◌≤◌, Bool, List, [], ◌∷◌, map, length, IsTrue}
use Rattle.std.specs.List.{AllByRecursion}
use Rattle.std.specs.Ordering.{nat_cmp, is_lt}
use Rattle.std.specs.Cmp.Lexicographic.{slice_cmp}
use Rattle.expr_nulls.specs.Naming.{IsName}
use Rattle.expr_nulls.specs.Schemas.{IsValid, attribute_names, dimension_names}
use Rattle.expr_nulls.specs.Schema.{Schema}
use Rattle.logical_plan.specs.declared.names.NameEntry.{NameEntry}
use Rattle.logical_plan.specs.declared.names.Names.{Names}
use Rattle.plan_changes.specs.declared.change.Change.{Change}
use Rattle.plan_changes.specs.declared.change.Change.TheVariants.{Create, Store, Insert, Remove, RemoveVersions}
use Rattle.plan_changes.specs.Allowed.{names_allow}
use Rattle.plan_changes.specs.Changes.{names_after}
use Rattle.plan_changes.specs.Databases.{Database, HoldsArrays, names_of}

-- one name comes before another, in byte order
abbrev pub is_before : List ℕ → List ℕ → Bool
is_before name next = is_lt (slice_cmp nat_cmp name next)

-- names that rise: each comes before the next one, so that none comes twice
abbrev pub NamesRise : List (List ℕ) → Type 0
NamesRise [] = Unit {0}
NamesRise (name ∷ []) = Unit {0}
NamesRise (name ∷ next ∷ names) = IsTrue (is_before name next) × NamesRise (next ∷ names)

-- numbers that rise, above one and below another
abbrev pub RiseBetween : ℕ → ℕ → List ℕ → Type 0
RiseBetween low high [] = Unit {0}
RiseBetween low high (number ∷ numbers) = (low < number) × (number < high) × RiseBetween number high numbers

-- each attribute and each dimension has a name
pub record HasNames (schema : Schema) : Type 0 where
  pub attributes : AllByRecursion IsName (attribute_names schema.attributes)
  pub dimensions : AllByRecursion IsName (dimension_names schema.dimensions)

-- an array's name and its valid schema of names, the number of its next version, and its versions, which rise from 1 below that
-- number
pub record IsStored (entry : NameEntry) : Type 0 where
  pub name : IsName entry.name
  pub schema : IsValid entry.schema
  pub named : HasNames entry.schema
  pub next : (1 ≤ entry.next) × (entry.next ≤ 65536)
  pub versions : RiseBetween 0 entry.next entry.versions

-- at most 1,024 arrays, by their rising names
pub record AreStored (names : Names) : Type 0 where
  pub count : length names.arrays ≤ 1024
  pub rising : NamesRise (map (λ entry. entry.name) names.arrays)
  pub each : AllByRecursion IsStored names.arrays

-- a database: such arrays, whose versions hold rows of their schema
pub record IsDatabase (db : Database) : Type 0 where
  pub names : AreStored (names_of db)
  pub rows : HoldsArrays db

-- the array of a change has a name, and the schema of one that it may make has names. An insert's schema is that of its array
abbrev pub HasItsNames : Change → Type 0
HasItsNames (Create name schema) = IsName name × HasNames schema
HasItsNames (Store name schema plan) = IsName name × HasNames schema
HasItsNames (Insert name schema plan) = IsName name
HasItsNames (Remove name) = IsName name
HasItsNames (RemoveVersions name below) = IsName name

-- a change that they allow leaves such names
abbrev pub ChangesKeepNames : Type 0
ChangesKeepNames = (names : Names) (change : Change) → AreStored names → HasItsNames change
    → IsTrue (names_allow names change) → AreStored (names_after names change)
