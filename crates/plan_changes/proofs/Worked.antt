-- A database of one array, and the number of its cells stored as another one. Over a database with 2^63 cells that number is no
-- value, so that the plan means an array over this database and not over each.
use Rattle.std.proofs.Common.{◌≡◌, pos, true, None, List, [], ◌∷◌, refl, codes, arith}
use Rattle.expr_nulls.specs.Cell.TheVariants.{Full}
use Rattle.expr_nulls.specs.Datum.TheVariants.{Int}
use Rattle.expr_nulls.specs.Row.{Row}
use Rattle.expr_nulls.specs.Schema.{Schema}
use Rattle.expr_nulls.specs.Kind.TheVariants.{Int64}
use Rattle.logical_plan.specs.Rows.{placed}
use Rattle.logical_plan.specs.PlanSchema.{schema_of}
use Rattle.logical_plan.specs.Query.{Query, scanned, aggregated}
use Rattle.logical_plan.specs.declared.parts.AggFunction.TheVariants.{CountAll}
use Rattle.plan_changes.specs.declared.change.Change.{Change}
use Rattle.plan_changes.specs.declared.change.Change.TheVariants.{Store}
use Rattle.plan_changes.specs.Databases.{Database, fault_of_change, after, rows_of}
use Rattle.plan_changes.specs.Kept.{StoresArray}
use Rattle.plan_changes.specs.Stored.{IsDatabase}

line : Schema
line = record { attributes = record { name = codes "v"; kind = Int64; nullable = true } ∷ []; dimensions = record { name = codes "i"; lo = pos 0; hi = pos 4; chunk = 5; overlap = 0 } ∷ [] }

cells : List Row
cells = placed (pos 1 ∷ []) (Full (Int (pos 7) ∷ [])) ∷ placed (pos 3 ∷ []) (Full (Int (pos 8) ∷ [])) ∷ []

db : Database
db = record { name = codes "A"; schema = line; next = 2; versions = record { number = 1; rows = cells } ∷ [] } ∷ []

is_one : IsDatabase db
unfolding db line cells
is_one = record {
  names = record {
    count = omega arith;
    rising = tt;
    each = (record { name = refl; schema = refl; named = record { attributes = (refl, tt); dimensions = (refl, tt) }; next = (omega arith, omega arith); versions = (omega arith, omega arith, tt) }, tt);
  };
  rows = (((record { valid = refl; are_rows = record { rising = ((refl, tt), (tt, tt)); in_bounds = (refl, (refl, tt)) }; kinds = ((refl, tt), ((refl, tt), tt)) }, (refl, (refl, tt))), tt), tt);
}

-- aggregate(A, count(*) as n)
plan : Query
plan = aggregated (scanned (record { name = codes "A"; version = 1; schema = line })) (record { function = CountAll; attribute = 0; name = codes "n" } ∷ []) []

change : Change
change = Store (codes "B") (schema_of plan) plan

stores : StoresArray db change
unfolding change plan db line cells
stores = record { valid = refl; are_rows = record { rising = (tt, tt); in_bounds = (refl, tt) }; kinds = ((refl, tt), tt) }

no_fault : fault_of_change db change ≡ None
unfolding change plan db line cells
no_fault = refl

stored : rows_of (after db change) (codes "B") 1 ≡ placed (pos 0 ∷ []) (Full (Int (pos 2) ∷ [])) ∷ []
unfolding change plan db line cells
stored = refl
