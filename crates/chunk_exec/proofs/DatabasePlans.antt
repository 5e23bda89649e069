-- Typed plans over a database mean arrays.
use Rattle.std.proofs.Common.{List, [], ◌∷◌, map}
use Rattle.std.specs.List.{AllByRecursion}
use Rattle.array_rows.specs.Arrays.{AreRowsOf}
use Rattle.logical_plan.specs.declared.parts.Leaf.{Leaf}
use Rattle.logical_plan.specs.Leaves.{leaves}
use Rattle.logical_plan.specs.Meaning.{version_rows}
use Rattle.plan_changes.specs.Changes.{entry_named}
use Rattle.plan_changes.specs.Databases.{Database, entry_of, rows_of}
use Rattle.plan_changes.specs.Stored.{IsDatabase}
use Rattle.plan_changes.specs.Typed.{IsVersionOf}
use Rattle.plan_changes.proofs.DatabaseLaws.{leaf_rows}
use Rattle.chunk_exec.specs.Laws.{TypedPlansMeanArrays}
use Rattle.chunk_exec.proofs.PlanArrays.{plan_arrays}

all_leaves : (db : Database) → IsDatabase db → (ls : List Leaf) → AllByRecursion (λ leaf. IsVersionOf leaf (entry_named (map entry_of db) leaf.name)) ls → AllByRecursion (λ leaf. AreRowsOf leaf.schema (version_rows (rows_of db) leaf.name leaf.version)) ls
all_leaves db is [] h = tt
all_leaves db is (leaf ∷ ls) h = (leaf_rows db is leaf h.0, all_leaves db is ls h.1)

pub typed_plans_mean_arrays : TypedPlansMeanArrays
typed_plans_mean_arrays db plan is typed fit = plan_arrays (rows_of db) plan typed.typed (all_leaves db is (leaves plan) typed.reads) fit
