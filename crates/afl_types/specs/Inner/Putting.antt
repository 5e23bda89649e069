-- `store` and `insert`, by which of the two it is.
use Rattle.std.specs.Prelude.{ℕ, Option, Ok, List}
use Rattle.cell_values.specs.declared.name.Span.{Span}
use Rattle.cell_values.specs.declared.schema.Schema.{Schema}
use Rattle.schema_grammar.specs.declared.kinds.TypeKind.TheVariants.{TooManyArrays, UnknownArray}
use Rattle.afl_trees.specs.Term.{Term}
use Rattle.logical_plan.specs.PlanSchema.{schema_of}
use Rattle.logical_plan.specs.Query.{Query}
use Rattle.logical_plan.specs.declared.names.NameEntry.{NameEntry}
use Rattle.plan_changes.specs.Allowed.{has_room}
use Rattle.plan_changes.specs.Changes.{entry_named}
use Rattle.plan_changes.specs.declared.change.Change.{Change}
use Rattle.plan_changes.specs.declared.change.Change.TheVariants as change
use Rattle.check_rules.specs.Checked.{Checked, refused, demand, then}
use Rattle.afl_types.specs.Changes.{insert_target, inserted_schema, store_target, stored_schema, target_of}
use Rattle.afl_types.specs.declared.types.changes.put.Putting.{Putting}
use Rattle.afl_types.specs.declared.types.changes.put.Putting.TheVariants.{Store, Insert}
use Rattle.afl_types.specs.declared.types.changes.put.Target.{Target}

abbrev pub new_schema : Putting → List NameEntry → Span → Schema → Checked Schema
new_schema Store arrays t shape = demand (has_room arrays) t TooManyArrays (Ok shape)
new_schema Insert arrays t shape = refused t UnknownArray

abbrev pub put_schema : Putting → List NameEntry → Span → Span → Schema → Option NameEntry → Checked Schema
put_schema Store arrays s t shape entry = stored_schema arrays s t shape entry
put_schema Insert arrays s t shape entry = inserted_schema s t shape entry

abbrev pub put_in : Putting → List NameEntry → Span → Schema → Span → List ℕ → Checked Target
put_in putting arrays s shape t name = then (put_schema putting arrays s t shape (entry_named arrays name)) (target_of name)

abbrev pub put_target : Putting → List NameEntry → Span → Schema → Term → Checked Target
put_target Store arrays s shape n = store_target arrays s shape n
put_target Insert arrays s shape n = insert_target arrays s shape n

abbrev pub put_change : Putting → Target → Query → Change
put_change Store target plan = change.Store target.name target.schema plan
put_change Insert target plan = change.Insert target.name target.schema plan

abbrev pub put_call : Putting → List NameEntry → Span → Query → Term → Checked Change
put_call putting arrays s plan n = then (put_target putting arrays s (schema_of plan) n) (λ target. Ok (put_change putting target plan))
