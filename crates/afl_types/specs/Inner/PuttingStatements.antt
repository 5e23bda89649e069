-- Statements that put a version, by which of the two it is.
use Rattle.std.specs.Prelude.{List}
use Rattle.cell_values.specs.declared.name.Span.{Span}
use Rattle.afl_trees.specs.Term.{Term, Terms}
use Rattle.logical_plan.specs.declared.names.NameEntry.{NameEntry}
use Rattle.plan_changes.specs.declared.change.Change.{Change}
use Rattle.check_rules.specs.Checked.{Checked, then}
use Rattle.afl_types.specs.Queries.{query_of}
use Rattle.afl_types.specs.Statements.{insert_of, store_of}
use Rattle.afl_types.specs.Inner.Putting.{put_call}
use Rattle.afl_types.specs.declared.types.changes.put.Putting.{Putting}
use Rattle.afl_types.specs.declared.types.changes.put.Putting.TheVariants.{Store, Insert}

abbrev pub put_two : Putting → List NameEntry → Span → Term → Term → Checked Change
put_two putting arrays s q n = then (query_of arrays q) (λ plan. put_call putting arrays s plan n)

abbrev pub put_of : Putting → List NameEntry → Span → Terms → Checked Change
put_of Store arrays s arguments = store_of arrays s arguments
put_of Insert arrays s arguments = insert_of arrays s arguments
