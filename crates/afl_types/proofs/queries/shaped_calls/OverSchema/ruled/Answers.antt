use Rattle.std.proofs.Common.{◌≤◌, length, subst, sym}
use Rattle.cell_values.specs.declared.schema.Schema.{Schema}
use Rattle.check_rules.specs.Checked.{Answers}
use Rattle.afl_types.specs.Inner.BySchema.{by_schema}
use Rattle.afl_types.proofs.queries.shaped_calls.OverSchema.ruled.Goals as goal

pub by_schema-requires-clause-attributes : goal.by_schema-requires-clause-attributes
by_schema-requires-clause-attributes c = subst (λ (shape : Schema). length shape.attributes ≤ 64) (sym c.in-Ok.ensures) c.requires.attributes

pub by_schema-requires-clause-dimensions : goal.by_schema-requires-clause-dimensions
by_schema-requires-clause-dimensions c = subst (λ (shape : Schema). length shape.dimensions ≤ 6) (sym c.in-Ok.ensures) c.requires.dimensions

pub returns-in-Ok : goal.returns-in-Ok
returns-in-Ok c = subst (λ (shape : Schema). Answers c.by_schema.result (by_schema c.args.self c.args.span shape c.args.source c.args.arguments.now)) c.in-Ok.ensures c.by_schema.ensures
