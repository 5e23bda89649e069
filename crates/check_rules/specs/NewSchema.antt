-- The rules of the schema that an operator makes: at most 6 dimensions, at most 64 attributes, at most 2^48 places in a chunk with its overlaps, in this order.
use Rattle.std.specs.Prelude.{length, nat_le, Ok}
use Rattle.cell_values.specs.declared.name.Span.{Span}
use Rattle.cell_values.specs.declared.schema.Schema.{Schema}
use Rattle.cell_values.specs.Schemas.{frame_fits}
use Rattle.afl_trees.specs.TypeKind.TheVariants.{TooManyDimensions, TooManyAttributes, ChunkTooLarge}
use Rattle.plan_schemas.specs.PlanSchema.{schema_of}
use Rattle.plan_schemas.specs.Query.{Query}
use Rattle.check_rules.specs.Checked.{Checked, demand}

abbrev pub by_new_schema : Span → Schema → Checked Query → Checked Query
by_new_schema s schema next =
    demand (nat_le (length schema.dimensions) 6) s TooManyDimensions
    (demand (nat_le (length schema.attributes) 64) s TooManyAttributes
    (demand (frame_fits schema.dimensions) s ChunkTooLarge next))

abbrev pub of_new_schema : Span → Query → Checked Query
of_new_schema s query = by_new_schema s (schema_of query) (Ok query)
