-- The operators whose arguments are read by the schema of their source.
use Rattle.std.specs.Prelude.{Ok, List}
use Rattle.cell_values.specs.declared.name.Span.{Span}
use Rattle.cell_values.specs.declared.schema.Schema.{Schema}
use Rattle.afl_trees.specs.Term.{Term}
use Rattle.logical_plan.specs.Query.{Query, aggregated, redimensioned, regridded, windowed, sorted, ranked, cumulated, unpacked, xgridded}
use Rattle.check_rules.specs.Checked.{Checked, then}
use Rattle.check_rules.specs.NewSchema.{of_new_schema}
use Rattle.check_joins.specs.Blocks.{regrid_parts}
use Rattle.check_joins.specs.Groups.{aggregate_parts}
use Rattle.check_joins.specs.Windows.{window_parts}
use Rattle.check_groups.specs.Cumulations.{cumulate_parts}
use Rattle.check_shapes.specs.Rank.{rank_parts}
use Rattle.check_shapes.specs.Sort.{sort_parts}
use Rattle.check_shapes.specs.Unpack.{unpack_parts}
use Rattle.check_shapes.specs.Xgrid.{xgrid_parts}
use Rattle.check_sources.specs.Redimension.{redimension_parts}
use Rattle.afl_types.specs.declared.queries.shaped_calls.OverSchema.{OverSchema}
use Rattle.afl_types.specs.declared.queries.shaped_calls.OverSchema.TheVariants.{Redimension, Regrid, Window, Aggregate, Sort, Rank, Cumulate, Unpack, Xgrid}

-- the plan over a source of this schema
abbrev pub by_schema : OverSchema → Span → Schema → Query → List Term → Checked Query
by_schema Redimension s shape source arguments = then (redimension_parts s shape arguments) (λ p. Ok (redimensioned source p.schema p.aggregates))
by_schema Regrid s shape source arguments = then (regrid_parts s shape arguments) (λ p. of_new_schema s (regridded source p.sizes p.aggregates))
by_schema Window s shape source arguments = then (window_parts s shape arguments) (λ p. of_new_schema s (windowed source p.reach p.aggregates))
by_schema Aggregate s shape source arguments = then (aggregate_parts s shape arguments) (λ p. of_new_schema s (aggregated source p.aggregates p.places))
by_schema Sort s shape source arguments = then (sort_parts s shape arguments) (λ p. of_new_schema s (sorted source p.keys p.schema))
by_schema Rank s shape source arguments = then (rank_parts s shape arguments) (λ p. of_new_schema s (ranked source p.attribute p.dimensions))
by_schema Cumulate s shape source arguments = then (cumulate_parts s shape arguments) (λ p. of_new_schema s (cumulated source p.aggregates p.dimension))
by_schema Unpack s shape source arguments = then (unpack_parts s shape arguments) (λ schema. of_new_schema s (unpacked source schema))
by_schema Xgrid s shape source arguments = then (xgrid_parts s shape arguments) (λ sizes. of_new_schema s (xgridded source sizes))
