-- Plans of operators over the array, and over one with a cell in doubt.
use Rattle.std.specs.Prelude.{ℕ, pos, false, List, [], ◌∷◌, codes}
use Rattle.cell_values.specs.declared.schema.Dimension.{Dimension}
use Rattle.cell_values.specs.declared.schema.Kind.TheVariants.{Int64}
use Rattle.cell_values.specs.declared.schema.Schema.{Schema}
use Rattle.logical_plan.specs.declared.parts.AggFunction.TheVariants.{Sum}
use Rattle.logical_plan.specs.declared.parts.Aggregate.{Aggregate}
use Rattle.logical_plan.specs.Query.{Query, scanned, sorted, ranked, cumulated, transposed, reversed, unpacked, xgridded, merged, concatenated}
use Rattle.test_sources.specs.Changed.{by_zero}
use Rattle.test_sources.specs.Example.{above_five, attributes, leaf}
use Rattle.test_sources.specs.declared.layout.Layout.TheVariants.{Pairs}
use Rattle.test_sources.specs.declared.operators.Input.{Input}
use Rattle.test_sources.specs.declared.operators.Input.TheVariants.{Stored, Doubtful}
use Rattle.test_sources.specs.declared.operators.Operator.{Operator}
use Rattle.test_sources.specs.declared.operators.Operator.TheVariants.{Sort, Rank, Cumulate, Transpose, Reverse, Unpack, Xgrid, Merge, Concat}

abbrev pub stored : Query
stored = scanned (leaf Pairs)

abbrev pub input_of : Input → Query
input_of Stored = stored
input_of Doubtful = by_zero Pairs

-- the cells of which those of another array stand behind
abbrev pub front_of : Input → Query
front_of Stored = above_five Pairs
front_of Doubtful = by_zero Pairs

-- `NAME=0:*,1000,0`
abbrev pub counting : List ℕ → Dimension
counting name = record { name = name; lo = pos 0; hi = pos 4611686018427387903; chunk = 1000; overlap = 0 }

-- <v:int64>[n=0:*,1000,0]
abbrev pub sorted_schema : Schema
sorted_schema = record { attributes = attributes; dimensions = counting (codes "n") ∷ [] }

-- <i:int64 not null,v:int64>[r=0:*,1000,0]
abbrev pub unpacked_schema : Schema
unpacked_schema = record {
  attributes = record { name = codes "i"; kind = Int64; nullable = false } ∷ attributes;
  dimensions = counting (codes "r") ∷ [];
}

abbrev pub total : Aggregate
total = record { function = Sum; attribute = 0; name = codes "v_sum" }

abbrev pub plan_of : Operator → Input → Query
plan_of Sort input = sorted (input_of input) (0 ∷ []) sorted_schema
plan_of Rank input = ranked (input_of input) 0 []
plan_of Cumulate input = cumulated (input_of input) (total ∷ []) 0
plan_of Transpose input = transposed (input_of input)
plan_of Reverse input = reversed (input_of input)
plan_of Unpack input = unpacked (input_of input) unpacked_schema
plan_of Xgrid input = xgridded (input_of input) (2 ∷ [])
plan_of Merge input = merged (front_of input) (reversed stored)
plan_of Concat input = concatenated (input_of input) stored
