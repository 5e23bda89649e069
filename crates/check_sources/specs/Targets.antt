-- The rules of `redimension` on the dimensions and attributes of its target.
use Rattle.std.specs.Prelude.{ℕ, Bool, true, false, ◌==◌, nat_le, if◌then◌else◌, Option, Some, None, List, [], ◌∷◌}
use Rattle.std.specs.List.{list_all}
use Rattle.std.specs.Option.{option_or}
use Rattle.cell_values.specs.declared.schema.Attribute.{Attribute}
use Rattle.cell_values.specs.declared.schema.Dimension.{Dimension}
use Rattle.cell_values.specs.declared.schema.Kind.{Kind}
use Rattle.cell_values.specs.declared.schema.Schema.{Schema}
use Rattle.cell_values.specs.Schemas.{attribute_names, is_among}
use Rattle.schema_grammar.specs.declared.kinds.TypeKind.{TypeKind}
use Rattle.schema_grammar.specs.declared.kinds.TypeKind.TheVariants.{UnknownName, WrongType}
use Rattle.afl_trees.specs.Term.{Term}
use Rattle.logical_plan.specs.Groups.{first_some}
use Rattle.logical_plan.specs.Redimension.{Origin, counted, named, origin_of, value_origin}
use Rattle.logical_plan.specs.Typing.{aggregate_names, is_kind_of, is_origin}
use Rattle.logical_plan.specs.declared.parts.Aggregate.{Aggregate}

-- from neither a dimension nor an attribute of the source
abbrev pub is_counted : Origin → Bool
is_counted (counted lo) = true
is_counted origin = false

-- neither a dimension of the source nor an `int64` attribute of it
abbrev pub is_synthetic : Schema → Dimension → Bool
is_synthetic source d = is_counted (origin_of source d)

-- at most one dimension is synthetic, and none beside aggregates
abbrev pub may_count : ℕ → List Term → Bool
may_count n [] = nat_le n 1
may_count n (t ∷ ts) = n == 0

-- the rule that an attribute of this kind breaks, if any, where its values come from here
abbrev pub origin_fault : List Attribute → Kind → Origin → Option TypeKind
origin_fault attributes kind (counted lo) = Some UnknownName
origin_fault attributes kind origin = if is_origin attributes kind origin then None else Some WrongType

-- without aggregates an attribute is the source's attribute of its name, with its type, or its dimension of that name as `int64`
abbrev pub carried_fault : Schema → Attribute → Option TypeKind
carried_fault source a = origin_fault source.attributes a.kind (value_origin source a)

-- the same where its values are those of an aggregate
abbrev pub value_fault : List Attribute → Kind → Option Aggregate → Option TypeKind
value_fault attributes kind None = Some UnknownName
value_fault attributes kind (Some g) = if is_kind_of attributes kind (Some g) then None else Some WrongType

-- with aggregates an attribute is the aggregate of its name, with its type
abbrev pub gathered_fault : List Attribute → List Aggregate → Attribute → Option TypeKind
gathered_fault attributes gs a = value_fault attributes a.kind (named gs a.name)

-- and each aggregate is an attribute
abbrev pub unnamed_fault : List Attribute → List Aggregate → Option TypeKind
unnamed_fault attributes gs = if list_all (λ name. is_among name (attribute_names attributes)) (aggregate_names gs) then None else Some UnknownName

-- the first rule that the attributes of a target break, from left to right
abbrev pub attributes_fault : Schema → Schema → List Aggregate → Option TypeKind
attributes_fault source target [] = first_some (carried_fault source) target.attributes
attributes_fault source target gs = option_or (first_some (gathered_fault source.attributes gs) target.attributes) (unnamed_fault target.attributes gs)
