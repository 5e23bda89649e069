-- `rank`: the name of an attribute of numbers or texts, and then names of dimensions, each of which is there and named once. The name of the
-- rank is not too long, and neither the attribute's nor a dimension's.
use Rattle.std.specs.Prelude.{ℕ, Bool, not, codes, slice_get, Option, Some, None, Ok, List, [], ◌∷◌, ◌++◌}
use Rattle.cell_values.specs.declared.name.Span.{Span}
use Rattle.cell_values.specs.declared.schema.Attribute.{Attribute}
use Rattle.cell_values.specs.declared.schema.Dimension.{Dimension}
use Rattle.cell_values.specs.declared.schema.Kind.TheVariants.{Int64, Str}
use Rattle.cell_values.specs.declared.schema.Schema.{Schema}
use Rattle.cell_values.specs.Schemas.{dimension_names, is_among}
use Rattle.schema_grammar.specs.declared.kinds.TypeKind.TheVariants.{RepeatedName, UnknownName, WrongCount, WrongType}
use Rattle.afl_trees.specs.Term.{Term, reference}
use Rattle.afl_trees.specs.Grammar.{span_of}
use Rattle.logical_plan.specs.Typing.{is_of_some_kind}
use Rattle.check_rules.specs.Checked.{Checked, refused, demand, then}
use Rattle.check_rules.specs.InTurn.{in_turn}
use Rattle.check_rules.specs.Sorts.{is_name, first_but, unless_other}
use Rattle.check_exprs.specs.Expressions.{attribute_place}
use Rattle.check_groups.specs.Names.{dimension_one, short_name}
use Rattle.check_shapes.specs.declared.rank.Ranking.{Ranking}

-- an attribute of numbers or texts
abbrev pub has_order : Option Attribute → Bool
has_order = is_of_some_kind (Int64 ∷ Str ∷ [])

-- the place of an attribute that there is
abbrev pub ranked_place : List Attribute → Span → Option ℕ → Checked ℕ
ranked_place attributes s (Some place) = demand (has_order (slice_get attributes place)) s WrongType (Ok place)
ranked_place attributes s None = refused s UnknownName

-- a name that is too long is told at the whole call, one that is given at the attribute's name
abbrev pub rank_name_fits : Span → Span → List Dimension → List ℕ → Checked (Unit {0})
rank_name_fits s at dimensions name =
    then (short_name s (name ++ codes "_rank")) (λ rank. demand (not (is_among rank (name ∷ dimension_names dimensions))) at RepeatedName (Ok tt))

abbrev pub rank_of : Span → Schema → Span → List ℕ → List Term → Checked Ranking
rank_of s source at name names =
    unless_other (first_but is_name names)
    (then (ranked_place source.attributes at (attribute_place source.attributes name)) (λ attribute.
    then (in_turn (dimension_one source.dimensions) [] names) (λ places.
    then (rank_name_fits s at source.dimensions name) (λ fits. Ok (record { attribute = attribute; dimensions = places })))))

abbrev pub rank_first : Span → Schema → Term → List Term → Checked Ranking
rank_first s source (reference at name) names = rank_of s source at name names
rank_first s source t names = refused (span_of t) WrongType

abbrev pub rank_parts : Span → Schema → List Term → Checked Ranking
rank_parts s source [] = refused s WrongCount
rank_parts s source (t ∷ names) = rank_first s source t names
