-- `xgrid`: for each dimension how many places a block has, 1 at least. The new high bounds are bounds, and a block has at most 65,536 places.
use Rattle.std.specs.Prelude.{ℕ, pos, Bool, int_le, nat_le, ◌==◌, length, Ok, List, [], ◌∷◌}
use Rattle.cell_values.specs.declared.name.Span.{Span}
use Rattle.cell_values.specs.declared.schema.Dimension.{Dimension}
use Rattle.cell_values.specs.declared.schema.Schema.{Schema}
use Rattle.cell_values.specs.Schemas.{greatest_bound}
use Rattle.schema_grammar.specs.Rules.{rule}
use Rattle.schema_grammar.specs.declared.kinds.TypeKind.TheVariants.{BoundsRange, OutOfRange, WrongCount}
use Rattle.schema_grammar.specs.declared.rules.Rule.{Rule}
use Rattle.afl_trees.specs.Term.{Term}
use Rattle.afl_trees.specs.Grammar.{span_of}
use Rattle.logical_plan.specs.Shapes.{last_place}
use Rattle.logical_plan.specs.Typing.{product_of}
use Rattle.check_rules.specs.Checked.{Checked, demand, then}
use Rattle.check_rules.specs.InTurn.{in_turn}
use Rattle.check_rules.specs.Sorts.{is_number, first_but, unless_other}
use Rattle.check_groups.specs.Blocks.{block_one}
use Rattle.check_shapes.specs.Tables.{all_hold}

-- the last place of the last block is a bound
abbrev pub has_room : Dimension → ℕ → Bool
has_room d size = int_le (last_place d size d.hi) (pos greatest_bound)

-- from left to right, and then another rule
abbrev pub bound_rules : List Dimension → List ℕ → List Term → Rule → List Rule
bound_rules (d ∷ dims) (size ∷ sizes) (t ∷ ts) last = rule (has_room d size) (span_of t) BoundsRange ∷ bound_rules dims sizes ts last
bound_rules dims sizes ts last = last ∷ []

abbrev pub with_sizes : Span → Schema → List Term → List ℕ → Checked (List ℕ)
with_sizes s source arguments sizes =
    then (all_hold (bound_rules source.dimensions sizes arguments (rule (nat_le (product_of sizes) 65536) s OutOfRange))) (λ hold. Ok sizes)

abbrev pub xgrid_parts : Span → Schema → List Term → Checked (List ℕ)
xgrid_parts s source arguments =
    unless_other (first_but is_number arguments)
    (demand (length arguments == length source.dimensions) s WrongCount
    (then (in_turn block_one [] arguments) (with_sizes s source arguments)))
