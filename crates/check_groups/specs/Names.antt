-- Names in the rules of operators: a name with `_` and more behind it, which may be too long for a name, and names among the arguments.
use Rattle.std.specs.Prelude.{ℕ, Bool, false, ◌&&◌, ◌==◌, nat_le, length, Ok, List, [], ◌∷◌}
use Rattle.std.specs.List.{list_all}
use Rattle.cell_values.specs.Naming.{is_word_byte}
use Rattle.cell_values.specs.declared.name.Span.{Span}
use Rattle.cell_values.specs.declared.schema.Dimension.{Dimension}
use Rattle.schema_grammar.specs.declared.kinds.TypeKind.TheVariants.{NameTooLong, WrongType}
use Rattle.afl_trees.specs.Term.{Term, reference}
use Rattle.afl_trees.specs.Grammar.{span_of}
use Rattle.check_rules.specs.Checked.{Checked, refused, demand}
use Rattle.check_exprs.specs.Expressions.{dimension_place}
use Rattle.check_rules.specs.InTurn.{new_place}

-- `_`, and then letters, digits and `_`
abbrev pub is_ending : List ℕ → Bool
is_ending [] = false
is_ending (b ∷ bytes) = (b == 95) && list_all is_word_byte bytes

-- a name that a rule makes has at most 64 bytes
abbrev pub short_name : Span → List ℕ → Checked (List ℕ)
short_name s name = demand (nat_le (length name) 64) s NameTooLong (Ok name)

-- the place of the dimension that an argument names, if it is not among those before
abbrev pub dimension_one : List Dimension → List ℕ → Term → Checked ℕ
dimension_one dimensions done (reference s name) = new_place s done (dimension_place dimensions name)
dimension_one dimensions done t = refused (span_of t) WrongType
