-- Numbers among the arguments that may not be too small.
use Rattle.std.specs.Prelude.{ℕ, ℤ, unsigned_abs, int_le, Option, Some, None, Ok}
use Rattle.schema_grammar.specs.declared.kinds.TypeKind.TheVariants.{OutOfRange, WrongType}
use Rattle.afl_trees.specs.Term.{Term}
use Rattle.afl_trees.specs.Grammar.{span_of}
use Rattle.check_rules.specs.Sorts.{number_in}
use Rattle.check_rules.specs.Checked.{Checked, refused, demand}
use Rattle.cell_values.specs.declared.name.Span.{Span}

abbrev pub at_least : ℤ → Span → Option ℤ → Checked ℕ
at_least least s (Some number) = demand (int_le least number) s OutOfRange (Ok (unsigned_abs number))
at_least least s None = refused s WrongType

-- a number that is not below the least
abbrev pub number_from : ℤ → Term → Checked ℕ
number_from least t = at_least least (span_of t) (number_in t)
