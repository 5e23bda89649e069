-- Where a query stands. What a rule tells of a source is told at its content, without the brackets around it.
use Rattle.cell_values.specs.declared.name.Span.{Span}
use Rattle.afl_trees.specs.Term.{Term, group}
use Rattle.afl_trees.specs.Grammar.{span_of}

abbrev pub content_span : Term → Span
content_span (group s a) = content_span a
content_span t = span_of t
