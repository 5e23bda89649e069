use Rattle.std.proofs.Common.{◌≡◌, map, take}
use Rattle.afl_lexer.specs.Schemas.{attribute_names}
use Rattle.schema_grammar.specs.Rules.{dimension_of}
use Rattle.schema_grammar.proofs.RuleLemmas.{DimsSo}
use Rattle.schema_grammar.proofs.rules.dimensions.Given as goal

abbrev pub invariant-loop-text : goal.invariant-loop-text
invariant-loop-text l = DimsSo (attribute_names l.attributes) l.written l.text-index l.dimensions × (l.dimensions ≡ map dimension_of (take l.text-index l.written))
