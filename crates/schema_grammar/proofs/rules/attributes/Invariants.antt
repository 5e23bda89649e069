use Rattle.std.proofs.Common.{◌≡◌, map, take}
use Rattle.schema_grammar.specs.Rules.{attribute_of}
use Rattle.schema_grammar.proofs.RuleLemmas.{AttrsSo}
use Rattle.schema_grammar.proofs.rules.attributes.Given as goal

abbrev pub invariant-loop-text : goal.invariant-loop-text
invariant-loop-text l = AttrsSo l.written l.text-index l.attributes × (l.attributes ≡ map attribute_of (take l.text-index l.written))
