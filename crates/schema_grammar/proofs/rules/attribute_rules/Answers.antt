use Rattle.std.proofs.Common.{◌≡◌, not, is_some, [], ◌∷◌, length, sym, ap, ◌∙◌}
use Rattle.std.specs.Prelude.{nat_lt}
use Rattle.afl_lexer.specs.Schemas.{attribute_names, is_among}
use Rattle.schema_grammar.specs.Rules.{rule, kind_named}
use Rattle.schema_grammar.specs.declared.kinds.TypeKind.TheVariants.{TooManyAttributes, UnknownType, RepeatedName}
use Rattle.schema_grammar.proofs.RuleLemmas.{among_attributes, count_attributes}
use Rattle.schema_grammar.proofs.rules.attribute_rules.Goals as goal

pub returns : goal.returns
returns c =
    let w = c.args.written.now in
    let count : c.new.result ≡ rule (nat_lt (length (attribute_names c.args.before.now)) 64) w.name_span TooManyAttributes
    = c.new.ensures ∙ ap (λ n. rule (nat_lt n 64) w.name_span TooManyAttributes) (sym (count_attributes c.args.before.now)) in
    let type : c.new-2.result ≡ rule (is_some (kind_named w.word)) w.word_span UnknownType
    = c.new-2.ensures ∙ ap (λ b. rule b w.word_span UnknownType) (c.is_some.ensures ∙ ap is_some c.requires) in
    let name : c.new-3.result ≡ rule (not (is_among w.name (attribute_names c.args.before.now))) w.name_span RepeatedName
    = c.new-3.ensures ∙ ap (λ b. rule (not b) w.name_span RepeatedName) (c.is_attribute-is_repeated.ensures ∙ among_attributes w.name c.args.before.now) in
    ap (λ r. r ∷ c.new-2.result ∷ c.new-3.result ∷ []) count
    ∙ ap (λ r. rule (nat_lt (length (attribute_names c.args.before.now)) 64) w.name_span TooManyAttributes ∷ r ∷ c.new-3.result ∷ []) type
    ∙ ap (λ r. rule (nat_lt (length (attribute_names c.args.before.now)) 64) w.name_span TooManyAttributes ∷ rule (is_some (kind_named w.word)) w.word_span UnknownType ∷ r ∷ []) name
