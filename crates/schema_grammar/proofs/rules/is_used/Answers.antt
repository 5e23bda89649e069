use Rattle.std.proofs.Common.{◌||◌, sym, ap, ◌∙◌}
use Rattle.std.specs.List.{list_any}
use Rattle.std.specs.Str.{bytes_eq}
use Rattle.schema_grammar.proofs.RuleLemmas.{among_parts}
use Rattle.schema_grammar.proofs.rules.is_used.Goals as goal

pub returns-then-is_attribute : goal.returns-then-is_attribute
returns-then-is_attribute c =
    c.if-is_attribute.true
    ∙ sym (ap (λ b. b || list_any (λ dimension. bytes_eq c.args.name.now dimension.name) c.args.dimensions.now) (sym c.is_attribute.ensures ∙ c.if-is_attribute.true))
    ∙ among_parts c.args.name.now c.args.attributes.now c.args.dimensions.now

pub returns-else-is_attribute : goal.returns-else-is_attribute
returns-else-is_attribute c =
    c.is_dimension.ensures
    ∙ sym (ap (λ b. b || list_any (λ dimension. bytes_eq c.args.name.now dimension.name) c.args.dimensions.now) (sym c.is_attribute.ensures ∙ c.if-is_attribute.false))
    ∙ among_parts c.args.name.now c.args.attributes.now c.args.dimensions.now
