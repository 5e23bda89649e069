use Rattle.std.proofs.Common.{None, Some, sym, ◌∙◌}
use Rattle.std.specs.Prelude.{◌&&◌}
use Rattle.std.specs.Str.{bytes_eq}
use Rattle.cell_values.specs.declared.schema.Attribute.{Attribute}
use Rattle.cell_values.specs.declared.schema.Kind.TheVariants.{Int64}
use Rattle.expr_nulls.specs.Typing.{same_kind}
use Rattle.redimension_exec.proofs.FrontLaws.{behind}
use Rattle.redimension_exec.proofs.places.places.+number_named.Goals as goal

pub returns-in-Some-clause-value : goal.returns-in-Some-clause-value
returns-in-Some-clause-value t c =
    behind (λ (a : Attribute). bytes_eq a.name c.args.name.now && same_kind a.kind Int64) c.args.attributes.now c.attribute-item.result (Some c.in-Some.place) c.in-len1-up.len_at_least
    c.attribute-item.is (sym c.is_number_named.ensures ∙ c.if-is_number_named.false) c.in-Some.ensures.value

pub returns-in-None-clause-value : goal.returns-in-None-clause-value
returns-in-None-clause-value t c =
    behind (λ (a : Attribute). bytes_eq a.name c.args.name.now && same_kind a.kind Int64) c.args.attributes.now c.attribute-item.result None c.in-len1-up.len_at_least c.attribute-item.is
    (sym c.is_number_named.ensures ∙ c.if-is_number_named.false) c.in-None.ensures.value
