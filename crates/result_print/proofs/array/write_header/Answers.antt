use Rattle.std.proofs.Common.{◌++◌, ◌∙◌, List, ap, map}
use Rattle.std.specs.Prelude.{codes}
use Rattle.std.proofs.lemmas.Result.{IfOk-equal}
use Rattle.cell_values.specs.Schemas.{attribute_names, dimension_names}
use Rattle.cell_values.specs.declared.schema.Attribute.{Attribute}
use Rattle.cell_values.specs.declared.schema.Dimension.{Dimension}
use Rattle.schema_grammar.proofs.Joined.{ended, more}
use Rattle.result_print.specs.Texts.{listed}
use Rattle.result_print.proofs.array.write_header.Goals as goal

pub returns : goal.returns
returns c =
    let out = c.args.out.now in
    let schema = c.args.schema.now in
    let dims = codes "{" ++ listed (dimension_names schema.dimensions) in
    let attributes = listed (attribute_names schema.attributes) in
    let first = more out c.push.new.self c.write_list.new.out (codes "{") _ c.in_ok-push.ensures.ok
    (c.in_ok-write_list.ensures ∙ ap (λ (ds : List Dimension). c.push.new.self ++ listed (dimension_names ds)) c.as_slice.ensures) in
    let second = more out c.write_list.new.out c.extend.new.self dims (codes "} ") first c.in_ok-extend.ensures.ok in
    let third = more out c.extend.new.self c.write_list-2.new.out (dims ++ codes "} ") attributes second
    (c.in_ok-write_list-2.ensures ∙ ap (λ (ns : List Attribute). c.extend.new.self ++ listed (attribute_names ns)) c.as_slice-2.ensures) in
    IfOk-equal c.push-2.result c.push-2.new.self _ _ c.push-2.ensures.ok
    (ended out c.write_list-2.new.out (dims ++ codes "} " ++ attributes) (codes "\n") third)
