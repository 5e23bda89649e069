use Rattle.std.proofs.Common.{[], map, Ok, Err, ap, subst, ◌∙◌}
use Rattle.std.proofs.lemmas.List.{drop_all, take_all}
use Rattle.afl_lexer.specs.Schemas.{attribute_names, dimension_names}
use Rattle.schema_grammar.specs.Rules.{first_broken, dim_rules, dims_rules, dimension_of, Means}
use Rattle.schema_grammar.proofs.Meanings.{means_err}
use Rattle.schema_grammar.proofs.RuleLemmas.{dims_err, dims_step}
use Rattle.schema_grammar.proofs.rules.dimensions.Goals as goal

pub loop-text-preserved : goal.loop-text-preserved
loop-text-preserved c =
    let names = attribute_names c.args.attributes.now in
    let here : Means (dim_rules names (dimension_names c.as_slice.result.now) c.text-item.result) (dimension_of c.text-item.result) (Ok c.in_ok-dimension.dimension)
    = c.in_ok-dimension.ensures in
    let behind = subst (λ before. Means (dim_rules names (dimension_names before) c.text-item.result) (dimension_of c.text-item.result) (Ok c.in_ok-dimension.dimension)) c.as_slice.ensures here in
    dims_step names c.args.written.now c.loop-text.text-index c.text-item.result c.loop-text.dimensions c.push.new.self c.in_ok-dimension.dimension
    c.loop-text-test.true c.loop-text.invariant
    (subst (λ text. Means (dim_rules names (dimension_names c.loop-text.dimensions) text) (dimension_of text) (Ok c.in_ok-dimension.dimension)) c.text-item.is behind) c.in_ok-push.ensures.ok

pub returns-in_err-dimension : goal.returns-in_err-dimension
returns-in_err-dimension c =
    let names = attribute_names c.args.attributes.now in
    let fault = c.in_err-dimension.field-0.0 in
    let meant = dimension_of c.text-item.result in
    let behind = subst (λ before. Means (dim_rules names (dimension_names before) c.text-item.result) meant (Err fault))
    c.as_slice.ensures c.in_err-dimension.ensures in
    let here = subst (λ text. Means (dim_rules names (dimension_names c.loop-text.dimensions) text) meant (Err fault)) c.text-item.is behind in
    let all = map dimension_of c.args.written.now in
    means_err (dims_rules names [] c.args.written.now) all fault c.from_residual.result c.from_residual.ensures.1
    (dims_err names c.args.written.now c.loop-text.text-index c.text-item.result c.loop-text.dimensions meant all fault
    c.loop-text-test.true c.loop-text.invariant.0 here)

pub returns : goal.returns
returns c =
    let names = attribute_names c.args.attributes.now in
    let before = dimension_names c.loop-text.dimensions in
    let i = c.loop-text.text-index in (
      c.loop-text.invariant.0 ∙ ap (λ l. first_broken (dims_rules names before l)) (drop_all i c.args.written.now c.loop-text-test.false),
      c.loop-text.invariant.1 ∙ ap (map dimension_of) (take_all i c.args.written.now c.loop-text-test.false),
    )
