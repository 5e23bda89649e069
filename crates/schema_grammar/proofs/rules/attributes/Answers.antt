use Rattle.std.proofs.Common.{[], map, Ok, Err, ap, subst, ◌∙◌}
use Rattle.std.proofs.lemmas.List.{drop_all, take_all}
use Rattle.afl_lexer.specs.Schemas.{attribute_names}
use Rattle.schema_grammar.specs.Rules.{first_broken, attr_rules, attrs_rules, attribute_of, Means}
use Rattle.schema_grammar.proofs.Meanings.{means_err}
use Rattle.schema_grammar.proofs.RuleLemmas.{attrs_err, attrs_step}
use Rattle.schema_grammar.proofs.rules.attributes.Goals as goal

pub loop-text-preserved : goal.loop-text-preserved
loop-text-preserved c =
    let behind = subst (λ before. Means (attr_rules (attribute_names before) c.text-item.result)
    (attribute_of c.text-item.result) (Ok c.in_ok-attribute.attribute))
    c.as_slice.ensures c.in_ok-attribute.ensures in
    attrs_step c.args.written.now c.loop-text.text-index c.text-item.result c.loop-text.attributes c.push.new.self c.in_ok-attribute.attribute
    c.loop-text-test.true c.loop-text.invariant
    (subst (λ text. Means (attr_rules (attribute_names c.loop-text.attributes) text) (attribute_of text) (Ok c.in_ok-attribute.attribute)) c.text-item.is behind)
    c.in_ok-push.ensures.ok

pub returns-in_err-attribute : goal.returns-in_err-attribute
returns-in_err-attribute c =
    let fault = c.in_err-attribute.field-0.0 in
    let meant = attribute_of c.text-item.result in
    let behind = subst (λ before. Means (attr_rules (attribute_names before) c.text-item.result) meant (Err fault))
    c.as_slice.ensures c.in_err-attribute.ensures in
    let here = subst (λ text. Means (attr_rules (attribute_names c.loop-text.attributes) text) meant (Err fault)) c.text-item.is behind in
    let all = map attribute_of c.args.written.now in
    means_err (attrs_rules [] c.args.written.now) all fault c.from_residual.result c.from_residual.ensures.1
    (attrs_err c.args.written.now c.loop-text.text-index c.text-item.result c.loop-text.attributes meant all fault
    c.loop-text-test.true c.loop-text.invariant.0 here)

pub returns : goal.returns
returns c =
    let names = attribute_names c.loop-text.attributes in
    let i = c.loop-text.text-index in (
      c.loop-text.invariant.0 ∙ ap (λ l. first_broken (attrs_rules names l)) (drop_all i c.args.written.now c.loop-text-test.false),
      c.loop-text.invariant.1 ∙ ap (map attribute_of) (take_all i c.args.written.now c.loop-text-test.false),
    )
