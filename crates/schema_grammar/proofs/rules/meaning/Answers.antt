use Rattle.std.proofs.Common.{◌≡◌, Ok, Err, ◌∙◌}
use Rattle.schema_grammar.specs.Rules.{first_broken, rules, schema_of, whole_rules}
use Rattle.schema_grammar.proofs.Meanings.{dims_means, first_err, means_broken, means_err, parts_same, rest_err, whole_left, whole_told}
use Rattle.schema_grammar.proofs.RulesValid.{parts_valid}
use Rattle.schema_grammar.proofs.rules.meaning.Goals as goal

pub returns-in_err-dimensions-clause-meaning : goal.returns-in_err-dimensions-clause-meaning
returns-in_err-dimensions-clause-meaning c =
    let t = c.args.shape.now in
    let texts = c.as_slice.result.now in
    let attributes = c.in_ok-attributes.attributes in
    let fault = c.in_err-dimensions.field-0.0 in
    means_err (rules t) (schema_of t) fault c.from_residual-in_err-dimensions.result c.from_residual-in_err-dimensions.ensures.1
    (rest_err t texts attributes c.as_slice.ensures c.in_ok-attributes.ensures fault
    (dims_means t texts attributes c.as_slice.ensures c.in_ok-attributes.ensures c.as_slice-2.result.now c.as_slice-3.result.now (Err fault)
    c.as_slice-2.ensures c.as_slice-3.ensures c.in_err-dimensions.ensures))

pub returns-in-Some-clause-meaning : goal.returns-in-Some-clause-meaning
returns-in-Some-clause-meaning c =
    let t = c.args.shape.now in
    let texts = c.as_slice.result.now in
    let attributes = c.in_ok-attributes.attributes in
    let dimensions = c.in_ok-dimensions.dimensions in
    let there = dims_means t texts attributes c.as_slice.ensures c.in_ok-attributes.ensures c.as_slice-2.result.now c.as_slice-3.result.now (Ok dimensions)
    c.as_slice-2.ensures c.as_slice-3.ensures c.in_ok-dimensions.ensures in
    means_broken (rules t) (schema_of t) c.in-Some.fault
    (whole_left t texts attributes c.as_slice.ensures c.in_ok-attributes.ensures dimensions there
    ∙ whole_told c.as_slice-4.result.now attributes c.as_slice-5.result.now dimensions t.brackets c.whole_rules-rules.result c.first_broken.result
    c.as_slice-4.ensures c.as_slice-5.ensures c.whole_rules-rules.ensures c.first_broken.ensures
    ∙ c.in-Some.is)

whole : (c : goal.In_default)
    → first_broken (whole_rules c.in_ok-attributes.attributes c.in_ok-dimensions.dimensions c.args.shape.now.brackets) ≡ c.first_broken.result
whole c =
    whole_told c.as_slice-4.result.now c.in_ok-attributes.attributes c.as_slice-5.result.now c.in_ok-dimensions.dimensions c.args.shape.now.brackets
    c.whole_rules-rules.result c.first_broken.result c.as_slice-4.ensures c.as_slice-5.ensures c.whole_rules-rules.ensures c.first_broken.ensures

pub returns-clause-meaning : goal.returns-clause-meaning
returns-clause-meaning c =
    let t = c.args.shape.now in
    let texts = c.as_slice.result.now in
    let attributes = c.in_ok-attributes.attributes in
    let dimensions = c.in_ok-dimensions.dimensions in
    let there = dims_means t texts attributes c.as_slice.ensures c.in_ok-attributes.ensures c.as_slice-2.result.now c.as_slice-3.result.now (Ok dimensions)
    c.as_slice-2.ensures c.as_slice-3.ensures c.in_ok-dimensions.ensures in (
      whole_left t texts attributes c.as_slice.ensures c.in_ok-attributes.ensures dimensions there ∙ whole c ∙ c.in_default.is,
      parts_same t texts attributes c.as_slice.ensures c.in_ok-attributes.ensures dimensions there.1,
    )

pub returns-clause-valid : goal.returns-clause-valid
returns-clause-valid c =
    parts_valid c.args.shape.now _ _ _ c.in_ok-attributes.attributes c.in_ok-dimensions.dimensions c.as_slice.ensures c.as_slice-3.ensures c.as_slice-2.ensures
    c.in_ok-attributes.ensures c.in_ok-dimensions.ensures (whole c ∙ c.in_default.is)

pub returns-in_err-attributes-clause-meaning : goal.returns-in_err-attributes-clause-meaning
returns-in_err-attributes-clause-meaning c =
    let t = c.args.shape.now in
    let fault = c.in_err-attributes.field-0.0 in
    means_err (rules t) (schema_of t) fault c.from_residual.result c.from_residual.ensures.1 (first_err t c.as_slice.result.now fault c.as_slice.ensures c.in_err-attributes.ensures)
