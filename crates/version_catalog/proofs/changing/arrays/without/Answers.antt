use Rattle.std.proofs.Common.{rules, ◌∙◌, ap, not}
use Rattle.std.specs.List.{filter}
use Rattle.std.proofs.lemmas.Fn.{filter_same}
use Rattle.version_catalog.specs.Records.{is_array}
use Rattle.version_catalog.proofs.changing.arrays.without.Goals as goal

pub returns : goal.returns
returns c =
    c.from_vec.ensures
    ∙ filter_same _ (λ array. not (is_array c.args.name.now array)) _ (λ x b f' k. search rules) _ _ c.retain.ensures.filtered
    ∙ ap (filter (λ array. not (is_array c.args.name.now array))) c.into_vec-items.ensures
