use Rattle.std.proofs.Common.{◌≡◌, None, Some, pos, ap, ◌∙◌}
use Rattle.std.specs.Str.{bytes_eq}
use Rattle.logical_plan.specs.Redimension.{place_where, origin_or, from_dimension, from_attribute, counted}
use Rattle.redimension_exec.proofs.places.places.place_of_attribute.Goals as goal

pub returns-in-Some-dimension_named : goal.returns-in-Some-dimension_named
returns-in-Some-dimension_named c =
    let none : None ≡ place_where (λ b. bytes_eq b.name c.args.attribute.now.name) c.args.source.now.attributes = c.in-None.ensures.value ∙ ap (place_where (λ b. bytes_eq b.name c.args.attribute.now.name)) c.as_slice.ensures in
    let some : Some c.in-Some-dimension_named.place ≡ place_where (λ s. bytes_eq s.name c.args.attribute.now.name) c.args.source.now.dimensions = c.in-Some-dimension_named.ensures.value ∙ ap (place_where (λ s. bytes_eq s.name c.args.attribute.now.name)) c.as_slice-in-None.ensures in
    λ i. origin_or (none i) from_attribute (origin_or (some i) from_dimension (counted (pos 0)))
