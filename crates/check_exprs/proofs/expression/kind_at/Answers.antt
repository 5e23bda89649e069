use Rattle.std.proofs.Common.{length, refl, sym, ap}
use Rattle.std.specs.Option.{option_map}
use Rattle.std.proofs.lemmas.Option.{slice_get_past, slice_get_read}
use Rattle.cell_values.specs.declared.schema.Attribute.{Attribute}
use Rattle.check_exprs.proofs.expression.kind_at.Goals as goal

pub returns-in-Some : goal.returns-in-Some
returns-in-Some c =
    let attributes = c.args.attributes.now in
    let found = c.in-Some.attribute.now in
    let here = slice_get_read attributes (length attributes) c.args.place found refl c.in-Some.ensures.lookup.3.0 c.in-Some.ensures.lookup.1 in
    sym (ap (option_map (λ (a : Attribute). a.kind)) here)

pub returns-in-None : goal.returns-in-None
returns-in-None c =
    sym (ap (option_map (λ (a : Attribute). a.kind)) (slice_get_past c.args.attributes.now c.args.place c.in-None.ensures.lookup.3))
