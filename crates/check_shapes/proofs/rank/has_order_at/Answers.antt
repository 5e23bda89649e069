use Rattle.std.proofs.Common.{length, refl, sym, ap, ◌∙◌}
use Rattle.std.proofs.lemmas.Option.{slice_get_past, slice_get_read}
use Rattle.check_shapes.specs.Rank.{has_order}
use Rattle.check_shapes.proofs.rank.has_order_at.Goals as goal

pub returns-in-None : goal.returns-in-None
returns-in-None c = sym (ap has_order (slice_get_past c.args.attributes.now c.args.place c.in-None.ensures.lookup.3))

pub returns-in-Some : goal.returns-in-Some
returns-in-Some c =
    let attributes = c.args.attributes.now in
    let here = slice_get_read attributes (length attributes) c.args.place c.in-Some.attribute.now refl c.in-Some.ensures.lookup.3.0
    c.in-Some.ensures.lookup.1 in
    c.has_order.ensures ∙ sym (ap has_order here)
