use Rattle.std.proofs.Common.{◌≡◌, false, None, length, refl, sym, ap, ◌∙◌}
use Rattle.std.proofs.lemmas.Option.{slice_get_past, slice_get_read}
use Rattle.logical_plan.specs.Typing.{takes}
use Rattle.logical_plan.specs.declared.parts.AggFunction.TheVariants.{Count, CountAll, Max, Min, Sum}
use Rattle.logical_plan.specs.declared.parts.AggFunction.{AggFunction}
use Rattle.check_groups.proofs.aggregates.aggregate.takes_at.Goals as goal

takes_none : (f : AggFunction) → (f ≡ CountAll → ⊥) → takes f None ≡ false
takes_none Sum other = refl
takes_none Count other = refl
takes_none CountAll other = absurd (other refl)
takes_none Min other = refl
takes_none Max other = refl

pub returns-in_default : goal.returns-in_default
returns-in_default c =
    let attributes = c.args.attributes.now in
    sym (ap (takes c.args.function) (slice_get_past attributes c.args.place c.in-None.ensures.lookup.3)
    ∙ takes_none c.args.function c.in_default.not-CountAll)

pub returns-in-Some : goal.returns-in-Some
returns-in-Some c =
    let attributes = c.args.attributes.now in
    let here = slice_get_read attributes (length attributes) c.args.place c.in-Some.attribute.now refl c.in-Some.ensures.lookup.3.0
    c.in-Some.ensures.lookup.1 in
    c.takes_attribute.ensures ∙ sym (ap (takes c.args.function) here)
