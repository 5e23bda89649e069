use Rattle.std.proofs.Common.{◌≡◌, ◌∙◌, ap, arith, length, sym}
use Rattle.std.proofs.lemmas.List.{length-map}
use Rattle.logical_plan.specs.Redimension.{origin_of}
use Rattle.redimension_exec.specs.Inner.Places.{origin}
use Rattle.redimension_exec.proofs.arrays.groups.groups_landed.Goals as goal

pub groups_from-requires-clause-few : goal.groups_from-requires-clause-few
groups_from-requires-clause-few c =
    let dims = c.as_slice-dimensions.result.now in
    let places = c.in_ok-places.places in
    let long : length places ≡ length dims = sym (length-map places origin) ∙ ap length c.in_ok-places.ensures ∙ length-map dims (origin_of c.args.source.now) in
    omega (arith, long, ap length c.as_slice.ensures, ap length c.as_slice-dimensions.ensures, c.requires.few)
