use Rattle.std.proofs.Common.{map, sym, ◌∙◌}
use Rattle.redimension_exec.specs.Inner.Places.{origin}
use Rattle.redimension_exec.proofs.LandingLaws.{begins_faulty, begins_null, begins_numbers}
use Rattle.redimension_exec.proofs.places.numbers.first_of_values.Goals as goal

pub returns-in-Some : goal.returns-in-Some
returns-in-Some c = begins_faulty (map origin c.args.places.now) c.args.at.now.items c.args.values.now c.in-Some.kind c.in-Some.ensures

pub returns-then-has_null : goal.returns-then-has_null
returns-then-has_null c = begins_null (map origin c.args.places.now) c.args.at.now.items c.args.values.now c.in-None.ensures (sym c.has_null.ensures ∙ c.if-has_null.true)

pub returns-else-has_null : goal.returns-else-has_null
returns-else-has_null c =
    begins_numbers (map origin c.args.places.now) c.args.at.now.items c.args.values.now c.numbers_from.result c.in-None.ensures (sym c.has_null.ensures ∙ c.if-has_null.false) c.numbers_from.ensures
