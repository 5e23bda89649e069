use Rattle.std.proofs.Common.{true, map, length, sym, ap, ◌∙◌, subst}
use Rattle.std.proofs.lemmas.List.{length-map}
use Rattle.redimension_exec.specs.Inner.Counting.{HasLows}
use Rattle.redimension_exec.specs.Inner.Places.{origin}
use Rattle.redimension_exec.proofs.LandingLaws.{first_length, first_lows}
use Rattle.redimension_exec.proofs.places.landing.land.Goals as goal

pub place-requires-clause-lows : goal.place-requires-clause-lows
place-requires-clause-lows c =
    let begins = rw c.in-Ok-Some.field-0-is at c.in-Ok-Some.ensures in
    subst (HasLows (map origin c.args.places.now)) (sym begins.0) (first_lows (map origin c.args.places.now) c.args.row.now.at.items c.args.row.now.cell)

pub place-requires-clause-each : goal.place-requires-clause-each
place-requires-clause-each c =
    let begins = rw c.in-Ok-Some.field-0-is at c.in-Ok-Some.ensures in
    ap length begins.0 ∙ first_length (map origin c.args.places.now) c.args.row.now.at.items c.args.row.now.cell ∙ length-map c.args.places.now origin

pub returns-in-Ok-None-clause-landed : goal.returns-in-Ok-None-clause-landed
returns-in-Ok-None-clause-landed c = λ taken counted.
    let begins = rw c.in-Ok-None.field-0-is at c.in-Ok-None.ensures in
    (begins c.args.bounds.now true taken, counted)

pub returns-in-Ok-clause-landed : goal.returns-in-Ok-clause-landed
returns-in-Ok-clause-landed c = λ taken counted.
    let begins = rw c.in-Ok-Some.field-0-is at c.in-Ok-Some.ensures in
    let placed = rw c.in-Ok.is at c.in_ok-kind-in-Ok-Some.ensures.placed taken counted in
    (begins.1 c.args.bounds.now true taken ∙ placed.0, placed.1)
