use Rattle.std.proofs.Common.{map, refl, sym, ◌∙◌, arith}
use Rattle.std.proofs.lemmas.List.{length-map}
use Rattle.redimension_exec.specs.Inner.Places.{origin}
use Rattle.redimension_exec.proofs.TakenLaws.{plain_beyond, plain_free, plain_taken}
use Rattle.redimension_exec.proofs.places.landing.place_once.Goals as goal

pub returns-in-None-clause-placed : goal.returns-in-None-clause-placed
returns-in-None-clause-placed c =
    plain_beyond (map origin c.args.places.now) c.args.bounds.now c.args.counts.now c.args.first.now.items c.requires.plain (c.requires.each ∙ sym (length-map c.args.places.now origin)) c.requires.lows (c.in-None.ensures.outside refl)

pub returns-then-before-gt0-clause-placed : goal.returns-then-before-gt0-clause-placed
returns-then-before-gt0-clause-placed c =
    plain_taken (map origin c.args.places.now) c.args.bounds.now c.args.counts.now c.args.first.now.items c.requires.plain (c.requires.each ∙ sym (length-map c.args.places.now origin)) c.requires.lows
    c.uncounted.result c.in_ok-before-in-Some.before c.uncounted.ensures c.in_ok-before-in-Some.ensures.before c.in-Some.at.items c.in-Some.ensures.inside.0 c.in-Some.ensures.inside.1 (omega arith)

pub returns-else-before-gt0-clause-placed : goal.returns-else-before-gt0-clause-placed
returns-else-before-gt0-clause-placed c =
    plain_free (map origin c.args.places.now) c.args.bounds.now c.args.counts.now c.args.first.now.items c.requires.plain (c.requires.each ∙ sym (length-map c.args.places.now origin)) c.requires.lows
    c.uncounted.result c.in_ok-before-in-Some.before c.uncounted.ensures c.in_ok-before-in-Some.ensures.before c.in-Some.at.items c.in-Some.ensures.inside.0 c.in-Some.ensures.inside.1 (omega arith) c.take_place.new.counts c.in_ok-before-in-Some.ensures.counts
