use Rattle.std.proofs.Common.{map, refl, sym, ◌∙◌}
use Rattle.std.proofs.lemmas.List.{length-map}
use Rattle.redimension_exec.specs.Inner.Places.{origin}
use Rattle.redimension_exec.proofs.TakenLaws.{place_beyond, place_free, kept_apart}
use Rattle.redimension_exec.proofs.places.landing.place_counted.Goals as goal

pub returns-in-None-clause-placed : goal.returns-in-None-clause-placed
returns-in-None-clause-placed c =
    place_beyond (map origin c.args.places.now) c.args.bounds.now c.args.counts.now c.args.first.now.items c.uncounted-key.result c.count_of-count.result c.uncounted-key.ensures c.count_of-count.ensures (c.in-None.ensures.outside refl)

pub returns-in_ok-count_one-in-Some-clause-placed : goal.returns-in_ok-count_one-in-Some-clause-placed
returns-in_ok-count_one-in-Some-clause-placed c =
    place_free (map origin c.args.places.now) c.args.bounds.now c.args.counts.now c.args.first.now.items c.uncounted-key.result c.count_of-count.result c.uncounted-key.ensures c.count_of-count.ensures
    (c.requires.each ∙ sym (length-map c.args.places.now origin)) c.requires.lows c.in-Some.at.items c.in-Some.ensures.inside.0 c.in-Some.ensures.inside.1
    (kept_apart (map origin c.args.places.now) c.count_of-count.result c.requires.counted) c.count_one.new.counts c.in_ok-count_one-in-Some.ensures
