use Rattle.std.proofs.Common.{map, List, refl, rules}
use Rattle.logical_plan.specs.Groups.{number_of}
use Rattle.logical_plan.specs.Redimension.{target_value}
use Rattle.array_geom.proofs.Fronts.{room_left, shorter}
use Rattle.redimension_exec.specs.declared.places.places.Place.{Place}
use Rattle.redimension_exec.specs.Inner.Places.{origin}
use Rattle.redimension_exec.proofs.FrontLaws.{front_pushed, none_pushed}
use Rattle.redimension_exec.proofs.places.numbers.+push_numbers.Goals as goal

pub push_numbers-requires : goal.push_numbers-requires
push_numbers-requires t c =
    let less = shorter c.args.places.now c.in-len1-up.len_at_least in
    let room = room_left c.args.out.now.items c.push.new.self.items _ c.args.places.now c.in-len1-up.len_at_least c.push.ensures.items c.requires in
    (search rules, room)

pub returns-in-len1-up : goal.returns-in-len1-up
returns-in-len1-up t c =
    let value = target_value c.args.at.now.items c.args.values.now in
    front_pushed (λ (ps : List Place). map number_of (map value (map origin ps))) (λ (p : Place). number_of (value (origin p))) c.args.places.now
    _ _ _ _ _ c.number_from.result (λ y ys. refl) c.in-len1-up.len_at_least c.push.ensures.items c.push_numbers.ensures (search rules) c.number_from.ensures

pub returns-in-empty : goal.returns-in-empty
returns-in-empty t c =
    none_pushed (λ (ps : List Place). map number_of (map (target_value c.args.at.now.items c.args.values.now) (map origin ps))) c.args.places.now
    c.args.out.now.items refl c.in-empty.len_below
