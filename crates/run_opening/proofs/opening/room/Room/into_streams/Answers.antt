use Rattle.std.proofs.Common.{◌≤◌, ◌∙◌, arith, length}
use Rattle.run_opening.proofs.RoomLemmas.{first_there, joins_all, joins_one, none_left, some_left, still_as_many, still_room}
use Rattle.run_opening.proofs.opening.room.Room.into_streams.Goals as goal

pub loop-sources-preserved : goal.loop-sources-preserved
loop-sources-preserved g c =
    let i = c.loop-sources.invariant in
    let v = c.loop-sources.sources in
    let xs = v.items in
    let ys = c.loop-sources.sinks.items in
    let zs = c.loop-sources.splitters.items in
    let done = c.loop-sources.streams.items in
    let more = c.push_reserved.new.self.items in
    let first = c.remove-source in
    let second = c.remove-sink in
    let third = c.remove-splitter in
    let some = some_left v.len (length xs) c.is_empty.result c.is_empty.ensures c.loop-sources-test.true (omega (arith, v.ok.0)) in
    let some_sinks : 1 ≤ length ys = omega (arith, some, i.sinks) in
    let some_splitters : 1 ≤ length zs = omega (arith, some, i.splitters) in record {
      joined = joins_one done more xs first.new.self.items ys second.new.self.items zs third.new.self.items first.result second.result third.result
          (first_there xs first.result some first.ensures.value) (first_there ys second.result some_sinks second.ensures.value)
          (first_there zs third.result some_splitters third.ensures.value) first.ensures.items second.ensures.items third.ensures.items
          c.push_reserved.ensures.items ∙ i.joined;
      sinks = still_as_many xs first.new.self.items ys second.new.self.items first.ensures.items second.ensures.items some i.sinks;
      splitters = still_as_many xs first.new.self.items zs third.new.self.items first.ensures.items third.ensures.items some i.splitters;
      room = still_room done more _ xs first.new.self.items _ _ c.push_reserved.ensures.items first.ensures.items some c.push_reserved.ensures.capacity i.room;
    }

pub returns : goal.returns
returns g c =
    let v = c.loop-sources.sources in
    c.from_vec.ensures
    ∙ joins_all c.loop-sources.streams.items _ v.items c.loop-sources.sinks.items c.loop-sources.splitters.items
    (none_left v.len (length v.items) c.is_empty.result c.is_empty.ensures c.loop-sources-test.false (omega (arith, v.ok.0))) c.loop-sources.invariant.joined
