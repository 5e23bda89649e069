use Rattle.run_opening.proofs.opening.room.Room.new.Goals as goal

pub returns : goal.returns
returns g c = record {
  names = c.in_ok-reply_names.ensures;
  no_sources = c.in_ok-with_capacity.ensures.items;
  no_sinks = c.in_ok-with_capacity-2.ensures.items;
  no_streams = c.in_ok-with_capacity-3.ensures.items;
  source_room = c.in_ok-with_capacity.ensures.capacity;
  sink_room = c.in_ok-with_capacity-2.ensures.capacity;
  stream_room = c.in_ok-with_capacity-3.ensures.capacity;
  fresh = c.in_ok-splitters.ensures.each;
  enough = c.in_ok-splitters.ensures.count;
}
