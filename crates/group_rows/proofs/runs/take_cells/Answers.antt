use Rattle.std.proofs.Common.{◌≡◌, ◌∙◌, List, Some, sym, ap, subst}
use Rattle.std.specs.BTreeMap as tree
use Rattle.std.specs.BTreeMap.{Updates, is_at}
use Rattle.std.specs.Option.{is_some}
use Rattle.agg_states.specs.Inner.Summary.{Summary}
use Rattle.group_rows.specs.Inner.Runs.{places_in, rows_in}
use Rattle.group_rows.specs.Taken.{by_coordinate}
use Rattle.group_rows.proofs.TakenLaws.{room_at, states_found, states_first, kept_after, kept_first}
use Rattle.group_rows.proofs.runs.take_cells.Goals as goal

pub states_with-requires : goal.states_with-requires
states_with-requires c = record {
  run = c.requires.run;
  room = room_at (places_in c.args.run.now) (is_at (by_coordinate c.args.at.now)) c.args.groups.now.entries c.in-Some.states.now c.take.result c.in-Some.ensures.value c.take.ensures.items c.requires.room;
}

pub returns-in_ok-states-in-Some-clause-states : goal.returns-in_ok-states-in-Some-clause-states
returns-in_ok-states-in-Some-clause-states c = λ sets h rise.
    let more = c.in_ok-states-in-Some.field-0 in
    let found : Some c.take.result ≡ tree.get by_coordinate c.args.groups.now c.args.at.now = ap (λ (s : List Summary). Some s) c.take.ensures.items ∙ c.in-Some.ensures.value in
    states_found c.args.aggregates.now sets c.args.at.now (rows_in c.args.run.now) rise c.args.groups.now (c.get_mut.follows.lender more) h c.take.result more ((c.get_mut.follows.holds more).3 (ap is_some (sym found)))
    c.in_ok-states-in-Some.ensures.states found

pub returns-in_ok-states-in-Some-clause-cells : goal.returns-in_ok-states-in-Some-clause-cells
returns-in_ok-states-in-Some-clause-cells c =
    let more = c.in_ok-states-in-Some.field-0 in
    kept_after (places_in c.args.run.now) (is_at (by_coordinate c.args.at.now)) c.args.groups.now.entries (c.get_mut.follows.lender more).entries c.in-Some.states.now c.take.result more c.in-Some.ensures.value c.take.ensures.items
    (c.get_mut.follows.holds more).0 c.in_ok-states-in-Some.ensures.cells

pub returns-in_ok-insert-in-None-clause-states : goal.returns-in_ok-insert-in-None-clause-states
returns-in_ok-insert-in-None-clause-states c = λ sets h rise.
    states_first c.args.aggregates.now sets c.args.at.now (rows_in c.args.run.now) rise c.args.groups.now c.insert.new.self h c.in_ok-no_states-in-None.field-0 c.in_ok-states-in-None.states
    (subst (λ m. Updates by_coordinate m c.insert.new.self c.args.at.now (Some c.in_ok-states-in-None.states)) c.get_mut.follows.holds-at-none
    (subst (λ k. Updates by_coordinate c.get_mut.follows.lender-at-none c.insert.new.self k (Some c.in_ok-states-in-None.states)) c.copy_coord.ensures c.in_ok-insert-in-None.ensures.updates))
    c.in_ok-states-in-None.ensures.states c.in-None.ensures.value c.in_ok-no_states-in-None.ensures.states

pub returns-in_ok-insert-in-None-clause-cells : goal.returns-in_ok-insert-in-None-clause-cells
returns-in_ok-insert-in-None-clause-cells c =
    kept_first (places_in c.args.run.now) c.args.groups.now.entries c.insert.new.self.entries c.args.at.now c.in_ok-states-in-None.states c.in_ok-no_states-in-None.field-0
    (subst (λ m. c.insert.new.self.entries ≡ tree.insert_entry by_coordinate m.entries c.args.at.now c.in_ok-states-in-None.states) c.get_mut.follows.holds-at-none
    (subst (λ k. c.insert.new.self.entries ≡ tree.insert_entry by_coordinate c.get_mut.follows.lender-at-none.entries k c.in_ok-states-in-None.states) c.copy_coord.ensures c.in_ok-insert-in-None.ensures.entries))
    c.in_ok-states-in-None.ensures.cells c.in_ok-no_states-in-None.ensures.cells
