use Rattle.std.proofs.Common.{◌≡◌, ◌∙◌, ap, arith, sym}
use Rattle.std.specs.Vec.{vec_capacity, vec_len}
use Rattle.plan_changes.specs.declared.change.Change.{Change}
use Rattle.event_core.specs.declared.state.Core.{Core}
use Rattle.event_core.specs.History.{pages_after}
use Rattle.event_core.specs.Ready.{ReadyFor}
use Rattle.store_versions.specs.LeanRows.{rows_after}
use Rattle.store_versions.specs.States.{LeanState}
use Rattle.store_versions.proofs.States.{put_keeps, put_tells, room_left, room_there}
use Rattle.store_versions.proofs.lean.lean.state.LeanCore.put.Goals as goal

pub invariant_of-self : goal.invariant_of-self
invariant_of-self c =
    let i = c.self.inside in
    let r = c.commit.inside in
    let one : c.args.change.now ≡ r.ready.change = c.requires.change ∙ sym (ap (λ (f : ReadyFor). f.change) c.commit.view_is) in
    put_keeps r.part.names i.rows.items _ i.pins.items i.entries c.args.change.now r.ready.used.version c.self.invariant
    (c.change_rows.ensures.rows r.part.names r.ready.used.version r.part.pages
    (ap (λ (k : Core). k.pages) c.put.ensures ∙ ap (λ (ch : Change). pages_after r.part.names ch r.ready.used.version r.part.pages) (sym one)))

pub returns-clause-core : goal.returns-clause-core
returns-clause-core c =
    let i = c.self.inside in
    let r = c.commit.inside in
    let one : c.args.change.now ≡ r.ready.change = c.requires.change ∙ sym (ap (λ (f : ReadyFor). f.change) c.commit.view_is) in
    put_tells i.names i.rows.items _ i.catalogue i.pins.items i.free _ i.limit i.entries c.args.session _ r.part c.put.new.self r.lean.value.core r.ready.change r.ready.used
    c.args.commit c.args.self.now c.self.view_is c.commit.view_is c.self.invariant c.commit.invariant.1 c.requires.over c.take.ensures.items c.put.ensures
    (c.change_rows.ensures.rows r.part.names r.ready.used.version r.part.pages
    (ap (λ (k : Core). k.pages) c.put.ensures ∙ ap (λ (ch : Change). pages_after r.part.names ch r.ready.used.version r.part.pages) (sym one))
    ∙ ap (λ (ch : Change). rows_after r.part.names i.entries ch r.ready.used.version i.rows.items) one)

pub returns-clause-room : goal.returns-clause-room
returns-clause-room c =
    let rows = c.self.inside.rows in
    room_left (vec_capacity rows) (vec_len rows) (vec_capacity c.change_rows.new.rows) (vec_len c.change_rows.new.rows) c.args.self.now.room
    (ap (λ (s : LeanState). s.room) c.self.view_is) c.change_rows.ensures.room c.change_rows.ensures.more

pub overflow_add-self : goal.overflow_add-self
overflow_add-self c =
    let same : c.self.inside.entries ≡ c.args.self.now.core.entries = ap (λ (s : LeanState). s.core.entries) c.self.view_is in
    omega (arith, same, c.requires.small)

pub change_rows-requires-clause-room : goal.change_rows-requires-clause-room
change_rows-requires-clause-room c =
    let rows = c.self.inside.rows in
    room_there (vec_capacity rows) (vec_len rows) c.args.self.now.room (ap (λ (s : LeanState). s.room) c.self.view_is) c.requires.room

pub change_rows-requires-clause-made : goal.change_rows-requires-clause-made
change_rows-requires-clause-made c =
    let r = c.commit.inside in
    let one : c.args.change.now ≡ r.ready.change = c.requires.change ∙ sym (ap (λ (f : ReadyFor). f.change) c.commit.view_is) in (
      r.part.names,
      r.ready.used.version,
      r.part.pages,
      ap (λ (k : Core). k.pages) c.put.ensures ∙ ap (λ (ch : Change). pages_after r.part.names ch r.ready.used.version r.part.pages) (sym one),
    )
