use Rattle.std.proofs.Common.{◌≡◌, ◌≤◌, ◌&&◌, Bool, true, false, rules, List, ℤ, refl, sym, ap, ◌∙◌, subst, arith}
use Rattle.std.proofs.lemmas.Bool.{false≢true}
use Rattle.array_rows.specs.Boxes.{is_inside}
use Rattle.array_geom.specs.Geometry.{position_in}
use Rattle.array_geom.proofs.PlaceLaws.{coordinate_in_grid}
use Rattle.area_cells.specs.Inner.Stretches.{HasRoom, in_both, place_of}
use Rattle.area_cells.proofs.StretchLaws.{last_fits, same_grid, same_room, same_sides, stretch_is, out_second}
use Rattle.area_cells.proofs.stretches.stretch_at.Goals.{else-is_in_box-via-then-is_in_box+else-is_in_box-2, else-is_in_box-via-else-is_in_box}
use Rattle.area_cells.proofs.stretches.stretch_at.Goals as goal

pub room_after-room-requires : goal.room_after-room-requires
room_after-room-requires c =
    same_grid _ c.args.source.now.low.items _ c.args.source.now.lengths.items _ (place_of c.args.source.now c.args.position) c.as_slice.ensures.value c.as_slice-2.ensures.value (c.as_slice-3.ensures.value ∙ c.place-at.ensures)
    (coordinate_in_grid c.args.source.now.low.items c.args.source.now.lengths.items c.args.position c.requires.source.lengths c.requires.source.each c.requires.place)

pub overflow_add-last : goal.overflow_add-last
overflow_add-last c =
    let room = same_room _ c.args.source.now.low.items _ c.args.source.now.lengths.items _ (place_of c.args.source.now c.args.position) c.room_after-room.result c.as_slice.ensures.value c.as_slice-2.ensures.value (c.as_slice-3.ensures.value ∙ c.place-at.ensures) c.room_after-room.ensures in
    let less = c.steps_along-in_core.ensures.within in
    let fewer = c.steps_along-steps.ensures.within in
    let below = last_fits c.args.source.now c.args.position c.room_after-room.result c.steps_along-steps.result c.requires.source c.requires.place room (omega (arith, less, fewer)) in
    let small = c.requires.source.places in
    omega (arith, below, small)

pub returns-then-is_in_box-2-clause-stretch : goal.returns-then-is_in_box-2-clause-stretch
returns-then-is_in_box-2-clause-stretch c =
    let at = c.place-at.ensures in
    let in_core : is_inside c.args.core.now (place_of c.args.source.now c.args.position) ≡ true = ap (is_inside c.args.core.now) (sym at) ∙ sym c.is_in_box.ensures ∙ c.if-is_in_box.true in
    let in_area : is_inside c.args.area.now (place_of c.args.source.now c.args.position) ≡ true = ap (is_inside c.args.area.now) (sym at) ∙ sym c.is_in_box-then-is_in_box.ensures ∙ c.if-is_in_box-2.true in
    stretch_is c.args.source.now c.args.target.now c.args.core.now c.args.area.now c.args.position c.room_after-room.result c.steps_along-in_core.result c.steps_along-steps.result c.position.result true
    c.requires.source c.requires.target c.requires.held c.requires.place
    (same_room _ c.args.source.now.low.items _ c.args.source.now.lengths.items _ (place_of c.args.source.now c.args.position) c.room_after-room.result c.as_slice.ensures.value c.as_slice-2.ensures.value (c.as_slice-3.ensures.value ∙ at) c.room_after-room.ensures)
    c.steps_along-in_core.ensures.within c.steps_along-steps.ensures.within
    (same_sides _ c.args.core.now.lo.items _ c.args.core.now.hi.items _ (place_of c.args.source.now c.args.position) c.steps_along-in_core.result c.as_slice-4.ensures.value c.as_slice-5.ensures.value (c.as_slice-6.ensures.value ∙ at) c.steps_along-in_core.ensures.sides)
    (same_sides _ c.args.area.now.lo.items _ c.args.area.now.hi.items _ (place_of c.args.source.now c.args.position) c.steps_along-steps.result c.as_slice-7.ensures.value c.as_slice-8.ensures.value (c.as_slice-9.ensures.value ∙ at) c.steps_along-steps.ensures.sides)
    (λ i. in_core i && in_area i) (λ t. c.position.ensures.value ∙ ap (position_in c.args.target.now.low.items c.args.target.now.lengths.items) at)

pub returns-else-is_in_box-clause-stretch : goal.returns-else-is_in_box-clause-stretch
returns-else-is_in_box-clause-stretch c =
    let at = c.place-at.ensures in
    let core = is_inside c.args.core.now (place_of c.args.source.now c.args.position) in
    let out : in_both c.args.source.now c.args.core.now c.args.area.now c.args.position ≡ false = elim c.else-is_in_box.branch [
      | else-is_in_box-via-then-is_in_box+else-is_in_box-2 w ↦
          out_second core _ (ap (is_inside c.args.area.now) (sym at) ∙ sym w.is_in_box-then-is_in_box.ensures ∙ w.if-is_in_box-2.false)
      | else-is_in_box-via-else-is_in_box w ↦
          ap (λ (t : Bool). t && is_inside c.args.area.now (place_of c.args.source.now c.args.position)) (ap (is_inside c.args.core.now) (sym at) ∙ sym c.is_in_box.ensures ∙ w.if-is_in_box.false)
    ] in
    stretch_is c.args.source.now c.args.target.now c.args.core.now c.args.area.now c.args.position c.room_after-room.result c.steps_along-in_core.result c.steps_along-steps.result 0 false
    c.requires.source c.requires.target c.requires.held c.requires.place
    (same_room _ c.args.source.now.low.items _ c.args.source.now.lengths.items _ (place_of c.args.source.now c.args.position) c.room_after-room.result c.as_slice.ensures.value c.as_slice-2.ensures.value (c.as_slice-3.ensures.value ∙ at) c.room_after-room.ensures)
    c.steps_along-in_core.ensures.within c.steps_along-steps.ensures.within
    (same_sides _ c.args.core.now.lo.items _ c.args.core.now.hi.items _ (place_of c.args.source.now c.args.position) c.steps_along-in_core.result c.as_slice-4.ensures.value c.as_slice-5.ensures.value (c.as_slice-6.ensures.value ∙ at) c.steps_along-in_core.ensures.sides)
    (same_sides _ c.args.area.now.lo.items _ c.args.area.now.hi.items _ (place_of c.args.source.now c.args.position) c.steps_along-steps.result c.as_slice-7.ensures.value c.as_slice-8.ensures.value (c.as_slice-9.ensures.value ∙ at) c.steps_along-steps.ensures.sides)
    out (λ t. absurd (false≢true t))
