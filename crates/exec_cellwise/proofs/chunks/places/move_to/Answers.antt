use Rattle.std.proofs.Common.{◌∙◌, ◌-◌, ℤ, Option, w64, FitsSigned, rules, refl, subst}
use Rattle.std.specs.Prelude.{IfSome}
use Rattle.std.proofs.lemmas.Int.{to_z-of_z}
use Rattle.array_geom.specs.Geometry.{coordinate_in}
use Rattle.array_geom.proofs.PlaceLaws.{coordinate_in_grid}
use Rattle.area_cells.proofs.StretchLaws.{same_grid}
use Rattle.exec_cellwise.specs.Inner.Places.{IsLast}
use Rattle.exec_cellwise.proofs.PlaceSteps.{moved_on}
use Rattle.exec_cellwise.proofs.chunks.places.move_to.Goals as goal

pub number_ahead-requires-clause-grid : goal.number_ahead-requires-clause-grid
number_ahead-requires-clause-grid c =
    same_grid _ c.args.grid.now.low.items _ c.args.grid.now.lengths.items _ (coordinate_in c.args.grid.now.low.items c.args.grid.now.lengths.items c.args.from) c.as_slice-low.ensures.value c.as_slice-lengths.ensures.value (c.as_slice.ensures.value ∙ c.requires.at)
    (coordinate_in_grid c.args.grid.now.low.items c.args.grid.now.lengths.items c.args.from c.requires.grid.lengths c.requires.grid.each c.requires.from)

pub returns-in-Some : goal.returns-in-Some
returns-in-Some c =
    let fits : FitsSigned w64 c.in-Some.number = search rules in
    let lows = c.as_slice-low.result.now in
    let sizes = c.as_slice-lengths.result.now in
    let here = c.as_slice.result.now in
    let steps = c.args.place - c.args.from in
    let last : IsLast lows sizes here steps c.in-Some.number = subst (λ (o : Option ℤ). IfSome o (IsLast lows sizes here steps)) c.in-Some.is c.number_ahead.ensures in
    moved_on c.args.grid.now c.args.from c.args.place steps lows sizes here c.args.at.now.items c.pop.new.self.items c.push.new.self.items c.in-Some.number c.requires.grid c.requires.from c.if-from-place.true refl
    c.as_slice-low.ensures.value c.as_slice-lengths.ensures.value c.as_slice.ensures.value c.requires.at last c.pop.ensures.rest (simp to_z-of_z at c.push.ensures.items)
