use Rattle.std.proofs.Common.{◌∷◌, [], List, ℤ, sym, ap, ◌∙◌}
use Rattle.cell_values.specs.declared.schema.Bounds.{Bounds}
use Rattle.array_rows.specs.Boxes.{meet, within}
use Rattle.array_geom.specs.Areas.{are_ordered}
use Rattle.array_geom.specs.Geometry.{core}
use Rattle.array_geom.specs.Link.{core_rows}
use Rattle.area_cells.proofs.ApartLaws.{apart_where, no_rows}
use Rattle.area_cells.proofs.TakingLaws.{none_found}
use Rattle.area_cells.proofs.finding.found_in_one.Goals as goal

pub returns-then-not-are_ordered : goal.returns-then-not-are_ordered
returns-then-not-are_ordered c =
    let dims = c.args.schema.now.dimensions in
    let box = core dims c.args.chunk.now.at.items in
    let shared = c.meet-shared.ensures ∙ ap (λ (b : Bounds). meet b c.args.area.now) c.core_box.ensures in
    none_found c.args.target.now _ (within c.args.area.now (core_rows dims c.args.margins.now.items (c.args.chunk.now ∷ []))) c.another.ensures
    (no_rows dims c.args.margins.now.items c.args.area.now (c.args.chunk.now ∷ []) (
      apart_where box c.args.area.now
          (ap (λ (b : Bounds). are_ordered b.lo.items b.hi.items) (sym shared) ∙ ap (λ (l : List ℤ). are_ordered l c.meet-shared.result.hi.items) (sym c.as_slice.ensures.value) ∙ ap (λ (h : List ℤ). are_ordered c.as_slice.result.now h) (sym c.as_slice-2.ensures.value)
          ∙ sym c.are_ordered.ensures ∙ c.if-not-are_ordered.true),
      tt,
    ))
