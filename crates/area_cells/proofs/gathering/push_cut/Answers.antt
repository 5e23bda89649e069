use Rattle.std.proofs.Common.{◌∷◌, [], List, ℤ, sym, ap, ◌∙◌}
use Rattle.cell_values.specs.declared.schema.Bounds.{Bounds}
use Rattle.array_rows.specs.Boxes.{meet}
use Rattle.array_geom.specs.Areas.{are_ordered}
use Rattle.array_geom.specs.Geometry.{core}
use Rattle.chunk_cells.proofs.MergeLaws.{on_ok}
use Rattle.area_cells.proofs.ApartLaws.{apart_where, no_rows}
use Rattle.area_cells.proofs.CutLaws.{takes_none, takes_one}
use Rattle.area_cells.proofs.gathering.push_cut.Goals as goal

pub returns-then-not-are_ordered : goal.returns-then-not-are_ordered
returns-then-not-are_ordered c =
    let dims = c.args.schema.now.dimensions in
    let box = core dims c.args.chunk.now.at.items in
    let shared = c.meet-shared.ensures ∙ ap (λ (b : Bounds). meet b c.args.area.now) c.core_box.ensures in
    takes_none c.args.schema.now c.args.margins.now.items c.args.area.now (c.args.chunk.now ∷ []) c.args.cuts.now
    (no_rows dims c.args.margins.now.items c.args.area.now (c.args.chunk.now ∷ []) (
      apart_where box c.args.area.now
          (ap (λ (b : Bounds). are_ordered b.lo.items b.hi.items) (sym shared) ∙ ap (λ (l : List ℤ). are_ordered l c.meet-shared.result.hi.items) (sym c.as_slice.ensures.value) ∙ ap (λ (h : List ℤ). are_ordered c.as_slice.result.now h) (sym c.as_slice-2.ensures.value)
          ∙ sym c.are_ordered.ensures ∙ c.if-not-are_ordered.true),
      tt,
    ))

pub returns : goal.returns
returns c =
    on_ok c.push.result c.push.ensures.ok
    (λ pushed. takes_one c.args.schema.now c.args.margins.now.items c.args.area.now c.args.chunk.now c.in_ok-cut_chunk.field-0 c.args.cuts.now c.push.new.self c.requires.places c.requires.rise c.in_ok-cut_chunk.ensures pushed)
