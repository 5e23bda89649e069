use Rattle.std.proofs.Common.{◌≡◌, ℕ, List, [], sym, ap, ◌∙◌, subst, rules}
use Rattle.cell_values.specs.declared.schema.Bounds.{Bounds}
use Rattle.array_rows.specs.Boxes.{meet}
use Rattle.chunk_cells.proofs.MergeLaws.{on_ok}
use Rattle.exec_box.specs.Inner.Reached.{AddsPicks}
use Rattle.exec_box.proofs.PickLaws.{corners_apart, corners_reached}
use Rattle.exec_box.proofs.arrays.numbers.push_corners.Goals as goal

pub returns-then-not-holds : goal.returns-then-not-holds
returns-then-not-holds c =
    let shared = c.meet-shared.ensures ∙ ap (λ (b : Bounds). meet b c.args.area.now) c.core_box.ensures in
    corners_apart c.args.source.now c.args.target.now.dimensions c.args.number.now.items c.args.area.now c.meet-shared.result c.args.found.now shared (sym c.holds.ensures ∙ c.if-not-holds.true)

pub returns : goal.returns
returns c =
    let shared = c.meet-shared.ensures ∙ ap (λ (b : Bounds). meet b c.args.area.now) c.core_box.ensures in
    let none : c.new.result.items ≡ [] = search rules in
    on_ok c.push_picks.result c.push_picks.ensures
    (λ adds. corners_reached c.args.source.now c.args.target.now.dimensions c.args.number.now.items c.args.area.now c.meet-shared.result c.as_slice.result.now c.as_slice-2.result.now c.args.found.now c.push_picks.new.found c.requires.valid shared
    (c.as_slice.ensures.value ∙ c.chunks_from-low.ensures) (c.as_slice-2.ensures.value ∙ c.chunks_from-high.ensures)
    (subst (λ (front : List ℕ). AddsPicks c.args.target.now.dimensions front c.as_slice.result.now c.as_slice-2.result.now c.args.found.now c.push_picks.new.found) none adds))
