use Rattle.std.proofs.Common.{◌≡◌, List, refl, subst}
use Rattle.cell_values.specs.declared.schema.Dimension.{Dimension}
use Rattle.array_geom.specs.Geometry.{HasFrame}
use Rattle.array_geom.proofs.MarginLaws.{overlap_each, overlap_places}
use Rattle.array_parts.specs.Cores.{HaveCells, cores_of}
use Rattle.array_parts.proofs.CoreLaws.{cores_are_rows}
use Rattle.exec_box.specs.Inner.Reached.{HaveCores}
use Rattle.exec_box.proofs.ReachLaws.{each_accepted}
use Rattle.shape_rows.proofs.PullLaws.{pulled_arrays}
use Rattle.shape_exec.proofs.PullParts.{are_parts, have_places}
use Rattle.shape_exec.proofs.mapped_arrays.mapped_array.Goals as goal

pub over_pieces-requires-after_bounds : goal.over_pieces-requires-after_bounds
over_pieces-requires-after_bounds g c κs within =
    let array = c.args.array.now in
    let schema = c.args.schema.now in
    let map = c.args.map.now in
    let margins = c.margins_of-margins.result.items in
    each_accepted schema margins
    (λ number. g.M.CellMap.sound map × (g.M.CellMap.source map ≡ array.schema.dimensions) × (g.M.CellMap.target map ≡ schema.dimensions) × HaveCells array.schema array.margins.items array.chunks × HasFrame schema margins number.items)
    c.in_ok-numbers.numbers c.requires.valid
    (overlap_each schema margins c.margins_of-margins.ensures) (overlap_places schema margins c.margins_of-margins.ensures c.requires.valid)
    (λ number framed. (c.requires.sound, c.requires.source, c.requires.target, c.requires.cells, framed))
    (subst (λ (dims : List Dimension). HaveCores dims c.in_ok-numbers.numbers) c.requires.target c.in_ok-numbers.ensures.reached.cores)

pub array_of_parts-requires : goal.array_of_parts-requires
array_of_parts-requires g c =
    let schema = c.args.schema.now in
    let margins = c.margins_of-margins.result.items in
    have_places schema margins (g.M.CellMap.back c.args.map.now) (cores_of c.args.array.now) c.in_ok-numbers.numbers c.in_ok-parts.parts c.requires.valid
    (overlap_each schema margins c.margins_of-margins.ensures) (overlap_places schema margins c.margins_of-margins.ensures c.requires.valid)
    c.in_ok-numbers.ensures.in_order (subst (λ (dims : List Dimension). HaveCores dims c.in_ok-numbers.numbers) c.requires.target c.in_ok-numbers.ensures.reached.cores) c.in_ok-parts.ensures.each

pub returns-clause-array : goal.returns-clause-array
returns-clause-array g c = λ made is.
    let array = c.args.array.now in
    let schema = c.args.schema.now in
    let back = g.M.CellMap.back c.args.map.now in
    c.array_of_parts.ensures.array made
    (pulled_arrays array.schema schema back (cores_of array) made c.requires.valid c.requires.attributes (cores_are_rows array.schema array.margins.items array.chunks c.requires.cells) is)
    (are_parts schema c.margins_of-margins.result.items back (cores_of array) (g.M.CellMap.target c.args.map.now) array.schema.dimensions array.margins.items array.chunks made c.in_ok-numbers.numbers c.in_ok-parts.parts c.requires.valid c.requires.target refl is
    c.in_ok-numbers.ensures.in_order c.in_ok-numbers.ensures.reached c.in_ok-parts.ensures.each)
