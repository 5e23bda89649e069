use Rattle.std.proofs.Common.{◌≡◌, ◌<◌, ◌^◌, IsTrue, ℕ, List, map, length, rules, sym, ap, ◌∙◌, subst}
use Rattle.std.specs.Prelude.{IfSome, Option}
use Rattle.std.proofs.lemmas.List.{length-map}
use Rattle.array_rows.specs.Boxes.{is_inside}
use Rattle.array_geom.specs.declared.chunk.Chunk.{Chunk}
use Rattle.array_geom.specs.Geometry.{has_core}
use Rattle.array_parts.specs.Placed.{HasPlaces}
use Rattle.std.specs.List.{AllByRecursion}
use Rattle.array_geom.specs.Link.{Is, core_rows}
use Rattle.area_cells.specs.declared.finding.Found.{Found}
use Rattle.area_cells.specs.Found.{found_cell, found_rows}
use Rattle.group_rows.proofs.WholeLaws.{of_cores}
use Rattle.logical_plan.specs.Ordered.{numbered}
use Rattle.order_exec.specs.Inner.Keyed.{AreIndexed, AreKeyed, IsKeyAlone, keyed_cell}
use Rattle.order_exec.specs.declared.number_keys.Keyed.{Keyed}
use Rattle.order_exec.proofs.AlongLaws.{all_follows}
use Rattle.order_exec.proofs.HullLaws.{covered_rows}
use Rattle.order_exec.proofs.SortedRowsLaws.{all_within}
use Rattle.order_exec.proofs.FoundSortLaws.{sorted_meant, sorted_rows_of}
use Rattle.order_exec.proofs.KeyedLaws.{sorted_alone, sorted_indexed}
use Rattle.order_exec.proofs.number_sorts.sorted_by_number.Goals as goal

pub box_of_cores-requires-clause-cores : goal.box_of_cores-requires-clause-cores
box_of_cores-requires-clause-cores g c =
    let schema = c.args.array.now.schema in
    subst (λ (chunks : List Chunk). AllByRecursion (λ chunk. IsTrue (has_core schema.dimensions chunk.at.items)) chunks) (sym c.as_slice-chunks.ensures)
    (all_follows (HasPlaces schema c.args.array.now.margins.items) (λ chunk. IsTrue (has_core schema.dimensions chunk.at.items)) (λ chunk placed. placed.framed.core) c.args.array.now.chunks c.requires.cells.placed.all)

pub numbered_chunks-requires-clause-indexed : goal.numbered_chunks-requires-clause-indexed
numbered_chunks-requires-clause-indexed g c =
    let found = c.as_slice-2.result.now in
    let keyed : AreKeyed c.args.key (map found_cell c.as_slice.result.now) c.in-Some-2.keyed = subst (λ (o : Option (List Keyed)). IfSome o (AreKeyed c.args.key (map found_cell c.as_slice.result.now))) c.in-Some-2.is c.in_ok-keyed.ensures in
    let are = subst (λ (fs : List Found). AreKeyed c.args.key (map found_cell fs) c.in-Some-2.keyed) (c.as_slice.ensures ∙ sym c.as_slice-2.ensures) keyed in
    subst (λ (n : ℕ). AreIndexed n c.as_slice-3.result.now) (length-map found found_cell)
    (subst (AreIndexed (length (map found_cell found))) (sym (c.as_slice-3.ensures ∙ c.in_ok-sorted.ensures)) (sorted_indexed c.args.key (map found_cell found) c.in-Some-2.keyed are))

pub numbered_chunks-requires-clause-alone : goal.numbered_chunks-requires-clause-alone
numbered_chunks-requires-clause-alone g c =
    λ alone.
    let array = c.args.array.now in
    let found = c.as_slice-2.result.now in
    let grid = c.in-Some-grid_between.grid in
    let one : length array.schema.attributes ≡ 1 = search rules in
    let keyed : AreKeyed c.args.key (map found_cell c.as_slice.result.now) c.in-Some-2.keyed = subst (λ (o : Option (List Keyed)). IfSome o (AreKeyed c.args.key (map found_cell c.as_slice.result.now))) c.in-Some-2.is c.in_ok-keyed.ensures in
    let are = subst (λ (fs : List Found). AreKeyed c.args.key (map found_cell fs) c.in-Some-2.keyed) (c.as_slice.ensures ∙ sym c.as_slice-2.ensures) keyed in
    let chunks = c.as_slice-chunks.result.now in
    let area = c.in-Some.area in
    let dims = array.schema.dimensions in
    let margins = array.margins.items in
    let covered = covered_rows dims margins area chunks c.in-Some.ensures in
    let rows = ap (found_rows grid) c.as_slice-2.ensures ∙ c.in_ok-found.ensures.rows_are ∙ all_within (is_inside area) (core_rows dims margins chunks) covered ∙ ap (core_rows dims margins) c.as_slice-chunks.ensures in
    subst (AllByRecursion (IsKeyAlone (map found_cell found))) (sym (c.as_slice-3.ensures ∙ c.in_ok-sorted.ensures))
    (sorted_alone array.schema.attributes c.args.key grid found c.in-Some-2.keyed one (of_cores array (found_rows grid found) rows c.requires.cells).kinds are)

pub returns-clause-array : goal.returns-clause-array
returns-clause-array g c =
    let array = c.args.array.now in
    let target = c.args.target.now in
    let found = c.as_slice-2.result.now in
    let sorted = c.as_slice-3.result.now in
    let keyed : AreKeyed c.args.key (map found_cell c.as_slice.result.now) c.in-Some-2.keyed = subst (λ (o : Option (List Keyed)). IfSome o (AreKeyed c.args.key (map found_cell c.as_slice.result.now))) c.in-Some-2.is c.in_ok-keyed.ensures in
    let are = subst (λ (fs : List Found). AreKeyed c.args.key (map found_cell fs) c.in-Some-2.keyed) (c.as_slice.ensures ∙ sym c.as_slice-2.ensures) keyed in
    let few : length c.in-Some-2.keyed < 2 ^ 62 = search rules in
    let chunks = c.as_slice-chunks.result.now in
    let area = c.in-Some.area in
    let dims = array.schema.dimensions in
    let margins = array.margins.items in
    let covered = covered_rows dims margins area chunks c.in-Some.ensures in
    let rows = ap (found_rows c.in-Some-grid_between.grid) c.as_slice-2.ensures ∙ c.in_ok-found.ensures.rows_are ∙ all_within (is_inside area) (core_rows dims margins chunks) covered ∙ ap (core_rows dims margins) c.as_slice-chunks.ensures in
    let order = c.as_slice-3.ensures ∙ c.in_ok-sorted.ensures in
    subst (Is c.in_ok-made.made) (sorted_meant array c.args.key target c.in-Some-grid_between.grid found c.in-Some-2.keyed sorted c.requires.whole c.requires.cells c.requires.target c.requires.valid rows are few order)
    (c.in_ok-made.ensures.array (numbered 0 (map (keyed_cell (map found_cell found)) sorted))
    (sorted_rows_of array c.args.key target c.in-Some-grid_between.grid found c.in-Some-2.keyed sorted c.requires.whole c.requires.cells c.requires.target c.requires.valid rows are few order) c.in_ok-parts.ensures.parts)
