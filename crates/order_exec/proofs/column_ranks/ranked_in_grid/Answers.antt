use Rattle.std.proofs.Common.{◌≡◌, List, ℤ, refl, sym, ap, subst}
use Rattle.std.specs.Prelude.{IfSome, Option}
use Rattle.std.specs.List.{AllByRecursion, AllZip}
use Rattle.cell_values.specs.declared.schema.Schema.{Schema}
use Rattle.array_geom.specs.declared.chunk.Chunk.{Chunk}
use Rattle.array_geom.specs.Link.{Is}
use Rattle.array_parts.specs.Cores.{cores_of}
use Rattle.array_parts.specs.Placed.{HasPlaces}
use Rattle.group_rows.proofs.RankedLaws.{ranked_are_rows}
use Rattle.group_rows.proofs.WholeLaws.{means_whole, of_cores}
use Rattle.logical_plan.specs.Ordered.{rank_rows}
use Rattle.logical_plan.specs.PlanSchema.{rank_schema}
use Rattle.order_exec.specs.Inner.RankedChunks.{HoldNumbers, IsRanked, rows_of_chunks}
use Rattle.order_exec.proofs.ByChunkLaws.{frames_none}
use Rattle.order_exec.proofs.FewLaws.{can_be}
use Rattle.order_exec.proofs.RankedChunkLaws.{counted_groups, ranked_are_parts, ranked_have_places}
use Rattle.order_exec.proofs.column_ranks.ranked_in_grid.Goals as goal

pub numbers_of_groups-requires-clause-places : goal.numbers_of_groups-requires-clause-places
numbers_of_groups-requires-clause-places c =
    subst (AllByRecursion (HasPlaces c.args.array.now.schema c.args.array.now.margins.items)) (sym c.as_slice-chunks.ensures) c.requires.cells.placed.all

pub ranked_chunks-requires-clause-places : goal.ranked_chunks-requires-clause-places
ranked_chunks-requires-clause-places c =
    subst (AllByRecursion (HasPlaces c.args.array.now.schema c.args.array.now.margins.items)) (sym c.as_slice-chunks.ensures) c.requires.cells.placed.all

pub ranked_chunks-requires-clause-long : goal.ranked_chunks-requires-clause-long
ranked_chunks-requires-clause-long c =
    let array = c.args.array.now in
    let sides = array.schema.dimensions in
    let margins = array.margins.items in
    let x = c.args.attribute in
    let dims = c.args.to.now.dims.now in
    let grid = c.args.to.now.grid.now in
    let groups = c.as_slice.result.now in
    let held = subst (λ (o : Option (List (List ℤ))). IfSome o (HoldNumbers x dims grid (rows_of_chunks sides margins c.as_slice-chunks.result.now))) c.in-Some.is c.in_ok-numbers.ensures in
    let counted = counted_groups x dims grid sides margins array.chunks c.as_slice-chunks.result.now c.in-Some.numbers c.in_ok-groups.groups groups c.as_slice-chunks.ensures held c.in_ok-groups.ensures c.as_slice.ensures in
    counted.long

pub ranked_chunks-requires-clause-order : goal.ranked_chunks-requires-clause-order
ranked_chunks-requires-clause-order c =
    let array = c.args.array.now in
    let sides = array.schema.dimensions in
    let margins = array.margins.items in
    let x = c.args.attribute in
    let dims = c.args.to.now.dims.now in
    let grid = c.args.to.now.grid.now in
    let groups = c.as_slice.result.now in
    let held = subst (λ (o : Option (List (List ℤ))). IfSome o (HoldNumbers x dims grid (rows_of_chunks sides margins c.as_slice-chunks.result.now))) c.in-Some.is c.in_ok-numbers.ensures in
    let counted = counted_groups x dims grid sides margins array.chunks c.as_slice-chunks.result.now c.in-Some.numbers c.in_ok-groups.groups groups c.as_slice-chunks.ensures held c.in_ok-groups.ensures c.as_slice.ensures in
    counted.rising

pub array_of_parts-requires : goal.array_of_parts-requires
array_of_parts-requires c =
    let array = c.args.array.now in
    let sides = array.schema.dimensions in
    let margins = array.margins.items in
    let x = c.args.attribute in
    let dims = c.args.to.now.dims.now in
    let grid = c.args.to.now.grid.now in
    let groups = c.as_slice.result.now in
    let held = subst (λ (o : Option (List (List ℤ))). IfSome o (HoldNumbers x dims grid (rows_of_chunks sides margins c.as_slice-chunks.result.now))) c.in-Some.is c.in_ok-numbers.ensures in
    let counted = counted_groups x dims grid sides margins array.chunks c.as_slice-chunks.result.now c.in-Some.numbers c.in_ok-groups.groups groups c.as_slice-chunks.ensures held c.in_ok-groups.ensures c.as_slice.ensures in
    let R = IsRanked x dims grid sides margins groups in
    let ranked = subst (λ (o : Option (List Chunk)). IfSome o (AllZip R c.as_slice-chunks.result.now)) c.in-Some-2.is c.in_ok-parts.ensures in
    let each = subst (λ (chunks : List Chunk). AllZip R chunks c.in-Some-2.parts) c.as_slice-chunks.ensures ranked in
    let target = c.args.target.now in
    let none = c.no_margins-none.result.items in
    let same : target.dimensions ≡ sides = ap (λ (s : Schema). s.dimensions) c.requires.target in
    let framed = frames_none target none c.requires.valid c.no_margins-none.ensures in
    ranked_have_places array.schema target margins none array.chunks c.requires.cells same c.requires.none c.no_margins-none.ensures framed x dims grid groups counted c.in-Some-2.parts each

pub returns : goal.returns
returns c =
    let array = c.args.array.now in
    let sides = array.schema.dimensions in
    let margins = array.margins.items in
    let x = c.args.attribute in
    let dims = c.args.to.now.dims.now in
    let grid = c.args.to.now.grid.now in
    let groups = c.as_slice.result.now in
    let held = subst (λ (o : Option (List (List ℤ))). IfSome o (HoldNumbers x dims grid (rows_of_chunks sides margins c.as_slice-chunks.result.now))) c.in-Some.is c.in_ok-numbers.ensures in
    let counted = counted_groups x dims grid sides margins array.chunks c.as_slice-chunks.result.now c.in-Some.numbers c.in_ok-groups.groups groups c.as_slice-chunks.ensures held c.in_ok-groups.ensures c.as_slice.ensures in
    let R = IsRanked x dims grid sides margins groups in
    let ranked = subst (λ (o : Option (List Chunk)). IfSome o (AllZip R c.as_slice-chunks.result.now)) c.in-Some-2.is c.in_ok-parts.ensures in
    let each = subst (λ (chunks : List Chunk). AllZip R chunks c.in-Some-2.parts) c.as_slice-chunks.ensures ranked in
    let target = c.args.target.now in
    let none = c.no_margins-none.result.items in
    let same : target.dimensions ≡ sides = ap (λ (s : Schema). s.dimensions) c.requires.target in
    let framed = frames_none target none c.requires.valid c.no_margins-none.ensures in
    let all = cores_of array in
    let made = rank_rows x dims all in
    subst (Is c.in_ok-made.made) (means_whole (rank_schema x) (λ s. rank_rows x dims) array target made c.requires.whole c.requires.target refl)
    (c.in_ok-made.ensures.array made
    (ranked_are_rows array.schema target x dims all made (of_cores array all refl c.requires.cells) c.requires.target c.requires.valid (can_be array.schema x dims c.requires.ranks) (c.requires.few sides margins) refl)
    (ranked_are_parts array.schema target margins none array.chunks c.requires.cells same c.requires.none c.no_margins-none.ensures framed x dims grid groups counted c.in-Some-2.parts each))
