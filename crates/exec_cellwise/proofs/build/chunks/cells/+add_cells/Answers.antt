use Rattle.std.proofs.Common.{◌≡◌, ℕ, ℤ, pos, ◌+ℤ◌, List, [], ◌∷◌, ◌++◌, length, take, drop, slice_index_or, ◌-◌, refl, ◌∙◌, ap, subst, w64, FitsSigned, ◌<◌, arith, rules}
use Rattle.std.specs.Prelude.{OnOk}
use Rattle.std.specs.List.{flat_map}
use Rattle.std.proofs.lemmas.Int.{to_z-of_z}
use Rattle.arrayvec.specs.ArrayVec.{ArrayVec}
use Rattle.cell_values.specs.declared.datum.Row.{Row}
use Rattle.array_geom.proofs.Fronts.{shorter}
use Rattle.logical_plan.specs.Meaning.{count_from, how_many}
use Rattle.exec_cellwise.specs.Inner.Rows.{built_row}
use Rattle.exec_cellwise.specs.Inner.Walks.{TakesRows, rows_between}
use Rattle.exec_cellwise.proofs.RowLaws.{along_more, between_again, first_again, inside_here, none_above, none_below, takes_both, takes_none, takes_nothing}
use Rattle.exec_cellwise.proofs.RunLaws.{after_all, inside_along, last_between, last_rows, room_along, up_to}
use Rattle.exec_cellwise.proofs.build.chunks.cells.+add_cells.Goals as goal

pub add_along-loop-offset-preserved : goal.add_along-loop-offset-preserved
add_along-loop-offset-preserved t c =
    let fits : FitsSigned w64 c.number_at.result = search rules in
    let fits_low : FitsSigned w64 c.args.low.now = search rules in
    let fits_high : FitsSigned w64 c.args.high.now = search rules in
    let there : c.number_at.result ≡ c.args.low.now +ℤ pos c.loop-offset.offset = simp to_z-of_z at c.number_at.ensures in
    let joined : c.push.new.self.items ≡ c.copy_coord-next.result.items ++ c.number_at.result ∷ [] = simp to_z-of_z at c.push.ensures.items in
    let at = c.args.at.now.items in
    let row = built_row c.args.attributes.now c.args.value.now in
    let low = c.args.grid.now.low.items in
    let lengths = c.args.grid.now.lengths.items in
    let pushed : c.push.new.self.items ≡ at ++ (c.args.low.now +ℤ pos c.loop-offset.offset) ∷ []
    = joined ∙ ap (λ (l : List ℤ). l ++ c.number_at.result ∷ []) (ap (λ v. v.items) c.copy_coord-next.ensures) ∙ ap (λ (x : ℤ). at ++ x ∷ []) there in
    subst (λ (rows : List Row). TakesRows low lengths rows c.args.chunk.now c.add_cells.new.chunk) (along_more (λ x. rows_between row (at ++ x ∷ []) c.args.lo.now c.args.hi.now) c.args.low.now c.loop-offset.offset)
    (takes_both low lengths _ _ c.args.chunk.now c.loop-offset.chunk c.add_cells.new.chunk c.loop-offset.invariant
    (subst (λ (l : List ℤ). TakesRows low lengths (rows_between row l c.args.lo.now c.args.hi.now) c.loop-offset.chunk c.add_cells.new.chunk) pushed c.in_ok-add_cells.ensures))

pub add_along-returns : goal.add_along-returns
add_along-returns t c =
    let row = built_row c.args.attributes.now c.args.value.now in
    let at = c.args.at.now.items in
    let all : c.loop-offset.offset ≡ how_many c.args.low.now c.args.high.now = search rules in
    subst (λ (n : ℕ). TakesRows c.args.grid.now.low.items c.args.grid.now.lengths.items (flat_map (λ x. rows_between row (at ++ x ∷ []) c.args.lo.now c.args.hi.now) (count_from c.args.low.now n)) c.args.chunk.now c.loop-offset.chunk) all c.loop-offset.invariant

pub add_cells-add_cell-requires-clause-inside : goal.add_cells-add_cell-requires-clause-inside
add_cells-add_cell-requires-clause-inside t c = inside_here c.args.grid.now.low.items c.args.grid.now.lengths.items c.args.at.now.items c.args.lo.now c.args.hi.now c.in-empty.len_below c.in-empty-hi.len_below c.requires.inside

pub add_cells-returns-in-len1-up-hi : goal.add_cells-returns-in-len1-up-hi
add_cells-returns-in-len1-up-hi t c =
    let row = built_row c.args.attributes.now c.args.value.now in
    let at = c.args.at.now.items in
    let lo = first_again c.args.lo.now _ c.in-len1-up.len_at_least refl in
    let hi = first_again c.args.hi.now _ c.in-len1-up-hi.len_at_least refl in
    subst (λ (l : List ℤ). OnOk c.add_first.result (TakesRows c.args.grid.now.low.items c.args.grid.now.lengths.items (rows_between row at l c.args.hi.now) c.args.chunk.now c.add_first.new.chunk)) lo
    (subst (λ (h : List ℤ). OnOk c.add_first.result (TakesRows c.args.grid.now.low.items c.args.grid.now.lengths.items (rows_between row at (slice_index_or c.args.lo.now 0 (pos 0) ∷ take (length c.args.lo.now - 1) (drop 1 c.args.lo.now)) h) c.args.chunk.now c.add_first.new.chunk)) hi
    c.add_first.ensures)

pub add_first-add_run-requires-clause-inside : goal.add_first-add_run-requires-clause-inside
add_first-add_run-requires-clause-inside t c = λ at inside.
    let last = c.are_last.ensures c.if-are_last.true in
    c.requires.inside at (last_between c.args.low.now c.args.high.now c.args.lo.now c.args.hi.now at last.0 last.1 inside)

pub add_first-returns-then-are_last : goal.add_first-returns-then-are_last
add_first-returns-then-are_last t c =
    let last = c.are_last.ensures c.if-are_last.true in
    let row = built_row c.args.attributes.now c.args.value.now in
    subst (λ (rows : List Row). OnOk c.add_run.result (TakesRows c.args.grid.now.low.items c.args.grid.now.lengths.items rows c.args.chunk.now c.add_run.new.chunk))
    (last_rows row c.args.at.now.items c.args.low.now c.args.high.now c.args.lo.now c.args.hi.now last.0 last.1) c.add_run.ensures

pub add_along-add_cells-requires : goal.add_along-add_cells-requires
add_along-add_cells-requires t c =
    let fits : FitsSigned w64 c.number_at.result = search rules in
    let fits_low : FitsSigned w64 c.args.low.now = search rules in
    let fits_high : FitsSigned w64 c.args.high.now = search rules in
    let count : c.in_ok-offset-end.offset-end ≡ how_many c.args.low.now c.args.high.now = simp to_z-of_z at c.in_ok-offset-end.ensures.value in
    let within = subst (λ (n : ℕ). c.loop-offset.offset < n) count c.loop-offset-test.true in
    let there : c.number_at.result ≡ c.args.low.now +ℤ pos c.loop-offset.offset = simp to_z-of_z at c.number_at.ensures in
    let joined : c.push.new.self.items ≡ c.copy_coord-next.result.items ++ c.number_at.result ∷ [] = simp to_z-of_z at c.push.ensures.items in
    let at = c.args.at.now.items in
    let here = c.args.low.now +ℤ pos c.loop-offset.offset in
    let pushed : c.push.new.self.items ≡ at ++ here ∷ []
    = joined ∙ ap (λ (l : List ℤ). l ++ c.number_at.result ∷ []) (ap (λ v. v.items) c.copy_coord-next.ensures) ∙ ap (λ (x : ℤ). at ++ x ∷ []) there in (
      omega (arith, c.decreases),
      (
        room_along at c.push.new.self.items here c.args.lo.now pushed c.requires.room,
        (
          c.requires.grid,
          inside_along c.args.grid.now.low.items c.args.grid.now.lengths.items at c.push.new.self.items c.args.low.now c.args.high.now here c.args.lo.now
              c.args.hi.now (after_all c.args.low.now c.loop-offset.offset) (up_to c.args.low.now c.args.high.now c.loop-offset.offset within) pushed
              c.requires.inside,
        ),
      ),
    )

pub add_cells-add_first-requires : goal.add_cells-add_first-requires
add_cells-add_first-requires t c =
    let less = shorter c.args.lo.now c.in-len1-up.len_at_least in
    let again = between_again c.args.lo.now c.args.hi.now c.in-len1-up.len_at_least c.in-len1-up-hi.len_at_least in
    (omega (arith, less, c.decreases), (omega (arith, less, c.requires.room), (c.requires.grid, λ at inside. c.requires.inside at (again at inside))))

pub add_cells-returns-in_default : goal.add_cells-returns-in_default
add_cells-returns-in_default t c =
    takes_nothing c.args.grid.now.low.items c.args.grid.now.lengths.items _ c.args.chunk.now
    (none_below (built_row c.args.attributes.now c.args.value.now) c.args.at.now.items c.args.lo.now c.args.hi.now c.in-empty.len_below
    c.in_default.len_at_least)

pub add_cells-returns-in-empty-hi-2 : goal.add_cells-returns-in-empty-hi-2
add_cells-returns-in-empty-hi-2 t c =
    takes_nothing c.args.grid.now.low.items c.args.grid.now.lengths.items _ c.args.chunk.now
    (none_above (built_row c.args.attributes.now c.args.value.now) c.args.at.now.items c.args.lo.now c.args.hi.now c.in-len1-up.len_at_least
    c.in-empty-hi-2.len_below)

pub add_first-add_along-requires : goal.add_first-add_along-requires
add_first-add_along-requires t c = (omega (arith, c.decreases), (c.requires.room, (c.requires.grid, c.requires.inside)))

pub add_along-loop-offset-init : goal.add_along-loop-offset-init
add_along-loop-offset-init t c = takes_none c.args.grid.now.low.items c.args.grid.now.lengths.items c.args.chunk.now

pub add_along-push-requires : goal.add_along-push-requires
add_along-push-requires t c =
    let same = ap (λ (v : ArrayVec ℤ). length v.items) c.copy_coord-next.ensures in
    let less : length c.copy_coord-next.result.items < 6 = omega (arith, same, c.requires.room) in
    (omega arith, less)
