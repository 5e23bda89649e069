use Rattle.std.proofs.Common.{◌≡◌, ◌+◌, ◌-◌, ◌<◌, ℕ, pos, ◌-ℤ◌, rules, length, get_or, sym, ◌∙◌, arith}
use Rattle.std.specs.Prelude.{unsigned_abs}
use Rattle.area_cells.proofs.CutLaws.{some_chunks}
use Rattle.area_cells.proofs.StretchLaws.{diff_below, last_in_grid, no_room, room_is, some_length}
use Rattle.area_cells.proofs.stretches.room_after.Goals as goal

pub returns-then-is_empty : goal.returns-then-is_empty
returns-then-is_empty c = no_room c.args.low.now c.args.lengths.now c.args.at.now c.requires

pub bounds-lengths-last : goal.bounds-lengths-last
bounds-lengths-last c =
    let some = some_chunks (length c.args.at.now) (sym c.is_empty.ensures ∙ c.if-is_empty.false) in
    (last_in_grid c.args.low.now c.args.lengths.now c.args.at.now (length c.args.at.now - 1) (omega (arith, some)) c.requires).lengths_have

pub bounds-low-last : goal.bounds-low-last
bounds-low-last c =
    let some = some_chunks (length c.args.at.now) (sym c.is_empty.ensures ∙ c.if-is_empty.false) in
    (last_in_grid c.args.low.now c.args.lengths.now c.args.at.now (length c.args.at.now - 1) (omega (arith, some)) c.requires).low_has

pub overflow_sub-result : goal.overflow_sub-result
overflow_sub-result c =
    let some = some_chunks (length c.args.at.now) (sym c.is_empty.ensures ∙ c.if-is_empty.false) in
    some_length c.args.low.now c.args.lengths.now c.args.at.now (length c.args.at.now - 1) (last_in_grid c.args.low.now c.args.lengths.now c.args.at.now (length c.args.at.now - 1) (omega (arith, some)) c.requires)

pub overflow_sub-result-2 : goal.overflow_sub-result-2
overflow_sub-result-2 c =
    let some = some_chunks (length c.args.at.now) (sym c.is_empty.ensures ∙ c.if-is_empty.false) in
    diff_below c.args.low.now c.args.lengths.now c.args.at.now (length c.args.at.now - 1) c.abs_diff.result
    (last_in_grid c.args.low.now c.args.lengths.now c.args.at.now (length c.args.at.now - 1) (omega (arith, some)) c.requires) (search rules)

pub returns : goal.returns
returns c =
    let some = some_chunks (length c.args.at.now) (sym c.is_empty.ensures ∙ c.if-is_empty.false) in
    let diff : c.abs_diff.result ≡ unsigned_abs (get_or c.args.at.now (length c.args.at.now - 1) (pos 0) -ℤ get_or c.args.low.now (length c.args.at.now - 1) (pos 0)) = search rules in
    room_is c.args.low.now c.args.lengths.now c.args.at.now (length c.args.at.now - 1) c.abs_diff.result (omega (arith, some)) c.requires diff
