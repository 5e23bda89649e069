use Rattle.std.proofs.Common.{◌≡◌, ◌-◌, pos, ◌+ℤ◌, ◌-ℤ◌, w64, FitsSigned, rules, length, get_or, subst, sym, ◌∙◌, arith}
use Rattle.std.specs.Prelude.{unsigned_abs}
use Rattle.std.proofs.lemmas.Int.{to_z-of_z}
use Rattle.area_cells.proofs.CutLaws.{some_chunks}
use Rattle.area_cells.proofs.StretchLaws.{last_in_grid}
use Rattle.exec_cellwise.specs.Inner.Places.{IsLast}
use Rattle.exec_cellwise.proofs.PlaceSteps.{number_last}
use Rattle.exec_cellwise.proofs.chunks.places.number_ahead.Goals as goal

pub bounds-lengths-last : goal.bounds-lengths-last
bounds-lengths-last c =
    let some = some_chunks (length c.args.at.now) (sym c.is_empty.ensures ∙ c.if-is_empty.false) in
    (last_in_grid c.args.low.now c.args.lengths.now c.args.at.now (length c.args.at.now - 1) (omega (arith, some)) c.requires.grid).lengths_have

pub bounds-low-last : goal.bounds-low-last
bounds-low-last c =
    let some = some_chunks (length c.args.at.now) (sym c.is_empty.ensures ∙ c.if-is_empty.false) in
    (last_in_grid c.args.low.now c.args.lengths.now c.args.at.now (length c.args.at.now - 1) (omega (arith, some)) c.requires.grid).low_has

pub returns-then-abs_diff-lengths : goal.returns-then-abs_diff-lengths
returns-then-abs_diff-lengths c =
    let some = some_chunks (length c.args.at.now) (sym c.is_empty.ensures ∙ c.if-is_empty.false) in
    let last = length c.args.at.now - 1 in
    let fits : FitsSigned w64 c.in-Some.number = search rules in
    let sum : c.in-Some.number ≡ get_or c.args.at.now last (pos 0) +ℤ pos c.args.steps = search rules in
    let away : c.abs_diff.result ≡ unsigned_abs (c.in-Some.number -ℤ get_or c.args.low.now last (pos 0)) = search rules in
    subst (IsLast c.args.low.now c.args.lengths.now c.args.at.now c.args.steps) (sym (to_z-of_z w64 c.in-Some.number fits))
    (number_last c.args.low.now c.args.lengths.now c.args.at.now last c.args.steps c.abs_diff.result c.in-Some.number (omega (arith, some)) c.requires.grid sum away c.if-abs_diff-lengths.true)
