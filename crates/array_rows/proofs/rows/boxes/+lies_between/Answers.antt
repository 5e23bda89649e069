use Rattle.std.proofs.Common.{◌≡◌, ◌∙◌, ◌-◌, Bool, true, ap, sym, length, take, drop, get_or, pos, rules}
use Rattle.std.specs.Prelude.{int_le, ◌&&◌}
use Rattle.array_rows.specs.Boxes.{is_between}
use Rattle.array_rows.proofs.Loops.{between_first}
use Rattle.array_rows.proofs.rows.boxes.+lies_between.Goals.{then-low-x, else-low-x}
use Rattle.array_rows.proofs.rows.boxes.+lies_between.Goals as goal

pub returns-then-x-high : goal.returns-then-x-high
returns-then-x-high t c =
    let lo = c.args.lo.now in
    let hi = c.args.hi.now in
    let at = c.args.at.now in
    let first = between_first lo hi at c.in-len1-up.len_at_least c.in-len1-up-hi-2.len_at_least c.in-len1-up-at.len_at_least in
    let low = get_or lo 0 (pos 0) in
    let high = get_or hi 0 (pos 0) in
    let x = get_or at 0 (pos 0) in
    let both : (int_le low x && int_le x high) ≡ true = elim c.if-low-x.branch [ then-low-x w ↦ search rules | else-low-x w ↦ search rules ] in
    let others = is_between (take (length lo - 1) (drop 1 lo)) (take (length hi - 1) (drop 1 hi)) (take (length at - 1) (drop 1 at)) in
    c.lies_between.ensures ∙ sym (first ∙ ap (λ (b : Bool). b && others) both)
