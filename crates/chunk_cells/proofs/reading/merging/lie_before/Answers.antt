use Rattle.std.proofs.Common.{◌≡◌, ◌<◌, length, rules, arith, sym, ◌∙◌}
use Rattle.std.specs.declared.cmp.Ordering.TheVariants.{Less}
use Rattle.array_rows.specs.Rows.{row_major}
use Rattle.chunk_cells.proofs.MergeLaws.{all_appended, none_after, none_before}
use Rattle.chunk_cells.proofs.reading.merging.lie_before.Goals as goal

pub returns-then-is_empty : goal.returns-then-is_empty
returns-then-is_empty c = let none : length c.args.left.now ≡ 0 = search rules in λ t rl rr. none_before c.args.left.now c.args.right.now none

pub returns-then-is_empty-2 : goal.returns-then-is_empty-2
returns-then-is_empty-2 c = let none : length c.args.right.now ≡ 0 = search rules in λ t rl rr. none_after c.args.left.now c.args.right.now none rl

pub returns-in-Less : goal.returns-in-Less
returns-in-Less c =
    let left : 0 < length c.args.left.now = search rules in
    let right : 0 < length c.args.right.now = search rules in
    let less : row_major c.index-left-left.result.at.items c.index-right-0.result.at.items ≡ Less = search rules in
    λ t rl rr. all_appended c.args.left.now c.args.right.now c.index-left-left.result c.index-right-0.result left right c.index-left-left.is c.index-right-0.is less rl rr
