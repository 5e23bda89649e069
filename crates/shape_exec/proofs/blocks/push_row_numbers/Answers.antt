use Rattle.std.proofs.Common.{◌≡◌, ◌<◌, ◌≤◌, true, List, length, rules, arith, subst}
use Rattle.std.proofs.lemmas.List.{take_all}
use Rattle.cell_values.specs.declared.datum.Row.{Row}
use Rattle.array_rows.specs.Boxes.{bounds_of, is_inside}
use Rattle.order_exec.proofs.KeyedLaws.{at_place}
use Rattle.shape_exec.specs.Inner.Spread.{AddsRows}
use Rattle.shape_exec.proofs.SpreadLaws.{rows_more}
use Rattle.shape_exec.proofs.blocks.push_row_numbers.Goals as goal

pub loop-k-init : goal.loop-k-init
loop-k-init c = record { kept = λ k f. f; reached = tt; cores = λ f. f }

pub push_number-requires-clause-inside : goal.push_number-requires-clause-inside
push_number-requires-clause-inside c =
    let below : c.loop-k.k < length c.args.rows.now = first_of (search rules, omega arith) in
    at_place (λ (row : Row). is_inside (bounds_of c.args.schema.now.dimensions) row.at.items ≡ true) c.args.rows.now c.loop-k.k c.index-rows-k.result c.requires.inside below c.index-rows-k.is

pub loop-k-preserved : goal.loop-k-preserved
loop-k-preserved c =
    let below : c.loop-k.k < length c.args.rows.now = first_of (search rules, omega arith) in
    rows_more c.args.schema.now.dimensions c.args.rows.now c.loop-k.k c.index-rows-k.result c.args.found.now c.loop-k.found c.push_number.new.found below c.index-rows-k.is c.loop-k.invariant c.in_ok-push_number.ensures

pub returns : goal.returns
returns c =
    let all : length c.args.rows.now ≤ c.loop-k.k = first_of (search rules, omega arith) in
    subst (λ (rows : List Row). AddsRows c.args.schema.now.dimensions rows c.args.found.now c.loop-k.found) (take_all c.loop-k.k c.args.rows.now all) c.loop-k.invariant
