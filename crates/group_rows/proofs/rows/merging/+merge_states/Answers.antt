use Rattle.std.proofs.Common.{◌≡◌, ◌∙◌, ◌∷◌, ◌+◌, max, ap, arith, length, length-append, []}
use Rattle.group_rows.specs.Counts.{cells_of}
use Rattle.group_rows.specs.Inner.Merged.{AreBoth}
use Rattle.group_rows.proofs.StateLaws.{cells_push, last_both, last_cells, absurd_last, no_cells, none_both}
use Rattle.group_rows.proofs.rows.merging.+merge_states.Goals as goal

pub merge_states-requires : goal.merge_states-requires
merge_states-requires t c =
    let n = ap length c.in-Some.ensures ∙ length-append c.pop.new.self (c.in-Some.state ∷ []) in
    let a : cells_of c.args.left ≡ max (cells_of c.pop.new.self) c.in-Some.state.cells = ap cells_of c.in-Some.ensures ∙ cells_push c.pop.new.self c.in-Some.state in
    let b : cells_of c.args.right ≡ max (cells_of c.pop-in-Some.new.self) c.in-Some-pop.other.cells = ap cells_of c.in-Some-pop.ensures ∙ cells_push c.pop-in-Some.new.self c.in-Some-pop.other in
    (omega (arith, n, c.decreases), omega (arith, a, b, c.requires.room))

pub merge-united-requires : goal.merge-united-requires
merge-united-requires t c =
    let a : cells_of c.args.left ≡ max (cells_of c.pop.new.self) c.in-Some.state.cells = ap cells_of c.in-Some.ensures ∙ cells_push c.pop.new.self c.in-Some.state in
    let b : cells_of c.args.right ≡ max (cells_of c.pop-in-Some.new.self) c.in-Some-pop.other.cells = ap cells_of c.in-Some-pop.ensures ∙ cells_push c.pop-in-Some.new.self c.in-Some-pop.other in
    record { room = omega (arith, a, b, c.requires.room) }

pub returns-in_ok-push-in-Some-pop-clause-states : goal.returns-in_ok-push-in-Some-pop-clause-states
returns-in_ok-push-in-Some-pop-clause-states t c =
    last_both c.args.left c.args.right c.pop.new.self c.pop-in-Some.new.self c.in_ok-states-in-Some-pop.states c.push.new.self c.in-Some.state c.in-Some-pop.other c.merge-united.result
    c.in-Some.ensures c.in-Some-pop.ensures c.in_ok-push-in-Some-pop.ensures.ok c.in_ok-states-in-Some-pop.ensures.states c.merge-united.ensures.stands

pub returns-in_ok-push-in-Some-pop-clause-cells : goal.returns-in_ok-push-in-Some-pop-clause-cells
returns-in_ok-push-in-Some-pop-clause-cells t c =
    last_cells c.args.left c.args.right c.pop.new.self c.pop-in-Some.new.self c.in_ok-states-in-Some-pop.states c.push.new.self c.in-Some.state c.in-Some-pop.other c.merge-united.result
    c.in-Some.ensures c.in-Some-pop.ensures c.in_ok-push-in-Some-pop.ensures.ok c.in_ok-states-in-Some-pop.ensures.cells c.merge-united.ensures.cells

pub returns-in-None-pop-clause-states : goal.returns-in-None-pop-clause-states
returns-in-None-pop-clause-states t c =
    absurd_last c.args.left c.args.right c.pop.new.self c.in-Some.state (AreBoth c.args.left c.args.right c.pop-in-Some.new.self) c.in-Some.ensures c.in-None-pop.ensures.0

pub returns-in-None-pop-clause-cells : goal.returns-in-None-pop-clause-cells
returns-in-None-pop-clause-cells t c = no_cells c.pop-in-Some.new.self (cells_of c.args.left + cells_of c.args.right) c.in-None-pop.ensures.1

pub returns-in-None-clause-states : goal.returns-in-None-clause-states
returns-in-None-clause-states t c = none_both c.args.left c.args.right c.pop.new.self c.in-None.ensures.0 c.in-None.ensures.1

pub returns-in-None-clause-cells : goal.returns-in-None-clause-cells
returns-in-None-clause-cells t c = no_cells c.pop.new.self (cells_of c.args.left + cells_of c.args.right) c.in-None.ensures.1
