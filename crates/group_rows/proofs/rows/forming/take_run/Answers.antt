use Rattle.std.proofs.Common.{◌+◌, ◌≤◌, arith, ℕ, subst}
use Rattle.group_rows.specs.Taken.{cells_kept}
use Rattle.group_rows.proofs.TakenLaws.{first_at, run_taken}
use Rattle.group_rows.proofs.rows.forming.take_run.Goals as goal

pub returns-clause-states : goal.returns-clause-states
returns-clause-states c = λ group before are rise keeps.
    let keys = c.args.keys.now in
    let count = c.run_length-count.result + 1 in
    run_taken c.args.aggregates.now group c.index-keys-0.result keys before c.args.rows.now c.split_at-2.result.0.now count c.args.groups.now c.take_rows.new.groups (omega (arith, c.split_at-2.ensures.front_len))
    c.split_at-2.ensures.front (first_at c.index-keys-0.result keys c.split_at.result.1.now c.run_length-count.result c.requires.some c.index-keys-0.is c.split_at.ensures.back c.run_length-count.ensures.same)
    c.in_ok-take_rows.ensures.states are rise keeps

pub returns-clause-cells : goal.returns-clause-cells
returns-clause-cells c =
    subst (λ (n : ℕ). cells_kept c.take_rows.new.groups.entries ≤ cells_kept c.args.groups.now.entries + n) c.split_at-2.ensures.front_len c.in_ok-take_rows.ensures.cells
