use Rattle.std.proofs.Common.{◌∷◌, ◌++◌, ◌∙◌, ℤ, List, [], ap}
use Rattle.arrayvec.specs.ArrayVec.{ArrayVec}
use Rattle.group_rows.specs.declared.rows.groups.Group.{Group}
use Rattle.group_rows.proofs.ColumnLaws.{group_count}
use Rattle.group_rows.proofs.FormLaws.{one_group}
use Rattle.group_rows.proofs.rows.groups.alone.Goals as goal

pub returns-clause-groups : goal.returns-clause-groups
returns-clause-groups c = λ gs rows rise states.
    let group : Group = record { at = c.copy_coord.result; states = c.args.states } in
    one_group gs c.args.at.now.items rows group c.push.new.self rise (ap (λ (at : ArrayVec ℤ). at.items) c.copy_coord.ensures) states
    (c.in_ok-push.ensures.ok ∙ ap (λ (groups : List Group). groups ++ group ∷ []) c.new-groups.ensures)

pub returns-clause-cells : goal.returns-clause-cells
returns-clause-cells c = λ gs rows states.
    let group : Group = record { at = c.copy_coord.result; states = c.args.states } in
    group_count gs rows group c.push.new.self states (c.in_ok-push.ensures.ok ∙ ap (λ (groups : List Group). groups ++ group ∷ []) c.new-groups.ensures)
