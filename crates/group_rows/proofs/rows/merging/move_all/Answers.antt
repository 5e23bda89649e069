use Rattle.std.proofs.Common.{List, [], ◌∷◌, ◌++◌, ◌∙◌, append_assoc, ap, sym}
use Rattle.group_rows.specs.declared.rows.groups.Group.{Group}
use Rattle.group_rows.proofs.rows.merging.move_all.Goals as goal

pub loop-group-preserved : goal.loop-group-preserved
loop-group-preserved c =
    let left = c.pop_front.new.self.items in
    ap (λ (groups : List Group). groups ++ left) c.in_ok-push.ensures.ok ∙ append_assoc c.loop-group.merged (c.in-Some.group ∷ []) left
    ∙ ap (λ (groups : List Group). c.loop-group.merged ++ groups) (sym c.in-Some.ensures.items) ∙ c.loop-group.invariant
