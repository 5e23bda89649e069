use Rattle.std.proofs.Common.{ap, ◌∙◌, replicate, true}
use Rattle.exec_group.proofs.parts.columns.all_inside.Goals as goal

pub returns : goal.returns
returns c =
    c.from_vec.ensures ∙ c.in_ok-inside.ensures.items_if_clones_equal (λ y h. h) ∙ ap (λ n. replicate n true) c.len.ensures
