use Rattle.std.proofs.Common.{◌∙◌, [], ◌∷◌, ap}
use Rattle.exec_cellwise.proofs.BuiltRows.{fit_first}
use Rattle.exec_cellwise.proofs.build.rows.build.fitted.Goals as goal

pub returns-in-len1-up : goal.returns-in-len1-up
returns-in-len1-up c =
    ap (λ v. v ∷ []) c.fit_value.ensures ∙ fit_first c.args.attributes.now c.first-item.result c.args.value c.in-len1-up.len_at_least c.first-item.is
