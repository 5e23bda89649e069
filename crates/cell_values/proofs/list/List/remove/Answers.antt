use Rattle.std.proofs.Common.{◌≡◌, get_or, refl, subst}
use Rattle.std.proofs.lemmas.Option.{slice_get_read}
use Rattle.cell_values.proofs.list.List.remove.Goals as goal

pub returns-clause-item : goal.returns-clause-item
returns-clause-item g c =
    slice_get_read c.args.self.now _ c.args.at c.remove.result refl c.requires
    (subst (λ l. c.remove.result ≡ get_or l c.args.at c.remove.result) c.self.view_is c.remove.ensures.value)
