use Rattle.std.proofs.Common.{subst, ◌∙◌, ap}
use Rattle.array_store.proofs.Stands.{ImagesStand, images_stand}
use Rattle.array_store.proofs.store.store.Store.close.Goals as goal

pub returns-clause-stands : goal.returns-clause-stands
returns-clause-stands g c =
    let moment = g.D.Disk.moment in
    subst (ImagesStand moment) c.self.view_is (images_stand moment c.self.inside.parts c.self.invariant.at)

pub returns-clause-disk : goal.returns-clause-disk
returns-clause-disk g c = c.close.ensures ∙ ap (λ parts. parts.file.disk) c.self.view_is

pub returns-clause-entries : goal.returns-clause-entries
returns-clause-entries g c = c.into_entries.ensures ∙ ap (λ parts. parts.ledger.entries) c.self.view_is
