use Rattle.std.proofs.Common.{sym, ◌∙◌, ap, subst}
use Rattle.page_chain.specs.Standing.{IsSound}
use Rattle.page_chain.specs.declared.slots.slots.slots.Slots.{Slots}
use Rattle.page_file.specs.FilesOpened.{OpenFile}
use Rattle.page_file.proofs.AimLemmas.{aimed_sound}
use Rattle.page_file.proofs.files.file.PageFile.aim.Goals as goal

pub returns-clause-sound : goal.returns-clause-sound
returns-clause-sound g c = λ seen sound.
    let inside = c.self.inside in
    let here = subst (λ (f : OpenFile _). IsSound f.slots seen (g.D.Disk.moment f.disk).may_leave) (sym c.self.view_is) sound in
    let sure = ap (λ (f : OpenFile _). f.slots.doubtful) c.self.view_is ∙ c.requires.sure in
    subst (λ (s : Slots). IsSound s seen (g.D.Disk.moment inside.disk).may_leave) (sym c.aim.ensures) (aimed_sound c.target_of-target.result inside.slots seen (g.D.Disk.moment inside.disk).may_leave sure here)

pub returns-clause-disk : goal.returns-clause-disk
returns-clause-disk g c = ap (λ (f : OpenFile _). f.disk) c.self.view_is
