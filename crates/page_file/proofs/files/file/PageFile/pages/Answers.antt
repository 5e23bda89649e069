use Rattle.std.proofs.Common.{sym, subst}
use Rattle.page_chain.specs.Inner.Runs.{OnlyReads}
use Rattle.page_chain.specs.Standing.{IsSound}
use Rattle.page_chain.proofs.RunLemmas.{reads_once}
use Rattle.page_file.specs.FilesOpened.{OpenFile}
use Rattle.page_file.proofs.OnlyRead.{sound_read}
use Rattle.page_file.proofs.files.file.PageFile.pages.Goals as goal

pub returns-clause-reads : goal.returns-clause-reads
returns-clause-reads g c =
    subst (λ (f : OpenFile _). OnlyReads (g.D.Disk.moment f.disk) (g.D.Disk.moment c.len.new.self)) c.self.view_is (reads_once _ _ _ _ _ _ (g.met.D.Disk.only_now c.self.inside.disk) c.len.ensures.seen c.len.ensures.same c.len.ensures.crash c.len.ensures.time)

pub returns-clause-sound : goal.returns-clause-sound
returns-clause-sound g c = λ seen sound.
    sound_read c.self.inside.slots seen (g.D.Disk.moment c.self.inside.disk).may_leave (g.D.Disk.moment c.len.new.self).may_leave c.len.ensures.crash
    (subst (λ (f : OpenFile _). IsSound f.slots seen (g.D.Disk.moment f.disk).may_leave) (sym c.self.view_is) sound)
