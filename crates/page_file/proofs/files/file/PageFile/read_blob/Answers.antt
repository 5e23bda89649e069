use Rattle.std.proofs.Common.{sym, subst, ap}
use Rattle.std.specs.Prelude.{IsErrOf, IfSome}
use Rattle.page_chain.specs.Inner.Runs.{OnlyReads}
use Rattle.page_chain.specs.Standing.{IsSound}
use Rattle.page_chain.specs.Counts.{Rose}
use Rattle.page_chain.specs.Pages.{IsBlobRead}
use Rattle.page_chain.specs.declared.fault.BlobFault.TheVariants as faults
use Rattle.page_file.specs.FilesOpened.{OpenFile}
use Rattle.page_file.proofs.OnlyRead.{sound_read}
use Rattle.page_file.proofs.files.file.PageFile.read_blob.Goals as goal

pub returns : goal.returns
returns g c = record {
  exact = subst (λ (f : OpenFile _). IfSome (g.D.Disk.moment f.disk).state.seen (λ seen. IsBlobRead seen c.args.pages.now c.args.count c.read_blob.result)) c.self.view_is c.read_blob.ensures.exact;
  size = c.read_blob.ensures.size;
  fault = subst (λ (f : OpenFile _). IsErrOf c.read_blob.result faults.Disk → Rose (g.D.Disk.moment f.disk).state.faults (g.D.Disk.moment c.read_blob.new.disk).state.faults) c.self.view_is c.read_blob.ensures.fault;
  slots = ap (λ (f : OpenFile _). f.slots) c.self.view_is;
  reads = subst (λ (f : OpenFile _). OnlyReads (g.D.Disk.moment f.disk) (g.D.Disk.moment c.read_blob.new.disk)) c.self.view_is c.read_blob.ensures.reads;
  sound = λ seen sound.
      sound_read c.self.inside.slots seen (g.D.Disk.moment c.self.inside.disk).may_leave (g.D.Disk.moment c.read_blob.new.disk).may_leave c.read_blob.ensures.reads.crash
      (subst (λ (f : OpenFile _). IsSound f.slots seen (g.D.Disk.moment f.disk).may_leave) (sym c.self.view_is) sound);
}
