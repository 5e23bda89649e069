use Rattle.std.proofs.Common.{sym, subst, ap, [], ◌∷◌}
use Rattle.std.specs.Prelude.{IsErrOf, IfSome}
use Rattle.page_chain.specs.Inner.Runs.{OnlyReads}
use Rattle.page_chain.specs.Standing.{IsSound}
use Rattle.page_chain.specs.Counts.{Rose}
use Rattle.page_chain.specs.Chains.{IsChainRead}
use Rattle.page_chain.specs.declared.fault.OpenCause.TheVariants as causes
use Rattle.page_file.specs.FilesOpened.{OpenFile}
use Rattle.page_file.proofs.OnlyRead.{sound_read}
use Rattle.page_file.proofs.files.file.PageFile.read_chain.Goals as goal

pub returns : goal.returns
returns g c = record {
  exact = subst (λ (f : OpenFile _). IfSome (g.D.Disk.moment f.disk).state.seen (λ seen. IsChainRead seen (c.args.root.log ∷ []) 0 c.args.root.first c.args.root.length c.read_chain.result)) c.self.view_is c.read_chain.ensures.exact;
  size = c.read_chain.ensures.size;
  pages = c.read_chain.ensures.pages;
  fault = subst (λ (f : OpenFile _). IsErrOf c.read_chain.result causes.Disk → Rose (g.D.Disk.moment f.disk).state.faults (g.D.Disk.moment c.read_chain.new.disk).state.faults) c.self.view_is c.read_chain.ensures.fault;
  slots = ap (λ (f : OpenFile _). f.slots) c.self.view_is;
  reads = subst (λ (f : OpenFile _). OnlyReads (g.D.Disk.moment f.disk) (g.D.Disk.moment c.read_chain.new.disk)) c.self.view_is c.read_chain.ensures.reads;
  sound = λ seen sound.
      sound_read c.self.inside.slots seen (g.D.Disk.moment c.self.inside.disk).may_leave (g.D.Disk.moment c.read_chain.new.disk).may_leave c.read_chain.ensures.reads.crash
      (subst (λ (f : OpenFile _). IsSound f.slots seen (g.D.Disk.moment f.disk).may_leave) (sym c.self.view_is) sound);
}
