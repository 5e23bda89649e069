use Rattle.std.proofs.Common.{◌≡◌, ◌<◌, ◌∙◌, length, get_or, IfSome, IfOk, sym, ap, subst}
use Rattle.std.specs.Prelude.{IsErrOf}
use Rattle.page_chain.specs.Chains.{IsChainRead, content_size}
use Rattle.page_chain.specs.Inner.Runs.{OnlyReads}
use Rattle.page_chain.specs.Pages.{page_size, pages_for}
use Rattle.page_chain.specs.Standing.{IsSound}
use Rattle.page_chain.specs.declared.slots.layout.logs.RecordAt.{RecordAt}
use Rattle.page_chain.specs.Counts.{Rose}
use Rattle.page_chain.specs.declared.fault.OpenCause.TheVariants as causes
use Rattle.page_file.specs.FilesOpened.{OpenFile}
use Rattle.page_file.proofs.OnlyRead.{sound_read}
use Rattle.page_file.proofs.LogPlaces.{each_default, record_here}
use Rattle.page_file.proofs.files.file.PageFile.read_record.Goals as goal

pub returns : goal.returns
returns g c =
    let inside = c.self.inside in
    record {
      exact = let low : c.args.number < length inside.slots.records = subst (λ (f : OpenFile _). c.args.number < length f.slots.records) (sym c.self.view_is) c.requires in
          subst (λ (f : OpenFile _). IfSome (g.D.Disk.moment f.disk).state.seen (λ seen. (d : RecordAt)
          → IsChainRead seen c.args.taken.now f.slots.current.root.log (get_or f.slots.records c.args.number d).first (get_or f.slots.records c.args.number d).length c.read_chain.result)) c.self.view_is
          (each_default (λ seen at. IsChainRead seen c.args.taken.now inside.slots.current.root.log at.first at.length c.read_chain.result) (g.D.Disk.moment inside.disk).state.seen
          c.as_slice.result.now inside.slots.records c.args.number _ c.as_slice.ensures low c.read_chain.ensures.exact);
      size = λ d.
          subst (λ (at : RecordAt). IfOk c.read_chain.result (λ x. length x.0 ≡ at.length))
          (record_here c.as_slice.result.now c.args.self.now.slots.records c.args.number _ d (c.as_slice.ensures ∙ ap (λ (f : OpenFile _). f.slots.records) c.self.view_is) c.requires)
          c.read_chain.ensures.size;
      pages = λ d.
          subst (λ (at : RecordAt). IfOk c.read_chain.result (λ x. length x.1 ≡ pages_for (content_size page_size) at.length))
          (record_here c.as_slice.result.now c.args.self.now.slots.records c.args.number _ d (c.as_slice.ensures ∙ ap (λ (f : OpenFile _). f.slots.records) c.self.view_is) c.requires)
          c.read_chain.ensures.pages;
      fault = subst (λ (f : OpenFile _). IsErrOf c.read_chain.result causes.Disk → Rose (g.D.Disk.moment f.disk).state.faults (g.D.Disk.moment c.read_chain.new.disk).state.faults) c.self.view_is c.read_chain.ensures.fault;
      slots = ap (λ (f : OpenFile _). f.slots) c.self.view_is;
      reads = subst (λ (f : OpenFile _). OnlyReads (g.D.Disk.moment f.disk) (g.D.Disk.moment c.read_chain.new.disk)) c.self.view_is c.read_chain.ensures.reads;
      sound = λ seen sound.
          sound_read inside.slots seen (g.D.Disk.moment inside.disk).may_leave (g.D.Disk.moment c.read_chain.new.disk).may_leave c.read_chain.ensures.reads.crash
          (subst (λ (f : OpenFile _). IsSound f.slots seen (g.D.Disk.moment f.disk).may_leave) (sym c.self.view_is) sound);
    }
