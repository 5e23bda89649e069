use Rattle.std.proofs.Common.{subst, sym}
use Rattle.std.specs.Prelude.{MatchResult, OnOk, ◌≡◌}
use Rattle.page_chain.specs.Disk.{FailsWithCause}
use Rattle.page_chain.specs.Inner.Runs.{OnlyWrites, Sees}
use Rattle.page_chain.specs.Pages.{HoldsBlob, page_size}
use Rattle.page_chain.specs.Places.{KeepsPages}
use Rattle.page_chain.specs.Standing.{IsClosed, KeepsSound, LeavesOpening}
use Rattle.page_chain.specs.Steps.{emptied}
use Rattle.page_file.specs.FilesOpened.{OpenFile}
use Rattle.page_file.specs.Written.{MayWrite, blob_written, pages_written}
use Rattle.page_file.proofs.files.file.PageFile.write_blob.Goals as goal

pub write_blob-requires-clause-closed : goal.write_blob-requires-clause-closed
write_blob-requires-clause-closed g c = subst (λ (f : OpenFile _). IsClosed f.slots) (sym c.self.view_is) c.requires.closed

pub write_blob-requires-clause-free : goal.write_blob-requires-clause-free
write_blob-requires-clause-free g c = subst (λ (f : OpenFile _). MayWrite c.args.pages.now f.slots) (sym c.self.view_is) c.requires.free

pub returns : goal.returns
returns g c =
    let is = c.self.view_is in
    let did = c.write_blob.ensures in
    let answer = c.write_blob.result in
    let slots = c.write_blob.new.slots in
    let moment = g.D.Disk.moment in
    let new = moment c.write_blob.new.disk in record {
      slots = subst
          (λ (f : OpenFile _). MatchResult answer (λ _. slots ≡ blob_written c.args.pages.now c.args.bytes.now f.slots) (λ _. slots ≡ pages_written c.args.pages.now f.slots))
          is did.slots;
      sound = subst
          (λ (f : OpenFile _). KeepsSound f.slots slots (moment f.disk) new)
          is did.sound;
      opens = subst
          (λ (f : OpenFile _). LeavesOpening f.slots (emptied f.slots) (moment f.disk) new)
          is did.opens;
      seen = subst
          (λ (f : OpenFile _). Sees (moment f.disk).state new.state (λ seen now. KeepsPages c.args.pages.now seen now × OnOk answer (HoldsBlob page_size now c.args.pages.now c.args.bytes.now)))
          is did.seen;
      writes = subst
          (λ (f : OpenFile _). OnlyWrites c.args.pages.now (moment f.disk) new)
          is did.writes;
      cause = subst
          (λ (f : OpenFile _). FailsWithCause answer (moment f.disk) new)
          is did.cause;
    }
