use Rattle.std.proofs.Common.{ℕ, List, length, sym, ◌∙◌, ap, subst}
use Rattle.file_items.specs.Pages.{pages_needed}
use Rattle.page_chain.specs.Inner.Runs.{Sees}
use Rattle.page_chain.specs.Pages.{page_size, HoldsBlob}
use Rattle.page_chain.specs.Places.{KeepsPages}
use Rattle.page_chain.proofs.RunLemmas.{rose_told}
use Rattle.page_file.specs.Written.{MayWrite}
use Rattle.file_meaning.proofs.Counts.{counts_agree}
use Rattle.backup_restoring.specs.Inner.Layout.{pages_from}
use Rattle.backup_restoring.proofs.Laid.{length_from}
use Rattle.backup_restoring.proofs.Parts.{awaits_after, writes_by}
use Rattle.backup_restoring.proofs.Written.{may_write}
use Rattle.backup_restoring.proofs.pages.write_to.Goals as goal

pub write_blob-requires-clause-free : goal.write_blob-requires-clause-free
write_blob-requires-clause-free g c =
    subst (λ (ps : List ℕ). MayWrite ps c.args.file.now.slots) (sym c.requires.pages) (may_write c.args.first (pages_needed (length c.args.bytes.now)) c.args.file.now.slots c.requires.least c.requires.awaits.root)

pub write_blob-requires-clause-pages : goal.write_blob-requires-clause-pages
write_blob-requires-clause-pages g c =
    ap (λ (ps : List ℕ). length ps) c.requires.pages ∙ length_from c.args.first (pages_needed (length c.args.bytes.now)) ∙ counts_agree (length c.args.bytes.now)

pub returns-in-Ok : goal.returns-in-Ok
returns-in-Ok g c =
    let old = c.args.file.now in
    let new = c.write_blob.new.self in
    let bytes = c.args.bytes.now in
    let first = c.args.first in
    let count = pages_needed (length bytes) in
    let pages = pages_from first count in
    record {
      written = writes_by first count (λ now. HoldsBlob page_size now pages bytes) old.slots new.slots (g.D.Disk.moment old.disk) (g.D.Disk.moment new.disk) c.in-Ok.ensures.writes.same
          (awaits_after c.args.pages.now bytes old.slots new.slots c.in-Ok.ensures.slots c.requires.awaits) c.in-Ok.ensures.sound
          (subst (λ (ps : List ℕ). Sees (g.D.Disk.moment old.disk).state (g.D.Disk.moment new.disk).state (λ seen now. KeepsPages ps seen now × HoldsBlob page_size now ps bytes)) c.requires.pages c.in-Ok.ensures.seen);
      fault = tt;
    }

pub returns-in-Err : goal.returns-in-Err
returns-in-Err g c = record {
  written = tt;
  fault = record { same = c.in-Err.ensures.writes.same; cause = rose_told _ _ _ _ c.faults-before.ensures c.faults.ensures (c.has_risen.ensures.0 c.if-has_risen.true) };
}

pub returns-in-Err-2 : goal.returns-in-Err-2
returns-in-Err-2 g c = record { written = tt; fault = record { same = c.in-Err-2.ensures.writes.same; cause = tt } }
