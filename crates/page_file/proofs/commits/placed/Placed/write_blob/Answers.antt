use Rattle.std.proofs.Common.{ℕ, List, length, sym, ◌∙◌, ap, subst}
use Rattle.page_chain.specs.Places.{KeepsPages}
use Rattle.page_chain.specs.Pages.{page_size, pages_for, HoldsBlob}
use Rattle.page_chain.specs.Inner.Runs.{OnlyWrites, Sees}
use Rattle.page_file.specs.Written.{MayWrite, unwritten, zeroed_by}
use Rattle.page_file.proofs.SlotLemmas.{zeroed_only, pair_on}
use Rattle.page_file.proofs.commits.placed.Placed.write_blob.Goals as goal

pub write_blob-requires : goal.write_blob-requires
write_blob-requires g c = record {
  pages = ap length c.as_slice-pages.ensures ∙ c.requires.sized ∙ ap (λ (b : List ℕ). pages_for page_size (length b)) (sym c.as_slice-bytes.ensures);
  free = subst (λ (p : List ℕ). MayWrite p c.args.file.now.slots) (sym c.as_slice-pages.ensures) c.requires.free;
  closed = c.requires.closed;
}

pub returns-in-Err : goal.returns-in-Err
returns-in-Err g c = record {
  slots = zeroed_only c.args.file.now.slots c.write_blob.new.self.slots (unwritten c.as_slice-pages.result.now c.args.file.now.slots.zeroed) c.in-Err.ensures.slots;
  sound = c.in-Err.ensures.sound;
  seen = subst (λ (p : List ℕ). Sees (g.D.Disk.moment c.args.file.now.disk).state (g.D.Disk.moment c.write_blob.new.self.disk).state (λ seen now. KeepsPages p seen now × Unit {0})) c.as_slice-pages.ensures c.in-Err.ensures.seen;
  writes = subst (λ (p : List ℕ). OnlyWrites p (g.D.Disk.moment c.args.file.now.disk) (g.D.Disk.moment c.write_blob.new.self.disk)) c.as_slice-pages.ensures c.in-Err.ensures.writes;
  cause = c.in-Err.ensures.cause;
}

pub returns-in-Ok : goal.returns-in-Ok
returns-in-Ok g c = record {
  slots = zeroed_only c.args.file.now.slots c.write_blob.new.self.slots (zeroed_by c.as_slice-pages.result.now c.as_slice-bytes.result.now c.args.file.now.slots.zeroed) c.in-Ok.ensures.slots;
  sound = c.in-Ok.ensures.sound;
  seen = pair_on
      (λ p b. Sees (g.D.Disk.moment c.args.file.now.disk).state (g.D.Disk.moment c.write_blob.new.self.disk).state (λ seen now. KeepsPages p seen now × HoldsBlob page_size now p b))
      c.as_slice-pages.result.now c.args.self.now.pages c.as_slice-bytes.result.now c.args.self.now.bytes c.as_slice-pages.ensures c.as_slice-bytes.ensures c.in-Ok.ensures.seen;
  writes = subst (λ (p : List ℕ). OnlyWrites p (g.D.Disk.moment c.args.file.now.disk) (g.D.Disk.moment c.write_blob.new.self.disk)) c.as_slice-pages.ensures c.in-Ok.ensures.writes;
  cause = tt;
}
