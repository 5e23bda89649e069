use Rattle.std.proofs.Common.{ℕ, [], ◌∷◌, replicate, sym, ap}
use Rattle.page_chain.specs.Pages.{pages_for, page_size, HoldsBlob}
use Rattle.page_chain.proofs.Kept.{size_is}
use Rattle.page_chain.proofs.RunLemmas.{sees_more}
use Rattle.page_chain.specs.Places.{KeepsPages}
use Rattle.page_file.specs.Written.{unwritten}
use Rattle.page_file.proofs.BaseLemmas.{zeros_written}
use Rattle.page_file.proofs.SlotLemmas.{zeroed_only}
use Rattle.page_file.proofs.commits.bases.write_zeros.Goals as goal

pub write_blob-requires : goal.write_blob-requires
write_blob-requires g c = record {
  free = c.requires.free;
  pages = sym (ap (λ (s : ℕ). pages_for s 4096) size_is);
  closed = c.requires.closed;
}

pub returns-in-Ok : goal.returns-in-Ok
returns-in-Ok g c = record {
  slots = zeros_written c.args.file.now.slots c.write_blob.new.self.slots c.args.log 4096 c.in-Ok.ensures.slots;
  sound = c.in-Ok.ensures.sound;
  seen = sees_more (g.D.Disk.moment c.args.file.now.disk).state (g.D.Disk.moment c.write_blob.new.self.disk).state
      (λ seen now. KeepsPages (c.args.log ∷ []) seen now × HoldsBlob page_size now (c.args.log ∷ []) (replicate 4096 0)) (KeepsPages (c.args.log ∷ [])) (λ x y h. h.0) c.in-Ok.ensures.seen;
  writes = c.in-Ok.ensures.writes;
  cause = tt;
}

pub returns-in-Err : goal.returns-in-Err
returns-in-Err g c = record {
  slots = zeroed_only c.args.file.now.slots c.write_blob.new.self.slots (unwritten (c.args.log ∷ []) c.args.file.now.slots.zeroed) c.in-Err.ensures.slots;
  sound = c.in-Err.ensures.sound;
  seen = sees_more (g.D.Disk.moment c.args.file.now.disk).state (g.D.Disk.moment c.write_blob.new.self.disk).state
      (λ seen now. KeepsPages (c.args.log ∷ []) seen now × Unit {0}) (KeepsPages (c.args.log ∷ [])) (λ x y h. h.0) c.in-Err.ensures.seen;
  writes = c.in-Err.ensures.writes;
  cause = c.in-Err.ensures.cause;
}
