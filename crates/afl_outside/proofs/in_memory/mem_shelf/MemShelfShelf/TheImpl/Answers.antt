use Rattle.std.proofs.Common.{refl}
use Rattle.afl_outside.specs.Counts.{risen}
use Rattle.afl_outside.specs.Source.{IsNewSource}
use Rattle.afl_outside.specs.Disk.{IsNewDisk}
use Rattle.afl_outside.specs.InMemory.{new_source, memory_source_state}
use Rattle.afl_outside.specs.Inner.Records.{new_disk, memory_disk_state}
use Rattle.afl_outside.specs.declared.in_memory.mem_file.MemFile.{MemFile}
use Rattle.afl_outside.proofs.FileLemmas.{opened_handed, opened_told, opened_others, opened_replies, opened_cause, reply_handed, reply_told, reply_others, reply_cause, script_counted, device_counted, reply_counted}
use Rattle.afl_outside.proofs.in_memory.mem_shelf.MemShelfShelf.TheImpl.Goals as goal

pub script-tells : goal.script-tells
script-tells _ _ _ c =
    let name = c.args.name.now in
    let old = c.args.self.now in
    let new = c.new.self.now in
    let done = c.ensures in
    let made = λ (f : MemFile). new_source f.name f.content f.fails in
    record {
      handed = opened_handed made (λ n. n) (λ s. IsNewSource name (memory_source_state s)) name old new c.result done.exact (λ f named. record { name = named; left = refl; given = refl; faults = refl });
      told = opened_told made (λ n. n) (λ s. (memory_source_state s).first) (λ f. refl) name old new c.result done.exact;
      others = opened_others made (λ n. n) name old new c.result done.exact done.later;
      counted = script_counted made name old new c.result done.exact;
      replies = opened_replies made (λ n. n) name old new c.result done.exact;
      cause = opened_cause made (λ n. n) name old new c.result done.exact;
    }

pub reply-tells : goal.reply-tells
reply-tells _ _ _ c =
    let name = c.args.name.now in
    let old = c.args.self.now in
    let new = c.new.self.now in
    let done = c.ensures in
    record {
      handed = reply_handed name old new c.result done.exact;
      told = reply_told name old new c.result done.exact;
      others = reply_others name old new c.result done.exact done.later done.wants_later;
      counted = reply_counted name old new c.result done.exact;
      cause = reply_cause name old new c.result done.exact;
    }

pub device-tells : goal.device-tells
device-tells _ _ _ c =
    let name = c.args.name.now in
    let old = c.args.self.now in
    let new = c.new.self.now in
    let done = c.ensures in
    let made = λ (f : MemFile). new_disk f.name f.content f.fails in
    record {
      handed = opened_handed made risen (λ d. IsNewDisk name (memory_disk_state d)) name old new c.result done.exact (λ f named. record { name = named; seen = refl; faults = refl; wants = refl });
      told = opened_told made risen (λ d. (memory_disk_state d).first) (λ f. refl) name old new c.result done.exact;
      others = opened_others made risen name old new c.result done.exact done.later;
      counted = device_counted made name old new c.result done.exact;
      cause = opened_cause made risen name old new c.result done.exact;
    }
