use Rattle.afl_outside.proofs.RecordLemmas.{memory_seen, memory_same, memory_crash, memory_time, memory_cause, memory_written, memory_torn, memory_durable}
use Rattle.afl_outside.proofs.in_memory.mem_disk.MemDiskDisk.TheImpl.Goals as goal

pub len-tells : goal.len-tells
len-tells c =
    let done = c.ensures in
    record {
      length = done.value;
      seen = memory_seen _ _ _ _ _ done.exact tt tt;
      same = memory_same _ _ _ _ _ done.exact done.later done.wants_later;
      crash = memory_crash _ _ _ _ _ done.exact tt tt;
      time = memory_time _ _ _ _ _ done.exact;
      cause = memory_cause _ _ _ _ _ done.exact;
    }

pub read_at-tells : goal.read_at-tells
read_at-tells c =
    let done = c.ensures in
    record {
      within = done.within;
      bytes = done.bytes;
      seen = memory_seen _ _ _ _ _ done.exact tt tt;
      same = memory_same _ _ _ _ _ done.exact done.later done.wants_later;
      crash = memory_crash _ _ _ _ _ done.exact tt tt;
      time = memory_time _ _ _ _ _ done.exact;
      cause = memory_cause _ _ _ _ _ done.exact;
    }

pub write_at-tells : goal.write_at-tells
write_at-tells c =
    let done = c.ensures in
    record {
      written = memory_written _ _ _ _ _ done.exact;
      same = memory_same _ _ _ _ _ done.exact done.later done.wants_later;
      crash = memory_torn _ _ _ _ _ done.exact;
      time = memory_time _ _ _ _ _ done.exact;
      cause = memory_cause _ _ _ _ _ done.exact;
    }

pub sync-tells : goal.sync-tells
sync-tells c =
    let done = c.ensures in
    record {
      durable = memory_durable _ _ _ _ done.exact;
      seen = memory_seen _ _ _ _ _ done.exact tt tt;
      same = memory_same _ _ _ _ _ done.exact done.later done.wants_later;
      crash = memory_crash _ _ _ _ _ done.exact tt tt;
      time = memory_time _ _ _ _ _ done.exact;
      cause = memory_cause _ _ _ _ _ done.exact;
    }
