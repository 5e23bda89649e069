use Rattle.afl_outside.proofs.RecordLemmas.{sure_seen, sure_same, sure_crash, sure_time, sure_cause, sure_written, sure_torn, sure_durable, sure_stays, no_cause}
use Rattle.afl_outside.proofs.in_memory.sure_disk.SureDiskDisk.TheImpl.Goals as goal

pub len-tells : goal.len-tells
len-tells c =
    let still = sure_stays _ _ c.ensures.unchanged in
    record {
      length = c.ensures.value;
      seen = still.seen;
      same = still.same;
      crash = still.crash;
      time = still.time;
      cause = no_cause _ _ c.ensures.succeeds;
    }

pub read_at-tells : goal.read_at-tells
read_at-tells c =
    let still = sure_stays _ _ c.ensures.unchanged in
    record {
      within = c.ensures.within;
      bytes = c.ensures.bytes;
      seen = still.seen;
      same = still.same;
      crash = still.crash;
      time = still.time;
      cause = no_cause _ _ c.ensures.succeeds;
    }

pub write_at-tells : goal.write_at-tells
write_at-tells c =
    let done = c.ensures in
    record {
      written = sure_written _ _ _ _ _ done.exact;
      same = sure_same _ _ _ _ done.exact done.wants_later;
      crash = sure_torn _ _ _ _ _ done.exact;
      time = sure_time _ _ _ _ done.exact;
      cause = sure_cause _ _ _ _ done.exact;
    }

pub sync-tells : goal.sync-tells
sync-tells c =
    let done = c.ensures in
    record {
      durable = sure_durable _ _ _ done.exact;
      seen = sure_seen _ _ _ _ done.exact tt;
      same = sure_same _ _ _ _ done.exact done.wants_later;
      crash = sure_crash _ _ _ _ done.exact tt;
      time = sure_time _ _ _ _ done.exact;
      cause = sure_cause _ _ _ _ done.exact;
    }
