use Rattle.page_chain.specs.Disk.{Only}
use Rattle.page_chain.specs.declared.slots.layout.roots.OpenRoot.{OpenRoot}
use Rattle.page_chain.specs.declared.slots.slots.slots.RootSlot.{RootSlot}
use Rattle.page_chain.proofs.PutLemmas.{if_some}
use Rattle.page_file.proofs.PageReads.{cause_then, device_cause, nothing_told, syncs_twice}
use Rattle.page_file.proofs.Told.{front_refused, log_refused, opened_failed, other_told, slots_opened}
use Rattle.page_file.proofs.opening.opening.open_parts.Goals as goal

pub returns-in-Err : goal.returns-in-Err
returns-in-Err g c =
    let s0 = (g.D.Disk.moment c.args.disk.now).state in
    let s1 = (g.D.Disk.moment c.settle.new.disk).state in
    record {
      opened = opened_failed c.in-Err.fault s0 s1 _ c.in-Err.ensures.cause;
      other = nothing_told s0.seen;
      durable = tt;
      fresh = tt;
      reads = c.in-Err.ensures.reads;
      cause = device_cause c.in-Err.fault s0 s1 c.in-Err.ensures.cause;
    }

pub returns-in-Err-read_front : goal.returns-in-Err-read_front
returns-in-Err-read_front g c =
    let s0 = (g.D.Disk.moment c.args.disk.now).state in
    let s1 = (g.D.Disk.moment c.settle.new.disk).state in
    let s2 = (g.D.Disk.moment c.read_front.new.disk).state in
    let settled = c.settle.ensures.reads in
    record {
      opened = front_refused c.in-Err-read_front.fault s0.seen s1.seen settled.seen c.in-Err-read_front.ensures.front;
      other = nothing_told s0.seen;
      durable = tt;
      fresh = tt;
      reads = syncs_twice _ _ _ _ _ _ _ _ _ settled c.in-Err-read_front.ensures.reads;
      cause = cause_then c.in-Err-read_front.fault s0 s1 s2 settled.same c.in-Err-read_front.ensures.cause;
    }

pub returns-in-Err-read_records : goal.returns-in-Err-read_records
returns-in-Err-read_records g c =
    let s0 = (g.D.Disk.moment c.args.disk.now).state in
    let s1 = (g.D.Disk.moment c.settle.new.disk).state in
    let s2 = (g.D.Disk.moment c.read_front.new.disk).state in
    let s3 = (g.D.Disk.moment c.read_records.new.disk).state in
    let settled = c.settle.ensures.reads in
    let front = c.read_front.ensures.reads in
    let both = syncs_twice _ _ _ _ _ _ _ _ _ settled front in
    let x : OpenRoot × RootSlot = (c.in-Ok-read_front.current, c.in-Ok-read_front.other) in
    record {
      opened = log_refused c.in-Err-read_records.fault x s0.seen s1.seen s2.seen settled.seen front.seen c.in-Ok-read_front.ensures.front c.in-Err-read_records.ensures.log;
      other = nothing_told s0.seen;
      durable = tt;
      fresh = tt;
      reads = syncs_twice _ _ _ _ _ _ _ _ _ both c.in-Err-read_records.ensures.reads;
      cause = cause_then c.in-Err-read_records.fault s0 s2 s3 both.same c.in-Err-read_records.ensures.cause;
    }

pub returns-in-Ok-read_records : goal.returns-in-Ok-read_records
returns-in-Ok-read_records g c =
    let m0 = g.D.Disk.moment c.args.disk.now in
    let m1 = g.D.Disk.moment c.settle.new.disk in
    let m2 = g.D.Disk.moment c.read_front.new.disk in
    let m3 = g.D.Disk.moment c.read_records.new.disk in
    let settled = c.settle.ensures.reads in
    let front = c.read_front.ensures.reads in
    let log = c.read_records.ensures.reads in
    let slots = c.fresh_slots.result in
    let x : OpenRoot × RootSlot = (c.in-Ok-read_front.current, c.in-Ok-read_front.other) in
    record {
      opened = slots_opened slots x c.in-Ok-read_records.records m0.state.seen m1.state.seen m2.state.seen c.fresh_slots.ensures.current c.fresh_slots.ensures.records settled.seen front.seen
          c.in-Ok-read_front.ensures.front c.in-Ok-read_records.ensures.log;
      other = other_told slots x m0.state.seen m1.state.seen c.fresh_slots.ensures.current c.fresh_slots.ensures.other settled.seen c.in-Ok-read_front.ensures.front;
      durable = λ honest.
          if_some m0.state.seen (λ seen. Only seen m1.may_leave) (λ seen. Only seen m3.may_leave) (λ seen only x left. only x (front.crash x (log.crash x left))) (c.in-Ok.ensures.durable honest);
      fresh = c.fresh_slots.ensures.fresh;
      reads = syncs_twice _ _ _ _ _ _ _ _ _ settled (syncs_twice _ _ _ _ _ _ _ _ _ front log);
      cause = tt;
    }
