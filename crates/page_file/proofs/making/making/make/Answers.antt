use Rattle.std.proofs.Common.{ℕ, List, [], ◌∷◌, subst}
use Rattle.page_chain.specs.Disk.{written}
use Rattle.page_chain.proofs.PutLemmas.{goes_twice}
use Rattle.page_file.specs.Inner.Laid.{Lays, laid, made}
use Rattle.page_file.proofs.Steps.{lays_on, lays_same, lays_only}
use Rattle.page_file.proofs.SlotLemmas.{cause_on}
use Rattle.page_file.proofs.making.making.make.Goals as goal

pub returns-in-Ok-sync-2-clause-made : goal.returns-in-Ok-sync-2-clause-made
unfolding made
returns-in-Ok-sync-2-clause-made g c =
    let goes = goes_twice (g.D.Disk.moment c.args.disk.now).state (g.D.Disk.moment c.lay.new.disk).state (g.D.Disk.moment c.sync.new.self).state c.in-Ok.ensures.same c.in-Ok-sync.ensures.same in
    lays_only (g.D.Disk.moment c.args.disk.now).state (g.D.Disk.moment c.write_at.new.self).state (g.D.Disk.moment c.sync-2.new.self).state (λ (x : List ℕ). written 512 (2 ∷ []) (laid c.args.body.now x)) (g.D.Disk.moment c.sync-2.new.self).may_leave
    (goes_twice (g.D.Disk.moment c.args.disk.now).state (g.D.Disk.moment c.sync.new.self).state (g.D.Disk.moment c.write_at.new.self).state goes c.in-Ok-write_at.ensures.same)
    c.in-Ok-sync-2.ensures.seen
    (lays_on (g.D.Disk.moment c.args.disk.now).state (g.D.Disk.moment c.sync.new.self).state (g.D.Disk.moment c.write_at.new.self).state (laid c.args.body.now) (λ (x : List ℕ). written 512 (2 ∷ []) x) goes
    (lays_same (g.D.Disk.moment c.args.disk.now).state (g.D.Disk.moment c.lay.new.disk).state (g.D.Disk.moment c.sync.new.self).state (laid c.args.body.now) c.in-Ok-sync.ensures.seen c.in-Ok.ensures.laid)
    (subst (λ (at : ℕ). Lays (λ (x : List ℕ). written at (2 ∷ []) x) (g.D.Disk.moment c.sync.new.self).state (g.D.Disk.moment c.write_at.new.self).state) c.gate.ensures c.in-Ok-write_at.ensures.written))
    c.in-Ok-sync-2.ensures.durable

pub returns-in-Err-write_at : goal.returns-in-Err-write_at
returns-in-Err-write_at g c =
    let s0 = (g.D.Disk.moment c.args.disk.now).state in
    let s1 = (g.D.Disk.moment c.lay.new.disk).state in
    let s2 = (g.D.Disk.moment c.sync.new.self).state in
    let s3 = (g.D.Disk.moment c.write_at.new.self).state in
    record {
      made = tt;
      same = goes_twice s0 s2 s3 (goes_twice s0 s1 s2 c.in-Ok.ensures.same c.in-Ok-sync.ensures.same) c.in-Err-write_at.ensures.same;
      cause = cause_on s0 s2 s3 (goes_twice s0 s1 s2 c.in-Ok.ensures.same c.in-Ok-sync.ensures.same) c.in-Err-write_at.ensures.cause;
    }

pub returns-in-Err : goal.returns-in-Err
returns-in-Err g c = record {
  made = tt;
  same = c.in-Err.ensures.same;
  cause = c.in-Err.ensures.cause;
}

pub returns-in-Err-sync : goal.returns-in-Err-sync
returns-in-Err-sync g c =
    let s0 = (g.D.Disk.moment c.args.disk.now).state in
    let s1 = (g.D.Disk.moment c.lay.new.disk).state in
    let s2 = (g.D.Disk.moment c.sync.new.self).state in
    record {
      made = tt;
      same = goes_twice s0 s1 s2 c.in-Ok.ensures.same c.in-Err-sync.ensures.same;
      cause = cause_on s0 s1 s2 c.in-Ok.ensures.same c.in-Err-sync.ensures.cause;
    }

pub returns-in-Err-sync-2 : goal.returns-in-Err-sync-2
returns-in-Err-sync-2 g c =
    let s0 = (g.D.Disk.moment c.args.disk.now).state in
    let s1 = (g.D.Disk.moment c.lay.new.disk).state in
    let s2 = (g.D.Disk.moment c.sync.new.self).state in
    let s3 = (g.D.Disk.moment c.write_at.new.self).state in
    let s4 = (g.D.Disk.moment c.sync-2.new.self).state in
    record {
      made = tt;
      same = goes_twice s0 s3 s4 (goes_twice s0 s2 s3 (goes_twice s0 s1 s2 c.in-Ok.ensures.same c.in-Ok-sync.ensures.same) c.in-Ok-write_at.ensures.same) c.in-Err-sync-2.ensures.same;
      cause = cause_on s0 s3 s4 (goes_twice s0 s2 s3 (goes_twice s0 s1 s2 c.in-Ok.ensures.same c.in-Ok-sync.ensures.same) c.in-Ok-write_at.ensures.same) c.in-Err-sync-2.ensures.cause;
    }

pub returns-in-Ok-sync-2-clause-same : goal.returns-in-Ok-sync-2-clause-same
returns-in-Ok-sync-2-clause-same g c =
    let s0 = (g.D.Disk.moment c.args.disk.now).state in
    let s1 = (g.D.Disk.moment c.lay.new.disk).state in
    let s2 = (g.D.Disk.moment c.sync.new.self).state in
    let s3 = (g.D.Disk.moment c.write_at.new.self).state in
    let s4 = (g.D.Disk.moment c.sync-2.new.self).state in
    goes_twice s0 s3 s4 (goes_twice s0 s2 s3 (goes_twice s0 s1 s2 c.in-Ok.ensures.same c.in-Ok-sync.ensures.same) c.in-Ok-write_at.ensures.same) c.in-Ok-sync-2.ensures.same
