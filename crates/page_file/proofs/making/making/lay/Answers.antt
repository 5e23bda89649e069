use Rattle.std.proofs.Common.{ℕ, List, [], ◌∷◌, subst}
use Rattle.page_chain.specs.Disk.{written}
use Rattle.page_chain.proofs.PutLemmas.{goes_twice}
use Rattle.page_file.specs.Inner.Laid.{Lays, laid, head_bytes}
use Rattle.page_file.proofs.Steps.{lays_on}
use Rattle.page_file.proofs.SlotLemmas.{cause_on}
use Rattle.page_file.proofs.making.making.lay.Goals as goal

pub returns-in-Ok-write_at-2-clause-laid : goal.returns-in-Ok-write_at-2-clause-laid
unfolding laid
returns-in-Ok-write_at-2-clause-laid g c =
    lays_on (g.D.Disk.moment c.args.disk.now).state (g.D.Disk.moment c.write_at-2.new.self).state (g.D.Disk.moment c.write_at-3.new.self).state (λ (x : List ℕ). written 0 head_bytes (written 12287 (0 ∷ []) x)) (λ (x : List ℕ). written 520 c.args.body.now x)
    (goes_twice (g.D.Disk.moment c.args.disk.now).state (g.D.Disk.moment c.write_at.new.self).state (g.D.Disk.moment c.write_at-2.new.self).state c.in-Ok.ensures.same c.in-Ok-write_at.ensures.same)
    (lays_on (g.D.Disk.moment c.args.disk.now).state (g.D.Disk.moment c.write_at.new.self).state (g.D.Disk.moment c.write_at-2.new.self).state (λ (x : List ℕ). written 12287 (0 ∷ []) x) (λ (x : List ℕ). written 0 head_bytes x) c.in-Ok.ensures.same c.in-Ok.ensures.written c.in-Ok-write_at.ensures.written)
    (subst (λ (at : ℕ). Lays (λ (x : List ℕ). written at c.args.body.now x) (g.D.Disk.moment c.write_at-2.new.self).state (g.D.Disk.moment c.write_at-3.new.self).state) c.body.ensures c.in-Ok-write_at-2.ensures.written)

pub returns-in-Err : goal.returns-in-Err
returns-in-Err g c = record {
  laid = tt;
  same = c.in-Err.ensures.same;
  cause = c.in-Err.ensures.cause;
}

pub returns-in-Err-write_at : goal.returns-in-Err-write_at
returns-in-Err-write_at g c =
    let s0 = (g.D.Disk.moment c.args.disk.now).state in
    let s1 = (g.D.Disk.moment c.write_at.new.self).state in
    let s2 = (g.D.Disk.moment c.write_at-2.new.self).state in
    record {
      laid = tt;
      same = goes_twice s0 s1 s2 c.in-Ok.ensures.same c.in-Err-write_at.ensures.same;
      cause = cause_on s0 s1 s2 c.in-Ok.ensures.same c.in-Err-write_at.ensures.cause;
    }

pub returns-in-Ok-write_at-2-clause-same : goal.returns-in-Ok-write_at-2-clause-same
returns-in-Ok-write_at-2-clause-same g c =
    let s0 = (g.D.Disk.moment c.args.disk.now).state in
    let s1 = (g.D.Disk.moment c.write_at.new.self).state in
    let s2 = (g.D.Disk.moment c.write_at-2.new.self).state in
    let s3 = (g.D.Disk.moment c.write_at-3.new.self).state in
    goes_twice s0 s2 s3 (goes_twice s0 s1 s2 c.in-Ok.ensures.same c.in-Ok-write_at.ensures.same) c.in-Ok-write_at-2.ensures.same

pub returns-in-Err-write_at-2 : goal.returns-in-Err-write_at-2
returns-in-Err-write_at-2 g c =
    let s0 = (g.D.Disk.moment c.args.disk.now).state in
    let s1 = (g.D.Disk.moment c.write_at.new.self).state in
    let s2 = (g.D.Disk.moment c.write_at-2.new.self).state in
    let s3 = (g.D.Disk.moment c.write_at-3.new.self).state in
    record {
      laid = tt;
      same = goes_twice s0 s2 s3 (goes_twice s0 s1 s2 c.in-Ok.ensures.same c.in-Ok-write_at.ensures.same) c.in-Err-write_at-2.ensures.same;
      cause = cause_on s0 s2 s3 (goes_twice s0 s1 s2 c.in-Ok.ensures.same c.in-Ok-write_at.ensures.same) c.in-Err-write_at-2.ensures.cause;
    }
