use Rattle.std.proofs.Common.{◌≡◌, ◌+◌, ℕ, List, length, ◌∙◌, ap, arith}
use Rattle.backup_restoring.specs.Inner.Writing.{chain_needs}
use Rattle.backup_restoring.proofs.Laid.{length_from}
use Rattle.backup_restoring.proofs.Parts.{based_by, chain_sized, may_commit}
use Rattle.backup_restoring.proofs.base.commit.Goals as goal

pub overflow_cast-log : goal.overflow_cast-log
overflow_cast-log g c =
    let long : c.len.result ≡ chain_needs (length c.args.chain.now.bytes) = c.len.ensures ∙ ap (λ (ps : List ℕ). length ps) c.requires.pages ∙ length_from c.args.first (chain_needs (length c.args.chain.now.bytes)) in
    omega (arith, long, c.requires.room)

pub overflow_add-log : goal.overflow_add-log
overflow_add-log g c =
    let long : c.len.result ≡ chain_needs (length c.args.chain.now.bytes) = c.len.ensures ∙ ap (λ (ps : List ℕ). length ps) c.requires.pages ∙ length_from c.args.first (chain_needs (length c.args.chain.now.bytes)) in
    omega (arith, long, c.requires.room)

pub commit_base-requires-clause-free : goal.commit_base-requires-clause-free
commit_base-requires-clause-free g c =
    may_commit c.args.first c.args.chain.now (c.args.first + c.len.result) c.args.file.now.slots c.requires.least c.requires.awaits c.requires.pages
    (ap (λ (n : ℕ). c.args.first + n) (c.len.ensures ∙ ap (λ (ps : List ℕ). length ps) c.requires.pages ∙ length_from c.args.first (chain_needs (length c.args.chain.now.bytes))))

pub commit_base-requires-clause-chain : goal.commit_base-requires-clause-chain
commit_base-requires-clause-chain g c = chain_sized c.args.first c.args.chain.now c.requires.pages c.requires.some

pub returns-in-Ok-clause-based : goal.returns-in-Ok-clause-based
returns-in-Ok-clause-based g c =
    let old = c.args.file.now in
    let new = c.commit_base.new.file in
    record {
      same = c.in-Ok.ensures.same;
      based = λ seen known.
          based_by c.args.first c.args.chain.now (c.args.first + c.len.result) old.slots new.slots (g.D.Disk.moment old.disk) (g.D.Disk.moment new.disk) seen c.requires.pages
          (ap (λ (n : ℕ). c.args.first + n) (c.len.ensures ∙ ap (λ (ps : List ℕ). length ps) c.requires.pages ∙ length_from c.args.first (chain_needs (length c.args.chain.now.bytes))))
          known c.in-Ok.ensures.done c.in-Ok.ensures.durable c.in-Ok.ensures.seen (g.met.D.Disk.as_read new.disk);
    }
