use Rattle.std.proofs.Common.{◌≡◌, List, ℕ, ap, sym, ◌∙◌}
use Rattle.std.specs.FinSet.{from_list}
use Rattle.std.specs.Prelude.{Err}
use Rattle.page_chain.specs.declared.fault.Stopped.{Stopped}
use Rattle.page_chain.proofs.ChainLemmas.{taken_link, past_link, link_followed}
use Rattle.page_chain.proofs.RunLemmas.{reads_none, some_all, ok_no_fault, chain_want_no_fault, wrong_no_fault}
use Rattle.page_chain.proofs.chain.follow.Goals as goal

pub returns-then-has-clause-exact : goal.returns-then-has-clause-exact
returns-then-has-clause-exact g c = taken_link (g.D.Disk.moment c.args.disk.now).state.seen c.args.used.now c.args.link.holder c.args.link.page (sym c.has.ensures ∙ c.if-has.true)

pub returns-then-has-clause-reads : goal.returns-then-has-clause-reads
returns-then-has-clause-reads g c = reads_none (g.D.Disk.moment c.args.disk.now).state _ _ (g.met.D.Disk.only_now c.args.disk.now)

pub returns-in-Ok-true-clause-exact : goal.returns-in-Ok-true-clause-exact
returns-in-Ok-true-clause-exact g c =
    link_followed (g.D.Disk.moment c.args.disk.now).state.seen c.args.used.now c.insert.new.self c.args.link.holder c.args.link.page c.link_in.result c.read_page.new.piece c.in-Ok-true.field-0
    c.if-link-eq0.false (sym c.has.ensures ∙ c.if-has.false) c.in_ok-insert.ensures c.in-Ok-true.field-0-test c.in-Ok-true.ensures.whole c.in-Ok-true.ensures.bytes c.link_in.ensures

pub returns-in-Ok-true-clause-fault : goal.returns-in-Ok-true-clause-fault
returns-in-Ok-true-clause-fault g c = λ is. ok_no_fault _ _ is

pub returns-in-Ok-false-clause-exact : goal.returns-in-Ok-false-clause-exact
returns-in-Ok-false-clause-exact g c =
    past_link (g.D.Disk.moment c.args.disk.now).state.seen c.args.used.now c.args.link.holder c.args.link.page c.in-Ok-false.field-0 c.in-Ok-false.field-0-test c.in-Ok-false.ensures.whole

pub returns-in-Err-Disk-clause-fault : goal.returns-in-Err-Disk-clause-fault
returns-in-Err-Disk-clause-fault g c = λ is. c.in-Err-Disk.ensures.fault (ap (λ (e : Stopped). Err e) c.in-Err-Disk.field-0-is)

pub returns-in-Err-Disk-clause-exact : goal.returns-in-Err-Disk-clause-exact
returns-in-Err-Disk-clause-exact g c =
    some_all (g.D.Disk.moment c.args.disk.now).state.seen (λ seen. (taken : List ℕ) → c.args.used.now ≡ from_list taken → Unit {0}) (λ seen taken is. tt)

pub returns-in-Err-Memory-clause-exact : goal.returns-in-Err-Memory-clause-exact
returns-in-Err-Memory-clause-exact g c =
    some_all (g.D.Disk.moment c.args.disk.now).state.seen (λ seen. (taken : List ℕ) → c.args.used.now ≡ from_list taken → Unit {0}) (λ seen taken is. tt)

pub returns-in-Ok-false-clause-fault : goal.returns-in-Ok-false-clause-fault
returns-in-Ok-false-clause-fault g c = λ is. wrong_no_fault _ is

pub returns-in-Err-Memory-clause-fault : goal.returns-in-Err-Memory-clause-fault
returns-in-Err-Memory-clause-fault g c = λ is. chain_want_no_fault is

pub returns-then-link-eq0-clause-reads : goal.returns-then-link-eq0-clause-reads
returns-then-link-eq0-clause-reads g c = reads_none (g.D.Disk.moment c.args.disk.now).state _ _ (g.met.D.Disk.only_now c.args.disk.now)
