use Rattle.std.proofs.Common.{◌≡◌, ℕ, List, length, Some}
use Rattle.page_chain.specs.Disk.{Only}
use Rattle.page_chain.proofs.PutLemmas.{if_some}
use Rattle.page_chain.proofs.RunLemmas.{rose_told}
use Rattle.page_file.specs.Inner.Laid.{made}
use Rattle.page_file.specs.Start.{IsEmptyDatabase}
use Rattle.page_file.proofs.First.{database_made}
use Rattle.page_file.proofs.PageReads.{want_left}
use Rattle.page_file.proofs.making.making.make_first.Goals as goal

pub returns-in-Err : goal.returns-in-Err
returns-in-Err g c = record {
  made = tt;
  same = c.in-Err.ensures.same;
  cause = rose_told _ _ _ _ c.faults-before.ensures c.faults.ensures (c.has_risen.ensures.0 c.if-has_risen.true);
}

pub returns-in-Err-2 : goal.returns-in-Err-2
returns-in-Err-2 g c = record {
  made = tt;
  same = c.in-Err-2.ensures.same;
  cause = want_left _ _ _ _ _ _ _ c.faults-before.ensures c.faults.ensures c.has_risen.ensures.1 c.if-has_risen.false c.in-Err-2.ensures.cause;
}

pub returns-in-Ok : goal.returns-in-Ok
returns-in-Ok g c = record {
  made = λ honest.
      if_some (g.D.Disk.moment c.args.disk.now).state.seen
      (λ (seen : List ℕ). ((g.D.Disk.moment c.make.new.disk).state.seen ≡ Some (made c.root_body.result seen)) × Only (made c.root_body.result seen) (g.D.Disk.moment c.make.new.disk).may_leave)
      (λ (seen : List ℕ). length seen ≡ 0 → (x : List ℕ) × ((g.D.Disk.moment c.make.new.disk).state.seen ≡ Some x) × IsEmptyDatabase x × Only x (g.D.Disk.moment c.make.new.disk).may_leave)
      (λ seen is. λ none. (made c.root_body.result seen, is.0, database_made c.root_body.result seen c.root_body.ensures.size c.root_body.ensures.reads none, is.1))
      (c.in-Ok.ensures.made honest);
  same = c.in-Ok.ensures.same;
  cause = tt;
}
