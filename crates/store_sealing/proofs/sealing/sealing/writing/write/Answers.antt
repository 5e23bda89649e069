use Rattle.std.proofs.Common.{Option, sym, subst}
use Rattle.page_file.specs.Moments.{PassesBy}
use Rattle.prepared_commits.specs.declared.commits.prepared.NewBase.{NewBase}
use Rattle.store_sealing.specs.Moves.{NewIn, own_pages, slot_page}
use Rattle.store_sealing.proofs.sealing.sealing.writing.write.Goals as goal

pub returns-in-None-clause-during : goal.returns-in-None-clause-during
returns-in-None-clause-during g c =
    let slots = c.args.file.now.slots in
    let blobs = c.args.blobs.now in
    let chain = c.args.chain.now in
    subst (λ (o : Option NewBase). PassesBy (slot_page o slots) (own_pages o blobs chain) slots (NewIn o slots blobs chain) (g.D.Disk.moment c.args.file.now.disk)
    (g.D.Disk.moment c.commit_record.new.file.disk)) (sym c.in-None.is) c.commit_record.ensures.during

pub returns-in-Some-clause-during : goal.returns-in-Some-clause-during
returns-in-Some-clause-during g c =
    let slots = c.args.file.now.slots in
    let blobs = c.args.blobs.now in
    let chain = c.args.chain.now in
    subst (λ (o : Option NewBase). PassesBy (slot_page o slots) (own_pages o blobs chain) slots (NewIn o slots blobs chain) (g.D.Disk.moment c.args.file.now.disk)
    (g.D.Disk.moment c.commit_base.new.file.disk)) (sym c.in-Some.is) c.commit_base.ensures.during
