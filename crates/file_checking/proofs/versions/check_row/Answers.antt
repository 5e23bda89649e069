use Rattle.std.proofs.Common.{◌∙◌}
use Rattle.page_chain.proofs.RunLemmas.{reads_none, reads_on}
use Rattle.file_reading.proofs.CatalogLaws.{at_index}
use Rattle.file_checking.specs.Inner.Steps.{IsDirectoryOf}
use Rattle.file_checking.proofs.Tests.{cause_since, row_begins, row_ends, row_on, row_stops}
use Rattle.file_checking.proofs.versions.check_row.Goals as goal

pub loop-directory-init : goal.loop-directory-init
loop-directory-init g c =
    let moment = g.D.Disk.moment c.args.file.now.disk in
    record {
      reads = reads_none moment.state _ _ (g.met.D.Disk.only_now c.args.file.now.disk);
      told = λ seen is. row_begins seen c.args.schema.now c.args.row.now c.args.wrong.now;
    }

pub check_version-requires-clause-directory : goal.check_version-requires-clause-directory
check_version-requires-clause-directory g c =
    at_index (IsDirectoryOf c.args.schema.now) c.args.row.now c.loop-directory.directory-index c.directory-item.result c.loop-directory-test.true c.directory-item.is c.requires.directories

pub returns-in-Err-clause-told : goal.returns-in-Err-clause-told
returns-in-Err-clause-told g c = λ seen is.
    row_stops c.in-Err.fault seen c.args.schema.now c.args.row.now c.loop-directory.directory-index c.directory-item.result c.args.wrong.now c.loop-directory.wrong c.loop-directory-test.true c.directory-item.is
    (c.in-Err.ensures.told seen (c.loop-directory.invariant.reads.seen ∙ is)) (c.loop-directory.invariant.told seen is)

pub returns-in-Err-clause-reads : goal.returns-in-Err-clause-reads
returns-in-Err-clause-reads g c = reads_on _ _ _ _ _ _ _ _ _ c.loop-directory.invariant.reads c.in-Err.ensures.reads

pub returns-in-Err-clause-cause : goal.returns-in-Err-clause-cause
returns-in-Err-clause-cause g c = cause_since c.in-Err.fault _ _ _ c.loop-directory.invariant.reads.same.later c.in-Err.ensures.cause

pub loop-directory-preserved : goal.loop-directory-preserved
loop-directory-preserved g c = record {
  reads = reads_on _ _ _ _ _ _ _ _ _ c.loop-directory.invariant.reads c.in-Ok.ensures.reads;
  told = λ seen is.
      row_on seen c.args.schema.now c.args.row.now c.loop-directory.directory-index c.directory-item.result c.args.wrong.now c.loop-directory.wrong c.check_version.new.wrong c.loop-directory-test.true c.directory-item.is
      (c.in-Ok.ensures.told seen (c.loop-directory.invariant.reads.seen ∙ is)) (c.loop-directory.invariant.told seen is);
}

pub returns-clause-told : goal.returns-clause-told
returns-clause-told g c = λ seen is.
    row_ends seen c.args.schema.now c.args.row.now c.loop-directory.directory-index c.args.wrong.now c.loop-directory.wrong c.loop-directory-test.false (c.loop-directory.invariant.told seen is)
