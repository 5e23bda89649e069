use Rattle.std.proofs.Common.{◌∙◌, sym, subst}
use Rattle.std.specs.List.{AllByRecursion}
use Rattle.page_chain.proofs.RunLemmas.{reads_none, reads_on}
use Rattle.file_checking.specs.Inner.Steps.{IsDirectoryOf, IsRowOf}
use Rattle.file_checking.proofs.Tests.{all_begin, all_end, all_on, all_stop, cause_since, none_left, row_left}
use Rattle.file_checking.proofs.versions.check_rows.Goals as goal

pub loop-array-init : goal.loop-array-init
loop-array-init g c =
    let moment = g.D.Disk.moment c.args.file.now.disk in
    record {
      reads = reads_none moment.state _ _ (g.met.D.Disk.only_now c.args.file.now.disk);
      each = c.requires;
      told = λ seen is. all_begin seen c.args.arrays.now c.args.rows.now c.args.wrong.now;
    }

pub check_row-requires-clause-valid : goal.check_row-requires-clause-valid
check_row-requires-clause-valid g c =
    (row_left IsRowOf c.args.arrays.now c.loop-array.array-index c.array-item.result c.loop-array.left.now c.in-Some.rest.now c.in-Some.row.now c.loop-array-test.true c.array-item.is c.in-Some.ensures.cases.0 c.loop-array.invariant.each).0.valid

pub check_row-requires-clause-directories : goal.check_row-requires-clause-directories
check_row-requires-clause-directories g c =
    subst (AllByRecursion (IsDirectoryOf c.array-item.result.entry.schema)) (sym c.as_slice.ensures)
    (row_left IsRowOf c.args.arrays.now c.loop-array.array-index c.array-item.result c.loop-array.left.now c.in-Some.rest.now c.in-Some.row.now c.loop-array-test.true c.array-item.is c.in-Some.ensures.cases.0 c.loop-array.invariant.each).0.each

pub returns-in-Err-clause-told : goal.returns-in-Err-clause-told
returns-in-Err-clause-told g c = λ seen is.
    all_stop c.in-Err.fault seen c.args.arrays.now c.args.rows.now c.loop-array.array-index c.array-item.result c.loop-array.left.now c.in-Some.rest.now c.in-Some.row.now c.as_slice.result.now c.args.wrong.now c.loop-array.wrong
    c.loop-array-test.true c.array-item.is c.in-Some.ensures.cases.0 c.as_slice.ensures (c.in-Err.ensures.told seen (c.loop-array.invariant.reads.seen ∙ is)) (c.loop-array.invariant.told seen is)

pub returns-in-Err-clause-reads : goal.returns-in-Err-clause-reads
returns-in-Err-clause-reads g c = reads_on _ _ _ _ _ _ _ _ _ c.loop-array.invariant.reads c.in-Err.ensures.reads

pub returns-in-Err-clause-cause : goal.returns-in-Err-clause-cause
returns-in-Err-clause-cause g c = cause_since c.in-Err.fault _ _ _ c.loop-array.invariant.reads.same.later c.in-Err.ensures.cause

pub loop-array-preserved : goal.loop-array-preserved
loop-array-preserved g c = record {
  reads = reads_on _ _ _ _ _ _ _ _ _ c.loop-array.invariant.reads c.in-Ok.ensures.reads;
  each = (row_left IsRowOf c.args.arrays.now c.loop-array.array-index c.array-item.result c.loop-array.left.now c.in-Some.rest.now c.in-Some.row.now c.loop-array-test.true c.array-item.is c.in-Some.ensures.cases.0 c.loop-array.invariant.each).1;
  told = λ seen is.
      all_on seen c.args.arrays.now c.args.rows.now c.loop-array.array-index c.array-item.result c.loop-array.left.now c.in-Some.rest.now c.in-Some.row.now c.as_slice.result.now c.args.wrong.now c.loop-array.wrong c.check_row.new.wrong
      c.loop-array-test.true c.array-item.is c.in-Some.ensures.cases.0 c.as_slice.ensures (c.in-Ok.ensures.told seen (c.loop-array.invariant.reads.seen ∙ is)) (c.loop-array.invariant.told seen is);
}

pub returns-clause-told : goal.returns-clause-told
returns-clause-told g c = λ seen is.
    all_end seen c.args.arrays.now c.args.rows.now c.loop-array.array-index c.loop-array.left.now c.args.wrong.now c.loop-array.wrong c.loop-array-test.false
    (none_left IsRowOf c.args.arrays.now c.loop-array.array-index c.loop-array.left.now c.loop-array-test.false c.loop-array.invariant.each) (c.loop-array.invariant.told seen is)
