use Rattle.std.proofs.Common.{◌∙◌}
use Rattle.page_chain.proofs.RunLemmas.{reads_none, reads_on}
use Rattle.file_reading.proofs.CatalogLaws.{at_index}
use Rattle.file_checking.specs.Checks.{test_payload}
use Rattle.file_checking.specs.Inner.Steps.{IsEntryOf, IsSmall}
use Rattle.file_checking.proofs.Tests.{cause_since, left_begins, left_holds, left_on, left_stops, tests_end}
use Rattle.file_checking.proofs.payloads.read_payloads.Goals as goal

pub loop-entry-init : goal.loop-entry-init
loop-entry-init g c =
    let moment = g.D.Disk.moment c.args.file.now.disk in
    record {
      reads = reads_none moment.state _ _ (g.met.D.Disk.only_now c.args.file.now.disk);
      told = λ seen is. left_begins (test_payload seen c.args.schema.now) (IsSmall seen) c.args.entries.now;
    }

pub read_chunk-requires-clause-entry : goal.read_chunk-requires-clause-entry
read_chunk-requires-clause-entry g c =
    at_index (IsEntryOf c.args.schema.now) c.args.entries.now c.loop-entry.entry-index c.entry-item.result c.loop-entry-test.true c.entry-item.is c.requires.entries

pub returns-in-Err-clause-told : goal.returns-in-Err-clause-told
returns-in-Err-clause-told g c = λ seen is.
    left_stops c.in-Err.fault (test_payload seen c.args.schema.now) (IsSmall seen) c.args.entries.now c.loop-entry.entry-index c.entry-item.result c.loop-entry-test.true c.entry-item.is
    (c.in-Err.ensures.told seen (c.loop-entry.invariant.reads.seen ∙ is)) (c.loop-entry.invariant.told seen is)

pub returns-in-Err-clause-reads : goal.returns-in-Err-clause-reads
returns-in-Err-clause-reads g c = reads_on _ _ _ _ _ _ _ _ _ c.loop-entry.invariant.reads c.in-Err.ensures.reads

pub returns-in-Err-clause-cause : goal.returns-in-Err-clause-cause
returns-in-Err-clause-cause g c = cause_since c.in-Err.fault _ _ _ c.loop-entry.invariant.reads.same.later c.in-Err.ensures.cause

pub loop-entry-preserved : goal.loop-entry-preserved
loop-entry-preserved g c = record {
  reads = reads_on _ _ _ _ _ _ _ _ _ c.loop-entry.invariant.reads c.in-Ok.ensures.reads;
  told = λ seen is.
      let read = c.in-Ok.ensures.told seen (c.loop-entry.invariant.reads.seen ∙ is) in
      left_on (test_payload seen c.args.schema.now) (IsSmall seen) c.args.entries.now c.loop-entry.entry-index c.entry-item.result c.loop-entry-test.true c.entry-item.is read.whole read.small (c.loop-entry.invariant.told seen is);
}

pub returns-clause-told : goal.returns-clause-told
returns-clause-told g c = λ seen is.
    let left = c.loop-entry.invariant.told seen is in
    let test = test_payload seen c.args.schema.now in
    record {
      whole = tests_end test c.args.entries.now c.loop-entry.entry-index c.loop-entry-test.false left.tests;
      small = left_holds test (IsSmall seen) c.args.entries.now c.loop-entry.entry-index c.loop-entry-test.false left;
    }
