use Rattle.std.proofs.Common.{◌∙◌, ap, length, sym, subst}
use Rattle.std.specs.List.{AllByRecursion}
use Rattle.std.proofs.lemmas.List.{take_all}
use Rattle.array_geom.specs.Link.{numbers}
use Rattle.page_chain.proofs.RunLemmas.{reads_none, reads_on}
use Rattle.chunk_map.specs.Entries.{numbers as entry_numbers}
use Rattle.chunk_rle.specs.Stored.{IsStored}
use Rattle.file_reading.proofs.CatalogLaws.{at_index}
use Rattle.file_checking.specs.Checks.{test_payload}
use Rattle.file_checking.specs.Inner.Steps.{IsEntryOf, IsSmall}
use Rattle.file_checking.proofs.Chunks.{chunks_begin, chunks_end, chunks_on, each_on, numbers_on, stored_on}
use Rattle.file_checking.proofs.Tests.{cause_since, left_stops}
use Rattle.file_checking.proofs.overlaps.read_chunks.Goals as goal

pub loop-entry-init : goal.loop-entry-init
loop-entry-init g c =
    let moment = g.D.Disk.moment c.args.file.now.disk in
    record {
      reads = reads_none moment.state _ _ (g.met.D.Disk.only_now c.args.file.now.disk);
      told = λ seen is. chunks_begin seen c.args.schema.now c.args.entries.now c.new-chunks.result c.new-payloads.result c.new-chunks.ensures c.new-payloads.ensures;
      stored = subst (AllByRecursion (IsStored c.args.schema.now)) (sym c.new-chunks.ensures) tt;
      numbers = ap numbers c.new-chunks.ensures;
      each = ap length c.new-payloads.ensures;
    }

pub read_chunk-requires-clause-entry : goal.read_chunk-requires-clause-entry
read_chunk-requires-clause-entry g c =
    at_index (IsEntryOf c.args.schema.now) c.args.entries.now c.loop-entry.entry-index c.entry-item.result c.loop-entry-test.true c.entry-item.is c.requires.entries

pub returns-in-Err-clause-told : goal.returns-in-Err-clause-told
returns-in-Err-clause-told g c = λ seen is.
    left_stops c.in-Err.fault (test_payload seen c.args.schema.now) (IsSmall seen) c.args.entries.now c.loop-entry.entry-index c.entry-item.result c.loop-entry-test.true c.entry-item.is
    (c.in-Err.ensures.told seen (c.loop-entry.invariant.reads.seen ∙ is)) (c.loop-entry.invariant.told seen is).left

pub returns-in-Err-clause-reads : goal.returns-in-Err-clause-reads
returns-in-Err-clause-reads g c = reads_on _ _ _ _ _ _ _ _ _ c.loop-entry.invariant.reads c.in-Err.ensures.reads

pub returns-in-Err-clause-cause : goal.returns-in-Err-clause-cause
returns-in-Err-clause-cause g c = cause_since c.in-Err.fault _ _ _ c.loop-entry.invariant.reads.same.later c.in-Err.ensures.cause

pub loop-entry-preserved : goal.loop-entry-preserved
loop-entry-preserved g c =
    let schema = c.args.schema.now in
    let entries = c.args.entries.now in
    let i = c.loop-entry.entry-index in
    let entry = c.entry-item.result in
    let so_far = c.loop-entry.invariant in
    let pushed = c.in_ok-push-in-Ok.ensures.ok in
    let pushed' = c.in_ok-push-in-Ok-2.ensures.ok in
    record {
      reads = reads_on _ _ _ _ _ _ _ _ _ so_far.reads c.in-Ok.ensures.reads;
      told = λ seen is. chunks_on seen schema entries i entry c.loop-entry.chunks c.push.new.self c.loop-entry.payloads c.push-in-Ok.new.self c.in-Ok.chunk c.in-Ok.bytes c.loop-entry-test.true c.entry-item.is pushed pushed'
          (c.in-Ok.ensures.told seen (so_far.reads.seen ∙ is)) (so_far.told seen is);
      stored = stored_on (IsStored schema) c.loop-entry.chunks c.push.new.self c.in-Ok.chunk pushed c.in-Ok.ensures.stored so_far.stored;
      numbers = numbers_on entries i entry c.loop-entry.chunks c.push.new.self c.in-Ok.chunk c.loop-entry-test.true c.entry-item.is pushed c.in-Ok.ensures.number so_far.numbers;
      each = each_on entries i entry c.loop-entry.payloads c.push-in-Ok.new.self c.in-Ok.bytes c.loop-entry-test.true c.entry-item.is pushed' so_far.each;
    }

pub returns-clause-told : goal.returns-clause-told
returns-clause-told g c = λ seen is. chunks_end seen c.args.schema.now c.args.entries.now c.loop-entry.entry-index c.loop-entry.chunks c.loop-entry.payloads c.loop-entry-test.false (c.loop-entry.invariant.told seen is)

pub returns-clause-numbers : goal.returns-clause-numbers
returns-clause-numbers g c = c.loop-entry.invariant.numbers ∙ ap entry_numbers (take_all c.loop-entry.entry-index c.args.entries.now c.loop-entry-test.false)

pub returns-clause-each : goal.returns-clause-each
returns-clause-each g c = c.loop-entry.invariant.each ∙ ap length (take_all c.loop-entry.entry-index c.args.entries.now c.loop-entry-test.false)
