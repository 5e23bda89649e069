use Rattle.std.proofs.Common.{ap, length, arith}
use Rattle.array_geom.specs.Geometry.{overlaps}
use Rattle.array_geom.specs.Link.{core_rows}
use Rattle.file_reading.proofs.CatalogLaws.{at_index}
use Rattle.file_checking.specs.Inner.Steps.{IsEntryOf}
use Rattle.file_checking.proofs.Chunks.{overlaps_begin, overlaps_end, overlaps_on, overlaps_stop}
use Rattle.file_checking.proofs.overlaps.first_wrong.Goals as goal

pub loop-entry-init : goal.loop-entry-init
loop-entry-init c = record {
  each = omega (arith, c.requires.each);
  told = λ file is. overlaps_begin file c.args.schema.now (core_rows c.args.schema.now.dimensions (overlaps c.args.schema.now.dimensions) c.args.chunks.now) c.args.entries.now c.args.payloads.now is;
}

pub is_its_payload-requires-clause-core : goal.is_its_payload-requires-clause-core
is_its_payload-requires-clause-core c =
    (at_index (IsEntryOf c.args.schema.now) c.args.entries.now c.loop-entry.entry-index c.entry-item.result c.loop-entry-test.true c.entry-item.is c.requires.entries).core

pub first_page-requires : goal.first_page-requires
first_page-requires c =
    (at_index (IsEntryOf c.args.schema.now) c.args.entries.now c.loop-entry.entry-index c.entry-item.result c.loop-entry-test.true c.entry-item.is c.requires.entries).some

pub returns-then-not-branch : goal.returns-then-not-branch
returns-then-not-branch c = λ file is.
    overlaps_stop file c.args.schema.now (core_rows c.args.schema.now.dimensions (overlaps c.args.schema.now.dimensions) c.args.chunks.now) c.args.entries.now c.loop-entry.entry-index c.entry-item.result
    c.loop-entry.left.now c.in-Some.rest.now c.in-Some.payload.now c.in_ok-is_its_payload-in-Some.field-0 c.first_page.result c.loop-entry-test.true c.entry-item.is c.in-Some.ensures.cases.0
    c.in_ok-is_its_payload-in-Some.ensures c.if-not-branch.true c.first_page.ensures (c.loop-entry.invariant.told file is)

pub loop-entry-preserved : goal.loop-entry-preserved
loop-entry-preserved c = record {
  each = omega (arith, c.loop-entry.invariant.each, ap length c.in-Some.ensures.cases.0);
  told = λ file is.
      overlaps_on file c.args.schema.now (core_rows c.args.schema.now.dimensions (overlaps c.args.schema.now.dimensions) c.args.chunks.now) c.args.entries.now c.loop-entry.entry-index c.entry-item.result
      c.loop-entry.left.now c.in-Some.rest.now c.in-Some.payload.now c.in_ok-is_its_payload-in-Some.field-0 c.loop-entry-test.true c.entry-item.is c.in-Some.ensures.cases.0
      c.in_ok-is_its_payload-in-Some.ensures c.if-not-branch.false (c.loop-entry.invariant.told file is);
}

pub returns : goal.returns
returns c = λ file is.
    overlaps_end file c.args.schema.now (core_rows c.args.schema.now.dimensions (overlaps c.args.schema.now.dimensions) c.args.chunks.now) c.args.entries.now c.loop-entry.entry-index c.loop-entry.left.now
    c.loop-entry-test.false (c.loop-entry.invariant.told file is)
