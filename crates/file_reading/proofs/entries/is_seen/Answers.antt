use Rattle.std.proofs.Common.{sym, ◌∙◌, ap, List}
use Rattle.chunk_map.specs.declared.directory.DirEntry.{DirEntry}
use Rattle.file_meaning.specs.Opening.{is_seen}
use Rattle.file_reading.proofs.EntryLaws.{seen_here, seen_before, last_rises}
use Rattle.file_reading.proofs.entries.is_seen.Goals as goal

pub returns-then-has_entry : goal.returns-then-has_entry
returns-then-has_entry c =
    let entry = c.args.entry.now in
    let here = sym (ap (λ (es : List DirEntry). is_seen es entry) c.as_slice.ensures) ∙ sym c.has_entry.ensures ∙ c.if-has_entry.true in
    sym (sym c.loop-last.invariant.same ∙ seen_here entry c.in-Some.rest.now c.in-Some.last.now c.loop-last.left.now c.in-Some.ensures.cases.0 here)

pub loop-last-preserved : goal.loop-last-preserved
loop-last-preserved c =
    let entry = c.args.entry.now in
    let last_is = c.in-Some.ensures.cases.0 in
    let not_here = sym (ap (λ (es : List DirEntry). is_seen es entry) c.as_slice.ensures) ∙ sym c.has_entry.ensures ∙ c.if-has_entry.false in
    record {
      rising = (last_rises c.in-Some.rest.now c.in-Some.last.now c.loop-last.left.now last_is c.loop-last.invariant.rising).1;
      same = seen_before entry c.in-Some.rest.now c.in-Some.last.now c.loop-last.left.now last_is not_here ∙ c.loop-last.invariant.same;
    }
