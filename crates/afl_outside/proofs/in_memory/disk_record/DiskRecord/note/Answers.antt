use Rattle.std.proofs.Common.{sym, ◌∙◌, ap}
use Rattle.afl_outside.specs.Images.{content_after}
use Rattle.afl_outside.specs.Inner.Records.{content_of}
use Rattle.afl_outside.proofs.RecordLemmas.{content_of-note, content_after-note}
use Rattle.afl_outside.proofs.in_memory.disk_record.DiskRecord.note.Goals as goal

pub invariant_of-self-2 : goal.invariant_of-self-2
invariant_of-self-2 c =
    let inside = c.self.inside in
    c.self.invariant ∙ sym (ap (content_after inside.bytes.first) c.in_ok-push.ensures.ok ∙ content_of-note (record { first = inside.bytes.first; calls = inside.calls }) c.args.call c.requires)

pub returns-clause-content : goal.returns-clause-content
returns-clause-content c =
    let inside = c.self.inside in
    content_after-note c.push.result (record { first = inside.bytes.first; calls = inside.calls }) _ c.args.call c.requires c.push.ensures.ok c.push.ensures.err ∙ ap content_of c.self.view_is
