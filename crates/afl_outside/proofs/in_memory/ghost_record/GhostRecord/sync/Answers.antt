use Rattle.std.proofs.Common.{true, sym, ◌∙◌, ap}
use Rattle.afl_outside.specs.Images.{content_after}
use Rattle.afl_outside.specs.Lemmas.ImageLaws.{content_after_push}
use Rattle.afl_outside.specs.declared.in_memory.device_call.DeviceCall.TheVariants.{Sync}
use Rattle.afl_outside.proofs.in_memory.ghost_record.GhostRecord.sync.Goals as goal

pub invariant_of-self : goal.invariant_of-self
invariant_of-self c =
    let inside = c.self.inside in
    c.self.invariant ∙ sym (ap (content_after inside.bytes.first) c.push.ensures ∙ content_after_push inside.bytes.first inside.calls (Sync true))
